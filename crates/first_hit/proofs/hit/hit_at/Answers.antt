use Rattle.std.proofs.Common.{◌∙◌, sym}
use Rattle.first_hit.proofs.LowestHits.{lowest_segment}
use Rattle.first_hit.proofs.hit.hit_at.Goals as goal

pub hit_on-requires-clause-segment : goal.hit_on-requires-clause-segment
hit_on-requires-clause-segment c = lowest_segment c.args.scene.now c.args.segments.now c.args.front.now.start c.args.parts.now c.requires.parts c.in-Some.one (sym c.in_ok-one.ensures ∙ c.in-Some.is)
