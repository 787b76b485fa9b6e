use Rattle.std.proofs.Common.{◌≡◌, ◌∙◌, pos, Some, filter, get_or, ap, sym}
use Rattle.surd_order.specs.declared.position.Pos.TheVariants.{Frac}
use Rattle.bool_weave.specs.declared.woven.Woven.{Woven}
use Rattle.overlap_list.specs.Hits.{is_candidate, lowest, hit_on}
use Rattle.overlap_list.specs.Partitions.{or_no_hit}
use Rattle.overlap_list.proofs.Winning.{first_is_lowest}
use Rattle.overlap_list.proofs.hit.hit_at.Goals as goal

-- the default that an index has
abbrev nowhere : Woven
nowhere = record { instance = 0; seg = record { start = Frac (pos 0) (pos 0); start_face = 0; end = Frac (pos 0) (pos 0); end_face = 0 } }

pub returns-then-is_candidate : goal.returns-then-is_candidate
returns-then-is_candidate c =
    let low : lowest (filter (is_candidate c.args.regions.now c.args.interval c.args.place.now) c.args.woven.now) ≡ Some (get_or c.args.woven.now c.loop-one.one-index nowhere) =
    sym c.loop-one.invariant
    ∙ first_is_lowest (is_candidate c.args.regions.now c.args.interval c.args.place.now) c.args.woven.now c.loop-one.one-index nowhere c.requires.woven.rising c.loop-one-test.true (sym c.is_candidate.ensures ∙ c.if-is_candidate.true) in
    ap or_no_hit (c.hit_on.ensures ∙ sym (ap (hit_on c.args.place.now) low))
