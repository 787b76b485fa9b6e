use Rattle.std.proofs.Common.{rules, ◌≡◌, ◌∙◌, ◌-◌, length}
use Rattle.std.specs.List.{filter_map}
use Rattle.std.proofs.lemmas.Result.{IfOk-weaker}
use Rattle.overlap_list.specs.Overlaps.{first_overlap, pairs_up_to}
use Rattle.shot_core.specs.Shots.{overlaps_on}
use Rattle.plain_shot.proofs.Overlapping.{overlaps_are}
use Rattle.plain_shot.proofs.overlap.plain_overlaps.Goals as goal

pub returns : goal.returns
returns c =
    let pairs : c.deref.result.now ≡ pairs_up_to (length c.in_ok-laid.laid.regions.items - 1) = search rules in
    IfOk-weaker c.overlaps_of.result (λ v. v.items ≡ filter_map (first_overlap c.in_ok-laid.laid.segments.items c.in_ok-laid.laid.regions.items) c.deref.result.now)
    (λ v. v.items ≡ overlaps_on c.args.scene.now c.args.ray.now)
    (λ v h. h ∙ overlaps_are _ _ _ _ _ c.in_ok-laid.ensures.segments c.in_ok-laid.ensures.claims pairs) c.overlaps_of.ensures
