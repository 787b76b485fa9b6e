use Rattle.std.proofs.Common.{◌∙◌}
use Rattle.view_shot.proofs.Presents.{named_presents}
use Rattle.view_shot.proofs.present_job.SharedPresents.new.Goals as goal

pub invariant_of-new : goal.invariant_of-new
invariant_of-new c =
    record { right = named_presents c.args.regions.now c.args.view.now c.args.tile c.in_ok-key.key c.in_ok-places.places c.of_vec-presents.result c.in_ok-key.ensures c.in_ok-places.ensures (c.of_vec-presents.ensures ∙ c.in_ok-present_tile.ensures.presented) }
