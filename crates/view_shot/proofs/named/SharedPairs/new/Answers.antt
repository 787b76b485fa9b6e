use Rattle.view_shot.proofs.PlaceLaws.{named_report}
use Rattle.view_shot.proofs.named.SharedPairs.new.Goals as goal

pub invariant_of-new : goal.invariant_of-new
invariant_of-new c =
    record { right = named_report c.args.regions.now c.args.view.now c.args.tile c.in_ok-key.key c.in_ok-places.places c.in_ok-pairs.pairs.pairs c.in_ok-key.ensures c.in_ok-places.ensures c.in_ok-pairs.ensures }
