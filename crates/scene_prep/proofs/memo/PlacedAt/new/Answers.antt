use Rattle.scene_prep.proofs.Expansions.{instance_is}
use Rattle.scene_prep.proofs.memo.PlacedAt.new.Goals as goal

pub invariant_of-result : goal.invariant_of-result
invariant_of-result c = record { is = instance_is c.args.solid.now c.args.by.now c.placed.result c.placed.ensures.surface c.placed.ensures.bounds }
