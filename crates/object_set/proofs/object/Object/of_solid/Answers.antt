use Rattle.std.proofs.Common.{sym, subst}
use Rattle.object_set.specs.Objects.{IsKept}
use Rattle.object_set.proofs.Distinct.{none_kept}
use Rattle.object_set.proofs.object.Object.of_solid.Goals as goal

pub invariant_of-result : goal.invariant_of-result
invariant_of-result c = record { body = tt; kept = subst IsKept (sym c.new.ensures) none_kept }
