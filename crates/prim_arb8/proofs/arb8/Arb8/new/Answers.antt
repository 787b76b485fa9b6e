use Rattle.prim_arb8.proofs.Flatness.{fault_flat, none_flat}
use Rattle.prim_arb8.proofs.arb8.Arb8.new.Goals as goal

pub returns-in-Some-clause-flat : goal.returns-in-Some-clause-flat
returns-in-Some-clause-flat c = fault_flat c.args.v _ c.in-Some.fault c.in-Some.ensures

pub returns-in-None-clause-flat : goal.returns-in-None-clause-flat
returns-in-None-clause-flat c = none_flat c.args.v _ _ c.in-None.ensures
