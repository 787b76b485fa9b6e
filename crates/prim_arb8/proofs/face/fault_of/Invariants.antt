use Rattle.std.proofs.Common.{◌≡◌}
use Rattle.prim_arb8.specs.Faces.{first_fault, cases_of}
use Rattle.prim_arb8.proofs.Faults.{fault_from}
use Rattle.prim_arb8.proofs.face.fault_of.Given as goal

abbrev pub invariant-loop-face : goal.invariant-loop-face
invariant-loop-face l = first_fault (cases_of l.v) ≡ fault_from l.v l.face
