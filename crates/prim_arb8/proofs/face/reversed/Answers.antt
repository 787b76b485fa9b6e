use Rattle.std.proofs.Common.{arith}
use Rattle.std.proofs.lemmas.Int.{ints}
use Rattle.lattice_core.proofs.Turning.{vector_same}
use Rattle.prim_arb8.proofs.Reach.{plane_same}
use Rattle.prim_arb8.proofs.face.reversed.Goals as goal

pub returns-clause-value : goal.returns-clause-value
returns-clause-value c = plane_same _ _ _ _ (vector_same (omega (arith, ints)) (omega (arith, ints)) (omega (arith, ints))) (omega (arith, ints))
