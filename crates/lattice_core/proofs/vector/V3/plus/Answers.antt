use Rattle.std.proofs.Common.{arith}
use Rattle.std.proofs.lemmas.Int.{ints}
use Rattle.lattice_core.proofs.Turning.{vector_same}
use Rattle.lattice_core.proofs.vector.V3.plus.Goals as goal

pub returns : goal.returns
returns c = vector_same (omega (arith, ints)) (omega (arith, ints)) (omega (arith, ints))
