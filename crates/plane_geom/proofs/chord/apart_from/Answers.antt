use Rattle.std.proofs.Common.{arith}
use Rattle.std.proofs.lemmas.Int.{ints}
use Rattle.lattice_core.proofs.Turning.{vector_same}
use Rattle.plane_geom.proofs.chord.apart_from.Goals as goal

pub returns-clause-value : goal.returns-clause-value
returns-clause-value c = vector_same (omega (arith, ints)) (omega (arith, ints)) (omega (arith, ints))
