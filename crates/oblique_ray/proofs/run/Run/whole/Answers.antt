use Rattle.std.proofs.Common.{arith}
use Rattle.std.proofs.lemmas.Int.{ints}
use Rattle.lattice_core.specs.declared.limit.TheConstants.{FAR}
use Rattle.oblique_ray.proofs.InRange.{start_in_range, end_in_range}
use Rattle.oblique_ray.proofs.Runs.{start_spelled, end_spelled}
use Rattle.oblique_ray.proofs.run.Run.whole.Goals as goal

pub returns-clause-known : goal.returns-clause-known
returns-clause-known c = record {
  start = (start_in_range, start_spelled);
  end = (end_in_range FAR (omega (arith, ints)) (omega (arith, ints)), end_spelled);
}
