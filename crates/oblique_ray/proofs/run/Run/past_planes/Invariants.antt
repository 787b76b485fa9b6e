use Rattle.std.proofs.Common.{◌≡◌, drop}
use Rattle.oblique_ray.specs.Cuts.{planes_cut}
use Rattle.oblique_ray.specs.Runs.{IsRunKnown, run_past}
use Rattle.oblique_ray.proofs.run.Run.past_planes.Given as goal

abbrev pub invariant-loop-side : goal.invariant-loop-side
invariant-loop-side l = record {
  known : IsRunKnown l.run;
  made : run_past l.run (planes_cut (drop l.side-index l.planes) l.o l.e) ≡ run_past l.fn.self (planes_cut l.planes l.o l.e);
}
