use Rattle.std.proofs.Common.{◌≡◌, vec_len}
use Rattle.tile_workers.specs.Results.{AreResults}
use Rattle.tile_workers.proofs.alone.shoot_alone.Given as goal

abbrev pub invariant-loop-i : goal.invariant-loop-i
invariant-loop-i g l = record { len : vec_len l.all ≡ l.i; each : AreResults (g.J.Job.gives l.job) l.i l.all.items }
