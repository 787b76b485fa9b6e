use Rattle.std.proofs.Common.{◌≡◌, vec_len}
use Rattle.std.specs.Arc.{arc_value}
use Rattle.tile_workers.specs.Results.{AreResults}
use Rattle.tile_pool.proofs.posted.Posted.results.Given as goal

abbrev pub invariant-loop-i : goal.invariant-loop-i
invariant-loop-i g l = record {
  len : vec_len l.all ≡ l.i;
  each : AreResults (g.J.Job.gives (arc_value l.self.job)) l.i l.all.items;
}
