use Rattle.std.proofs.Common.{◌≡◌, length, subst, sym, rules}
use Rattle.tile_workers.specs.Results.{AreResults}
use Rattle.tile_workers.proofs.Turn.{results_more}
use Rattle.tile_workers.proofs.alone.shoot_alone.Goals as goal

pub loop-i-preserved : goal.loop-i-preserved
loop-i-preserved g c =
    let len : length c.loop-i.all.items ≡ c.loop-i.i = search rules in
    record {
      len = search rules;
      each = subst (AreResults (g.J.Job.gives c.args.job.now) _) (sym c.in_ok-push.ensures.items) (results_more (g.J.Job.gives c.args.job.now) c.loop-i.i c.loop-i.all.items c.in_ok-run.field-0 len c.loop-i.invariant.each c.in_ok-run.ensures.gives);
    }
