use Rattle.std.proofs.Common.{◌+◌, arith}
use Rattle.overlap_list.proofs.Running.{run_of}
use Rattle.plain_shot.proofs.Lists.{range_push}
use Rattle.plain_shot.proofs.run.add_runs.Goals as goal

pub loop-to-preserved : goal.loop-to-preserved
loop-to-preserved c =
    range_push (run_of c.args.from) (c.args.from + 1) c.loop-to.to c.args.runs.now.items c.loop-to.runs.items c.push.new.self.items (omega (arith, c.loop-to.auto.to)) c.loop-to.invariant c.in_ok-push.ensures.items
