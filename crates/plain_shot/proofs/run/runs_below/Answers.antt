use Rattle.overlap_list.specs.Runs.{runs_from}
use Rattle.plain_shot.proofs.Lists.{flat_push}
use Rattle.plain_shot.proofs.run.runs_below.Goals as goal

pub loop-from-preserved : goal.loop-from-preserved
loop-from-preserved c = flat_push (runs_from c.args.count) c.loop-from.from c.loop-from.runs.items c.add_runs.new.runs.items c.loop-from.invariant c.in_ok-add_runs.ensures
