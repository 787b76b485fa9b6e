use Rattle.std.proofs.Common.{arith}
use Rattle.std.proofs.lemmas.Grind.{common_steps}
use Rattle.std.proofs.lemmas.List.Edits.{map_over_more}
use Rattle.shot_core.specs.Steps.{renumbered_run}
use Rattle.shot_core.proofs.shot.renumber_all.Goals as goal

pub loop-run-preserved : goal.loop-run-preserved
loop-run-preserved c = grind (arith, common_steps, map_over_more (renumbered_run c.args.numbers.now))
