use Rattle.scene_prep.specs.Sizes.{most_size}
use Rattle.scene_prep.specs.Walking.{AreBodies, tasks_weight}
use Rattle.scene_prep.proofs.Tasks.{TasksLeft}
use Rattle.scene_prep.proofs.walk.come_to_all.Given as goal

abbrev pub invariant-loop-task : goal.invariant-loop-task
invariant-loop-task l = record {
  left : TasksLeft l.directory.objects most_size l.initial.tasks.items l.initial.walk l.walk l.tasks.items;
  known : AreBodies l.directory.objects l.walk.bodies;
}

abbrev pub decreases-loop-task : goal.decreases-loop-task
decreases-loop-task l = tasks_weight l.directory.objects l.tasks.items
