use Rattle.std.proofs.Common.{◌≡◌, ◌∙◌, ◌∷◌, ◌++◌, [], ap, subst}
use Rattle.std.specs.Option.{option_to_list}
use Rattle.scene_prep.specs.Sizes.{most_size}
use Rattle.scene_prep.proofs.Tasks.{TasksLeft, tasks_next}
use Rattle.scene_prep.proofs.walk.come_to_all.Goals as goal

pub loop-task-preserved : goal.loop-task-preserved
loop-task-preserved c =
    let items : c.loop-task.tasks.items ≡ c.pop.new.self.items ++ c.in-Some.task ∷ [] = c.pop.ensures.items ∙ ap (λ o. c.pop.new.self.items ++ option_to_list o) c.in-Some.is in
    let left = subst (λ ts. TasksLeft c.args.directory.now.objects most_size c.args.tasks.now.items c.args.walk.now c.loop-task.walk ts) items c.loop-task.invariant.left in record {
      left = tasks_next c.args.directory.now.objects most_size c.args.tasks.now.items c.args.walk.now c.loop-task.walk c.come_to.new.walk c.pop.new.self.items c.come_to.new.tasks.items c.in-Some.task left c.in_ok-come_to.ensures.regions;
      known = c.in_ok-come_to.ensures.known;
    }
