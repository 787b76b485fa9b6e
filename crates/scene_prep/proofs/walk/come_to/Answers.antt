use Rattle.std.proofs.Common.{ap, sym, subst, arith}
use Rattle.std.proofs.lemmas.Result.{IfOk-weaker}
use Rattle.scene_prep.specs.declared.walk.Task.{Task}
use Rattle.scene_prep.specs.declared.walk.Task.TheVariants as tasks
use Rattle.scene_prep.specs.Walking.{IsSoundTask, task_size, ComesTo}
use Rattle.scene_prep.proofs.Tasks.{node_room, node_done}
use Rattle.scene_prep.proofs.walk.come_to.Goals as goal

pub come_to_node-requires-clause-room : goal.come_to_node-requires-clause-room
come_to_node-requires-clause-room c =
    let sound : IsSoundTask c.args.directory.now.objects (tasks.Node c.in-Node.comb c.in-Node.node c.in-Node.context) = subst (IsSoundTask c.args.directory.now.objects) c.in-Node.is c.requires.task in
    omega (arith, c.requires.room, ap (task_size c.args.directory.now.objects) c.in-Node.is, node_room c.args.directory.now.objects c.in-Node.comb c.in-Node.node c.in-Node.context sound)

pub returns-in-Node-clause-regions : goal.returns-in-Node-clause-regions
returns-in-Node-clause-regions c =
    let sound : IsSoundTask c.args.directory.now.objects (tasks.Node c.in-Node.comb c.in-Node.node c.in-Node.context) = subst (IsSoundTask c.args.directory.now.objects) c.in-Node.is c.requires.task in
    IfOk-weaker c.come_to_node.result _ _
    (λ _ h. subst (λ (t : Task). ComesTo c.args.directory.now.objects t c.args.walk.now c.come_to_node.new.self c.args.tasks.now.items c.args.tasks.now.items) (sym c.in-Node.is)
    (node_done c.args.directory.now.objects c.in-Node.comb c.in-Node.node c.in-Node.context c.args.walk.now c.come_to_node.new.self c.args.tasks.now.items sound (h sound.own.tree sound.own.nodes_are)))
    c.come_to_node.ensures.regions
