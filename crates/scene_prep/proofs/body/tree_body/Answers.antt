use Rattle.std.proofs.Common.{◌∙◌, arith}
use Rattle.std.proofs.lemmas.Result.{IfOk-weaker}
use Rattle.scene_prep.specs.Solids.{placed_tree}
use Rattle.scene_prep.specs.Expanding.{expanded, expanded_tree}
use Rattle.scene_prep.specs.Levels.{nodes_size}
use Rattle.scene_prep.proofs.Finishing.{written_first, placed_finished, tree_leaves}
use Rattle.scene_prep.proofs.body.tree_body.Goals as goal
use Rattle.std.proofs.Common.{ap}

pub finish-requires : goal.finish-requires
finish-requires c = (
  placed_tree c.args.key.now.by (expanded_tree (expanded c.args.directory.now.objects) c.requires.tree.0),
  written_first c.new-out.result c.expand_nodes.new.out (placed_tree c.args.key.now.by (expanded_tree (expanded c.args.directory.now.objects) c.requires.tree.0)) c.new-out.ensures.nodes c.new-out.ensures.solids
      (c.in_ok-expand_nodes.ensures c.requires.tree.0 c.requires.tree.1),
  omega (arith, tree_leaves c.args.directory.now.objects c.args.key.now.by c.requires.tree.0, ap (nodes_size c.args.directory.now.objects) c.requires.tree.1, c.requires.room),
)

pub returns : goal.returns
returns c =
    IfOk-weaker c.finish.result _ _
    (λ body h tree is. h (placed_tree c.args.key.now.by (expanded_tree (expanded c.args.directory.now.objects) tree))
    (written_first c.new-out.result c.expand_nodes.new.out (placed_tree c.args.key.now.by (expanded_tree (expanded c.args.directory.now.objects) tree)) c.new-out.ensures.nodes c.new-out.ensures.solids
    (c.in_ok-expand_nodes.ensures tree is))
    ∙ placed_finished c.args.key.now.by c.args.key.now.rgb c.args.shape.id c.args.shape.air (expanded_tree (expanded c.args.directory.now.objects) tree))
    c.finish.ensures
