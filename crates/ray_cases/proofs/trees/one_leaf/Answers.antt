use Rattle.std.proofs.Common.{◌∙◌, ◌++◌, ◌∷◌, [], ap, sym}
use Rattle.tree_forms.specs.Trees.{Leaf}
use Rattle.ray_cases.proofs.trees.one_leaf.Goals as goal

pub of_nodes-requires : goal.of_nodes-requires
of_nodes-requires c =
    (Leaf c.args.number, sym (c.in_ok-push.ensures.items ∙ ap (λ l. l ++ c.leaf_node.result ∷ []) c.new-nodes.ensures.items ∙ ap (λ n. n ∷ []) c.leaf_node.ensures))
