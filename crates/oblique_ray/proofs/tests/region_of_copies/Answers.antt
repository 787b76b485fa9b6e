use Rattle.std.proofs.Common.{◌∙◌, ◌∷◌, ◌++◌, [], List, Some, ap, sym}
use Rattle.tree_forms.specs.Trees.{Leaf}
use Rattle.bool_weave.specs.declared.mask.MaskNode.{MaskNode}
use Rattle.bool_weave.specs.declared.mask.MaskNode.TheVariants as node
use Rattle.oblique_ray.proofs.tests.region_of_copies.Goals as goal

pub of_nodes-tree-requires : goal.of_nodes-tree-requires
of_nodes-tree-requires c = (Leaf (Some 0), sym (c.in_ok-push-2.ensures.items ∙ ap (λ (l : List MaskNode). l ++ node.Leaf 0 ∷ []) c.new-nodes.ensures.items))
