use Rattle.std.proofs.Common.{◌∙◌, ◌∷◌, ◌++◌, [], List, None, ap, sym}
use Rattle.tree_forms.specs.Trees.{Leaf}
use Rattle.bool_weave.specs.declared.mask.MaskNode.{MaskNode}
use Rattle.bool_weave.specs.declared.mask.MaskNode.TheVariants as node
use Rattle.ray_cases.proofs.reports.no_body.Goals as goal

pub of_nodes-tree-requires : goal.of_nodes-tree-requires
of_nodes-tree-requires c = (Leaf None, sym (c.in_ok-push.ensures.items ∙ ap (λ (l : List MaskNode). l ++ node.Never ∷ []) c.new-nodes.ensures.items))
