-- Trees that are joined.
use Rattle.std.proofs.Common.{◌≡◌, List, [], ◌∷◌, ◌++◌, ◌∙◌, sym}
use Rattle.std.proofs.lemmas.List.{append_assoc}
use Rattle.tree_forms.specs.declared.Op.{Op}
use Rattle.tree_forms.specs.Trees.{Join}
use Rattle.bool_weave.specs.declared.mask.MaskNode.{MaskNode}
use Rattle.bool_weave.specs.Masks.{Mask, IsMask, apply, mask_nodes}

-- the nodes of two trees and then an operator are those of a tree
pub join_nodes : (op : Op) (l r : Mask) (ns : List MaskNode) → ns ≡ mask_nodes l ++ mask_nodes r ++ apply op ∷ [] → IsMask ns
join_nodes op l r ns is = (Join op l r, sym (is ∙ append_assoc (mask_nodes l) (mask_nodes r) (apply op ∷ [])))
