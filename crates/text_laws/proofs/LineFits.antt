-- What the parts of a combination keep, put together.
use Rattle.std.proofs.Common.{◌≤◌, [], ◌∷◌, ◌++◌, length, All, Some, None}
use Rattle.std.specs.List.{AllByRecursion}
use Rattle.tree_forms.specs.Trees.{Tree, Leaf, Join, leaves, postfix}
use Rattle.comb_tree.specs.Nodes.{Comb, Member, leaf, apply, comb_nodes, members}
use Rattle.object_set.specs.Named.{HasName}
use Rattle.object_set.proofs.Each.{by_each, of_first, of_rest}
use Rattle.text_laws.specs.Fits.{IsNear, IsFit, IsFitTree}

fit_by : (t : Tree Member) → AllByRecursion HasName (postfix leaf apply t) → AllByRecursion IsNear (leaves t) → IsFit t
fit_by (Leaf m) named near = (named.0, near.0)
fit_by (Join op l r) named near = (
  fit_by l (of_first HasName (postfix leaf apply l) (postfix leaf apply r ++ apply op ∷ []) named) (of_first IsNear (leaves l) (leaves r) near),
  fit_by r (of_first HasName (postfix leaf apply r) (apply op ∷ []) (of_rest HasName (postfix leaf apply l) (postfix leaf apply r ++ apply op ∷ []) named)) (of_rest IsNear (leaves l) (leaves r) near),
)

pub fit_tree : (tree : Comb) → All HasName (comb_nodes tree) → All IsNear (members tree) → length (members tree) ≤ 4096 → IsFitTree tree
fit_tree None named near few = tt
fit_tree (Some t) named near few = (fit_by t (by_each HasName (postfix leaf apply t) named) (by_each IsNear (leaves t) near), few)
