-- What the nodes of a tree come to: its box, and how many leaves it has.
use Rattle.std.proofs.Common.{◌≡◌, ◌<◌, ℕ, zero, suc, List, [], ◌∷◌, ◌++◌, length, map, filter, reverse, Option, Some, None, IsSome, slice_index_or, ap, sym, subst, ◌∙◌, refl, arith}
use Rattle.std.proofs.lemmas.List.{reverse-reverse, length-append}
use Rattle.std.proofs.lemmas.List.Elements.{filter-append}
use Rattle.lattice_core.specs.declared.boxes.Box3.{Box3}
use Rattle.lattice_core.specs.declared.boxes.Box3.TheVariants.{Empty}
use Rattle.tree_forms.specs.declared.Op.{Op}
use Rattle.tree_forms.specs.declared.Op.TheVariants.{U, N, Minus, X}
use Rattle.tree_forms.specs.Trees.{Leaf, Join, leaves}
use Rattle.tree_forms.specs.Stacks.{run}
use Rattle.tree_forms.proofs.Running.{run_all}
use Rattle.bool_weave.specs.declared.mask.MaskNode.{MaskNode}
use Rattle.bool_weave.specs.Masks.{Mask, leaf, apply, read, mask_nodes, mask_of, node_laws}
use Rattle.bool_weave.proofs.Held.{mask_back}
use Rattle.solid_set.specs.declared.placed.Placed.{Placed}
use Rattle.shot_core.specs.Prepared.{instance_of, boxes_of}
use Rattle.shot_core.specs.Steps.{is_leaf}
use Rattle.shot_core.specs.TreeBoxes.{leaf_box, joined_box, tree_box}

pub box_at : (solids : List Placed) (i : ℕ) (d : Placed) → i < length solids → slice_index_or (boxes_of (map instance_of solids)) i Empty ≡ (slice_index_or solids i d).bounds
box_at [] i d lt = absurd (omega (arith, lt))
box_at (x ∷ xs) zero d lt = refl
box_at (x ∷ xs) (suc i) d lt = box_at xs i d (omega (arith, lt))

-- the stack after all nodes has the tree's box alone
pub ran : (boxes : List Box3) (t : Mask) (ns : List MaskNode) → mask_nodes t ≡ ns → run read (leaf_box boxes) joined_box ns [] ≡ Some (tree_box boxes t ∷ [])
ran boxes t ns e = ap (λ xs. run read (leaf_box boxes) joined_box xs []) (sym e) ∙ run_all leaf apply read (leaf_box boxes) joined_box node_laws t

pub can_run : (boxes : List Box3) (t : Mask) (ns : List MaskNode) → mask_nodes t ≡ ns → IsSome (run read (leaf_box boxes) joined_box ns [])
can_run boxes t ns e = subst (λ (o : Option (List Box3)). IsSome o) (sym (ran boxes t ns e)) (Prim.search Rattle.std.proofs.Common.rules)

pub alone : (boxes : List Box3) (t : Mask) (ns : List MaskNode) (stack : List Box3) → mask_nodes t ≡ ns → run read (leaf_box boxes) joined_box ns [] ≡ Some (reverse stack)
    → stack ≡ tree_box boxes (mask_of ns) ∷ []
alone boxes t ns stack e done =
    let top : reverse stack ≡ tree_box boxes t ∷ [] = cc (done, ran boxes t ns e) in
    let tree : t ≡ mask_of ns = sym (mask_back t) ∙ ap mask_of e in
    sym (reverse-reverse stack) ∙ ap reverse top ∙ ap (λ (m : Mask). tree_box boxes m ∷ []) tree

no_leaf : (op : Op) → length (filter is_leaf (apply op ∷ [])) ≡ 0
no_leaf U = refl
no_leaf N = refl
no_leaf Minus = refl
no_leaf X = refl

pub leaves_counted : (t : Mask) → length (filter is_leaf (mask_nodes t)) ≡ length (leaves t)
leaves_counted (Leaf None) = refl
leaves_counted (Leaf (Some i)) = refl
leaves_counted (Join op l r) =
    let parts = filter-append is_leaf (mask_nodes l) (mask_nodes r ++ apply op ∷ []) in
    let rest = filter-append is_leaf (mask_nodes r) (apply op ∷ []) in
    omega (
      arith,
      ap length parts,
      length-append (filter is_leaf (mask_nodes l)) (filter is_leaf (mask_nodes r ++ apply op ∷ [])),
      ap length rest,
      length-append (filter is_leaf (mask_nodes r)) (filter is_leaf (apply op ∷ [])),
      no_leaf op,
      leaves_counted l,
      leaves_counted r,
      length-append (leaves l) (leaves r),
    )
