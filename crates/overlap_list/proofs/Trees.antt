-- The leaves of a tree, from its nodes.
use Rattle.std.proofs.Common.{◌<◌, ◌≤◌, ◌+◌, ℕ, zero, List, ◌∷◌, [], ◌++◌, length, Some, None, IfSome, All, subst, arith}
use Rattle.std.proofs.lemmas.List.{get_or_append_left, get_or-append-add, length-append}
use Rattle.std.proofs.lemmas.List.Elements.{All-nil, All-cons, All-append}
use Rattle.tree_forms.specs.Trees.{Leaf, Join, leaves}
use Rattle.bool_weave.specs.Masks.{Mask, mask_nodes, leaf, apply}
use Rattle.bool_weave.specs.Tables.{leaf_end, AreLeavesBelow}

pub all_left : {X : Type 0} (P : X → Type 0) (xs ys : List X) → All P (xs ++ ys) → All P xs
all_left P xs ys all k d lt = subst P (get_or_append_left xs ys d k lt) (all k d (omega (arith, lt, length-append xs ys)))

pub all_right : {X : Type 0} (P : X → Type 0) (xs ys : List X) → All P (xs ++ ys) → All P ys
all_right P xs ys all k d lt = subst P (get_or-append-add xs ys k d) (all (length xs + k) d (omega (arith, lt, length-append xs ys)))

-- leaves are numbered below what the nodes are
pub leaves_below : (t : Mask) (bound : ℕ) → AreLeavesBelow bound (mask_nodes t) → All (λ l. IfSome l (λ i. i < bound)) (leaves t)
leaves_below (Leaf None) bound h = All-cons (λ l. IfSome l (λ i. i < bound)) None [] tt (All-nil (λ l. IfSome l (λ i. i < bound)))
leaves_below (Leaf (Some i)) bound h =
    All-cons (λ l. IfSome l (λ i. i < bound)) (Some i) [] (omega (arith, h zero (leaf (Some i)) (omega arith))) (All-nil (λ l. IfSome l (λ i. i < bound)))
leaves_below (Join op l r) bound h =
    let right = all_right (λ n. leaf_end n ≤ bound) (mask_nodes l) (mask_nodes r ++ apply op ∷ []) h in
    All-append (λ l. IfSome l (λ i. i < bound)) (leaves l) (leaves r)
    (leaves_below l bound (all_left (λ n. leaf_end n ≤ bound) (mask_nodes l) (mask_nodes r ++ apply op ∷ []) h))
    (leaves_below r bound (all_left (λ n. leaf_end n ≤ bound) (mask_nodes r) (apply op ∷ []) right))
