-- The tree of the list of all regions is their union from the left.
use Rattle.std.proofs.Common.{◌≡◌, ◌+◌, ◌++◌, ◌∙◌, ℕ, zero, suc, Bool, true, false, cond, List, [], ◌∷◌, Some, None, refl, ap, sym, arith, length, length-append, All, add-one, rules}
use Rattle.std.proofs.lemmas.List.Elements.{All-append, All-cons, All-nil}
use Rattle.lattice_core.specs.declared.limit.TheConstants.{COORD}
use Rattle.lattice_core.specs.Limits.{IsWithin}
use Rattle.lattice_core.specs.declared.placement.Placement.{Placement}
use Rattle.name_core.specs.declared.name.Name.{Name}
use Rattle.tree_forms.specs.declared.Op.TheVariants.{U}
use Rattle.tree_forms.specs.Trees.{Tree, Leaf, Join, leaves}
use Rattle.comb_tree.specs.declared.node.ListEntry.{ListEntry}
use Rattle.comb_tree.specs.Nodes.{Comb, Member}
use Rattle.comb_tree.specs.Lists.{member, is_u, united, tree_of_list}
use Rattle.comb_tree.proofs.Written.{tree_from, tree_is}
use Rattle.word_values.specs.Matrices.{identity}
use Rattle.scene_make.specs.Demo.{leaf_at, region_name, union_to}
use Rattle.scene_make.specs.Steps.{region_entry, entries_to}

either_more : (b : Bool) (one two more_one more_two last : Comb) → more_one ≡ united one last → more_two ≡ united two last → cond b more_one more_two ≡ united (cond b one two) last
either_more true one two more_one more_two last p q = p
either_more false one two more_one more_two last p q = q

-- an entry with u at the end of a list adds its leaf to the union
from_more : (before : Comb) (cur : Tree Member) (es : List ListEntry) (name : Name) (placement : Placement)
    → tree_from before cur (es ++ record { op = U; name = name; placement = placement } ∷ []) ≡ united (tree_from before cur es) (Some (leaf_at name placement))
from_more before cur [] name placement = refl
from_more before cur (e ∷ es) name placement =
    either_more (is_u e.op) _ _ _ _ (Some (leaf_at name placement)) (from_more (united before (Some cur)) (Leaf (member e)) es name placement) (from_more before (Join e.op cur (Leaf (member e))) es name placement)

list_more : (l : List ListEntry) (name : Name) (placement : Placement)
    → tree_of_list (l ++ record { op = U; name = name; placement = placement } ∷ []) ≡ united (tree_of_list l) (Some (leaf_at name placement))
list_more [] name placement = refl
list_more (e ∷ es) name placement =
    let new : ListEntry = record { op = U; name = name; placement = placement } in
    tree_is e (es ++ new ∷ [])
    ∙ from_more None (Leaf (member e)) es name placement
    ∙ ap (λ t. united t (Some (leaf_at name placement))) (sym (tree_is e es))

pub union_read : (i : ℕ) → tree_of_list (entries_to (suc i)) ≡ Some (union_to i)
unfolding entries_to union_to
union_read zero = refl
union_read (suc i) = list_more (entries_to (suc i)) (region_name (suc i)) identity ∙ ap (λ t. united t (Some (leaf_at (region_name (suc i)) identity))) (union_read i)

pub no_entries : entries_to 0 ≡ []
unfolding entries_to
no_entries = refl

pub entries_more : (i : ℕ) → entries_to (i + 1) ≡ entries_to i ++ region_entry i ∷ []
unfolding entries_to
entries_more i = ap entries_to (add-one i)

pub entries_count : (i : ℕ) → length (entries_to i) ≡ i
unfolding entries_to
entries_count zero = refl
entries_count (suc i) = omega (arith, entries_count i, length-append (entries_to i) (region_entry i ∷ []))

pub union_count : (i : ℕ) → length (leaves (union_to i)) ≡ i + 1
unfolding union_to
union_count zero = refl
union_count (suc i) = omega (arith, union_count i, length-append (leaves (union_to i)) (leaves (leaf_at (region_name (suc i)) identity)))

abbrev IsNear : Member → Type 0
IsNear m = IsWithin COORD m.placement.shift

stands_still : IsWithin COORD identity.shift
stands_still = search rules

one_near : (m : Member) → IsNear m → All IsNear (m ∷ [])
one_near m h = All-cons IsNear m [] h (All-nil IsNear)

pub union_near : (i : ℕ) → All IsNear (leaves (union_to i))
unfolding union_to
union_near zero = one_near _ stands_still
union_near (suc i) = All-append IsNear (leaves (union_to i)) _ (union_near i) (one_near _ stands_still)

-- one more region in the list
pub same_list : (list : List ListEntry) (i : ℕ) (name : Name) (placement : Placement) → name ≡ region_name i → placement ≡ identity → list ≡ entries_to i
    → list ++ record { op = U; name = name; placement = placement } ∷ [] ≡ entries_to (i + 1)
same_list list i name placement is_name is_placement is =
    ap (λ (n : Name). let e : ListEntry = record { op = U; name = n; placement = placement } in list ++ e ∷ []) is_name
    ∙ ap (λ (p : Placement). let e : ListEntry = record { op = U; name = region_name i; placement = p } in list ++ e ∷ []) is_placement
    ∙ ap (λ l. l ++ region_entry i ∷ []) is
    ∙ sym (entries_more i)
