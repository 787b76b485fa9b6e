-- What the definitions come to at small trees and lists. A member's name is one byte.
use Rattle.std.specs.Prelude.{◌≡◌, ℕ, List, [], ◌∷◌, ◌++◌, Some, None, Bool, true, false, cond, ◌==◌}
use Rattle.std.proofs.Common.{refl}
use Rattle.tree_forms.specs.declared.Op.{Op}
use Rattle.tree_forms.specs.declared.Op.TheVariants.{U, N, Minus, X}
use Rattle.tree_forms.specs.Trees.{Tree, Leaf, Join}
use Rattle.name_core.specs.declared.name.Name.{Name}
use Rattle.lattice_core.specs.declared.placement.Placement.{Placement}
use Rattle.comb_tree.specs.declared.node.ListEntry.{ListEntry}
use Rattle.comb_tree.specs.declared.node.CombNode.TheVariants as node
use Rattle.comb_tree.specs.Nodes.{Member, comb_nodes}
use Rattle.comb_tree.specs.Lists.{products, tree_of_list, from_u}
use Rattle.comb_tree.specs.Meaning.{comb_holds, some_holds}
use Rattle.comb_tree.specs.Changes.{map_members, renamed, placed, first_absent, first_lost_head, is_among, without}

abbrev named : ℕ → Name
named n = n ∷ []

abbrev at : Placement → ℕ → Tree Member
at p n = Leaf (record { name = named n; placement = p })

abbrev entry : Placement → Op → ℕ → ListEntry
entry p op n = record { op = op; name = named n; placement = p }

-- u 1 u 2 - 3
abbrev body : Placement → List ListEntry
body p = entry p U 1 ∷ entry p U 2 ∷ entry p Minus 3 ∷ []

-- u 1 + 2 - 3 u 4
abbrev mixed : Placement → List ListEntry
mixed p = entry p U 1 ∷ entry p N 2 ∷ entry p Minus 3 ∷ entry p U 4 ∷ []

abbrev values_of : Bool → Bool → Bool → Bool → ℕ → Bool
values_of a b c d n = cond (n == 0) a (cond (n == 1) b (cond (n == 2) c d))

pub a_difference_binds_closer : (p : Placement) → tree_of_list (body p) ≡ Some (Join U (at p 1) (Join Minus (at p 2) (at p 3)))
a_difference_binds_closer p = refl

pub its_nodes : (p : Placement) → comb_nodes (tree_of_list (body p)) ≡ node.Leaf (named 1) p ∷ node.Leaf (named 2) p ∷ node.Leaf (named 3) p ∷ node.Minus ∷ node.U ∷ []
its_nodes p = refl

pub two_products : (p : Placement) → products (mixed p) ≡ (entry p U 1 ∷ entry p N 2 ∷ entry p Minus 3 ∷ []) ∷ (entry p U 4 ∷ []) ∷ []
two_products p = refl

pub a_product_from_the_left : (p : Placement) → tree_of_list (mixed p) ≡ Some (Join U (Join Minus (Join N (at p 1) (at p 2)) (at p 3)) (at p 4))
a_product_from_the_left p = refl

pub a_union_of_three_from_the_left : (p : Placement) → tree_of_list (entry p U 1 ∷ entry p U 2 ∷ entry p U 3 ∷ []) ≡ Some (Join U (Join U (at p 1) (at p 2)) (at p 3))
a_union_of_three_from_the_left p = refl

pub the_first_operator_is_u : (p : Placement) → tree_of_list (entry p Minus 1 ∷ entry p N 2 ∷ []) ≡ Some (Join N (at p 1) (at p 2))
the_first_operator_is_u p = refl

pub read_as_u : (p : Placement) → from_u (entry p Minus 1 ∷ entry p N 2 ∷ []) ≡ entry p U 1 ∷ entry p N 2 ∷ []
read_as_u p = refl

-- an exclusive union belongs to a product, as an intersection and a difference do: u 1 ^ 2 u 3 ^ 4
pub an_exclusive_union_binds_closer : (p : Placement) → tree_of_list (entry p U 1 ∷ entry p X 2 ∷ entry p U 3 ∷ entry p X 4 ∷ []) ≡ Some (Join U (Join X (at p 1) (at p 2)) (Join X (at p 3) (at p 4)))
an_exclusive_union_binds_closer p = refl

pub an_exclusive_union_at_its_place : (p : Placement) → tree_of_list (entry p U 1 ∷ entry p Minus 2 ∷ entry p X 3 ∷ entry p N 4 ∷ []) ≡ Some (Join N (Join X (Join Minus (at p 1) (at p 2)) (at p 3)) (at p 4))
an_exclusive_union_at_its_place p = refl

-- ^ 1 ^ 2
pub an_exclusive_union_first_is_u : (p : Placement) → tree_of_list (entry p X 1 ∷ entry p X 2 ∷ []) ≡ Some (Join X (at p 1) (at p 2))
an_exclusive_union_first_is_u p = refl

pub no_entry_no_leaf : tree_of_list [] ≡ None
no_entry_no_leaf = refl

pub goes_on_with_the_last_product : (p : Placement) → tree_of_list (body p ++ entry p N 4 ∷ []) ≡ Some (Join U (at p 1) (Join N (Join Minus (at p 2) (at p 3)) (at p 4)))
goes_on_with_the_last_product p = refl

pub goes_on_with_an_exclusive_union : (p : Placement) → tree_of_list (body p ++ entry p X 4 ∷ []) ≡ Some (Join U (at p 1) (Join X (Join Minus (at p 2) (at p 3)) (at p 4)))
goes_on_with_an_exclusive_union p = refl

pub two_without_the_third : (p : Placement) → comb_holds (tree_of_list (mixed p)) (values_of true true false false) ≡ true
two_without_the_third p = refl

pub not_with_the_third : (p : Placement) → comb_holds (tree_of_list (mixed p)) (values_of true true true false) ≡ false
not_with_the_third p = refl

pub the_fourth_alone : (p : Placement) → comb_holds (tree_of_list (mixed p)) (values_of false false true true) ≡ true
the_fourth_alone p = refl

pub not_the_first_product : (p : Placement) → some_holds (products (mixed p)) (values_of true true true false) ≡ false
not_the_first_product p = refl

pub the_second_product : (p : Placement) → some_holds (products (mixed p)) (values_of false false true true) ≡ true
the_second_product p = refl

pub nothing_holds_nowhere : comb_holds None (λ i. true) ≡ false
nothing_holds_nowhere = refl

pub a_head_is_lost : (p : Placement) → first_lost_head (is_among (named 2 ∷ [])) (body p) ≡ Some (named 2)
a_head_is_lost p = refl

pub a_whole_product_goes : (p : Placement) → first_lost_head (is_among (named 3 ∷ named 2 ∷ [])) (body p) ≡ None
a_whole_product_goes p = refl

pub a_later_entry_goes : (p : Placement) → first_lost_head (is_among (named 3 ∷ named 1 ∷ [])) (body p) ≡ None
a_later_entry_goes p = refl

-- the list's order decides, not that of the names
pub the_first_of_two_heads : (p : Placement) → first_lost_head (is_among (named 4 ∷ named 1 ∷ [])) (mixed p ++ entry p Minus 5 ∷ []) ≡ Some (named 1)
the_first_of_two_heads p = refl

pub one_is_absent : (p : Placement) → first_absent (named 1 ∷ named 9 ∷ named 8 ∷ []) (body p) ≡ Some (named 9)
one_is_absent p = refl

pub none_is_absent : (p : Placement) → first_absent (named 3 ∷ named 1 ∷ named 3 ∷ []) (body p) ≡ None
none_is_absent p = refl

pub left_over : (p : Placement) → without (is_among (named 2 ∷ named 3 ∷ [])) (body p) ≡ entry p U 1 ∷ []
left_over p = refl

-- one name may stand at several leaves
pub each_leaf_is_renamed : (p : Placement) → map_members (renamed (named 1) (named 7)) (Some (Join N (at p 1) (Join U (at p 2) (at p 1)))) ≡ Some (Join N (at p 7) (Join U (at p 2) (at p 7)))
each_leaf_is_renamed p = refl

pub each_leaf_is_placed : (p q : Placement) → map_members (placed (named 1) q) (Some (Join N (at p 1) (Join U (at p 2) (at p 1)))) ≡ Some (Join N (at q 1) (Join U (at p 2) (at q 1)))
each_leaf_is_placed p q = refl
