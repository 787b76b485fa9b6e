-- What the definitions come to at a small tree. Its leaves are numbers.
use Rattle.std.specs.Prelude.{◌≡◌, ℕ, ◌+◌, ◌*◌, ◌==◌, List, [], ◌∷◌, Option, Some, None, Bool, true, false, cond, ◌⊎◌}
use Rattle.std.proofs.Common.{refl, inl, inr}
use Rattle.tree_forms.specs.declared.Op.{Op}
use Rattle.tree_forms.specs.declared.Op.TheVariants.{U, N, Minus, X}
use Rattle.tree_forms.specs.Trees.{Tree, Leaf, Join, joined, leaves, holds, holds_by, fold, map_leaves, postfix}
use Rattle.tree_forms.specs.Stacks.{run, tree_of, nodes_of}

-- 7 united with what 8 has without 7
abbrev small : Tree ℕ
small = Join U (Leaf 7) (Join Minus (Leaf 8) (Leaf 7))

-- nodes are leaves or operators
abbrev leaf : ℕ → ℕ ⊎ Op
leaf n = inl n

abbrev apply : Op → ℕ ⊎ Op
apply op = inr op

abbrev itself : ℕ ⊎ Op → ℕ ⊎ Op
itself n = n

abbrev nodes : List (ℕ ⊎ Op)
nodes = inl 7 ∷ inl 8 ∷ inl 7 ∷ inr Minus ∷ inr U ∷ []

pub a_union_of_one_side : joined U false true ≡ true
a_union_of_one_side = refl

pub an_intersection_of_one_side : joined N false true ≡ false
an_intersection_of_one_side = refl

pub the_left_without_the_right : joined Minus true false ≡ true
the_left_without_the_right = refl

pub the_right_without_the_left : joined Minus false true ≡ false
the_right_without_the_left = refl

pub one_side_alone : joined X true false ≡ true
one_side_alone = refl

pub the_other_side_alone : joined X false true ≡ true
the_other_side_alone = refl

pub not_both_sides : joined X true true ≡ false
not_both_sides = refl

pub neither_side : joined X false false ≡ false
neither_side = refl

-- the exclusive union of three holds where one or all three do
pub all_three_of_a_row : holds {A = ℕ} (Join X (Join X (Leaf 7) (Leaf 8)) (Leaf 9)) (λ i. true) ≡ true
all_three_of_a_row = refl

pub its_leaves : leaves small ≡ 7 ∷ 8 ∷ 7 ∷ []
its_leaves = refl

-- the second leaf alone, which is number 1
pub the_second_alone : holds small (λ i. i == 1) ≡ true
the_second_alone = refl

-- the third leaf alone: the two leaves 7 have values of their own
pub the_third_alone : holds small (λ i. i == 2) ≡ false
the_third_alone = refl

pub both_leaves_of_one_kind : holds_by (λ n. n == 7) small ≡ true
both_leaves_of_one_kind = refl

pub the_sum_of_the_leaves : fold (λ n. n) (λ op l r. l + r) small ≡ 22
the_sum_of_the_leaves = refl

pub each_leaf_changed : map_leaves (λ n. 2 * n) small ≡ Join U (Leaf 14) (Join Minus (Leaf 16) (Leaf 14))
each_leaf_changed = refl

pub in_postfix_order : postfix leaf apply small ≡ nodes
in_postfix_order = refl

pub read_back : tree_of itself nodes ≡ Some small
read_back = refl

pub two_trees_are_none : tree_of itself (inl 7 ∷ inl 8 ∷ []) ≡ None
two_trees_are_none = refl

pub an_operator_without_a_side : tree_of itself (inl 7 ∷ inr U ∷ []) ≡ None
an_operator_without_a_side = refl

pub no_nodes_no_tree : tree_of itself [] ≡ None
no_nodes_no_tree = refl

pub no_tree_no_nodes : nodes_of leaf apply None ≡ []
no_tree_no_nodes = refl

-- the stack's top is the head
pub values_on_a_stack : run itself (λ n. n) (λ op l r. l + r) (inl 7 ∷ inl 8 ∷ inl 9 ∷ inr N ∷ []) [] ≡ Some (17 ∷ 7 ∷ [])
values_on_a_stack = refl
