-- A boolean tree over leaves of any kind, and what it means.
use Rattle.std.specs.Prelude.{ℕ, ◌+◌, List, [], ◌∷◌, ◌++◌, length, Bool, ◌&&◌, ◌||◌, not}
use Rattle.tree_forms.specs.declared.Op.{Op}
use Rattle.tree_forms.specs.declared.Op.TheVariants.{U, N, Minus, X}

-- a tree that is not empty: a leaf, or an operator over a left and a right side
pub data Tree (A : Type 0) : Type 0 where
  Leaf : A → Tree A
  Join : Op → Tree A → Tree A → Tree A

-- a union holds where a side does, an intersection where both do, a difference where the left side does and the
-- right one does not, an exclusive union where exactly one side does
abbrev pub joined : Op → Bool → Bool → Bool
joined U left right = left || right
joined N left right = left && right
joined Minus left right = left && not right
joined X left right = (left && not right) || (not left && right)

-- the leaves from left to right
abbrev pub leaves : {A : Type 0} → Tree A → List A
leaves (Leaf a) = a ∷ []
leaves (Join op l r) = leaves l ++ leaves r

-- whether a tree holds, for a truth value per leaf, the leaves being numbered from 0 at the left
abbrev pub holds : {A : Type 0} → Tree A → (ℕ → Bool) → Bool
holds (Leaf a) values = values 0
holds (Join op l r) values = joined op (holds l values) (holds r (λ i. values (length (leaves l) + i)))

-- what a tree comes to, from what its leaves come to and how an operator joins its sides
abbrev pub fold : {A V : Type 0} → (A → V) → (Op → V → V → V) → Tree A → V
fold value join (Leaf a) = value a
fold value join (Join op l r) = join op (fold value join l) (fold value join r)

-- whether a tree holds, where each leaf brings its own value
abbrev pub holds_by : {A : Type 0} → (A → Bool) → Tree A → Bool
holds_by value t = fold value joined t

-- the tree of the same shape with each leaf changed
abbrev pub map_leaves : {A B : Type 0} → (A → B) → Tree A → Tree B
map_leaves f (Leaf a) = Leaf (f a)
map_leaves f (Join op l r) = Join op (map_leaves f l) (map_leaves f r)

-- the nodes in postfix order: those of the left side, those of the right side, the operator
abbrev pub postfix : {A B : Type 0} → (A → B) → (Op → B) → Tree A → List B
postfix leaf apply (Leaf a) = leaf a ∷ []
postfix leaf apply (Join op l r) = postfix leaf apply l ++ (postfix leaf apply r ++ apply op ∷ [])
