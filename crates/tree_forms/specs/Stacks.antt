-- A postfix list of nodes, read with a stack.
use Rattle.std.specs.Prelude.{List, [], ◌∷◌, ◌≡◌, Option, Some, None, ◌⊎◌}
use Rattle.std.proofs.Common.{inl, inr}
use Rattle.tree_forms.specs.declared.Op.{Op}
use Rattle.tree_forms.specs.Trees.{Tree, Leaf, Join, postfix}

abbrev pub and_then : {X Y : Type 0} → (X → Option Y) → Option X → Option Y
and_then f None = None
and_then f (Some x) = f x

-- one node on a stack, whose top is the head: a leaf's value goes on top, an operator joins the two on top
abbrev pub step : {A X : Type 0} → (A → X) → (Op → X → X → X) → A ⊎ Op → List X → Option (List X)
step value join (inl a) stack = Some (value a ∷ stack)
step value join (inr op) [] = None
step value join (inr op) (r ∷ []) = None
step value join (inr op) (r ∷ l ∷ stack) = Some (join op l r ∷ stack)

-- the stack after all nodes, or None where an operator lacks a side
abbrev pub run : {A B X : Type 0} → (B → A ⊎ Op) → (A → X) → (Op → X → X → X) → List B → List X → Option (List X)
run read value join [] stack = Some stack
run read value join (n ∷ ns) stack = and_then (run read value join ns) (step value join (read n) stack)

-- how nodes are made and read
pub record IsNodes {A B : Type 0} (leaf : A → B) (apply : Op → B) (read : B → A ⊎ Op) : Type 0 where
  pub leaf_back : (a : A) → read (leaf a) ≡ inl a
  pub apply_back : (op : Op) → read (apply op) ≡ inr op

-- the one tree of a list of nodes, where it is one
abbrev pub lone : {X : Type 0} → Option (List X) → Option X
lone None = None
lone (Some []) = None
lone (Some (x ∷ [])) = Some x
lone (Some (x ∷ y ∷ ys)) = None

abbrev pub tree_of : {A B : Type 0} → (B → A ⊎ Op) → List B → Option (Tree A)
tree_of read ns = lone (run read (λ a. Leaf a) (λ op l r. Join op l r) ns [])

-- the empty tree has no nodes
abbrev pub nodes_of : {A B : Type 0} → (A → B) → (Op → B) → Option (Tree A) → List B
nodes_of leaf apply None = []
nodes_of leaf apply (Some t) = postfix leaf apply t
