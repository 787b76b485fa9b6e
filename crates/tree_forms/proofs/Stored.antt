-- A tree that may be empty, stored as its own postfix list, for types whose value it is.
use Rattle.std.specs.Prelude.{◌≡◌, ℕ, List, Option, ◌⊎◌}
use Rattle.std.proofs.Common.{refl, ap, inl, inr, zero, suc}
use Rattle.std.specs.Coded.{Coded, code_by, coded_list, coded⊎, coded_ℕ}
use Rattle.tree_forms.specs.declared.Op.{Op}
use Rattle.tree_forms.specs.declared.Op.TheVariants.{U, N, Minus, X}
use Rattle.tree_forms.specs.Trees.{Tree}
use Rattle.tree_forms.specs.Stacks.{tree_of, nodes_of}
use Rattle.tree_forms.proofs.Running.{tree_back}

-- the nodes of a tree say which tree it is, so a tree is stored as them
abbrev pub number_of : Op → ℕ
number_of U = 0
number_of N = 1
number_of Minus = 2
number_of X = 3

abbrev pub numbered : ℕ → Op
numbered zero = U
numbered (suc zero) = N
numbered (suc (suc zero)) = Minus
numbered (suc (suc (suc n))) = X

abbrev pub stored : {A : Type 0} → A ⊎ ℕ → A ⊎ Op
stored (inl a) = inl a
stored (inr n) = inr (numbered n)

pub stored_back : (op : Op) → numbered (number_of op) ≡ op
stored_back U = refl
stored_back N = refl
stored_back Minus = refl
stored_back X = refl

abbrev pub tree_code : {A : Type 0} → Coded A → Coded (Option (Tree A))
tree_code {A = A} code =
    code_by (List (A ⊎ ℕ)) (coded_list (coded⊎ code coded_ℕ)) (nodes_of (λ a. inl a) (λ op. inr (number_of op))) (tree_of stored)
    (tree_back (λ a. inl a) (λ op. inr (number_of op)) stored (record { leaf_back = λ a. refl; apply_back = λ op. ap (λ o. inr o) (stored_back op) }))
