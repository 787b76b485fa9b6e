-- Numbers of regions in some order.
use Rattle.std.proofs.Common.{◌<◌, ◌+◌, ◌++◌, ◌∷◌, ℕ, List, [], subst, inl, inr, arith}
use Rattle.std.specs.Prelude.{Contains}
use Rattle.std.proofs.lemmas.List.Elements.{All-push, All-weaker, Contains-push, Contains-append_left}
use Rattle.std.proofs.lemmas.Bool.{cases_lt}
use Rattle.std.specs.List.Sorted.{IsPermutation}
use Rattle.std.proofs.lemmas.List.Sorted.{All-permutation, Contains-permutation}
use Rattle.shot_core.specs.FirstShots.{IsOrderOf}

pub order_next : (m : ℕ) (order : List ℕ) → IsOrderOf m order → IsOrderOf (m + 1) (order ++ m ∷ [])
order_next m order is = record {
  below = All-push (λ n. n < m + 1) order m (All-weaker (λ n. n < m) (λ n. n < m + 1) (λ n lt. omega (arith, lt)) order is.below) (omega arith);
  all = λ n lt. elim (cases_lt n m) [
    | inl less ↦ Contains-append_left order (m ∷ []) n (is.all n less)
    | inr least ↦ subst (Contains (order ++ m ∷ [])) (omega (arith, least, lt)) (Contains-push order m)
  ];
}

pub order_permuted : (m : ℕ) (xs ys : List ℕ) → IsPermutation xs ys → IsOrderOf m xs → IsOrderOf m ys
order_permuted m xs ys moved is = record { below = All-permutation (λ n. n < m) xs ys moved is.below; all = λ n lt. Contains-permutation xs ys n moved (is.all n lt) }
