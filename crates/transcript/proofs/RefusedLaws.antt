-- A run has a refused command where the answers of some session have one.
use Rattle.std.proofs.Common.{◌≡◌, ℕ, zero, suc, ◌≤◌, ◌==◌, ◌&&◌, ◌||◌, Bool, true, false, cond, List, [], ◌∷◌, refl, ap, ap₂, ◌∙◌, arith}
use Rattle.std.specs.List.{AllByRecursion, list_any}
use Rattle.transcript.specs.Merge.{Entry, lane}

module _ {X : Type 0} (f : X → Bool) where
  any_step : (t : Bool) (x : X) (xs : List X) → list_any f (cond t (x ∷ xs) xs) ≡ ((t && f x) || list_any f xs)
  any_step true x xs = refl
  any_step false x xs = refl

  swap_or : (a b c d : Bool) → ((a || b) || (c || d)) ≡ ((a || c) || (b || d))
  swap_or true b c d = refl
  swap_or false true true d = refl
  swap_or false true false d = refl
  swap_or false false c d = refl

  any_or : (p q : ℕ → Bool) (ss : List ℕ) → list_any (λ s. p s || q s) ss ≡ (list_any p ss || list_any q ss)
  any_or p q [] = refl
  any_or p q (s ∷ ss) = ap (λ r. (p s || q s) || r) (any_or p q ss) ∙ swap_or (p s) (q s) (list_any p ss) (list_any q ss)

  any_same : (p q : ℕ → Bool) (ss : List ℕ) → ((s : ℕ) → p s ≡ q s) → list_any p ss ≡ list_any q ss
  any_same p q [] h = refl
  any_same p q (s ∷ ss) h = ap₂ ◌||◌ (h s) (any_same p q ss h)

  any_none : (ss : List ℕ) → list_any (λ (s : ℕ). list_any f []) ss ≡ false
  any_none [] = refl
  any_none (s ∷ ss) = any_none ss

  -- the sessions that some entry may have
  pub any_of_lanes : (among : List ℕ) → ((k : ℕ) (b : Bool) → 1 ≤ k → k ≤ 8 → list_any (λ s. (k == s) && b) among ≡ b) → (entries : List (Entry X))
      → AllByRecursion (λ (e : Entry X). (1 ≤ e.session) × (e.session ≤ 8)) entries
      → list_any (λ s. list_any f (lane entries s)) among ≡ list_any (λ (e : Entry X). f e.item) entries
  any_of_lanes among one [] h = any_none among
  any_of_lanes among one (e ∷ rest) h =
      any_same _ _ among (λ s. any_step (e.session == s) e.item (lane rest s))
      ∙ any_or (λ s. (e.session == s) && f e.item) (λ s. list_any f (lane rest s)) among
      ∙ ap₂ ◌||◌ (one e.session (f e.item) (h.0).0 (h.0).1) (any_of_lanes among one rest h.1)

false_or : (b : Bool) → (b || false) ≡ b
false_or true = refl
false_or false = refl

pub among_eight : (k : ℕ) (b : Bool) → 1 ≤ k → k ≤ 8 → list_any (λ s. (k == s) && b) (1 ∷ 2 ∷ 3 ∷ 4 ∷ 5 ∷ 6 ∷ 7 ∷ 8 ∷ []) ≡ b
among_eight zero b low high = absurd (omega (arith, low))
among_eight (suc zero) b low high = false_or b
among_eight (suc (suc zero)) b low high = false_or b
among_eight (suc (suc (suc zero))) b low high = false_or b
among_eight (suc (suc (suc (suc zero)))) b low high = false_or b
among_eight (suc (suc (suc (suc (suc zero))))) b low high = false_or b
among_eight (suc (suc (suc (suc (suc (suc zero)))))) b low high = false_or b
among_eight (suc (suc (suc (suc (suc (suc (suc zero))))))) b low high = false_or b
among_eight (suc (suc (suc (suc (suc (suc (suc (suc zero)))))))) b low high = false_or b
among_eight (suc (suc (suc (suc (suc (suc (suc (suc (suc k))))))))) b low high = absurd (omega (arith, high))
