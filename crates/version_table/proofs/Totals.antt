-- Sums over the views, where one of them changes.
use Rattle.std.proofs.Common.{◌≡◌, ◌≢◌, ◌≤◌, ◌<◌, ◌+◌, ℕ, zero, suc, List, [], ◌∷◌, ◌++◌, ◌∙◌, refl, ap, sym, subst, inl, inr, arith, append_assoc, append-nil, length-append, length, nat_lt, cond, true, false}
use Rattle.std.proofs.lemmas.Bool.{cases_lt}
use Rattle.std.proofs.lemmas.Bool.Decides.{nat_tests}
use Rattle.version_table.specs.Places.{total}
use Rattle.version_table.specs.Steps.{longer}
use Rattle.version_table.specs.declared.rule.Noted.{Noted}
use mathlib.Core.Option.{some}
use mathlib.Core.List.{IsPrefix}
use lib.ListN.{get_elem?, set}

module _ {X : Type 0} (f : X → ℕ) where
  pub total_set : (xs : List X) (i : ℕ) (old new : X) → get_elem? xs i ≡ some old → total f (set xs i new) + f old ≡ total f xs + f new
  total_set [] i old new e = cc
  total_set (x ∷ xs) zero old new e = let same : x ≡ old = cc in omega (arith, ap f same)
  total_set (x ∷ xs) (suc i) old new e = omega (arith, total_set xs i old new e)

  pub total_one : (xs : List X) (i : ℕ) (v : X) → get_elem? xs i ≡ some v → f v ≤ total f xs
  total_one [] i v e = cc
  total_one (x ∷ xs) zero v e = let same : x ≡ v = cc in omega (arith, ap f same)
  total_one (x ∷ xs) (suc i) v e = omega (arith, total_one xs i v e)

  pub total_two : (xs : List X) (i j : ℕ) (v w : X) → i ≢ j → get_elem? xs i ≡ some v → get_elem? xs j ≡ some w → f v + f w ≤ total f xs
  total_two [] i j v w ne e d = cc
  total_two (x ∷ xs) zero zero v w ne e d = absurd (ne refl)
  total_two (x ∷ xs) zero (suc j) v w ne e d = let same : x ≡ v = cc in omega (arith, ap f same, total_one xs j w d)
  total_two (x ∷ xs) (suc i) zero v w ne e d = let same : x ≡ w = cc in omega (arith, ap f same, total_one xs i v e)
  total_two (x ∷ xs) (suc i) (suc j) v w ne e d = omega (arith, total_two xs i j v w (λ p. ne (ap suc p)) e d)

  pub total_append : (xs ys : List X) → total f (xs ++ ys) ≡ total f xs + total f ys
  total_append [] ys = omega arith
  total_append (x ∷ xs) ys = omega (arith, total_append xs ys)

  pub total_none : (xs : List X) → ((j : ℕ) (v : X) → get_elem? xs j ≡ some v → f v ≡ 0) → total f xs ≡ 0
  total_none [] h = refl
  total_none (x ∷ xs) h = omega (arith, h 0 x refl, total_none xs (λ j v at. h (suc j) v at))

pub total_sum : {X : Type 0} (f g : X → ℕ) (xs : List X) → total (λ x. f x + g x) xs ≡ total f xs + total g xs
total_sum f g [] = refl
total_sum f g (x ∷ xs) = omega (arith, total_sum f g xs)

module _ {A : Type 0} where
  pub prefix_refl : (xs : List A) → IsPrefix xs xs
  prefix_refl xs = ([], append-nil xs)

  pub prefix_more : (xs ys zs : List A) → IsPrefix xs ys → IsPrefix xs (ys ++ zs)
  prefix_more xs ys zs p = (p.0 ++ zs, sym (append_assoc xs p.0 zs) ∙ ap (λ w. w ++ zs) p.1)

  pub prefix_length : (xs ys : List A) → IsPrefix xs ys → length xs ≤ length ys
  prefix_length xs ys p = omega (arith, length-append xs p.0, ap length p.1)

  pub prefix_whole : (xs ys : List A) → IsPrefix xs ys → length ys ≤ length xs → xs ≡ ys
  prefix_whole xs ys p le = let none : p.0 ≡ [] = empty_of p.0 (omega (arith, length-append xs p.0, ap length p.1)) in sym (append-nil xs) ∙ ap (λ r. xs ++ r) (sym none) ∙ p.1
    where
      empty_of : (zs : List A) → length zs ≡ 0 → zs ≡ []
      empty_of [] e = refl
      empty_of (z ∷ zs) e = absurd (omega arith)

module _ {C : Type 0} where
  pub longer_prefix : (xs ys h : List (Noted C)) → IsPrefix xs h → IsPrefix ys h → IsPrefix (longer xs ys) h
  longer_prefix xs ys h p q = elim (nat_lt (length xs) (length ys)) as (λ b. IsPrefix (cond b ys xs) h) [ true ↦ q | false ↦ p ]

  pub longer_length : (xs ys : List (Noted C)) → (length xs ≤ length (longer xs ys)) × (length ys ≤ length (longer xs ys))
  longer_length xs ys = grind (arith, nat_tests)

  -- of two beginnings of a history the longer one begins with both
  begins_longer : (xs ys h : List (Noted C)) → IsPrefix xs h → IsPrefix ys h → length xs ≤ length ys → IsPrefix xs ys
  begins_longer [] ys h p q le = (ys, refl)
  begins_longer (x ∷ xs) [] h p q le = absurd (omega arith)
  begins_longer (x ∷ xs) (y ∷ ys) [] p q le = absurd (let e : (x ∷ xs ++ p.0) ≡ [] = p.1 in cc)
  begins_longer (x ∷ xs) (y ∷ ys) (z ∷ zs) p q le =
      let e : (x ∷ (xs ++ p.0)) ≡ z ∷ zs = p.1 in
      let d : (y ∷ (ys ++ q.0)) ≡ z ∷ zs = q.1 in
      let heads : x ≡ y = cc in
      let ends_x : xs ++ p.0 ≡ zs = cc in
      let ends_y : ys ++ q.0 ≡ zs = cc in
      let rest : IsPrefix xs ys = begins_longer xs ys zs (p.0, ends_x) (q.0, ends_y) (omega arith) in
      (rest.0, ap (λ w. w ∷ (xs ++ rest.0)) heads ∙ ap (λ l. y ∷ l) rest.1)

  pub longer_begins : (xs ys h : List (Noted C)) → IsPrefix xs h → IsPrefix ys h → IsPrefix xs (longer xs ys) × IsPrefix ys (longer xs ys)
  longer_begins xs ys h p q = elim (cases_lt (length xs) (length ys)) [
    | inl lt ↦ subst (λ b. IsPrefix xs (cond b ys xs) × IsPrefix ys (cond b ys xs)) (sym (is_below xs ys lt)) (begins_longer xs ys h p q (omega (arith, lt)), prefix_refl ys)
    | inr le ↦ subst (λ b. IsPrefix xs (cond b ys xs) × IsPrefix ys (cond b ys xs)) (sym (not_below xs ys le)) (prefix_refl xs, begins_longer ys xs h q p le)
  ]
    where
      is_below : (xs ys : List (Noted C)) → length xs < length ys → nat_lt (length xs) (length ys) ≡ true
      is_below xs ys lt = grind (arith, nat_tests)

      not_below : (xs ys : List (Noted C)) → length ys ≤ length xs → nat_lt (length xs) (length ys) ≡ false
      not_below xs ys le = grind (arith, nat_tests)
