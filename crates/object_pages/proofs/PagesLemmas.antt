use Rattle.std.proofs.Common.{◌≡◌, inl, inr, ◌<◌, ◌≤◌, ◌+◌, ◌∙◌, ℕ, Bool, true, false, cond, List, [], ◌∷◌, ◌++◌, refl, ap, sym, arith}
use Rattle.std.specs.Prelude.{nat_eq, nat_lt, ◌==◌}
use Rattle.std.specs.Ordering.{nat_cmp}
use Rattle.std.specs.Cmp.{nat_cmp_is}
use Rattle.std.specs.declared.cmp.Ordering.TheVariants.{Less, Equal, Greater}
use Rattle.std.specs.List.{AllByRecursion, IsDistinct}
use Rattle.std.specs.List.Sorted.{IsStrictlySortedBy}
use Rattle.std.specs.Map.{keys_of}
use Rattle.std.proofs.lemmas.Bool.{cases_lt, ltb-true}
use Rattle.std.proofs.lemmas.Map.Keys.{sorted_head, sorted_tail}
use Rattle.object_pages.specs.Entries.{Entries}
use Rattle.object_pages.specs.Tallies.{Pages}
use Rattle.shared_pages.specs.Pages.{pairs_of, page_of, RiseFrom}
use Rattle.object_pages.proofs.PageLemmas.{number_tells, page_here, page_past, pairs_cons}

-- ---- pages whose numbers rise

less_by : (b c : Bool) → cond b Less (cond c Equal Greater) ≡ Less → b ≡ true
less_by true c e = refl
less_by false true e = cc
less_by false false e = cc

pub is_less : (n m : ℕ) → nat_cmp n m ≡ Less → n < m
is_less n m e = ltb-true n m (less_by (nat_lt n m) (n == m) e)

none_below : (n : ℕ) (pages : Pages) → AllByRecursion (λ m. nat_cmp n m ≡ Less) (keys_of pages) → (k : ℕ) → k ≤ n → page_of pages k ≡ []
none_below n [] h k le = refl
none_below n ((m, es) ∷ pages) h k le = page_past m es pages k (λ e. let lt = is_less n m h.0 in absurd (omega (arith, lt, le, e))) ∙ none_below n pages h.1 k le

rising_tail : (n : ℕ) (es : Entries) (pages : Pages) → IsStrictlySortedBy nat_cmp (keys_of ((n, es) ∷ pages)) → IsStrictlySortedBy nat_cmp (keys_of pages)
rising_tail n es pages h = sorted_tail nat_cmp n (keys_of pages) h

-- a page past the first is none where its number is not over the first one's
pub past_first : (n : ℕ) (es : Entries) (pages : Pages) → IsStrictlySortedBy nat_cmp (keys_of ((n, es) ∷ pages)) → (k : ℕ) → k ≤ n → page_of pages k ≡ []
past_first n es pages h k le = none_below n pages (sorted_head nat_cmp n (keys_of pages) h) k le

pub before_first : (n : ℕ) (es : Entries) (pages : Pages) → IsStrictlySortedBy nat_cmp (keys_of ((n, es) ∷ pages)) → (k : ℕ) → k < n → page_of ((n, es) ∷ pages) k ≡ []
before_first n es pages h k lt = page_past n es pages k (λ e. absurd (omega (arith, lt, e))) ∙ past_first n es pages h k (omega (arith, lt))

empty_first : (n : ℕ) (es : Entries) (pages : Pages) → es ≡ [] → pairs_of ((n, es) ∷ pages) ≡ pairs_of pages
empty_first n es pages e = pairs_cons n es pages ∙ ap (λ (l : Entries). l ++ pairs_of pages) e

pub nothing_left : (ys : Pages) → IsStrictlySortedBy nat_cmp (keys_of ys) → ((k : ℕ) → page_of ys k ≡ []) → pairs_of ys ≡ []
nothing_left [] rises h = refl
nothing_left ((m, y) ∷ ys) rises h = empty_first m y ys (sym (page_here m y ys) ∙ h m) ∙ nothing_left ys (rising_tail m y ys rises) rest
  where
    rest : (k : ℕ) → page_of ys k ≡ []
    rest k = elim (number_tells k m) [ inl t ↦ past_first m y ys rises k (omega (arith, t.1)) | inr t ↦ sym (page_past m y ys k t.1) ∙ h k ]

-- pages of which each number has the same in both lists have the same pairs
pub pairs_determined : (xs ys : Pages) → IsStrictlySortedBy nat_cmp (keys_of xs) → IsStrictlySortedBy nat_cmp (keys_of ys) → ((k : ℕ) → page_of xs k ≡ page_of ys k) → pairs_of xs ≡ pairs_of ys
pairs_determined [] ys rx ry h = sym (nothing_left ys ry (λ k. sym (h k)))
pairs_determined ((n, x) ∷ xs) [] rx ry h = nothing_left ((n, x) ∷ xs) rx h
pairs_determined ((n, x) ∷ xs) ((m, y) ∷ ys) rx ry h =
    elim (cases_lt n m) [
      | inl lt ↦ empty_first n x xs (sym (page_here n x xs) ∙ h n ∙ before_first m y ys ry n lt) ∙ pairs_determined xs ((m, y) ∷ ys) (rising_tail n x xs rx) ry (left lt)
      | inr ge ↦ elim (cases_lt m n) [
        | inl lt ↦ pairs_determined ((n, x) ∷ xs) ys rx (rising_tail m y ys ry) (right lt) ∙ sym (empty_first m y ys (sym (page_here m y ys) ∙ sym (h m) ∙ before_first n x xs rx m lt))
        | inr le ↦ let same : n ≡ m = omega (arith, ge, le) in
            pairs_cons n x xs
            ∙ ap (λ (l : Entries). l ++ pairs_of xs) (sym (page_here n x xs) ∙ h n ∙ ap (page_of ((m, y) ∷ ys)) same ∙ page_here m y ys)
            ∙ ap (λ (l : Entries). y ++ l) (pairs_determined xs ys (rising_tail n x xs rx) (rising_tail m y ys ry) (both same))
            ∙ sym (pairs_cons m y ys)
      ]
    ]
  where
    left : n < m → (k : ℕ) → page_of xs k ≡ page_of ((m, y) ∷ ys) k
    left lt k = elim (number_tells k n) [
      | inl t ↦ past_first n x xs rx k (omega (arith, t.1)) ∙ sym (before_first m y ys ry k (omega (arith, t.1, lt)))
      | inr t ↦ sym (page_past n x xs k t.1) ∙ h k
    ]

    right : m < n → (k : ℕ) → page_of ((n, x) ∷ xs) k ≡ page_of ys k
    right lt k = elim (number_tells k m) [
      | inl t ↦ before_first n x xs rx k (omega (arith, t.1, lt)) ∙ sym (past_first m y ys ry k (omega (arith, t.1)))
      | inr t ↦ h k ∙ page_past m y ys k t.1
    ]

    both : n ≡ m → (k : ℕ) → page_of xs k ≡ page_of ys k
    both same k = elim (number_tells k n) [
      | inl t ↦ past_first n x xs rx k (omega (arith, t.1)) ∙ sym (past_first m y ys ry k (omega (arith, t.1, same)))
      | inr t ↦ sym (page_past n x xs k t.1) ∙ h k ∙ page_past m y ys k (λ e. t.1 (e ∙ sym same))
    ]

-- the numbers that a list of pages keeps are sorted
above_least : (n least : ℕ) (pages : Pages) → RiseFrom least pages → n < least → AllByRecursion (λ m. nat_cmp n m ≡ Less) (keys_of pages)
above_least n least [] h lt = tt
above_least n least ((m, es) ∷ pages) h lt =
    let next : n < m = omega (arith, h.0, lt) in
    (sym (nat_cmp_is n m Less next), above_least n (m + 1) pages h.1 (omega (arith, next)))

pub rises_sorted : (least : ℕ) (pages : Pages) → RiseFrom least pages → IsStrictlySortedBy nat_cmp (keys_of pages)
unfolding IsStrictlySortedBy
rises_sorted least [] h = tt
rises_sorted least ((m, es) ∷ pages) h = (above_least m (m + 1) pages h.1 (omega arith), rises_sorted (m + 1) pages h.1)

-- numbers that rise differ
apart_above : (n : ℕ) (ks : List ℕ) → AllByRecursion (λ m. nat_cmp n m ≡ Less) ks → AllByRecursion (λ m. nat_eq n m ≡ false) ks
apart_above n [] h = tt
apart_above n (m ∷ ks) h =
    let lt = is_less n m h.0 in
    (elim (number_tells n m) [ inl t ↦ absurd (omega (arith, t.1, lt)) | inr t ↦ t.0 ], apart_above n ks h.1)

pub rising_distinct : (ks : List ℕ) → IsStrictlySortedBy nat_cmp ks → IsDistinct nat_eq ks
unfolding IsDistinct IsStrictlySortedBy
rising_distinct [] h = tt
rising_distinct (n ∷ ks) h = (apart_above n ks h.0, rising_distinct ks h.1)
