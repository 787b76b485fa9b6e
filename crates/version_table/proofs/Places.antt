-- Places in order.
use Rattle.std.proofs.Common.{◌≡◌, ◌≢◌, ◌⊎◌, ◌≤◌, ◌<◌, ◌+◌, ℕ, zero, suc, true, false, cond, List, [], ◌∷◌, ◌++◌, length, ◌∙◌, refl, ap, sym, subst, arith, nat_lt, inl, inr}
use Rattle.std.proofs.lemmas.Bool.{cases_lt, cases_eq}
use Rattle.std.proofs.lemmas.Bool.Decides.{nat_tests}
use Rattle.version_table.specs.Places.{hit, times, AllAbove, IsRising, placed, merged, places_from}
use Rattle.version_table.proofs.Totals.{total_append}

-- an implication as a choice, which `omega` takes apart
pub choice : (n k m : ℕ) → (0 < n → k < m) → (n ≡ 0) ⊎ (k < m)
choice zero k m f = inl refl
choice (suc n) k m f = inr (f (omega arith))

-- one more claim
pub times_more : (k : ℕ) (xs : List ℕ) (x : ℕ) → times k (xs ++ x ∷ []) ≡ times k xs + hit k x
times_more k xs x = omega (arith, total_append (hit k) xs (x ∷ []))

-- whether a place is this one
pub same_place : (x k : ℕ) → ((x ≡ k) × (hit k x ≡ 1)) ⊎ ((x ≢ k) × (hit k x ≡ 0))
same_place x k = elim (cases_eq x k) [ inl e ↦ inl (e, grind (arith, nat_tests)) | inr ne ↦ inr (ne, grind (arith, nat_tests)) ]

pub times_none : (k : ℕ) (xs : List ℕ) → length xs ≡ 0 → times k xs ≡ 0
times_none k [] e = refl
times_none k (x ∷ xs) e = absurd (omega arith)

pub hit_self : (x : ℕ) → hit x x ≡ 1
hit_self x = grind (arith, nat_tests)

-- a later place ends the list
above_more : (x : ℕ) (xs : List ℕ) (n : ℕ) → AllAbove x xs → x < n → AllAbove x (xs ++ n ∷ [])
above_more x [] n all lt = (lt, tt)
above_more x (y ∷ ys) n all lt = (all.0, above_more x ys n all.1 lt)

pub rising_more : (xs : List ℕ) (n : ℕ) → IsRising xs → ((k : ℕ) → 0 < times k xs → k < n) → IsRising (xs ++ n ∷ [])
rising_more [] n rising below = (tt, tt)
rising_more (x ∷ xs) n rising below =
    (above_more x xs n rising.0 (below x (omega (arith, hit_self x))), rising_more xs n rising.1 (λ k some. below k (omega (arith, some))))

-- a place put in its order
pub times_placed : (k x : ℕ) (xs : List ℕ) → times k (placed x xs) ≡ hit k x + times k xs
times_placed k x [] = omega arith
times_placed k x (y ∷ ys) = elim (nat_lt x y) as (λ b. times k (cond b (x ∷ y ∷ ys) (y ∷ placed x ys)) ≡ hit k x + (hit k y + times k ys)) [
  | true ↦ omega arith
  | false ↦ omega (arith, times_placed k x ys)
]

pub length_placed : (x : ℕ) (xs : List ℕ) → length (placed x xs) ≡ length xs + 1
length_placed x [] = refl
length_placed x (y ∷ ys) = elim (nat_lt x y) as (λ b. length (cond b (x ∷ y ∷ ys) (y ∷ placed x ys)) ≡ suc (length ys) + 1) [
  | true ↦ omega arith
  | false ↦ omega (arith, length_placed x ys)
]

above_placed : (y x : ℕ) (xs : List ℕ) → AllAbove y xs → y < x → AllAbove y (placed x xs)
above_placed y x [] all lt = (lt, tt)
above_placed y x (z ∷ zs) all lt = elim (nat_lt x z) as (λ b. AllAbove y (cond b (x ∷ z ∷ zs) (z ∷ placed x zs))) [
  | true ↦ (lt, all)
  | false ↦ (all.0, above_placed y x zs all.1 lt)
]

above_lower : (x y : ℕ) (xs : List ℕ) → x < y → AllAbove y xs → AllAbove x xs
above_lower x y [] lt all = tt
above_lower x y (z ∷ zs) lt all = (omega (arith, lt, all.0), above_lower x y zs lt all.1)

pub rising_placed : (x : ℕ) (xs : List ℕ) → IsRising xs → times x xs ≡ 0 → IsRising (placed x xs)
rising_placed x [] rising none = (tt, tt)
rising_placed x (y ∷ ys) rising none =
    let apart : y ≢ x = λ e. elim (same_place y x) [ inl p ↦ absurd (omega (arith, p.1, none)) | inr p ↦ p.0 e ] in
    let tail : IsRising (placed x ys) = rising_placed x ys rising.1 (omega (arith, none)) in
    elim (cases_lt x y) [
      | inl lt ↦ subst (λ b. IsRising (cond b (x ∷ y ∷ ys) (y ∷ placed x ys))) (sym (test_true x y lt)) ((lt, above_lower x y ys lt rising.0), rising)
      | inr le ↦ subst (λ b. IsRising (cond b (x ∷ y ∷ ys) (y ∷ placed x ys))) (sym (test_false x y le)) (above_placed y x ys rising.0 (omega (arith, le, apart)), tail)
    ]
  where
    test_true : (x y : ℕ) → x < y → nat_lt x y ≡ true
    test_true x y lt = grind (arith, nat_tests)

    test_false : (x y : ℕ) → y ≤ x → nat_lt x y ≡ false
    test_false x y le = grind (arith, nat_tests)

-- the places of two lists in order
pub times_merged : (k : ℕ) (xs ys : List ℕ) → times k (merged xs ys) ≡ times k xs + times k ys
times_merged k xs [] = omega arith
times_merged k xs (y ∷ ys) = omega (arith, times_placed k y (merged xs ys), times_merged k xs ys)

pub length_merged : (xs ys : List ℕ) → length (merged xs ys) ≡ length xs + length ys
length_merged xs [] = omega arith
length_merged xs (y ∷ ys) = omega (arith, length_placed y (merged xs ys), length_merged xs ys)

above_absent : (x : ℕ) (xs : List ℕ) → AllAbove x xs → times x xs ≡ 0
above_absent x [] all = refl
above_absent x (y ∷ ys) all = elim (same_place y x) [ inl p ↦ absurd (omega (arith, p.0, all.0)) | inr p ↦ omega (arith, p.1, above_absent x ys all.1) ]

pub rising_merged : (xs ys : List ℕ) → IsRising xs → IsRising ys → ((k : ℕ) → times k xs + times k ys ≤ 1) → IsRising (merged xs ys)
rising_merged xs [] one two apart = one
rising_merged xs (y ∷ ys) one two apart =
    rising_placed y (merged xs ys) (rising_merged xs ys one two.1 (λ k. omega (arith, apart k))) (omega (arith, times_merged y xs ys, apart y, hit_self y, above_absent y ys two.0))

above_present : (x k : ℕ) (xs : List ℕ) → AllAbove x xs → 0 < times k xs → x < k
above_present x k [] all some = absurd (omega arith)
above_present x k (y ∷ ys) all some = elim (same_place y k) [
  | inl p ↦ omega (arith, p.0, all.0)
  | inr p ↦ above_present x k ys all.1 (omega (arith, some, p.1))
]

-- rising places that are each of those from `from` on, once
pub all_places : (from n : ℕ) (xs : List ℕ) → IsRising xs → ((k : ℕ) → from ≤ k → k < from + n → times k xs ≡ 1) → ((k : ℕ) → 0 < times k xs → (from ≤ k) × (k < from + n)) → xs ≡ places_from from n
all_places from zero [] rising each within = refl
all_places from (suc n) [] rising each within = absurd (omega (arith, each from (omega arith) (omega arith)))
all_places from zero (x ∷ xs) rising each within = absurd (omega (arith, within x (omega (arith, hit_self x))))
all_places from (suc n) (x ∷ xs) rising each within =
    let low = within x (omega (arith, hit_self x)) in
    let first : x ≡ from = elim (cases_eq x from) [
      | inl e ↦ e
      | inr ne ↦ absurd (omega (arith, later x from xs rising.0 (omega (arith, low.0, ne)), each from (omega arith) (omega arith), same_place x from, ne))
    ] in
    let rest : xs ≡ places_from (suc from) n = all_places (suc from) n xs rising.1
    (λ k low below. omega (arith, each k (omega (arith, low)) (omega (arith, below)), same_place x k, first, low))
    (λ k some. (omega (arith, above_present x k xs rising.0 some, first), omega (arith, within k (omega (arith, some))))) in
    ap (λ y. y ∷ xs) first ∙ ap (λ l. from ∷ l) rest
  where
    later : (x k : ℕ) (xs : List ℕ) → AllAbove x xs → k < x → times k xs ≡ 0
    later x k xs all lt = elim (cases_lt 0 (times k xs)) [ inl some ↦ absurd (omega (arith, above_present x k xs all some, lt)) | inr none ↦ omega (arith, none) ]
