-- Places put among rising places, and how many of them come before a place.
use Rattle.std.proofs.Common.{◌≡◌, ◌<◌, ◌≤◌, ◌+◌, ◌⊎◌, ◌&&◌, ℕ, zero, suc, List, [], ◌∷◌, length, get_or, insert, filter, cond, nat_lt, true, false, All, ap, sym, ◌∙◌, subst, refl, inl, inr, ⊎_elim, arith}
use Rattle.std.specs.List.Sorted.{IsStrictlySortedBy}
use Rattle.std.specs.declared.cmp.Ordering.{Ordering}
use Rattle.std.specs.declared.cmp.Ordering.TheVariants.{Less, Equal, Greater}
use Rattle.std.specs.Ordering.{ordering_reverse, is_lt, is_eq}
use Rattle.std.proofs.lemmas.Bool.{true≢false, cases_lt, cases_Bool, and_parts, and_cases, ltb-true, ltb-false}
use Rattle.std.proofs.lemmas.List.{get_or_default}
use Rattle.std.proofs.lemmas.Map.Keys.{Less-from_sorted}
use Rattle.bool_weave.specs.Lines.{set_beside, put_among, comes_before}
use Rattle.bool_weave.proofs.Cutting.{less_from, greater_from, equal_from}
use Rattle.bool_weave.proofs.Sorted.{Has, has_at, all_has, all_from, contains_from_has}
use Rattle.order_laws.proofs.Arranged.{from_put}
use Rattle.surd_quot.specs.declared.position.QPos.{QPos}
use Rattle.surd_quot.specs.PlaceOrder.{quotient_cmp}
use Rattle.surd_quot.specs.Range.{IsQuotientInRange}
use Rattle.surd_quot.proofs.PlaceOrderLaws.{quotient_cmp_total}
use Rattle.oblique_ray.specs.CutSteps.{AreRising}
use Rattle.oblique_ray.specs.Segments.{slant_start}

turned : (x y : QPos) (r : Ordering) → quotient_cmp x y ≡ r → quotient_cmp y x ≡ ordering_reverse r
turned x y r e = quotient_cmp_total.antisymm y x ∙ ap ordering_reverse e

-- where all places before number i are before x, and the one there is after it
put_at : (x : QPos) (xs : List QPos) (i : ℕ) → i ≤ length xs → ((k : ℕ) (d : QPos) → k < i → comes_before quotient_cmp (get_or xs k d) x ≡ true)
    → ((d : QPos) → i < length xs → quotient_cmp (get_or xs i d) x ≡ Greater) → put_among quotient_cmp x xs ≡ insert xs i x
put_at x [] zero within before after = refl
put_at x [] (suc i) within before after = absurd (omega (arith, within))
put_at x (y ∷ ys) zero within before after = ap (λ r. set_beside r x y ys (put_among quotient_cmp x ys)) (turned y x Greater (after x (omega arith)))
put_at x (y ∷ ys) (suc i) within before after =
    ap (λ r. set_beside r x y ys (put_among quotient_cmp x ys)) (turned y x Less (less_from _ (before zero x (omega arith))))
    ∙ ap (λ l. y ∷ l) (put_at x ys i (omega (arith, within)) (λ k d lt. before (suc k) d (omega (arith, lt))) (λ d lt. after d (omega (arith, lt))))

-- where the one there is at x
put_there : (x : QPos) (xs : List QPos) (i : ℕ) (d : QPos) → i < length xs → ((k : ℕ) (d : QPos) → k < i → comes_before quotient_cmp (get_or xs k d) x ≡ true)
    → quotient_cmp (get_or xs i d) x ≡ Equal → put_among quotient_cmp x xs ≡ xs
put_there x [] i d within before at = absurd (omega (arith, within))
put_there x (y ∷ ys) zero d within before at = ap (λ r. set_beside r x y ys (put_among quotient_cmp x ys)) (turned y x Equal at)
put_there x (y ∷ ys) (suc i) d within before at =
    ap (λ r. set_beside r x y ys (put_among quotient_cmp x ys)) (turned y x Less (less_from _ (before zero x (omega arith))))
    ∙ ap (λ l. y ∷ l) (put_there x ys i d (omega (arith, within)) (λ k e lt. before (suc k) e (omega (arith, lt))) at)

before_in : (xs ys : List QPos) (x : QPos) (n : ℕ) → ys ≡ xs → ((k : ℕ) (d : QPos) → k < n → comes_before quotient_cmp (get_or ys k d) x ≡ true)
    → (k : ℕ) (d : QPos) → k < n → comes_before quotient_cmp (get_or xs k d) x ≡ true
before_in xs ys x n e h k d lt = subst (λ l. comes_before quotient_cmp (get_or l k d) x ≡ true) e (h k d lt)

pub put_same : (x : QPos) (xs ys zs : List QPos) (n : ℕ) → ys ≡ xs → zs ≡ xs → ((k : ℕ) (d : QPos) → k < n → comes_before quotient_cmp (get_or ys k d) x ≡ true)
    → (nat_lt n (length zs) && is_eq (quotient_cmp (get_or zs n slant_start) x)) ≡ true → xs ≡ put_among quotient_cmp x xs
put_same x xs ys zs n e f before there =
    let parts = and_parts (nat_lt n (length zs)) (is_eq (quotient_cmp (get_or zs n slant_start) x)) there in
    let within : n < length xs = subst (λ l. n < length l) f (ltb-true n (length zs) parts.0) in
    sym (put_there x xs n slant_start within (before_in xs ys x n e before) (equal_from _ (subst (λ l. is_eq (quotient_cmp (get_or l n slant_start) x) ≡ true) f parts.1)))

pub put_new : (x : QPos) (xs ys zs : List QPos) (n : ℕ) → ys ≡ xs → zs ≡ xs → n ≤ length ys
    → ((k : ℕ) (d : QPos) → k < n → comes_before quotient_cmp (get_or ys k d) x ≡ true)
    → ((k : ℕ) (d : QPos) → n ≤ k → k < length ys → comes_before quotient_cmp (get_or ys k d) x ≡ false)
    → (nat_lt n (length zs) && is_eq (quotient_cmp (get_or zs n slant_start) x)) ≡ false → insert xs n x ≡ put_among quotient_cmp x xs
put_new x xs ys zs n e f short before after away = sym (put_at x xs n (subst (λ l. n ≤ length l) e short) (before_in xs ys x n e before) later)
  where
    behind : (d : QPos) → n < length xs → comes_before quotient_cmp (get_or xs n d) x ≡ false
    behind d lt = subst (λ l. comes_before quotient_cmp (get_or l n d) x ≡ false) e (after n d (omega arith) (subst (λ l. n < length l) (sym e) lt))

    later : (d : QPos) → n < length xs → quotient_cmp (get_or xs n d) x ≡ Greater
    later d lt = elim (and_cases (nat_lt n (length zs)) (is_eq (quotient_cmp (get_or zs n slant_start) x)) away) [
      | inl past ↦ absurd (omega (arith, lt, ap length f, ltb-false n (length zs) past))
      | inr apart ↦ greater_from _ (behind d lt)
          (ap (λ y. is_eq (quotient_cmp y x)) (get_or_default xs n d slant_start lt) ∙ subst (λ l. is_eq (quotient_cmp (get_or l n slant_start) x) ≡ false) f apart)
    ]

at_default : (xs : List QPos) (x : QPos) (m : ℕ) (d e : QPos) (b : _) → m < length xs → comes_before quotient_cmp (get_or xs m d) x ≡ b → comes_before quotient_cmp (get_or xs m e) x ≡ b
at_default xs x m d e b lt h = ap (λ y. comes_before quotient_cmp y x) (get_or_default xs m e d lt) ∙ h

-- what is before number m is before x where that is
pub before_up : (xs : List QPos) (x : QPos) (m : ℕ) (d : QPos) → IsStrictlySortedBy quotient_cmp xs → m < length xs → comes_before quotient_cmp (get_or xs m d) x ≡ true
    → (k : ℕ) (e : QPos) → k < m + 1 → comes_before quotient_cmp (get_or xs k e) x ≡ true
before_up xs x m d s within h k e lt =
    let here : comes_before quotient_cmp (get_or xs m e) x ≡ true = at_default xs x m d e true within h in
    elim (cases_lt k m) [
      | inl below ↦ ap is_lt (quotient_cmp_total.trans _ _ x (Less-from_sorted quotient_cmp xs k m e s below within) (less_from _ here))
      | inr above ↦ let same : k ≡ m = omega (arith, lt, above) in ap (λ n. comes_before quotient_cmp (get_or xs n e) x) same ∙ here
    ]

-- what is behind number m is not before x where that is not
pub after_down : (xs : List QPos) (x : QPos) (m : ℕ) (d : QPos) → IsStrictlySortedBy quotient_cmp xs → m < length xs → comes_before quotient_cmp (get_or xs m d) x ≡ false
    → (k : ℕ) (e : QPos) → m ≤ k → k < length xs → comes_before quotient_cmp (get_or xs k e) x ≡ false
after_down xs x m d s within h k e le lt =
    let here : comes_before quotient_cmp (get_or xs m e) x ≡ false = at_default xs x m d e false within h in
    elim (cases_lt m k) [
      | inl below ↦ elim (cases_Bool (comes_before quotient_cmp (get_or xs k e) x)) [
        | inl is ↦ absurd (true≢false (sym (ap is_lt (quotient_cmp_total.trans _ _ x (Less-from_sorted quotient_cmp xs m k e s below lt) (less_from _ is))) ∙ here))
        | inr not_so ↦ not_so
      ]
      | inr above ↦ let same : k ≡ m = omega (arith, le, above) in ap (λ n. comes_before quotient_cmp (get_or xs n e) x) same ∙ here
    ]

-- so many places come before x
pub rank_is : (xs : List QPos) (x : QPos) (n : ℕ) → n ≤ length xs → ((k : ℕ) (d : QPos) → k < n → comes_before quotient_cmp (get_or xs k d) x ≡ true)
    → ((k : ℕ) (d : QPos) → n ≤ k → k < length xs → comes_before quotient_cmp (get_or xs k d) x ≡ false) → length (filter (λ c. comes_before quotient_cmp c x) xs) ≡ n
rank_is [] x n within before after = omega (arith, within)
rank_is (y ∷ ys) x zero within before after =
    ap (λ b. length (cond b (y ∷ filter (λ c. comes_before quotient_cmp c x) ys) (filter (λ c. comes_before quotient_cmp c x) ys))) (after zero y (omega arith) (omega arith))
    ∙ rank_is ys x zero (omega arith) (λ k d lt. absurd (omega (arith, lt))) (λ k d le lt. after (suc k) d (omega arith) (omega (arith, lt)))
rank_is (y ∷ ys) x (suc n) within before after =
    ap (λ b. length (cond b (y ∷ filter (λ c. comes_before quotient_cmp c x) ys) (filter (λ c. comes_before quotient_cmp c x) ys))) (before zero y (omega arith))
    ∙ ap (λ m. suc m) (rank_is ys x n (omega (arith, within)) (λ k d lt. before (suc k) d (omega (arith, lt))) (λ k d le lt. after (suc k) d (omega (arith, le)) (omega (arith, lt))))

-- places put among rising ones rise
beside_sorted : (r : Ordering) (x y : QPos) (ys behind : List QPos) → quotient_cmp x y ≡ r → IsStrictlySortedBy quotient_cmp (y ∷ ys) → IsStrictlySortedBy quotient_cmp behind
    → ((z : QPos) → Has behind z → (x ≡ z) ⊎ Has ys z) → IsStrictlySortedBy quotient_cmp (set_beside r x y ys behind)
unfolding IsStrictlySortedBy
beside_sorted Less x y ys behind e s t more = (
  (e, all_from (λ z. quotient_cmp x z ≡ Less) ys (λ z h. quotient_cmp_total.trans x y z e (all_has (λ z. quotient_cmp y z ≡ Less) ys z s.0 h))),
  s,
)
beside_sorted Equal x y ys behind e s t more = s
beside_sorted Greater x y ys behind e s t more = (
  all_from (λ z. quotient_cmp y z ≡ Less) behind
      (λ z h. ⊎_elim (λ m. subst (λ w. quotient_cmp y w ≡ Less) m (quotient_cmp_total.antisymm y x ∙ ap ordering_reverse e)) (λ m. all_has (λ z. quotient_cmp y z ≡ Less) ys z s.0 m) (more z h)),
  t,
)

put_sorted : (x : QPos) (ys : List QPos) → IsStrictlySortedBy quotient_cmp ys → IsStrictlySortedBy quotient_cmp (put_among quotient_cmp x ys)
unfolding IsStrictlySortedBy
put_sorted x [] s = (tt, tt)
put_sorted x (y ∷ ys) s = beside_sorted (quotient_cmp x y) x y ys (put_among quotient_cmp x ys) refl s (put_sorted x ys s.1) (λ z h. from_put quotient_cmp x z ys h)

pub none_rising : AreRising []
unfolding IsStrictlySortedBy
none_rising = record { rising = tt; ranges = λ k d lt. absurd (omega (arith, lt)) }

pub put_rising : (x : QPos) (ys : List QPos) → AreRising ys → IsQuotientInRange x → AreRising (put_among quotient_cmp x ys)
put_rising x ys s range = record { rising = put_sorted x ys s.rising; ranges = ranges }
  where
    ranges : All IsQuotientInRange (put_among quotient_cmp x ys)
    ranges k d lt =
        ⊎_elim (λ e. subst IsQuotientInRange e range) (λ m. let c = contains_from_has ys (get_or (put_among quotient_cmp x ys) k d) m in subst IsQuotientInRange c.2 (s.ranges c.0 (get_or (put_among quotient_cmp x ys) k d) c.1))
        (from_put quotient_cmp x (get_or (put_among quotient_cmp x ys) k d) ys (has_at (put_among quotient_cmp x ys) (get_or (put_among quotient_cmp x ys) k d) d k lt refl))
