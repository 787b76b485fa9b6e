-- Searches in rising places, and the intervals that a segment covers.
use Rattle.std.proofs.Common.{◌≡◌, ◌<◌, ◌≤◌, ◌+◌, ℕ, zero, suc, List, [], ◌∷◌, length, get_or, take, drop, filter, Bool, true, false, not, nat_le, nat_lt, Contains, ap, sym, ◌∙◌, subst, inl, inr, arith}
use Rattle.std.specs.List.Sorted.{IsStrictlySortedBy}
use Rattle.std.specs.declared.cmp.Ordering.TheVariants.{Less}
use Rattle.std.specs.Ordering.{is_lt}
use Rattle.std.proofs.lemmas.Bool.{true≢false, cases_lt, cases_order, cases_Bool, lt-leb, le-leb, lt-ltb, le-ltb, cond-true, cond-false}
use Rattle.std.proofs.lemmas.Cmp.{tied_itself}
use Rattle.std.proofs.lemmas.List.{get_or_default, drop_all, take_all}
use Rattle.std.proofs.lemmas.Map.Keys.{Less-from_sorted}
use Rattle.surd_order.specs.declared.position.Pos.{Pos}
use Rattle.surd_order.specs.PlaceOrder.{place_cmp}
use Rattle.surd_order.proofs.PlaceOrderLaws.{place_cmp_total}
use Rattle.bool_weave.specs.Claims.{is_before}
use Rattle.bool_weave.proofs.Sorted.{not_itself}
use Rattle.bool_weave.proofs.Cutting.{less_from, turned}

at_default : (xs : List Pos) (x : Pos) (m : ℕ) (d e : Pos) (b : Bool) → m < length xs → is_before (get_or xs m d) x ≡ b → is_before (get_or xs m e) x ≡ b
at_default xs x m d e b lt h = ap (λ y. is_before y x) (get_or_default xs m e d lt) ∙ h

-- what is before number m is before x where that is
pub before_up : (xs : List Pos) (x : Pos) (m : ℕ) (d : Pos) → IsStrictlySortedBy place_cmp xs → m < length xs → is_before (get_or xs m d) x ≡ true
    → (k : ℕ) (e : Pos) → k < m + 1 → is_before (get_or xs k e) x ≡ true
before_up xs x m d s within h k e lt =
    let here : is_before (get_or xs m e) x ≡ true = at_default xs x m d e true within h in
    elim (cases_lt k m) [
      | inl below ↦ ap is_lt (place_cmp_total.trans _ _ x (Less-from_sorted place_cmp xs k m e s below within) (less_from _ here))
      | inr above ↦ let same : k ≡ m = omega (arith, lt, above) in ap (λ n. is_before (get_or xs n e) x) same ∙ here
    ]

-- what is behind number m is not before x where that is not
pub after_down : (xs : List Pos) (x : Pos) (m : ℕ) (d : Pos) → IsStrictlySortedBy place_cmp xs → m < length xs → is_before (get_or xs m d) x ≡ false
    → (k : ℕ) (e : Pos) → m ≤ k → k < length xs → is_before (get_or xs k e) x ≡ false
after_down xs x m d s within h k e le lt =
    let here : is_before (get_or xs m e) x ≡ false = at_default xs x m d e false within h in
    elim (cases_lt m k) [
      | inl below ↦ elim (cases_Bool (is_before (get_or xs k e) x)) [
        | inl is ↦ absurd (true≢false (sym (ap is_lt (place_cmp_total.trans _ _ x (Less-from_sorted place_cmp xs m k e s below lt) (less_from _ is))) ∙ here))
        | inr not_so ↦ not_so
      ]
      | inr above ↦ let same : k ≡ m = omega (arith, le, above) in ap (λ n. is_before (get_or xs n e) x) same ∙ here
    ]

-- the number of a place that is among rising places
pub number_is : (xs : List Pos) (x : Pos) (n : ℕ) → IsStrictlySortedBy place_cmp xs → (c : Contains xs x)
    → ((k : ℕ) (d : Pos) → k < n → is_before (get_or xs k d) x ≡ true)
    → ((k : ℕ) (d : Pos) → n ≤ k → k < length xs → is_before (get_or xs k d) x ≡ false)
    → n ≡ c.0
number_is xs x n s c before after =
    elim (cases_order n c.0) [
      | inl same ↦ same
      | inr apart ↦ elim apart [
        | inl below ↦ absurd (true≢false (sym (ap is_lt (subst (λ y. place_cmp (get_or xs n x) y ≡ Less) c.2 (Less-from_sorted place_cmp xs n c.0 x s below c.1))) ∙ after n x (omega arith) (omega (arith, below, c.1))))
        | inr above ↦ absurd (not_itself place_cmp place_cmp_total x (subst (λ y. place_cmp y x ≡ Less) c.2 (less_from _ (before c.0 x above))))
      ]
    ]

-- whether x comes before the place behind number k, where x is number j
pub later_than : (xs : List Pos) (x : Pos) (k : ℕ) (d : Pos) → IsStrictlySortedBy place_cmp xs → (c : Contains xs x) → k + 1 < length xs
    → nat_lt k c.0 ≡ not (is_before x (get_or xs (k + 1) d))
later_than xs x k d s c lt =
    let there : get_or xs c.0 d ≡ x = get_or_default xs c.0 d x c.1 ∙ c.2 in
    elim (cases_lt k c.0) [
      | inl below ↦ lt-ltb k c.0 below ∙ elim (cases_lt (k + 1) c.0) [
        | inl further ↦ sym (ap (λ r. not (is_lt r)) (turned (get_or xs (k + 1) d) x Less (subst (λ y. place_cmp (get_or xs (k + 1) d) y ≡ Less) there (Less-from_sorted place_cmp xs (k + 1) c.0 d s further c.1))))
        | inr here ↦ let same : k + 1 ≡ c.0 = omega (arith, below, here) in
            sym (ap (λ y. not (is_before x y)) (ap (λ n. get_or xs n d) same ∙ there) ∙ ap (λ r. not (is_lt r)) (tied_itself place_cmp_total x))
      ]
      | inr above ↦ le-ltb k c.0 above ∙ sym (ap (λ r. not (is_lt r)) (subst (λ y. place_cmp y (get_or xs (k + 1) d) ≡ Less) there (Less-from_sorted place_cmp xs c.0 (k + 1) d s (omega (arith, above)) lt)))
    ]

-- whether number n is at most k, where number n is the first that is not before x
pub not_before_number : (xs : List Pos) (x : Pos) (k n : ℕ) (d : Pos) → k < length xs
    → ((k : ℕ) (d : Pos) → k < n → is_before (get_or xs k d) x ≡ true)
    → ((k : ℕ) (d : Pos) → n ≤ k → k < length xs → is_before (get_or xs k d) x ≡ false)
    → nat_le n k ≡ not (is_before (get_or xs k d) x)
not_before_number xs x k n d lt before after =
    elim (cases_lt k n) [
      | inl below ↦ lt-leb n k below ∙ sym (ap not (before k d below))
      | inr above ↦ le-leb n k above ∙ sym (ap not (after k d above lt))
    ]

-- the middle of a list, where it is what passes
pub filter_middle : {X : Type 0} (p : X → Bool) (xs : List X) (i n : ℕ)
    → ((k : ℕ) (d : X) → k < i → k < length xs → p (get_or xs k d) ≡ false)
    → ((k : ℕ) (d : X) → i ≤ k → k < i + n → k < length xs → p (get_or xs k d) ≡ true)
    → ((k : ℕ) (d : X) → i + n ≤ k → k < length xs → p (get_or xs k d) ≡ false)
    → filter p xs ≡ take n (drop i xs)
filter_middle p [] i n low mid high = sym (ap (take n) (drop_all i [] (omega arith)) ∙ take_all n [] (omega arith))
filter_middle p (x ∷ xs) (suc i) n low mid high =
    cond-false (p x) (x ∷ filter p xs) (filter p xs) (low zero x (omega arith) (omega arith))
    ∙ filter_middle p xs i n (λ k d a b. low (suc k) d (omega (arith, a)) (omega (arith, b))) (λ k d a b c. mid (suc k) d (omega (arith, a)) (omega (arith, b)) (omega (arith, c))) (λ k d a b. high (suc k) d (omega (arith, a)) (omega (arith, b)))
filter_middle p (x ∷ xs) zero (suc n) low mid high =
    cond-true (p x) (x ∷ filter p xs) (filter p xs) (mid zero x (omega arith) (omega arith) (omega arith))
    ∙ ap (λ l. x ∷ l) (filter_middle p xs zero n (λ k d a b. absurd (omega (arith, a))) (λ k d a b c. mid (suc k) d (omega arith) (omega (arith, b)) (omega (arith, c))) (λ k d a b. high (suc k) d (omega (arith, a)) (omega (arith, b))))
filter_middle p (x ∷ xs) zero zero low mid high =
    cond-false (p x) (x ∷ filter p xs) (filter p xs) (high zero x (omega arith) (omega arith))
    ∙ filter_middle p xs zero zero (λ k d a b. absurd (omega (arith, a))) (λ k d a b c. absurd (omega (arith, b))) (λ k d a b. high (suc k) d (omega arith) (omega (arith, b)))
