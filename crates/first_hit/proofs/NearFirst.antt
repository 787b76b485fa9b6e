-- Numbers of regions sorted by where their boxes begin.
use Rattle.std.proofs.Common.{◌≡◌, ◌<◌, ◌+◌, ◌-◌, ◌<ℤ◌, ℕ, zero, suc, ℤ, List, [], ◌∷◌, ◌++◌, length, map, get_or, slice_get, Option, Some, None, false, ap, sym, ◌∙◌, refl, subst, inl, inr, arith}
use Rattle.std.specs.Prelude.{nat_eq}
use Rattle.std.specs.List.{IsDistinct}
use Rattle.std.specs.Option.{option_cmp}
use Rattle.std.specs.Ordering.{is_lt, int_cmp, nat_cmp, ordering_then, MatchOrdering}
use Rattle.std.specs.List.Sorted.{IsSorted, IsPermutation}
use Rattle.std.specs.declared.cmp.Ordering.{Ordering}
use Rattle.std.specs.declared.cmp.Ordering.TheVariants.{Less, Equal, Greater}
use Rattle.std.proofs.lemmas.Bool.{true≢false, ne_eqb, eqb-false}
use Rattle.std.proofs.lemmas.Cmp.{ranked, int_ranked, nat_eq_equiv}
use Rattle.std.proofs.lemmas.Int.{ints}
use Rattle.std.proofs.lemmas.List.{length-map, map-append, get_or-map}
use Rattle.std.proofs.lemmas.List.Elements.{All-nil, All-push, All-get_or, All-weaker}
use Rattle.std.proofs.lemmas.List.Folds.{list_any_none}
use Rattle.std.proofs.lemmas.List.Sorted.{All-permutation, IsPermutation-map}
use Rattle.std.proofs.lemmas.Map.Keys.{IsDistinct-push, IsDistinct-IsPermutation, apart_from_distinct}
use Rattle.lattice_core.specs.declared.boxes.Side.{Side}
use Rattle.lattice_core.specs.declared.boxes.Side.TheVariants.{Open, At}
use Rattle.lattice_core.specs.declared.ray.Dir.{Dir}
use Rattle.first_hit.specs.declared.near.Near.{Near}
use Rattle.shot_core.specs.Regions.{Region}
use Rattle.shot_core.specs.FirstShots.{IsOrderOf}
use Rattle.first_hit.specs.FirstSteps.{side_of}
use Rattle.first_hit.specs.NearFirst.{begins_at, BeginsBefore, GoesBefore, IsNearestFirst, AreNears}
use Rattle.first_hit.proofs.Ordering.{order_next, order_permuted}

abbrev near_cmp : Near → Near → Ordering
near_cmp a b = ordering_then (option_cmp int_cmp a.side b.side) (nat_cmp a.region b.region)

abbrev Goes : Near → Near → Type 0
Goes a b = GoesBefore (side_of a.side) a.region (side_of b.side) b.region

-- ---- two entries

lower : (m n : ℕ) (r : Ordering) → MatchOrdering r (n < m) (n ≡ m) (m < n) → is_lt r ≡ false → (m ≡ n → ⊥) → m < n
lower m n Less h low apart = absurd (true≢false low)
lower m n Equal h low apart = absurd (apart (sym h))
lower m n Greater h low apart = h

both : (x y : ℤ) (m n : ℕ) (r : Ordering) → MatchOrdering r (y <ℤ x) (y ≡ x) (x <ℤ y) → is_lt (ordering_then r (nat_cmp n m)) ≡ false → (m ≡ n → ⊥) → GoesBefore (At x) m (At y) n
both x y m n Less h low apart = absurd (true≢false low)
both x y m n Equal h low apart = inr (ap At (sym h), lower m n (nat_cmp n m) (ranked n m (nat_cmp n m) refl) low apart)
both x y m n Greater h low apart = inl h

-- one that is not less than another goes behind it, where their numbers differ
goes : (s t : Option ℤ) (m n : ℕ) → is_lt (ordering_then (option_cmp int_cmp t s) (nat_cmp n m)) ≡ false → (m ≡ n → ⊥) → GoesBefore (side_of s) m (side_of t) n
goes None None m n low apart = inr (refl, lower m n (nat_cmp n m) (ranked n m (nat_cmp n m) refl) low apart)
goes None (Some y) m n low apart = inl tt
goes (Some x) None m n low apart = absurd (true≢false low)
goes (Some x) (Some y) m n low apart = both x y m n (int_cmp y x) (int_ranked y x (int_cmp y x) refl) low apart

before_all : (a b c : Side) → BeginsBefore a b → BeginsBefore b c → BeginsBefore a c
before_all Open Open c h k = absurd h
before_all Open (At b) Open h k = absurd k
before_all Open (At b) (At c) h k = tt
before_all (At a) Open c h k = absurd h
before_all (At a) (At b) Open h k = absurd k
before_all (At a) (At b) (At c) h k = omega (arith, ints, h, k)

goes_on : (a b c : Side) (l m n : ℕ) → GoesBefore a l b m → GoesBefore b m c n → GoesBefore a l c n
goes_on a b c l m n (inl h) (inl k) = inl (before_all a b c h k)
goes_on a b c l m n (inl h) (inr k) = inl (subst (BeginsBefore a) k.0 h)
goes_on a b c l m n (inr h) (inl k) = inl (subst (λ s. BeginsBefore s c) (sym h.0) k)
goes_on a b c l m n (inr h) (inr k) = inr (h.0 ∙ k.0, omega (arith, h.1, k.1))

-- ---- all entries of a list

next : (nears : List Near) → IsSorted near_cmp nears → IsDistinct nat_eq (map (λ (n : Near). n.region) nears) → (k : ℕ) (d : Near) → k + 1 < length nears → Goes (get_or nears k d) (get_or nears (k + 1) d)
next nears sorted apart k d lt =
    let name : Near → ℕ = λ n. n.region in
    let long = length-map nears name in
    let differ = apart_from_distinct nat_eq (map name nears) k (k + 1) 0 apart (omega arith) (omega (arith, lt, long)) in
    let here = get_or-map name nears k d 0 (omega (arith, lt)) in
    let there = get_or-map name nears (k + 1) d 0 lt in
    goes (get_or nears k d).side (get_or nears (k + 1) d).side (get_or nears k d).region (get_or nears (k + 1) d).region (sorted k d (omega arith) lt)
    (λ same. eqb-false _ _ differ (here ∙ same ∙ sym there))

far : (nears : List Near) → IsSorted near_cmp nears → IsDistinct nat_eq (map (λ (n : Near). n.region) nears) → (i n : ℕ) (d : Near) → i + n + 1 < length nears → Goes (get_or nears i d) (get_or nears (i + n + 1) d)
far nears sorted apart i zero d lt = subst (λ j. Goes (get_or nears i d) (get_or nears j d)) {x = i + 1} {y = i + 0 + 1} (omega arith) (next nears sorted apart i d (omega (arith, lt)))
far nears sorted apart i (suc n) d lt =
    let first = far nears sorted apart i n d (omega (arith, lt)) in
    let more = next nears sorted apart (i + n + 1) d (omega (arith, lt)) in
    subst (λ j. Goes (get_or nears i d) (get_or nears j d)) {x = i + n + 1 + 1} {y = i + suc n + 1} (omega arith)
    (goes_on (side_of (get_or nears i d).side) (side_of (get_or nears (i + n + 1) d).side) (side_of (get_or nears (i + n + 1 + 1) d).side)
    (get_or nears i d).region (get_or nears (i + n + 1) d).region (get_or nears (i + n + 1 + 1) d).region first more)

apart_goes : (nears : List Near) → IsSorted near_cmp nears → IsDistinct nat_eq (map (λ (n : Near). n.region) nears) → (i j : ℕ) (d : Near) → i < j → j < length nears → Goes (get_or nears i d) (get_or nears j d)
apart_goes nears sorted apart i j d less lt =
    let e : i + (j - (i + 1)) + 1 ≡ j = omega (arith, less) in
    subst (λ k. Goes (get_or nears i d) (get_or nears k d)) e (far nears sorted apart i (j - (i + 1)) d (omega (arith, less, lt)))

-- sorted entries give the numbers in order
pub nearest_first : (dir : Dir) (regions : List Region) (count : ℕ) (nears : List Near) → AreNears dir regions count nears → IsSorted near_cmp nears → IsNearestFirst dir regions (map (λ (n : Near). n.region) nears)
nearest_first dir regions count [] are sorted i j less lt = absurd (omega (arith, lt))
nearest_first dir regions count (d ∷ rest) are sorted i j less lt =
    let nears : List Near = d ∷ rest in
    let name : Near → ℕ = λ n. n.region in
    let at : ℕ → Side = λ m. begins_at dir (slice_get regions m) in
    let within : j < length nears = omega (arith, lt, length-map nears name) in
    let here = get_or-map name nears i d 0 (omega (arith, less, within)) in
    let there = get_or-map name nears j d 0 within in
    let first : Near = get_or nears i d in
    let second : Near = get_or nears j d in
    let one : side_of first.side ≡ at first.region = All-get_or (λ (n : Near). side_of n.side ≡ at n.region) nears i d (omega (arith, less, within)) are.sides in
    let two : side_of second.side ≡ at second.region = All-get_or (λ (n : Near). side_of n.side ≡ at n.region) nears j d within are.sides in
    let ordered : GoesBefore (at first.region) first.region (at second.region) second.region =
    subst (λ s. GoesBefore (at first.region) first.region s second.region) two (subst (λ s. GoesBefore s first.region (side_of second.side) second.region) one (apart_goes nears sorted are.apart i j d less within)) in
    subst (λ n. GoesBefore (at (get_or (map name nears) i 0)) (get_or (map name nears) i 0) (at n) n) (sym there)
    (subst (λ m. GoesBefore (at m) m (at second.region) second.region) (sym here) ordered)

-- ---- no entry, one more, and another order of them

pub nears_none : (dir : Dir) (regions : List Region) → AreNears dir regions 0 []
unfolding IsDistinct
nears_none dir regions = record {
  order = record { below = All-nil (λ n. n < 0); all = λ n lt. absurd (omega (arith, lt)) };
  apart = tt;
  sides = All-nil (λ (n : Near). side_of n.side ≡ begins_at dir (slice_get regions n.region));
}

pub nears_next : (dir : Dir) (regions : List Region) (count : ℕ) (nears : List Near) (next : Near) → AreNears dir regions count nears → next.region ≡ count → side_of next.side ≡ begins_at dir (slice_get regions count)
    → AreNears dir regions (count + 1) (nears ++ next ∷ [])
nears_next dir regions count nears next are number side =
    let name : Near → ℕ = λ n. n.region in
    let names : map name (nears ++ next ∷ []) ≡ map name nears ++ count ∷ [] = map-append name nears (next ∷ []) ∙ ap (λ m. map name nears ++ m ∷ []) number in
    let fresh = list_any_none (nat_eq count) (map name nears) (All-weaker (λ n. n < count) (λ n. nat_eq count n ≡ false) (λ n lt. ne_eqb count n (λ e. omega (arith, lt, e))) (map name nears) are.order.below) in
    record {
      order = subst (IsOrderOf (count + 1)) (sym names) (order_next count (map name nears) are.order);
      apart = subst (IsDistinct nat_eq) (sym names) (IsDistinct-push nat_eq_equiv (map name nears) count are.apart fresh);
      sides = All-push (λ (n : Near). side_of n.side ≡ begins_at dir (slice_get regions n.region)) nears next are.sides (side ∙ ap (λ m. begins_at dir (slice_get regions m)) (sym number));
    }

flips : (x y : ℕ) → nat_eq x y ≡ nat_eq y x
flips x y = nat_eq_equiv.symm x y

pub nears_permuted : (dir : Dir) (regions : List Region) (count : ℕ) (xs ys : List Near) → IsPermutation xs ys → AreNears dir regions count xs → AreNears dir regions count ys
nears_permuted dir regions count xs ys moved are =
    let name : Near → ℕ = λ n. n.region in
    let names = IsPermutation-map name xs ys moved in
    record {
      order = order_permuted count (map name xs) (map name ys) names are.order;
      apart = IsDistinct-IsPermutation nat_eq flips (map name xs) (map name ys) names are.apart;
      sides = All-permutation (λ (n : Near). side_of n.side ≡ begins_at dir (slice_get regions n.region)) xs ys moved are.sides;
    }
