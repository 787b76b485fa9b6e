-- What is sorted of a rearranged list of places: rising places of those that pass.
use Rattle.std.proofs.Common.{◌≡◌, ◌≢◌, ◌↔◌, ◌<◌, ℕ, eqb, inl, inr, List, get_or, filter, Bool, IsTrue, ◌&&◌, sym, ◌∙◌, arith, slice_index_or}
use Rattle.std.specs.List.{IsDistinct}
use Rattle.std.specs.List.Sorted.{IsPermutation, IsSorted, IsStrictlyIncreasing}
use Rattle.std.specs.Ordering.{nat_cmp}
use Rattle.std.proofs.lemmas.Bool.{and_parts, and_from, ne_eqb, eqb-true, eqb-false, eq-eqb, cases_Bool}
use Rattle.std.proofs.lemmas.Bool.Decides.{Decides-eqb}
use Rattle.std.proofs.lemmas.List.Kept.{AllPairs-from_increasing, AllPairs-filter}
use Rattle.std.proofs.lemmas.List.Sorted.{IsPermutation-sym, Contains-permutation, IsNonDecreasingBy-from_sort}
use Rattle.std.proofs.lemmas.Map.Keys.{IsDistinct-IsPermutation, IsStrictlyIncreasing-from_distinct}
use Rattle.std.proofs.lemmas.Map.Made.{AllPairs-from_IsDistinct, IsDistinct-from_AllPairs}
use Rattle.lattice_core.specs.declared.boxes.Box3.{Box3}
use Rattle.lattice_core.specs.declared.boxes.Box3.TheVariants.{Empty}
use Rattle.box_index.specs.Places.{ArePlacesOf, places_where}
use Rattle.box_index.proofs.Members.{passes, was_in, is_kept}
use Rattle.box_index.proofs.Placing.{places_rise, place_passes}

flips : (x y : ℕ) → eqb x y ≡ eqb y x
flips x y =
    elim (cases_Bool (eqb x y)) [
      | inl h ↦ h ∙ sym (eq-eqb y x (sym (eqb-true x y h)))
      | inr h ↦ h ∙ sym (ne_eqb y x (λ e. eqb-false x y h (sym e)))
    ]

apart : (xs : List ℕ) → IsStrictlyIncreasing xs → IsDistinct eqb xs
apart xs rising = IsDistinct-from_AllPairs Decides-eqb xs (λ i j d below within. let lt : get_or xs i d < get_or xs j d = AllPairs-from_increasing xs rising i j d below within in λ e. omega (arith, e))

some_apart : (t : ℕ → Bool) (xs : List ℕ) → IsDistinct eqb xs → IsDistinct eqb (filter t xs)
some_apart t xs h = IsDistinct-from_AllPairs Decides-eqb (filter t xs) (AllPairs-filter (λ x y. x ≢ y) t xs (AllPairs-from_IsDistinct Decides-eqb xs h))

-- all are the places of the boxes that pass f, in some order; out are those of them that pass t, sorted
pub sorted_places : (f : Box3 → Bool) (g : Box3 → Bool) (boxes : List Box3) (all out : List ℕ) → IsPermutation (places_where f boxes) all
    → IsPermutation (filter (λ i. g (slice_index_or boxes i Empty)) all) out → IsSorted nat_cmp out → ArePlacesOf (λ b. IsTrue (f b && g b)) boxes out
sorted_places f g boxes all out moved chosen sorted =
    let t : ℕ → Bool = λ i. g (slice_index_or boxes i Empty) in
    let distinct : IsDistinct eqb out =
    IsDistinct-IsPermutation eqb flips (filter t all) out chosen
    (some_apart t all (IsDistinct-IsPermutation eqb flips (places_where f boxes) all moved (apart (places_where f boxes) (places_rise f boxes)))) in
    record {
      rising = IsStrictlyIncreasing-from_distinct out (IsNonDecreasingBy-from_sort (λ x. x) out sorted) distinct;
      exact = λ i. (
        λ c.
            let back = Contains-permutation out (filter t all) i (IsPermutation-sym (filter t all) out chosen) c in
            let given = (place_passes f boxes i).0 (Contains-permutation all (places_where f boxes) i (IsPermutation-sym (places_where f boxes) all moved) (was_in t all i back)) in
            (given.0, and_from (f (slice_index_or boxes i Empty)) (g (slice_index_or boxes i Empty)) given.1 (passes t all i back)),
        λ h.
            let both = and_parts (f (slice_index_or boxes i Empty)) (g (slice_index_or boxes i Empty)) h.1 in
            let given = Contains-permutation (places_where f boxes) all i moved ((place_passes f boxes i).1 (h.0, both.0)) in
            Contains-permutation (filter t all) out i chosen (is_kept t all i given both.1),
      );
    }

-- the same of a fact that holds of the same boxes
pub places_alike : (P Q : Box3 → Type 0) (boxes : List Box3) (places : List ℕ) → ((b : Box3) → P b ↔ Q b) → ArePlacesOf P boxes places → ArePlacesOf Q boxes places
places_alike P Q boxes places alike are = record {
  rising = are.rising;
  exact = λ i. (
    λ c. let h = (are.exact i).0 c in (h.0, (alike (slice_index_or boxes i Empty)).0 h.1),
    λ h. (are.exact i).1 (h.0, (alike (slice_index_or boxes i Empty)).1 h.1),
  );
}
