-- The places of the boxes of which a test holds: which they are, and that they rise.
use Rattle.std.proofs.Common.{◌≡◌, ◌↔◌, ◌<◌, ◌≤◌, ◌+◌, ℕ, zero, suc, List, [], ◌∷◌, ◌++◌, length, get_or, take, map, filter, Contains, Bool, true, false, cond, IsTrue, ap, sym, subst, ◌∙◌, refl, inl, inr, arith, slice_index_or, append_assoc, length-append}
use Rattle.std.specs.List.{AllByRecursion}
use Rattle.std.specs.List.Sorted.{IsStrictlySortedBy, IsStrictlyIncreasing}
use Rattle.std.specs.Ordering.{nat_cmp}
use Rattle.std.specs.Cmp.{nat_cmp_is}
use Rattle.std.specs.declared.cmp.Ordering.TheVariants.{Less}
use Rattle.std.proofs.lemmas.Bool.{cond-true, cond-false, cond_both, cases_Bool}
use Rattle.std.proofs.Math.Seq.{get_or-append_seam}
use Rattle.std.proofs.lemmas.List.{get_or-map, length-map, length-take, take_more, take_all}
use Rattle.std.proofs.lemmas.List.Elements.{Contains-get_or}
use Rattle.std.proofs.lemmas.Map.Keys.{IsStrictlyIncreasing-from_sorted, sorted_from_strictly_increasing}
use Rattle.lattice_core.specs.declared.boxes.Box3.{Box3}
use Rattle.lattice_core.specs.declared.boxes.Box3.TheVariants.{Empty}
use Rattle.box_index.specs.Places.{ArePlacesOf, places_from, places_where}
use Rattle.box_index.proofs.Members.{at_head, in_tail, none_in, head_or_tail, same_sorted}

-- ---- they rise
less : (m n : ℕ) → m < n → nat_cmp m n ≡ Less
less m n lt = sym (nat_cmp_is m n Less lt)

all_above : (f : Box3 → Bool) (bs : List Box3) (m n : ℕ) → m < n → AllByRecursion (λ y. nat_cmp m y ≡ Less) (places_from n f bs)
all_above f [] m n lt = tt
all_above f (b ∷ bs) m n lt =
    let rest = all_above f bs m (n + 1) (omega arith) in
    cond_both (f b) (n ∷ places_from (n + 1) f bs) (places_from (n + 1) f bs) (AllByRecursion (λ y. nat_cmp m y ≡ Less)) (λ h. (less m n lt, rest)) (λ h. rest)

places_sorted : (f : Box3 → Bool) (bs : List Box3) (n : ℕ) → IsStrictlySortedBy nat_cmp (places_from n f bs)
unfolding IsStrictlySortedBy
places_sorted f [] n = tt
places_sorted f (b ∷ bs) n =
    let rest = places_sorted f bs (n + 1) in
    cond_both (f b) (n ∷ places_from (n + 1) f bs) (places_from (n + 1) f bs) (IsStrictlySortedBy nat_cmp) (λ h. (all_above f bs n (n + 1) (omega arith), rest)) (λ h. rest)

pub places_rise : (f : Box3 → Bool) (bs : List Box3) → IsStrictlyIncreasing (places_where f bs)
places_rise f bs = IsStrictlyIncreasing-from_sorted (places_where f bs) (places_sorted f bs 0)

-- ---- which they are: i is one where the box at i, counted from n, passes
record IsPlaceFrom (n : ℕ) (f : Box3 → Bool) (bs : List Box3) (i : ℕ) : Type 0 where
  k : ℕ
  is : i ≡ n + k
  below : k < length bs
  passes : f (slice_index_or bs k Empty) ≡ true

place_head : (n : ℕ) (f : Box3 → Bool) (b : Box3) (bs : List Box3) (i : ℕ) → n ≡ i → f b ≡ true → IsPlaceFrom n f (b ∷ bs) i
place_head n f b bs i e h = record { k = 0; is = omega (arith, e); below = omega arith; passes = h }

place_tail : (n : ℕ) (f : Box3 → Bool) (b : Box3) (bs : List Box3) (i : ℕ) → IsPlaceFrom (n + 1) f bs i → IsPlaceFrom n f (b ∷ bs) i
place_tail n f b bs i p = record { k = suc p.k; is = omega (arith, p.is); below = omega (arith, p.below); passes = p.passes }

is_place : (f : Box3 → Bool) (bs : List Box3) (n i : ℕ) → Contains (places_from n f bs) i → IsPlaceFrom n f bs i
is_place f [] n i c = absurd (none_in i c)
is_place f (b ∷ bs) n i c =
    elim (cases_Bool (f b)) [
      | inl h ↦ elim (head_or_tail n (places_from (n + 1) f bs) i (subst (λ l. Contains l i) (cond-true (f b) (n ∷ places_from (n + 1) f bs) (places_from (n + 1) f bs) h) c)) [
        | inl e ↦ place_head n f b bs i e h
        | inr rest ↦ place_tail n f b bs i (is_place f bs (n + 1) i rest)
      ]
      | inr h ↦ place_tail n f b bs i (is_place f bs (n + 1) i (subst (λ l. Contains l i) (cond-false (f b) (n ∷ places_from (n + 1) f bs) (places_from (n + 1) f bs) h) c))
    ]

has_place : (f : Box3 → Bool) (bs : List Box3) (n i k : ℕ) → i ≡ n + k → k < length bs → f (slice_index_or bs k Empty) ≡ true → Contains (places_from n f bs) i
has_place f [] n i k is lt h = absurd (omega (arith, lt))
has_place f (b ∷ bs) n i zero is lt h =
    let e : n ≡ i = omega (arith, is) in
    subst (λ l. Contains l i) (sym (cond-true (f b) (n ∷ places_from (n + 1) f bs) (places_from (n + 1) f bs) h)) (subst (λ (m : ℕ). Contains (m ∷ places_from (n + 1) f bs) i) (sym e) (at_head i (places_from (n + 1) f bs)))
has_place f (b ∷ bs) n i (suc k) is lt h =
    let rest = has_place f bs (n + 1) i k (omega (arith, is)) (omega arith) h in
    cond_both (f b) (n ∷ places_from (n + 1) f bs) (places_from (n + 1) f bs) (λ l. Contains l i) (λ h. in_tail n (places_from (n + 1) f bs) i rest) (λ h. rest)

pub place_passes : (f : Box3 → Bool) (bs : List Box3) (i : ℕ) → Contains (places_where f bs) i ↔ ((i < length bs) × IsTrue (f (slice_index_or bs i Empty)))
place_passes f bs i = (
  λ c.
      let p = is_place f bs 0 i c in
      let e : p.k ≡ i = omega (arith, p.is) in
      (omega (arith, p.below, e), subst (λ (k : ℕ). f (slice_index_or bs k Empty) ≡ true) e p.passes),
  λ h. has_place f bs 0 i i (omega arith) h.0 h.1,
)

-- places of boxes of which P holds are those of a test that tells P
pub places_are : (P : Box3 → Type 0) (f : Box3 → Bool) (boxes : List Box3) (places : List ℕ) → ((b : Box3) → IsTrue (f b) ↔ P b) → ArePlacesOf P boxes places → places ≡ places_where f boxes
places_are P f boxes places tells are =
    same_sorted places (places_where f boxes) (sorted_from_strictly_increasing places are.rising) (places_sorted f boxes 0)
    (λ i c. let h = (are.exact i).0 c in (place_passes f boxes i).1 (h.0, (tells (slice_index_or boxes i Empty)).1 h.1))
    (λ i c. let h = (place_passes f boxes i).0 c in (are.exact i).1 (h.0, (tells (slice_index_or boxes i Empty)).0 h.1))

-- one more box at the end
one_more_from : (f : Box3 → Bool) (bs : List Box3) (n : ℕ) (b : Box3) → places_from n f (bs ++ b ∷ []) ≡ places_from n f bs ++ cond (f b) ((n + length bs) ∷ []) []
one_more_from f [] n b = ap (λ (k : ℕ). cond (f b) (k ∷ []) []) (omega arith)
one_more_from f (c ∷ bs) n b =
    let rest = one_more_from f bs (n + 1) b in
    let e : (n + 1) + length bs ≡ n + length (c ∷ bs) = omega arith in
    let rest' : places_from (n + 1) f (bs ++ b ∷ []) ≡ places_from (n + 1) f bs ++ cond (f b) ((n + length (c ∷ bs)) ∷ []) [] = rest ∙ ap (λ (k : ℕ). places_from (n + 1) f bs ++ cond (f b) (k ∷ []) []) e in
    let last = cond (f b) ((n + length (c ∷ bs)) ∷ []) [] in
    let P = λ (t : Bool). cond t (n ∷ places_from (n + 1) f (bs ++ b ∷ [])) (places_from (n + 1) f (bs ++ b ∷ [])) ≡ cond t (n ∷ places_from (n + 1) f bs) (places_from (n + 1) f bs) ++ last in
    elim (f c) as P [ true ↦ ap (λ l. n ∷ l) rest' | false ↦ rest' ]

-- a loop over the boxes: one more box
pub places_more : (f : Box3 → Bool) (boxes : List Box3) (i : ℕ) (old new : List ℕ) (t : Bool) → i < length boxes → t ≡ f (get_or boxes i Empty) → old ≡ places_where f (take i boxes)
    → new ≡ old ++ cond t (i ∷ []) [] → new ≡ places_where f (take (i + 1) boxes)
places_more f boxes i old new t lt is before after =
    let b = get_or boxes i Empty in
    let long : 0 + length (take i boxes) ≡ i = omega (arith, length-take i boxes) in
    after ∙ ap (λ (l : List ℕ). l ++ cond t (i ∷ []) []) before ∙ ap (λ (s : Bool). places_where f (take i boxes) ++ cond s (i ∷ []) []) is
    ∙ ap (λ (k : ℕ). places_where f (take i boxes) ++ cond (f b) (k ∷ []) []) (sym long) ∙ sym (one_more_from f (take i boxes) 0 b)
    ∙ ap (λ (l : List Box3). places_from 0 f l) (sym (take_more boxes i Empty lt))

-- ---- the elements at the places
module _ {X : Type 0} (f : Box3 → Bool) (box : X → Box3) where
  elements_from : (pre rest : List X) (d : X) → map (λ i. get_or (pre ++ rest) i d) (places_from (length pre) f (map box rest)) ≡ filter (λ r. f (box r)) rest
  elements_from pre [] d = refl
  elements_from pre (r ∷ rest) d =
      let n = length pre in
      let g : ℕ → X = λ i. get_or (pre ++ r ∷ rest) i d in
      let more = places_from (n + 1) f (map box rest) in
      let whole : (pre ++ r ∷ []) ++ rest ≡ pre ++ r ∷ rest = append_assoc pre (r ∷ []) rest in
      let long : length (pre ++ r ∷ []) ≡ n + 1 = length-append pre (r ∷ []) in
      let later : map g more ≡ filter (λ r. f (box r)) rest =
      subst (λ (l : List X). map (λ i. get_or l i d) more ≡ filter (λ r. f (box r)) rest) whole
      (subst (λ (k : ℕ). map (λ i. get_or ((pre ++ r ∷ []) ++ rest) i d) (places_from k f (map box rest)) ≡ filter (λ r. f (box r)) rest) long (elements_from (pre ++ r ∷ []) rest d)) in
      let first : g n ≡ r = get_or-append_seam pre r rest d in
      let both : g n ∷ map g more ≡ r ∷ filter (λ r. f (box r)) rest = ap (λ (l : List X). g n ∷ l) later ∙ ap (λ (x : X). x ∷ filter (λ r. f (box r)) rest) first in
      elim (f (box r)) as (λ (t : Bool). map g (cond t (n ∷ more) more) ≡ cond t (r ∷ filter (λ r. f (box r)) rest) (filter (λ r. f (box r)) rest)) [ true ↦ both | false ↦ later ]

  -- the elements at the places of the boxes that pass are the elements whose boxes pass
  pub elements_at_places : (rs : List X) (d : X) → map (λ i. slice_index_or rs i d) (places_where f (map box rs)) ≡ filter (λ r. f (box r)) rs
  elements_at_places rs d = elements_from [] rs d

  count_from : (n : ℕ) (rs : List X) → length (places_from n f (map box rs)) ≡ length (filter (λ r. f (box r)) rs)
  count_from n [] = refl
  count_from n (r ∷ rs) =
      let rest = count_from (n + 1) rs in
      elim (f (box r)) as (λ (t : Bool). length (cond t (n ∷ places_from (n + 1) f (map box rs)) (places_from (n + 1) f (map box rs))) ≡ length (cond t (r ∷ filter (λ r. f (box r)) rs) (filter (λ r. f (box r)) rs)))
      [ true ↦ ap suc rest | false ↦ rest ]

  -- there are as many
  pub places_count : (rs : List X) → length (places_where f (map box rs)) ≡ length (filter (λ r. f (box r)) rs)
  places_count rs = count_from 0 rs

  -- each place is one of an element
  pub place_below : (rs : List X) (places : List ℕ) (k : ℕ) → places ≡ places_where f (map box rs) → k < length places → slice_index_or places k 0 < length rs
  place_below rs places k are lt =
      let has = (place_passes f (map box rs) (get_or places k 0)).0 (subst (λ (l : List ℕ). Contains l (get_or places k 0)) are (Contains-get_or places k 0 lt)) in
      omega (arith, has.0, length-map rs box)

  -- a loop over the places: one more element
  pub elements_more : (rs : List X) (places : List ℕ) (k : ℕ) (x : X) (kept : List X) → places ≡ places_where f (map box rs) → k < length places → x ≡ slice_index_or rs (slice_index_or places k 0) x
      → kept ≡ take k (filter (λ r. f (box r)) rs) → kept ++ x ∷ [] ≡ take (k + 1) (filter (λ r. f (box r)) rs)
  elements_more rs places k x kept are lt is before =
      let all = filter (λ r. f (box r)) rs in
      let ps = places_where f (map box rs) in
      let lt' : k < length ps = subst (λ (l : List ℕ). k < length l) are lt in
      let here : get_or all k x ≡ x =
      ap (λ (l : List X). get_or l k x) (sym (elements_at_places rs x)) ∙ get_or-map (λ (i : ℕ). get_or rs i x) ps k 0 x lt'
      ∙ ap (λ (l : List ℕ). get_or rs (get_or l k 0) x) (sym are) ∙ sym is in
      let long : k < length all = omega (arith, lt', places_count rs) in
      ap (λ (l : List X). l ++ x ∷ []) before ∙ ap (λ (y : X). take k all ++ y ∷ []) (sym here) ∙ sym (take_more all k x long)

  -- and after the last place all of them
  pub elements_all : (rs : List X) (places : List ℕ) (k : ℕ) (kept : List X) → places ≡ places_where f (map box rs) → length places ≤ k → kept ≡ take k (filter (λ r. f (box r)) rs) → kept ≡ filter (λ r. f (box r)) rs
  elements_all rs places k kept are le before =
      let short : length (places_where f (map box rs)) ≤ k = subst (λ (l : List ℕ). length l ≤ k) are le in
      before ∙ take_all k (filter (λ r. f (box r)) rs) (omega (arith, short, places_count rs))
