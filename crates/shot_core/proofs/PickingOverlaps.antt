-- The overlaps of all regions are those of the regions that claim something, but for the regions' numbers.
use mathlib.Core.Path.{fun_ext}
use Rattle.std.proofs.Common.{◌≡◌, ◌<◌, ◌+◌, ◌-◌, ℕ, zero, suc, List, [], ◌∷◌, ◌++◌, length, get_or, slice_get, map, flat_map, find, Bool, true, false, ◌&&◌, not, Option, Some, None, ap, sym, ◌∙◌, refl, inl, inr, arith}
use Rattle.std.specs.List.{filter_map, cons_option, range_with_len}
use Rattle.std.specs.Option.{option_map}
use Rattle.std.proofs.lemmas.Bool.{and_right}
use Rattle.std.proofs.lemmas.List.Elements.{filter_map-append}
use Rattle.bool_weave.specs.declared.woven.Woven.{Woven}
use Rattle.bool_weave.specs.Claims.{intervals_of}
use Rattle.bool_weave.proofs.Sorted.{Has}
use Rattle.overlap_list.specs.declared.region.RegionClaims.{RegionClaims}
use Rattle.overlap_list.specs.declared.overlap.OverlapRun.{OverlapRun}
use Rattle.overlap_list.specs.Winners.{claims_at}
use Rattle.overlap_list.specs.Runs.{IntervalRun, runs_below, is_maximal}
use Rattle.overlap_list.specs.Overlaps.{RegionPair, pairs_from, pairs_up_to, is_solid_at, do_overlap_at, overlap_on, first_overlap, overlaps_of}
use Rattle.overlap_list.proofs.Overlapping.{pair_of, no_run}
use Rattle.overlap_list.proofs.Ordered.{has_rows}
use Rattle.shot_core.specs.Steps.{marked_from, renumbered_run}
use Rattle.shot_core.proofs.Picking.{kept, LeavesOut, ClaimsNothing, as_many}

-- a number with each later one of a list
abbrev pub pairs_of : List ℕ → List RegionPair
pairs_of [] = []
pairs_of (n ∷ ns) = map (pair_of n) ns ++ pairs_of ns

rows_of : (a n : ℕ) → flat_map (pairs_from (a + n)) (range_with_len a n) ≡ pairs_of (range_with_len a (n + 1))
rows_of a zero = refl
rows_of a (suc n) =
    let e : a + suc n ≡ a + 1 + n = omega arith in
    let f : a + suc n - a ≡ n + 1 = omega arith in
    let g : suc n + 1 ≡ suc (n + 1) = omega arith in
    ap (λ k. map (pair_of a) (range_with_len (a + 1) k) ++ flat_map (pairs_from (a + suc n)) (range_with_len (a + 1) n)) f
    ∙ ap (λ k. map (pair_of a) (range_with_len (a + 1) (n + 1)) ++ flat_map (pairs_from k) (range_with_len (a + 1) n)) e
    ∙ ap (λ l. map (pair_of a) (range_with_len (a + 1) (n + 1)) ++ l) (rows_of (a + 1) n)
    ∙ ap (λ k. pairs_of (range_with_len a k)) (sym g)

pub pairs_is : (count : ℕ) → pairs_up_to (count - 1) ≡ pairs_of (range_with_len 0 count)
pairs_is zero = refl
pairs_is (suc n) =
    let e : suc n - 1 ≡ n = omega arith in
    let f : suc n ≡ n + 1 = omega arith in
    let z : 0 + n ≡ n = omega arith in
    ap pairs_up_to e ∙ ap (λ k. flat_map (pairs_from k) (range_with_len 0 n)) (sym z) ∙ rows_of 0 n ∙ ap (λ k. pairs_of (range_with_len 0 k)) (sym f)

pub chosen_same : {X Y : Type 0} (f g : X → Option Y) (xs : List X) → ((x : X) → Has xs x → f x ≡ g x) → filter_map f xs ≡ filter_map g xs
chosen_same f g [] h = refl
chosen_same f g (x ∷ xs) h = ap (λ o. cons_option o (filter_map f xs)) (h x (inl refl)) ∙ ap (λ l. cons_option (g x) l) (chosen_same f g xs (λ y there. h y (inr there)))

pub chosen_none : {X Y : Type 0} (f : X → Option Y) (xs : List X) → ((x : X) → Has xs x → f x ≡ None) → filter_map f xs ≡ []
chosen_none f [] h = refl
chosen_none f (x ∷ xs) h = ap (λ o. cons_option o (filter_map f xs)) (h x (inl refl)) ∙ chosen_none f xs (λ y there. h y (inr there))

pub chosen_from : {X Y Z : Type 0} (f : Y → Option Z) (g : X → Y) (xs : List X) → filter_map f (map g xs) ≡ filter_map (λ x. f (g x)) xs
chosen_from f g [] = refl
chosen_from f g (x ∷ xs) = ap (cons_option (f (g x))) (chosen_from f g xs)

cons_mapped : {Y Z : Type 0} (g : Y → Z) (o : Option Y) (ys : List Y) → cons_option (option_map g o) (map g ys) ≡ map g (cons_option o ys)
cons_mapped g None ys = refl
cons_mapped g (Some y) ys = refl

pub chosen_to : {X Y Z : Type 0} (f : X → Option Y) (g : Y → Z) (xs : List X) → filter_map (λ x. option_map g (f x)) xs ≡ map g (filter_map f xs)
chosen_to f g [] = refl
chosen_to f g (x ∷ xs) = ap (cons_option (option_map g (f x))) (chosen_to f g xs) ∙ cons_mapped g (f x) (filter_map f xs)

-- numbers that give no overlap may be left out
abbrev GivesNothing : (RegionPair → Option OverlapRun) → ℕ → Type 0
GivesNothing f n = (m : ℕ) → (f (pair_of n m) ≡ None) × (f (pair_of m n) ≡ None)

-- the numbers from n on, of which those without a mark give nothing
abbrev Leaves : (RegionPair → Option OverlapRun) → ℕ → List Bool → Type 0
Leaves f n [] = Unit {0}
Leaves f n (true ∷ ms) = Leaves f (n + 1) ms
Leaves f n (false ∷ ms) = GivesNothing f n × Leaves f (n + 1) ms

row_kept : (f : RegionPair → Option OverlapRun) (a n : ℕ) (ms : List Bool) → Leaves f n ms → filter_map f (map (pair_of a) (range_with_len n (length ms))) ≡ filter_map f (map (pair_of a) (marked_from n ms))
row_kept f a n [] h = refl
row_kept f a n (true ∷ ms) h = ap (cons_option (f (pair_of a n))) (row_kept f a (n + 1) ms h)
row_kept f a n (false ∷ ms) h = ap (λ o. cons_option o (filter_map f (map (pair_of a) (range_with_len (n + 1) (length ms))))) (h.0 a).1 ∙ row_kept f a (n + 1) ms h.1

has_row : (a : ℕ) (ns : List ℕ) (p : RegionPair) → Has (map (pair_of a) ns) p → (m : ℕ) × (pair_of a m ≡ p)
has_row a [] p h = absurd h
has_row a (n ∷ ns) p (inl e) = (n, e)
has_row a (n ∷ ns) p (inr h) = has_row a ns p h

pairs_kept : (f : RegionPair → Option OverlapRun) (n : ℕ) (ms : List Bool) → Leaves f n ms → filter_map f (pairs_of (range_with_len n (length ms))) ≡ filter_map f (pairs_of (marked_from n ms))
pairs_kept f n [] h = refl
pairs_kept f n (true ∷ ms) h =
    filter_map-append f (map (pair_of n) (range_with_len (n + 1) (length ms))) (pairs_of (range_with_len (n + 1) (length ms)))
    ∙ ap (λ l. l ++ filter_map f (pairs_of (range_with_len (n + 1) (length ms)))) (row_kept f n (n + 1) ms h)
    ∙ ap (λ l. filter_map f (map (pair_of n) (marked_from (n + 1) ms)) ++ l) (pairs_kept f (n + 1) ms h)
    ∙ sym (filter_map-append f (map (pair_of n) (marked_from (n + 1) ms)) (pairs_of (marked_from (n + 1) ms)))
pairs_kept f n (false ∷ ms) h =
    filter_map-append f (map (pair_of n) (range_with_len (n + 1) (length ms))) (pairs_of (range_with_len (n + 1) (length ms)))
    ∙ ap (λ l. l ++ filter_map f (pairs_of (range_with_len (n + 1) (length ms))))
    (chosen_none f (map (pair_of n) (range_with_len (n + 1) (length ms))) (λ p there. let m = has_row n (range_with_len (n + 1) (length ms)) p there in ap f (sym m.1) ∙ (h.0 m.0).0))
    ∙ pairs_kept f (n + 1) ms h.1

-- the pairs of numbers that are given by a list, from those of places in it
abbrev renamed : List ℕ → RegionPair → RegionPair
renamed numbers p = pair_of (get_or numbers p.one 0) (get_or numbers p.two 0)

row_renamed : (f : ℕ → ℕ) (a : ℕ) (ns : List ℕ) → map (pair_of (f a)) (map f ns) ≡ map (λ (p : RegionPair). pair_of (f p.one) (f p.two)) (map (pair_of a) ns)
row_renamed f a [] = refl
row_renamed f a (n ∷ ns) = ap (λ l. pair_of (f a) (f n) ∷ l) (row_renamed f a ns)

pub mapped_append : {X Y : Type 0} (g : X → Y) (xs ys : List X) → map g (xs ++ ys) ≡ map g xs ++ map g ys
mapped_append g [] ys = refl
mapped_append g (x ∷ xs) ys = ap (λ l. g x ∷ l) (mapped_append g xs ys)

pairs_renamed : (f : ℕ → ℕ) (ns : List ℕ) → pairs_of (map f ns) ≡ map (λ (p : RegionPair). pair_of (f p.one) (f p.two)) (pairs_of ns)
pairs_renamed f [] = refl
pairs_renamed f (n ∷ ns) =
    ap (λ l. l ++ pairs_of (map f ns)) (row_renamed f n ns)
    ∙ ap (λ l. map (λ (p : RegionPair). pair_of (f p.one) (f p.two)) (map (pair_of n) ns) ++ l) (pairs_renamed f ns)
    ∙ sym (mapped_append (λ (p : RegionPair). pair_of (f p.one) (f p.two)) (map (pair_of n) ns) (pairs_of ns))

-- a list is what it has at its places
shifted : (xs ns : List ℕ) (x a n : ℕ) → map (λ i. get_or (x ∷ xs) i 0) (range_with_len (a + 1) n) ≡ map (λ i. get_or xs i 0) (range_with_len a n)
shifted xs ns x a zero = refl
shifted xs ns x a (suc n) =
    let e : a + 1 ≡ suc a = omega arith in
    ap (λ i. get_or (x ∷ xs) i 0 ∷ map (λ i. get_or (x ∷ xs) i 0) (range_with_len (a + 1 + 1) n)) e ∙ ap (λ l. get_or xs a 0 ∷ l) (shifted xs ns x (a + 1) n)

listed : (xs : List ℕ) → map (λ i. get_or xs i 0) (range_with_len 0 (length xs)) ≡ xs
listed [] = refl
listed (x ∷ xs) = ap (λ l. x ∷ l) (shifted xs [] x 0 (length xs) ∙ listed xs)

count_all : (ms : List Bool) (xs : List RegionClaims) → LeavesOut ClaimsNothing ms xs → length xs ≡ length ms
count_all [] [] h = refl
count_all [] (x ∷ xs) h = absurd h
count_all (true ∷ ms) [] h = absurd h
count_all (false ∷ ms) [] h = absurd h
count_all (true ∷ ms) (x ∷ xs) h = ap (λ k. suc k) (count_all ms xs h)
count_all (false ∷ ms) (x ∷ xs) h = ap (λ k. suc k) (count_all ms xs h.1)

-- where a marked value stands among all
record IsKeptAt (ms : List Bool) (xs : List RegionClaims) (n i : ℕ) : Type 0 where
  place : ℕ
  number : get_or (marked_from n ms) i 0 ≡ n + place
  same : slice_get xs place ≡ slice_get (kept ms xs) i

place_kept : (ms : List Bool) (xs : List RegionClaims) (n i : ℕ) → i < length (kept ms xs) → IsKeptAt ms xs n i
place_kept [] xs n i lt = absurd (omega (arith, lt))
place_kept (m ∷ ms) [] n i lt = absurd (omega (arith, lt))
place_kept (true ∷ ms) (x ∷ xs) n zero lt = record { place = zero; number = omega arith; same = refl }
place_kept (true ∷ ms) (x ∷ xs) n (suc i) lt =
    let k = place_kept ms xs (n + 1) i (omega (arith, lt)) in
    record { place = suc k.place; number = omega (arith, k.number); same = k.same }
place_kept (false ∷ ms) (x ∷ xs) n i lt =
    let k = place_kept ms xs (n + 1) i lt in
    record { place = suc k.place; number = omega (arith, k.number); same = k.same }

gives_nothing : (woven : List Woven) (regions : List RegionClaims) (n : ℕ) → ((k : ℕ) → is_solid_at (slice_get regions n) k ≡ false) → GivesNothing (first_overlap woven regions) n
gives_nothing woven regions n h = λ m. (
  ap (overlap_on woven (pair_of n m)) (no_run (do_overlap_at regions (pair_of n m)) (length (intervals_of woven)) (λ k. ap (λ b. b && is_solid_at (slice_get regions m) k) (h k))),
  ap (overlap_on woven (pair_of m n)) (no_run (do_overlap_at regions (pair_of m n)) (length (intervals_of woven)) (λ k. and_right (is_solid_at (slice_get regions m) k) (is_solid_at (slice_get regions n) k) (h k))),
)

leaves_from : (woven : List Woven) (all : List RegionClaims) (n : ℕ) (ms : List Bool) (xs : List RegionClaims) → ((k : ℕ) → slice_get all (n + k) ≡ slice_get xs k)
    → LeavesOut ClaimsNothing ms xs → Leaves (first_overlap woven all) n ms
leaves_from woven all n [] xs at h = tt
leaves_from woven all n (true ∷ ms) [] at h = absurd h
leaves_from woven all n (false ∷ ms) [] at h = absurd h
leaves_from woven all n (true ∷ ms) (x ∷ xs) at h =
    leaves_from woven all (n + 1) ms xs (λ k. let e : n + 1 + k ≡ n + suc k = omega arith in ap (slice_get all) e ∙ at (suc k)) h
leaves_from woven all n (false ∷ ms) (x ∷ xs) at h =
    let here : slice_get all n ≡ Some x = let e : n ≡ n + zero = omega arith in ap (slice_get all) e ∙ at zero in (
      gives_nothing woven all n (λ k. ap (λ o. is_solid_at o k) here ∙ and_right (not x.air) (claims_at x k) (h.0 k)),
      leaves_from woven all (n + 1) ms xs (λ k. let e : n + 1 + k ≡ n + suc k = omega arith in ap (slice_get all) e ∙ at (suc k)) h.1,
    )

renamed_run : (woven : List Woven) (numbers : List ℕ) (p : RegionPair) (o : Option IntervalRun) → overlap_on woven (renamed numbers p) o ≡ option_map (renumbered_run numbers) (overlap_on woven p o)
renamed_run woven numbers p None = refl
renamed_run woven numbers p (Some run) = refl

module _ (woven : List Woven) (ms : List Bool) (all : List RegionClaims) (out : LeavesOut ClaimsNothing ms all) where
  kept_place : (i : ℕ) → i < length (kept ms all) → slice_get all (get_or (marked_from 0 ms) i 0) ≡ slice_get (kept ms all) i
  kept_place i lt =
      let k = place_kept ms all 0 i lt in
      let e : get_or (marked_from 0 ms) i 0 ≡ k.place = omega (arith, k.number) in
      ap (slice_get all) e ∙ k.same

  overlap_kept : (p : RegionPair) → p.one < length (kept ms all) → p.two < length (kept ms all)
      → first_overlap woven all (renamed (marked_from 0 ms) p) ≡ option_map (renumbered_run (marked_from 0 ms)) (first_overlap woven (kept ms all) p)
  overlap_kept p in_one in_two =
      let same : do_overlap_at all (renamed (marked_from 0 ms) p) ≡ do_overlap_at (kept ms all) p = fun_ext (λ k.
      ap (λ o. is_solid_at o k && is_solid_at (slice_get all (get_or (marked_from 0 ms) p.two 0)) k) (kept_place p.one in_one)
      ∙ ap (λ o. is_solid_at (slice_get (kept ms all) p.one) k && is_solid_at o k) (kept_place p.two in_two)) in
      ap (λ (has : ℕ → Bool). overlap_on woven (renamed (marked_from 0 ms) p) (find (is_maximal has) (runs_below (length (intervals_of woven))))) same
      ∙ renamed_run woven (marked_from 0 ms) p (find (is_maximal (do_overlap_at (kept ms all) p)) (runs_below (length (intervals_of woven))))

  pub overlaps_kept : overlaps_of woven all ≡ map (renumbered_run (marked_from 0 ms)) (overlaps_of woven (kept ms all))
  overlaps_kept =
      let count : length (kept ms all) ≡ length (marked_from 0 ms) = as_many ClaimsNothing ms all 0 out in
      ap (filter_map (first_overlap woven all)) (pairs_is (length all) ∙ ap (λ n. pairs_of (range_with_len 0 n)) (count_all ms all out))
      ∙ pairs_kept (first_overlap woven all) 0 ms (leaves_from woven all 0 ms all (λ k. let e : 0 + k ≡ k = omega arith in ap (slice_get all) e) out)
      ∙ ap (λ l. filter_map (first_overlap woven all) (pairs_of l)) (sym (listed (marked_from 0 ms)))
      ∙ ap (filter_map (first_overlap woven all)) (pairs_renamed (λ i. get_or (marked_from 0 ms) i 0) (range_with_len 0 (length (marked_from 0 ms))))
      ∙ chosen_from (first_overlap woven all) (renamed (marked_from 0 ms)) (pairs_of (range_with_len 0 (length (marked_from 0 ms))))
      ∙ ap (λ n. filter_map (λ p. first_overlap woven all (renamed (marked_from 0 ms) p)) (pairs_of (range_with_len 0 n))) (sym count)
      ∙ ap (filter_map (λ p. first_overlap woven all (renamed (marked_from 0 ms) p))) (sym (pairs_is (length (kept ms all))))
      ∙ chosen_same (λ p. first_overlap woven all (renamed (marked_from 0 ms) p)) (λ p. option_map (renumbered_run (marked_from 0 ms)) (first_overlap woven (kept ms all) p)) (pairs_up_to (length (kept ms all) - 1))
      (λ p there.
      let m = has_rows pair_of (length (kept ms all) - 1) 0 (length (kept ms all) - 1) p there in
      overlap_kept p (omega (arith, ap (λ (q : RegionPair). q.one) m.2, m.4, m.5)) (omega (arith, ap (λ (q : RegionPair). q.two) m.2, m.4, m.5)))
      ∙ chosen_to (first_overlap woven (kept ms all)) (renumbered_run (marked_from 0 ms)) (pairs_up_to (length (kept ms all) - 1))
