-- The path of a place, and how long the lines of regions that overlap are.
use Rattle.std.proofs.Common.{◌≡◌, ◌≢◌, ◌≤◌, ◌<◌, ◌+◌, ◌*◌, ◌/◌, ◌%◌, ◌==◌, ◌++◌, ◌∙◌, ◌∷◌, [], ℕ, zero, suc, Bool, true, false, cond, ap, refl, sym, subst, arith, codes, decimal, find, get_or, length, length-append, List, Some, None, inl, inr}
use Rattle.std.specs.Fmt.{digits, digits_onto, digit_glyph}
use Rattle.std.specs.List.{AllPairs, HoldsAt}
use Rattle.std.specs.List.Sorted.{IsNonDecreasingBy, IsPartitionPoint}
use Rattle.std.specs.Ordering.{nat_cmp, ordering_index}
use Rattle.std.proofs.lemmas.Cmp.{ranked}
use Rattle.std.proofs.lemmas.Bool.{cases_lt}
use Rattle.std.proofs.lemmas.Bool.Decides.{nat_tests}
use Rattle.std.specs.declared.cmp.Ordering.TheVariants.{Less, Equal, Greater}
use Rattle.surd_order.specs.Text.{position_text}
use Rattle.transcript.specs.Lines.{Lacks, text_of, ended}
use Rattle.transcript.proofs.LineLaws.{lacks_append}
use Rattle.transcript.proofs.TranscriptLaws.{computed}
use Rattle.shot_core.specs.Regions.{Region, IsPathText}
use Rattle.shot_core.specs.declared.pair.Pair.{Pair}
use Rattle.report_text.specs.Overlaps.{path_in, path_at, place_words, rays_words, pair_line, overlap_lines, LinesAreLong, ManyPairsAreLong}
use Rattle.report_text.proofs.ShotLaws.{number_lacks, position_lacks, path_lacks, after_blank}

has_place : ℕ → Region → Bool
has_place place r = r.place == place

other_place : (p q : ℕ) → p ≢ q → (p == q) ≡ false
other_place p q h = grind (arith, nat_tests, h)

same_place : (p q : ℕ) → p ≡ q → (p == q) ≡ true
same_place p q h = grind (arith, nat_tests, h)

-- no region has a place
none_at : (regions : List Region) (place : ℕ) → ((k : ℕ) (d : Region) → k < length regions → (get_or regions k d).place ≢ place) → find (λ r. r.place == place) regions ≡ None
none_at [] place h = refl
none_at (r ∷ rs) place h =
    ap (λ b. cond b (Some r) (find (λ s. s.place == place) rs)) (other_place r.place place (h zero r (omega arith)))
    ∙ none_at rs place (λ k d lt. h (suc k) d (omega (arith, lt)))

-- the first region that has it
first_at : (regions : List Region) (place at : ℕ) (d : Region) → at < length regions → (get_or regions at d).place ≡ place
    → ((k : ℕ) → k < at → (get_or regions k d).place ≢ place) → find (λ r. r.place == place) regions ≡ Some (get_or regions at d)
first_at [] place at d lt is h = absurd (omega (arith, lt))
first_at (r ∷ rs) place zero d lt is h = ap (λ b. cond b (Some r) (find (λ s. s.place == place) rs)) (same_place r.place place is)
first_at (r ∷ rs) place (suc at) d lt is h =
    ap (λ b. cond b (Some r) (find (λ s. s.place == place) rs)) (other_place r.place place (h zero (omega arith)))
    ∙ first_at rs place at d (omega (arith, lt)) is (λ k below. h (suc k) (omega (arith, below)))

compares_up : (a b k : ℕ) → a ≤ b → ordering_index (nat_cmp a k) ≤ ordering_index (nat_cmp b k)
compares_up a b k le = grind (arith, nat_tests)

-- what a search by place among rising places finds
module _ (regions : List Region) (place : ℕ) (rising : AllPairs (λ (r s : Region). r.place < s.place) regions) where
  comparisons_rise : IsNonDecreasingBy (λ (r : Region). ordering_index (nat_cmp r.place place)) regions
  comparisons_rise i j d le lt =
      let rise : (get_or regions i d).place ≤ (get_or regions j d).place = elim (cases_lt i j) [ inl before ↦ omega (arith, rising i j d before lt) | inr after ↦ let same : i ≡ j = omega (arith, le, after) in omega (arith, ap (λ n. (get_or regions n d).place) same) ] in
      compares_up (get_or regions i d).place (get_or regions j d).place place rise

  pub path_found : (at : ℕ) (region : Region) → at < length regions → HoldsAt (λ (r : Region). nat_cmp r.place place ≡ Equal) regions at → region ≡ get_or regions at region → region.path ≡ path_at regions place
  path_found at region lt equal is =
      let there : (get_or regions at region).place ≡ place = ranked (get_or regions at region).place place _ (sym (equal region)) in
      ap path_in (ap Some is ∙ sym (first_at regions place at region lt there (λ k below e. absurd (omega (arith, rising k at region below lt, e, there)))))

  pub path_missing : (at : ℕ) → (IsNonDecreasingBy (λ (r : Region). ordering_index (nat_cmp r.place place)) regions → IsPartitionPoint (λ (r : Region). nat_cmp r.place place ≡ Less) (λ (r : Region). nat_cmp r.place place ≡ Greater) regions at)
      → path_at regions place ≡ []
  path_missing at parted =
      let parts = parted comparisons_rise in
      ap path_in (none_at regions place (λ k d lt e. elim (cases_lt k at) [
        | inl before ↦ let less : (get_or regions k d).place < place = ranked (get_or regions k d).place place _ (sym (parts.0 k d (omega arith) before)) in absurd (omega (arith, less, e))
        | inr after ↦ let more : place < (get_or regions k d).place = ranked (get_or regions k d).place place _ (sym (parts.1 k d after lt)) in absurd (omega (arith, more, e))
      ]))

place_lacks : (regions : List Region) (place : ℕ) → Lacks 10 (path_at regions place) → Lacks 10 (place_words regions place)
place_lacks regions place h = lacks_append 10 (decimal place) _ (number_lacks place) (after_blank _ h)

rays_lacks : (pair : Pair) → Lacks 10 (rays_words pair)
rays_lacks pair =
    lacks_append 10 (codes " rays ") _ (computed 10 (codes " rays ") refl)
    (lacks_append 10 (decimal pair.rays) _ (number_lacks pair.rays)
    (lacks_append 10 (codes " first ") _ (computed 10 (codes " first ") refl)
    (lacks_append 10 (decimal pair.column) _ (number_lacks pair.column)
    (after_blank _ (lacks_append 10 (decimal pair.row) _ (number_lacks pair.row)
    (after_blank _ (lacks_append 10 (position_text pair.start) _ (position_lacks pair.start) (after_blank _ (position_lacks pair.end)))))))))

-- the line of a pair has no line feed, where the paths of its regions have none
pub pair_one_line : (regions : List Region) (pair : Pair) → Lacks 10 (path_at regions pair.one) → Lacks 10 (path_at regions pair.two) → Lacks 10 (pair_line regions pair)
pair_one_line regions pair one two =
    lacks_append 10 (codes "overlap ") _ (computed 10 (codes "overlap ") refl)
    (lacks_append 10 (place_words regions pair.one) _ (place_lacks regions pair.one one)
    (after_blank _ (lacks_append 10 (place_words regions pair.two) _ (place_lacks regions pair.two two) (rays_lacks pair))))

pub pair_lacks : (regions : List Region) (pair : Pair) → IsPathText (path_at regions pair.one) → IsPathText (path_at regions pair.two) → Lacks 10 (pair_line regions pair)
pair_lacks regions pair one two = pair_one_line regions pair (path_lacks (path_at regions pair.one) one) (path_lacks (path_at regions pair.two) two)

-- a number has a digit at least
longer : (b : Bool) (n : ℕ) (xs ys : List ℕ) → n ≤ length xs → n ≤ length ys → n ≤ length (cond b xs ys)
longer true n xs ys h k = h
longer false n xs ys h k = k

onto_longer : (k n : ℕ) (acc : List ℕ) → length acc ≤ length (digits_onto k 10 false n acc)
onto_longer zero n acc = omega arith
onto_longer (suc k) n acc = longer (n / 10 == 0) (length acc) _ _ (omega arith) (omega (arith, onto_longer k (n / 10) (digit_glyph false (n % 10) ∷ acc)))

some_digit : (n : ℕ) → 1 ≤ length (decimal n)
unfolding digits
some_digit n = longer (n / 10 == 0) 1 _ _ (omega arith) (onto_longer 63 (n / 10) (digit_glyph false (n % 10) ∷ []))

both_long : (xs ys : List ℕ) → length (xs ++ ys) ≡ length xs + length ys
both_long xs ys = length-append xs ys

place_long : (regions : List Region) (place : ℕ) → 2 ≤ length (place_words regions place)
place_long regions place = omega (arith, some_digit place, both_long (decimal place) (codes " " ++ path_at regions place))

-- from the row on
row_long : (pair : Pair) → 3 ≤ length (decimal pair.row ++ (codes " " ++ (position_text pair.start ++ (codes " " ++ position_text pair.end))))
row_long pair =
    omega (arith, some_digit pair.row, both_long (decimal pair.row) (codes " " ++ (position_text pair.start ++ (codes " " ++ position_text pair.end))), both_long (position_text pair.start) (codes " " ++ position_text pair.end))

-- from the column on
column_long : (pair : Pair) → 5 ≤ length (decimal pair.column ++ (codes " " ++ (decimal pair.row ++ (codes " " ++ (position_text pair.start ++ (codes " " ++ position_text pair.end))))))
column_long pair = omega (arith, some_digit pair.column, row_long pair, both_long (decimal pair.column) (codes " " ++ (decimal pair.row ++ (codes " " ++ (position_text pair.start ++ (codes " " ++ position_text pair.end))))))

rays_long : (pair : Pair) → 19 ≤ length (rays_words pair)
rays_long pair =
    omega (
      arith,
      some_digit pair.rays,
      column_long pair,
      both_long (decimal pair.rays) (codes " first " ++ (decimal pair.column ++ (codes " " ++ (decimal pair.row ++ (codes " " ++ (position_text pair.start ++ (codes " " ++ position_text pair.end))))))),
    )

pub line_long : (regions : List Region) (pair : Pair) → 32 ≤ length (ended (pair_line regions pair))
line_long regions pair =
    omega (
      arith,
      place_long regions pair.one,
      place_long regions pair.two,
      rays_long pair,
      both_long (place_words regions pair.one) (codes " " ++ (place_words regions pair.two ++ rays_words pair)),
      both_long (place_words regions pair.two) (rays_words pair),
      both_long (pair_line regions pair) (10 ∷ []),
    )

lines_long : (regions : List Region) (pairs : List Pair) → 32 * length pairs ≤ length (text_of (overlap_lines regions pairs))
lines_long regions [] = omega arith
lines_long regions (p ∷ ps) = omega (arith, lines_long regions ps, line_long regions p, both_long (ended (pair_line regions p)) (text_of (overlap_lines regions ps)))

pub long_lines : LinesAreLong
long_lines regions pair = line_long regions pair

pub many_long : ManyPairsAreLong
many_long regions pairs many = omega (arith, lines_long regions pairs, many)

-- the same among regions that are lent
module _ (scene lent : List Region) (place : ℕ) (same : lent ≡ scene) (rising : AllPairs (λ (r s : Region). r.place < s.place) scene) where
  rising_lent : AllPairs (λ (r s : Region). r.place < s.place) lent
  rising_lent = subst (AllPairs (λ (r s : Region). r.place < s.place)) (sym same) rising

  pub path_lent : (at : ℕ) (region : Region) → at < length lent → HoldsAt (λ (r : Region). nat_cmp r.place place ≡ Equal) lent at → region ≡ get_or lent at region → region.path ≡ path_at scene place
  path_lent at region lt equal is = subst (λ rs. region.path ≡ path_at rs place) same (path_found lent place rising_lent at region lt equal is)

  pub no_path_lent : (at : ℕ) → (IsNonDecreasingBy (λ (r : Region). ordering_index (nat_cmp r.place place)) lent → IsPartitionPoint (λ (r : Region). nat_cmp r.place place ≡ Less) (λ (r : Region). nat_cmp r.place place ≡ Greater) lent at)
      → [] ≡ path_at scene place
  no_path_lent at parted = subst (λ rs. [] ≡ path_at rs place) same (sym (path_missing lent place rising_lent at parted))
