-- A tile is a part of its view, and all tiles are the view.
use Rattle.std.proofs.Common.{◌≡◌, ◌<◌, ◌≤◌, ◌+◌, ◌-◌, ◌⊎◌, ℕ, zero, suc, List, [], ◌∷◌, ◌++◌, filter, flat_map, Bool, true, false, ◌&&◌, ◌||◌, ap, sym, ◌∙◌, subst, refl, inl, inr, arith, add-one}
use Rattle.std.specs.List.{range_with_len}
use Rattle.std.proofs.lemmas.Bool.{cases_eq, cond-true, cond-false}
use Rattle.std.proofs.lemmas.Bool.Decides.{nat_tests}
use Rattle.std.proofs.lemmas.List.{append-nil}
use Rattle.std.proofs.lemmas.List.Elements.{filter-append}
use Rattle.bool_weave.proofs.Sorted.{Has}
use Rattle.lattice_core.specs.declared.view.View.{View}
use Rattle.lattice_core.specs.declared.tile.TileSpan.{TileSpan}
use Rattle.lattice_core.specs.Tiles.{tiles_of, span_of, IsIn, Place}
use Rattle.lattice_core.proofs.Tiling.{span_part, tiled}
use Rattle.ppm_write.specs.Pictures.{whole_span}
use Rattle.shot_core.specs.declared.pair.Pair.{Pair}
use Rattle.shot_core.specs.Regions.{Region}
use Rattle.tile_shot.specs.Reports.{Spot, row_spots, spots_of, report_of, spots_where, HaveRisingPlaces, is_in_span, is_in_tile, is_in_tiles}
use Rattle.tile_shot.specs.ReportLaws.{TilesAreParts, TilesAreApart, TilesFollow, TilesAreAll, AreAddedInTurn, TilesMakeReports}
use Rattle.tile_shot.proofs.Spotting.{in_row, in_rows, in_span}
use Rattle.tile_shot.proofs.RaysDone.{spot_at, row_split, rows_split}
use Rattle.tile_shot.proofs.Listing.{no_rays}

pub filter_all : {X : Type 0} (p : X → Bool) (xs : List X) → ((x : X) → Has xs x → p x ≡ true) → filter p xs ≡ xs
filter_all p [] h = refl
filter_all p (x ∷ xs) h = cond-true (p x) (x ∷ filter p xs) (filter p xs) (h x (inl refl)) ∙ ap (λ l. x ∷ l) (filter_all p xs (λ y m. h y (inr m)))

pub filter_none : {X : Type 0} (p : X → Bool) (xs : List X) → ((x : X) → Has xs x → p x ≡ false) → filter p xs ≡ []
filter_none p [] h = refl
filter_none p (x ∷ xs) h = cond-false (p x) (x ∷ filter p xs) (filter p xs) (h x (inl refl)) ∙ filter_none p xs (λ y m. h y (inr m))

in_both : (span : TileSpan) (s : Spot) → span.column ≤ s.column → s.column < span.column + span.w → span.row ≤ s.row → s.row < span.row + span.h → is_in_span span s ≡ true
in_both span s left right low high = grind (arith, nat_tests)

above : (span : TileSpan) (s : Spot) → s.row < span.row → is_in_span span s ≡ false
above span s h = grind (arith, nat_tests)

under : (span : TileSpan) (s : Spot) → span.row + span.h ≤ s.row → is_in_span span s ≡ false
under span s h = grind (arith, nat_tests)

left_of : (span : TileSpan) (s : Spot) → s.column < span.column → is_in_span span s ≡ false
left_of span s h = grind (arith, nat_tests)

right_of : (span : TileSpan) (s : Spot) → span.column + span.w ≤ s.column → is_in_span span s ≡ false
right_of span s h = grind (arith, nat_tests)

is_in : (span : TileSpan) (column row : ℕ) → is_in_span span (spot_at column row) ≡ true → IsIn span column row
is_in span column row h = record { from_column = grind (arith, nat_tests); to_column = grind (arith, nat_tests); from_row = grind (arith, nat_tests); to_row = grind (arith, nat_tests) }

module _ (span : TileSpan) (w h : ℕ) (in_columns : span.column + span.w ≤ w) (in_rows_of : span.row + span.h ≤ h) where
  row_inside : (row : ℕ) → span.row ≤ row → row < span.row + span.h → filter (is_in_span span) (row_spots 0 w row) ≡ row_spots span.column span.w row
  row_inside row low high =
      let p = is_in_span span in
      let e : w ≡ span.column + (span.w + (w - (span.column + span.w))) = omega (arith, in_columns) in
      let z : 0 + span.column ≡ span.column = omega arith in
      let front = row_spots 0 span.column row in
      let here = row_spots span.column span.w row in
      let back = row_spots (span.column + span.w) (w - (span.column + span.w)) row in
      let whole : row_spots 0 w row ≡ front ++ (here ++ back) =
      ap (λ n. row_spots 0 n row) e ∙ row_split 0 span.column (span.w + (w - (span.column + span.w))) row
      ∙ ap (λ k. front ++ row_spots k (span.w + (w - (span.column + span.w))) row) z ∙ ap (λ l. front ++ l) (row_split span.column span.w (w - (span.column + span.w)) row) in
      let none : filter p front ≡ [] = filter_none p front (λ s m. let r = in_row 0 span.column row s m in left_of span s (omega (arith, r.2))) in
      let all : filter p here ≡ here = filter_all p here (λ s m. let r = in_row span.column span.w row s m in in_both span s r.1 r.2 (omega (arith, r.0, low)) (omega (arith, r.0, high))) in
      let nor : filter p back ≡ [] = filter_none p back (λ s m. let r = in_row (span.column + span.w) (w - (span.column + span.w)) row s m in right_of span s r.1) in
      ap (filter p) whole ∙ filter-append p front (here ++ back) ∙ ap (λ l. l ++ filter p (here ++ back)) none ∙ filter-append p here back ∙ ap (λ l. l ++ filter p back) all ∙ ap (λ l. here ++ l) nor ∙ append-nil here

  rows_inside : (a n : ℕ) → span.row ≤ a → a + n ≤ span.row + span.h → filter (is_in_span span) (flat_map (row_spots 0 w) (range_with_len a n)) ≡ flat_map (row_spots span.column span.w) (range_with_len a n)
  rows_inside a zero low high = refl
  rows_inside a (suc n) low high =
      filter-append (is_in_span span) (row_spots 0 w a) (flat_map (row_spots 0 w) (range_with_len (a + 1) n))
      ∙ ap (λ l. l ++ filter (is_in_span span) (flat_map (row_spots 0 w) (range_with_len (a + 1) n))) (row_inside a low (omega (arith, high)))
      ∙ ap (λ l. row_spots span.column span.w a ++ l) (rows_inside (a + 1) n (omega (arith, low)) (omega (arith, high)))

  pub span_is_part : filter (is_in_span span) (flat_map (row_spots 0 w) (range_with_len 0 h)) ≡ spots_of span
  span_is_part =
      let p = is_in_span span in
      let rows : ℕ → ℕ → List Spot = λ a n. flat_map (row_spots 0 w) (range_with_len a n) in
      let e : h ≡ span.row + (span.h + (h - (span.row + span.h))) = omega (arith, in_rows_of) in
      let z : 0 + span.row ≡ span.row = omega arith in
      let front = rows 0 span.row in
      let here = rows span.row span.h in
      let back = rows (span.row + span.h) (h - (span.row + span.h)) in
      let whole : rows 0 h ≡ front ++ (here ++ back) =
      ap (λ n. rows 0 n) e ∙ rows_split 0 w 0 span.row (span.h + (h - (span.row + span.h)))
      ∙ ap (λ k. front ++ rows k (span.h + (h - (span.row + span.h)))) z ∙ ap (λ l. front ++ l) (rows_split 0 w span.row span.h (h - (span.row + span.h))) in
      let none : filter p front ≡ [] = filter_none p front (λ s m. let r = in_rows 0 w 0 span.row s m in above span s (omega (arith, r.1))) in
      let nor : filter p back ≡ [] = filter_none p back (λ s m. let r = in_rows 0 w (span.row + span.h) (h - (span.row + span.h)) s m in under span s r.0) in
      ap (filter p) whole ∙ filter-append p front (here ++ back) ∙ ap (λ l. l ++ filter p (here ++ back)) none ∙ filter-append p here back
      ∙ ap (λ l. l ++ filter p back) (rows_inside span.row span.h (omega arith) (omega arith)) ∙ ap (λ l. spots_of span ++ l) nor ∙ append-nil (spots_of span)

pub tiles_are_parts : TilesAreParts
tiles_are_parts regions view tile there =
    let part = span_part view tile there in
    sym (ap (report_of regions view) (span_is_part (span_of view tile) view.w view.h part.in_columns part.in_rows))

-- a pixel that a span has is in its tile
place_in : (view : View) (tile column row : ℕ) → tile < tiles_of view → IsIn (span_of view tile) column row → Place view column row
place_in view tile column row there is = record {
  tile = tile;
  across = column - (span_of view tile).column;
  down = row - (span_of view tile).row;
  is_at = record {
    in_view = there;
    in_columns = omega (arith, is.from_column, is.to_column);
    in_rows = omega (arith, is.from_row, is.to_row);
    column_is = omega (arith, is.from_column);
    row_is = omega (arith, is.from_row);
  };
}

same_tile : (view : View) (one two column row : ℕ) → one < tiles_of view → two < tiles_of view → is_in_tile view one (spot_at column row) ≡ true → is_in_tile view two (spot_at column row) ≡ true → one ≡ two
unfolding place_in
same_tile view one two column row a b h k =
    ((tiled view).one column row (place_in view one column row a (is_in (span_of view one) column row h)) (place_in view two column row b (is_in (span_of view two) column row k))).0

not_both : (a b : Bool) → (a ≡ true → b ≡ true → ⊥) → a && b ≡ false
not_both true true h = absurd (h refl refl)
not_both true false h = refl
not_both false b h = refl

pub tiles_are_apart : TilesAreApart
tiles_are_apart view one two a b apart column row c r =
    not_both (is_in_tile view one (spot_at column row)) (is_in_tile view two (spot_at column row)) (λ h k. apart (same_tile view one two column row a b h k))

in_some : (a b : Bool) → a || b ≡ true → (a ≡ true) ⊎ (b ≡ true)
in_some true b h = inl refl
in_some false b h = inr h

-- a pixel of some tiles is in one of them
one_of : (view : View) (n : ℕ) (s : Spot) → is_in_tiles view n s ≡ true → (t : ℕ) × (t < n) × (is_in_tile view t s ≡ true)
one_of view zero s h = absurd (cc)
one_of view (suc n) s h =
    elim (in_some (is_in_tiles view n s) (is_in_tile view n s) h) [ inl a ↦ let m = one_of view n s a in (m.0, omega (arith, m.1), m.2) | inr b ↦ (n, omega arith, b) ]

or_true : (a b : Bool) → (a ≡ true) ⊎ (b ≡ true) → a || b ≡ true
or_true true b h = refl
or_true false b (inl e) = absurd (cc)
or_true false b (inr e) = e

is_of : (view : View) (n t : ℕ) (s : Spot) → t < n → is_in_tile view t s ≡ true → is_in_tiles view n s ≡ true
is_of view zero t s lt h = absurd (omega (arith, lt))
is_of view (suc n) t s lt h =
    or_true (is_in_tiles view n s) (is_in_tile view n s)
    (elim (cases_eq t n) [ inl same ↦ inr (subst (λ k. is_in_tile view k s ≡ true) same h) | inr other ↦ inl (is_of view n t s (omega (arith, lt, other)) h) ])

pub tiles_follow : TilesFollow
tiles_follow view tile there column row c r =
    not_both (is_in_tiles view tile (spot_at column row)) (is_in_tile view tile (spot_at column row))
    (λ h k. let m = one_of view tile (spot_at column row) h in omega (arith, m.1, same_tile view m.0 tile column row (omega (arith, m.1, there)) there m.2 k))

in_own : (view : View) (column row : ℕ) → column < view.w → row < view.h → is_in_tiles view (tiles_of view) (spot_at column row) ≡ true
in_own view column row c r =
    let p = (tiled view).some column row c r in
    is_of view (tiles_of view) p.tile (spot_at column row) p.is_at.in_view
    (in_both (span_of view p.tile) (spot_at column row) (omega (arith, p.is_at.column_is)) (omega (arith, p.is_at.column_is, p.is_at.in_columns)) (omega (arith, p.is_at.row_is)) (omega (arith, p.is_at.row_is, p.is_at.in_rows)))

pub tiles_are_all : TilesAreAll
tiles_are_all regions view =
    ap (report_of regions view) (filter_all (is_in_tiles view (tiles_of view)) (spots_of (whole_span view)) (λ s h. let m = in_span (whole_span view) s h in in_own view s.column s.row (omega (arith, m.3)) (omega (arith, m.1))))

module _ (regions : List Region) (view : View) (reports : ℕ → List Pair) (rising : HaveRisingPlaces regions) (begun : reports 0 ≡ []) (added : AreAddedInTurn regions view reports) where
  so_far : (n : ℕ) → n ≤ tiles_of view → reports n ≡ report_of regions view (spots_where view (is_in_tiles view n))
  so_far zero le = begun ∙ sym (ap (report_of regions view) (filter_none (is_in_tiles view 0) (spots_of (whole_span view)) (λ s h. refl)) ∙ no_rays regions view)
  so_far (suc n) le =
      ap reports (sym (add-one n)) ∙ added n (omega (arith, le)) regions view (is_in_tiles view n) (is_in_tile view n) rising (tiles_follow view n (omega (arith, le))) (so_far n (omega (arith, le))) (tiles_are_parts regions view n (omega (arith, le)))

pub tiles_make_reports : TilesMakeReports
tiles_make_reports regions view reports rising begun added = so_far regions view reports rising begun added (tiles_of view) (omega arith) ∙ tiles_are_all regions view
