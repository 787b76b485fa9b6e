-- The report of a view that is added up of those of its tiles.
use Rattle.std.proofs.Common.{◌≡◌, ◌≤◌, ◌<◌, ◌+◌, ◌∙◌, ℕ, suc, false, List, [], ◌∷◌, filter, map, length, refl, sym, ap, subst, arith}
use Rattle.std.specs.Prelude.{Result, IfOk}
use Rattle.std.specs.List.{filter_map}
use Rattle.lattice_core.specs.declared.view.View.{View}
use Rattle.lattice_core.specs.Views.{IsChecked}
use Rattle.lattice_core.specs.Tiles.{tiles_of}
use Rattle.overlap_list.specs.Overlaps.{IsTooMany}
use Rattle.overlap_list.specs.declared.overlap.CheckFault.{CheckFault}
use Rattle.overlap_list.specs.declared.overlap.CheckFault.TheVariants.{TooMany, Memory}
use Rattle.shot_core.specs.Regions.{Region, HaveInstances, HavePlacedSolids}
use Rattle.shot_core.specs.Pruned.{kept_for}
use Rattle.shot_core.specs.declared.pair.Pair.{Pair}
use Rattle.ppm_write.specs.Pictures.{whole_span}
use Rattle.tile_shot.specs.Merges.{ArePairs, merged}
use Rattle.tile_shot.specs.Reports.{Spot, PlacePair, pair_of, rays_of, place_pairs, report_of, view_report, tile_report, spots_of, spots_where, is_in_tile, is_in_tiles, AddUp, HaveRisingPlaces}
use Rattle.tile_shot.specs.ReportLaws.{ReportsArePairs, PartsHaveFewerPairs, TilesAreParts, TilesFollow, KeptHaveTheSameReport}
use Rattle.tile_shot.proofs.Reporting.{merged_adds_up}

-- the report of the first tiles of a view
abbrev pub first_report : List Region → View → ℕ → List Pair
first_report scene view tile = report_of scene view (spots_where view (is_in_tiles view tile))

-- no rays, no pairs
no_spots : (spots : List Spot) → filter (λ (spot : Spot). false) spots ≡ []
no_spots [] = refl
no_spots (s ∷ spots) = no_spots spots

no_pairs : (pairs : List PlacePair) → filter_map (λ pair. pair_of pair (rays_of pair [])) pairs ≡ []
no_pairs [] = refl
no_pairs (p ∷ pairs) = no_pairs pairs

pub no_report : (scene : List Region) (view : View) → [] ≡ first_report scene view 0
no_report scene view = sym (ap (report_of scene view) (no_spots (spots_of (whole_span view))) ∙ no_pairs (place_pairs (map (λ (r : Region). r.place) scene)))

-- the same report, by a scene and a number of tiles that are the same
pub report_moved : {R E : Type 0} (result : Result R E) (report : List Pair) (scene scene' : List Region) (view : View) (n n' : ℕ) → scene ≡ scene' → n ≡ n'
    → IfOk result (λ _. report ≡ first_report scene view n) → IfOk result (λ _. report ≡ first_report scene' view n')
report_moved result report scene scene' view n n' p q h = subst (λ (m : ℕ). IfOk result (λ _. report ≡ first_report scene' view m)) q (subst (λ (s : List Region). IfOk result (λ _. report ≡ first_report s view n)) p h)

-- the report of one tile, and of one more
module _ (scene : List Region) (view : View) (tile : ℕ) (rising : HaveRisingPlaces scene) (lt : tile < tiles_of view) where
  pub report_more : (old new : List Pair) → TilesFollow → TilesAreParts → old ≡ first_report scene view tile → AddUp old (tile_report scene view tile) new → new ≡ first_report scene view (tile + 1)
  report_more old new follow parts before added =
      let next : suc tile ≡ tile + 1 = omega arith in
      added scene view (is_in_tiles view tile) (is_in_tile view tile) rising (follow view tile lt) before (parts scene view tile lt)
      ∙ ap (first_report scene view) next

  pub tile_of_kept : (kept : List Region) (pairs : List Pair) → KeptHaveTheSameReport → HaveInstances scene → HavePlacedSolids scene → IsChecked view
      → kept ≡ kept_for scene view tile → pairs ≡ tile_report kept view tile → pairs ≡ tile_report scene view tile
  tile_of_kept kept pairs law instances placed checked are is =
      is ∙ ap (λ (rs : List Region). tile_report rs view tile) are ∙ law scene view tile instances placed rising checked lt

  pub tile_pairs : (pairs : List Pair) → ReportsArePairs → TilesAreParts → IsChecked view → pairs ≡ tile_report scene view tile → ArePairs pairs
  tile_pairs pairs law parts checked is = subst ArePairs (sym (is ∙ parts scene view tile lt)) (law scene view (is_in_tile view tile) rising checked)

  pub tile_fewer : (pairs : List Pair) → PartsHaveFewerPairs → TilesAreParts → pairs ≡ tile_report scene view tile → length pairs ≤ length (view_report scene view)
  tile_fewer pairs law parts is = omega (arith, law scene view (is_in_tile view tile) rising, ap (length {A = Pair}) (is ∙ parts scene view tile lt))

  pub first_pairs : (old : List Pair) → ReportsArePairs → IsChecked view → old ≡ first_report scene view tile → ArePairs old
  first_pairs old law checked before = subst ArePairs (sym before) (law scene view (is_in_tiles view tile) rising checked)

  pub first_fewer : (old more : List Pair) → PartsHaveFewerPairs → TilesFollow → TilesAreParts → old ≡ first_report scene view tile → more ≡ tile_report scene view tile
      → length (merged old more) ≤ length (view_report scene view)
  first_fewer old more law follow parts before is =
      let whole : merged old more ≡ first_report scene view (tile + 1) = report_more old (merged old more) follow parts before (subst (λ m. AddUp old m (merged old more)) is (merged_adds_up old more)) in
      omega (arith, law scene view (is_in_tiles view (tile + 1)) rising, ap (length {A = Pair}) whole)

pub more_than : (fault : CheckFault) (a b : ℕ) → a ≤ b → IsTooMany a fault → IsTooMany b fault
more_than TooMany a b le h = omega (arith, le, h)
more_than Memory a b le h = tt
