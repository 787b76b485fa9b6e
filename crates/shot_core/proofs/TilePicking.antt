-- The regions at the places of the boxes that meet a tile are those that are kept for it.
use Rattle.std.proofs.Common.{◌≡◌, ◌<◌, ◌∙◌, ℕ, List, length, get_or, map, All, Contains, ap, arith}
use Rattle.std.proofs.lemmas.List.{length-map}
use Rattle.std.proofs.lemmas.List.Elements.{All-weaker, All-contains_itself}
use Rattle.lattice_core.specs.declared.view.View.{View}
use Rattle.lattice_core.specs.Views.{IsChecked}
use Rattle.lattice_core.specs.Tiles.{tiles_of, MeetsTile}
use Rattle.box_index.specs.Places.{ArePlacesOf}
use Rattle.box_index.proofs.Placing.{places_are, elements_at_places}
use Rattle.shot_core.specs.Regions.{Region}
use Rattle.shot_core.specs.RegionBoxes.{region_box}
use Rattle.shot_core.specs.Prepared.{region_boxes}
use Rattle.shot_core.specs.Pruned.{meets_tile, kept_for}
use Rattle.shot_core.specs.Steps.{no_region}
use Rattle.shot_core.proofs.TileMeeting.{tells_whether_tile_met}

module _ (view : View) (tile : ℕ) (checked : IsChecked view) (in_view : tile < tiles_of view) (regions : List Region) (places : List ℕ) (met : ArePlacesOf (λ b. MeetsTile b view tile) (region_boxes regions) places) where
  pub picked_regions : map (λ i. get_or regions i no_region) places ≡ kept_for regions view tile
  picked_regions =
      ap (map (λ i. get_or regions i no_region))
      (places_are (λ b. MeetsTile b view tile) (λ b. meets_tile b view tile) (region_boxes regions) places (λ b. tells_whether_tile_met b view tile checked in_view) met)
      ∙ elements_at_places (λ b. meets_tile b view tile) (λ (r : Region). region_box r.body) regions no_region

  pub places_within : All (λ i. i < length regions) places
  places_within =
      All-weaker (Contains places) (λ i. i < length regions) (λ i c. omega (arith, ((met.exact i).0 c).0, length-map regions (λ r. region_box r.body))) places
      (All-contains_itself places)
