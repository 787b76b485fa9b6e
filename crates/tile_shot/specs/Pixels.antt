-- What a pixel shows.
use Rattle.std.specs.Prelude.{◌≡◌, ◌<◌, ℕ, ℤ, zero, suc, ◌+◌, ◌*◌, ◌/◌, List, [], ◌∷◌, Option, Some, None, map, slice_get}
use Rattle.region_attr.specs.declared.attr.Rgb.{Rgb}
use Rattle.lattice_core.specs.declared.ray.Ray.{Ray}
use Rattle.lattice_core.specs.declared.view.View.{View}
use Rattle.lattice_core.specs.Views.{pixel_ray, IsChecked}
use Rattle.lattice_core.specs.Tiles.{tiles_of, span_of}
use Rattle.ppm_write.specs.Pictures.{block_bytes, whole_span, IsPictureOf, AreCopiedInTurn}
use Rattle.shot_core.specs.declared.shot.Lit.{Lit}
use Rattle.shot_core.specs.Regions.{RegionBody, Region, HaveInstances, HavePlacedSolids}
use Rattle.shot_core.specs.FirstShots.{first_seen_up_to}
use Rattle.bool_weave.specs.Cuts.{ray_length}
use Rattle.shot_core.specs.Pruned.{kept_for}

-- a part of a colour at a brightness, rounded down
abbrev pub shaded_part : ℕ → ℕ → ℕ
shaded_part level part = (part * level) / 255

abbrev pub shaded : ℕ → Rgb → Rgb
shaded level c = record { r = shaded_part level c.r; g = shaded_part level c.g; b = shaded_part level c.b }

abbrev pub black : Rgb
black = record { r = 0; g = 0; b = 0 }

abbrev pub colour_of : Option Region → Rgb
colour_of None = black
colour_of (Some r) = r.body.rgb

abbrev pub pixel_by : List Region → Option Lit → Rgb
pixel_by regions None = black
pixel_by regions (Some lit) = shaded lit.level (colour_of (slice_get regions lit.region))

-- the colour of what a ray meets first of the regions without air, at its brightness; black where it meets nothing
abbrev pub pixel_up_to : ℤ → List Region → Ray → Rgb
pixel_up_to far regions ray = pixel_by regions (first_seen_up_to far regions ray)

abbrev pub pixel_of : List Region → Ray → Rgb
pixel_of regions ray = pixel_up_to ray_length regions ray

-- the three parts of a colour, by number
abbrev pub part_of : Rgb → ℕ → ℕ
part_of c zero = c.r
part_of c (suc zero) = c.g
part_of c (suc (suc n)) = c.b

-- the parts of the pixels of a view
abbrev pub parts_of : List Region → View → ℕ → ℕ → ℕ → ℕ
parts_of regions view column row part = part_of (pixel_of regions (pixel_ray view column row)) part

-- the bytes of a view's pixels, row by row from the top
abbrev pub view_bytes : List Region → View → List ℕ
view_bytes regions view = block_bytes (parts_of regions view) (whole_span view)

-- regions of these bodies, with places from a number on and without paths
abbrev pub regions_from : ℕ → List RegionBody → List Region
regions_from place [] = []
regions_from place (b ∷ bs) = record { place = place; path = []; body = b } ∷ regions_from (place + 1) bs

-- the bytes of a tile's pixels, from the bodies of its regions alone
abbrev pub tile_bytes : List RegionBody → View → ℕ → List ℕ
tile_bytes bodies view tile = block_bytes (parts_of (regions_from 1 bodies) view) (span_of view tile)

-- what the regions are wherever they stand, in their order
abbrev pub bodies_of : List Region → List RegionBody
bodies_of regions = map (λ r. r.body) regions

-- a scene with a view without a fault
pub record IsInView (regions : List Region) (view : View) : Type 0 where
  pub instances : HaveInstances regions
  pub placed : HavePlacedSolids regions
  pub checked : IsChecked view

-- the bytes of a tile of a view, from the regions that are kept for it
abbrev pub kept_bytes : List Region → View → ℕ → List ℕ
kept_bytes regions view tile = tile_bytes (bodies_of (kept_for regions view tile)) view tile

-- the tile of the regions that are kept for it has the pixels of all regions
abbrev pub AreKeptTilesWhole : Type 0
AreKeptTilesWhole =
    (regions : List Region) (view : View) (tile : ℕ) → IsInView regions view → tile < tiles_of view → kept_bytes regions view tile ≡ block_bytes (parts_of regions view) (span_of view tile)

-- a picture into which all these tiles are put, one after the other, has the bytes of the view
abbrev pub IsMadeOfKeptTiles : Type 0
IsMadeOfKeptTiles =
    (regions : List Region) (view : View) (pictures : ℕ → List ℕ) → IsInView regions view → IsPictureOf view.w view.h (pictures 0) → AreCopiedInTurn view (kept_bytes regions view) pictures
    → pictures (tiles_of view) ≡ view_bytes regions view
