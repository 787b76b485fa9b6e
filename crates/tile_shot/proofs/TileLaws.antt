-- The tile of the regions that are kept for it has the pixels of all regions.
use Rattle.std.proofs.Common.{◌≡◌, ◌∙◌, ◌+◌, ℕ, List, Option, Some, None, refl, ap, sym, subst}
use Rattle.std.specs.Option.{option_map}
use Rattle.region_attr.specs.declared.attr.Rgb.{Rgb}
use Rattle.lattice_core.specs.declared.ray.Ray.{Ray}
use Rattle.lattice_core.specs.Views.{pixel_ray}
use Rattle.lattice_core.specs.Tiles.{span_of}
use Rattle.lattice_core.proofs.Tiling.{tiled}
use Rattle.tile_blocks.proofs.BlockLaws.{made_of_blocks}
use Rattle.tile_blocks.proofs.WholeLaws.{made_of_tiles}
use Rattle.ppm_write.specs.Pictures.{IsCopied}
use Rattle.ppm_write.proofs.BlockLaws.{block_same}
use Rattle.shot_core.specs.declared.shot.Lit.{Lit}
use Rattle.shot_core.specs.Regions.{Region}
use Rattle.shot_core.specs.FirstShots.{first_seen}
use Rattle.shot_core.specs.Pruned.{SeenRegion, seen_region_of, seen_region, kept_for, KeptSeeTheSame}
use Rattle.tile_shot.specs.Pixels.{shaded, black, colour_of, pixel_by, pixel_of, part_of, parts_of, AreKeptTilesWhole, IsMadeOfKeptTiles}
use Rattle.tile_shot.proofs.BodyLaws.{block_by_bodies}

abbrev pixel_from : Option SeenRegion → Rgb
pixel_from None = black
pixel_from (Some seen) = shaded seen.level (colour_of seen.region)

pixel_is : (regions : List Region) (o : Option Lit) → pixel_by regions o ≡ pixel_from (option_map (seen_region_of regions) o)
pixel_is regions None = refl
pixel_is regions (Some lit) = refl

same_pixel : (kept regions : List Region) (ray : Ray) → seen_region kept ray ≡ seen_region regions ray → pixel_of kept ray ≡ pixel_of regions ray
same_pixel kept regions ray same = pixel_is kept (first_seen kept ray) ∙ ap pixel_from same ∙ sym (pixel_is regions (first_seen regions ray))

pub kept_tiles : KeptSeeTheSame → AreKeptTilesWhole
kept_tiles same = λ regions view tile shown in_view.
    let kept : List Region = kept_for regions view tile in
    block_by_bodies 1 kept view (span_of view tile)
    ∙ block_same (parts_of kept view) (parts_of regions view) (span_of view tile)
    (λ column row part in_tile small.
    ap (λ (c : Rgb). part_of c part)
    (same_pixel kept regions (pixel_ray view column row)
    (same regions view tile column row (record { instances = shown.instances; placed = shown.placed; checked = shown.checked; in_view = in_view; in_tile = in_tile }))))

pub made_of_kept_tiles : AreKeptTilesWhole → IsMadeOfKeptTiles
made_of_kept_tiles whole = λ regions view pictures shown size copies.
    made_of_blocks 0 3 view (made_of_tiles 0 3 view (tiled view)) (parts_of regions view) pictures size
    (λ tile in_view. subst (λ (bytes : List ℕ). IsCopied view tile bytes (pictures tile) (pictures (tile + 1))) (whole regions view tile shown in_view) (copies tile in_view))
