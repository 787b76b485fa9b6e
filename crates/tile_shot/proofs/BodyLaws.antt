-- What a ray sees first is told by the bodies of regions alone: their places and paths don't matter.
use Rattle.std.proofs.Common.{◌≡◌, ◌∙◌, ◌+◌, ◌++◌, ◌∷◌, [], ℕ, zero, suc, List, Option, Some, None, Bool, false, not, refl, ap, sym, length, map, slice_get}
use Rattle.std.specs.List.{find}
use Rattle.std.specs.Option.{option_map}
use Rattle.region_attr.specs.declared.attr.Rgb.{Rgb}
use Rattle.lattice_core.specs.declared.ray.Ray.{Ray}
use Rattle.lattice_core.specs.declared.view.View.{View}
use Rattle.lattice_core.specs.declared.tile.TileSpan.{TileSpan}
use Rattle.lattice_core.specs.Views.{pixel_ray}
use Rattle.ppm_write.specs.Pictures.{block_bytes}
use Rattle.bool_weave.specs.declared.woven.Woven.{Woven}
use Rattle.overlap_list.specs.declared.region.RegionClaims.{RegionClaims}
use Rattle.overlap_list.specs.Partitions.{partitions_of}
use Rattle.overlap_list.specs.declared.partition.Partition.{Partition}
use Rattle.shot_core.specs.declared.shot.Lit.{Lit}
use Rattle.shot_core.specs.Regions.{Instance, RegionBody, Region, has_air, instances_of}
use Rattle.shot_core.specs.Shots.{woven_from, body_claims, claims_from, claims_on, level_on, lit_of}
use Rattle.shot_core.specs.FirstShots.{is_solid, first_of, first_seen}
use Rattle.tile_shot.specs.Pixels.{shaded, black, colour_of, pixel_by, pixel_of, part_of, parts_of, regions_from, bodies_of}

instances_same : (n : ℕ) (regions : List Region) → instances_of (regions_from n (bodies_of regions)) ≡ instances_of regions
instances_same n [] = refl
instances_same n (r ∷ rest) = ap (λ (l : List Instance). r.body.instances ++ l) (instances_same (n + 1) rest)

claims_same : (woven : List Woven) (first n : ℕ) (regions : List Region) → claims_from woven first (regions_from n (bodies_of regions)) ≡ claims_from woven first regions
claims_same woven first n [] = refl
claims_same woven first n (r ∷ rest) = ap (λ (l : List RegionClaims). body_claims woven first r.body ∷ l) (claims_same woven (first + length r.body.instances) (n + 1) rest)

abbrev body_in : Option Region → Option RegionBody
body_in = option_map (λ r. r.body)

body_same : (n k : ℕ) (regions : List Region) → body_in (slice_get (regions_from n (bodies_of regions)) k) ≡ body_in (slice_get regions k)
body_same n k [] = refl
body_same n zero (r ∷ rest) = refl
body_same n (suc k) (r ∷ rest) = body_same (n + 1) k rest

abbrev solid_by : Option RegionBody → Bool
solid_by None = false
solid_by (Some b) = not (has_air b)

solid_is : (o : Option Region) → is_solid o ≡ solid_by (body_in o)
solid_is None = refl
solid_is (Some r) = refl

abbrev colour_by : Option RegionBody → Rgb
colour_by None = black
colour_by (Some b) = b.rgb

colour_is : (o : Option Region) → colour_of o ≡ colour_by (body_in o)
colour_is None = refl
colour_is (Some r) = refl

abbrev lit_from : Ray → List Instance → List RegionClaims → List Lit
lit_from ray instances claims =
    map (λ (p : Partition). record { region = p.region; start = p.start; end = p.end; hit = p.hit; level = level_on (slice_get instances p.hit.instance) p.hit.face ray })
    (partitions_of (woven_from ray 0 instances) claims)

module _ (n : ℕ) (regions : List Region) where
  abbrev others : List Region
  others = regions_from n (bodies_of regions)

  lit_same : (ray : Ray) → lit_of others ray ≡ lit_of regions ray
  lit_same ray =
      let claims : claims_on others ray ≡ claims_on regions ray =
      claims_same (woven_from ray 0 (instances_of others)) 0 n regions
      ∙ ap (λ (l : List Instance). claims_from (woven_from ray 0 l) 0 regions) (instances_same n regions) in
      ap (λ (l : List Instance). lit_from ray l (claims_on others ray)) (instances_same n regions)
      ∙ ap (λ (l : List RegionClaims). lit_from ray (instances_of regions) l) claims

  solid_same : (k : ℕ) → is_solid (slice_get others k) ≡ is_solid (slice_get regions k)
  solid_same k = solid_is (slice_get others k) ∙ ap solid_by (body_same n k regions) ∙ sym (solid_is (slice_get regions k))

  colour_same : (k : ℕ) → colour_of (slice_get others k) ≡ colour_of (slice_get regions k)
  colour_same k = colour_is (slice_get others k) ∙ ap colour_by (body_same n k regions) ∙ sym (colour_is (slice_get regions k))

  first_same : (ray : Ray) → first_seen others ray ≡ first_seen regions ray
  first_same ray =
      ap (λ (p : Lit → Bool). find p (lit_of others ray)) (λ i l. solid_same l.region i)
      ∙ ap (first_of regions) (lit_same ray)

  pixel_by_same : (o : Option Lit) → pixel_by others o ≡ pixel_by regions o
  pixel_by_same None = refl
  pixel_by_same (Some lit) = ap (shaded lit.level) (colour_same lit.region)

  pub pixel_same : (ray : Ray) → pixel_of others ray ≡ pixel_of regions ray
  pixel_same ray = pixel_by_same (first_seen others ray) ∙ ap (pixel_by regions) (first_same ray)

  pub block_by_bodies : (view : View) (span : TileSpan) → block_bytes (parts_of (regions_from n (bodies_of regions)) view) span ≡ block_bytes (parts_of regions view) span
  block_by_bodies view span =
      ap (λ (parts : ℕ → ℕ → ℕ → ℕ). block_bytes parts span) (λ i column row part. ap (λ (c : Rgb). part_of c part) (pixel_same (pixel_ray view column row)) i)
