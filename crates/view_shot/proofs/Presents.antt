-- What the tiles of a view present: it is known by the bodies and the places of their regions, and makes what the view presents.
use Rattle.std.proofs.Common.{◌≡◌, ◌∙◌, ℕ, zero, suc, List, [], ◌∷◌, Bool, Option, None, Some, length, map, refl, sym, ap, subst, slice_get}
use Rattle.std.proofs.Math.Path.{fun_ext}
use Rattle.std.specs.List.{find}
use Rattle.lattice_core.specs.declared.ray.Ray.{Ray}
use Rattle.lattice_core.specs.declared.view.View.{View}
use Rattle.lattice_core.specs.Views.{pixel_ray}
use Rattle.lattice_core.specs.Tiles.{span_of, tiles_of}
use Rattle.bool_weave.specs.declared.woven.Woven.{Woven}
use Rattle.overlap_list.specs.declared.partition.Partition.{Partition}
use Rattle.overlap_list.specs.declared.region.RegionClaims.{RegionClaims}
use Rattle.overlap_list.specs.Partitions.{partitions_of}
use Rattle.shot_core.specs.declared.shot.Lit.{Lit}
use Rattle.shot_core.specs.FirstShots.{first_seen, is_solid}
use Rattle.shot_core.specs.Pruned.{kept_for}
use Rattle.shot_core.specs.Regions.{Instance, Region}
use Rattle.shot_core.specs.Shots.{claims_from, level_on, lit_by, lit_of, woven_from, woven_of}
use Rattle.area_tool.specs.Numbers.{IsCopied, IsMadeOfBlocks, IsOnePerPixel, block_numbers}
use Rattle.area_tool.specs.Presented.{place_by, presented, presented_in, tile_presents, view_presents}
use Rattle.area_tool.proofs.BlockNumbers.{block_size}
use Rattle.tile_shot.specs.Named.{TileName, name_of}
use Rattle.view_shot.specs.Kept.{tile_name}
use Rattle.view_shot.specs.Named.{IsNamedPresents, places_of}
use Rattle.view_shot.proofs.Led.{IsLed}
use Rattle.view_shot.proofs.PlaceLaws.{same_claims, same_instances, same_place, without_paths}

same_solid : (rs : List Region) (i : ℕ) → is_solid (slice_get (without_paths rs) i) ≡ is_solid (slice_get rs i)
same_solid [] i = refl
same_solid (r ∷ rs) zero = refl
same_solid (r ∷ rs) (suc i) = same_solid rs i

-- a partition, by the instances of all regions
abbrev lit_from : List Instance → Ray → Partition → Lit
lit_from instances ray p = record { region = p.region; start = p.start; end = p.end; hit = p.hit; level = level_on (slice_get instances p.hit.instance) p.hit.face ray }

same_lit : (rs : List Region) (ray : Ray) → lit_of (without_paths rs) ray ≡ lit_of rs ray
same_lit rs ray =
    let woven : woven_of (without_paths rs) ray ≡ woven_of rs ray = ap (woven_from ray 0) (same_instances rs) in
    ap (λ (all : List Instance). map (lit_from all ray) (partitions_of (woven_of (without_paths rs) ray) (claims_from (woven_of (without_paths rs) ray) 0 (without_paths rs)))) (same_instances rs)
    ∙ ap (λ (w : List Woven). map (lit_by rs ray) (partitions_of w (claims_from w 0 (without_paths rs)))) woven
    ∙ ap (λ (claims : List RegionClaims). map (lit_by rs ray) (partitions_of (woven_of rs ray) claims)) (same_claims (woven_of rs ray) 0 rs)

same_first : (rs : List Region) (ray : Ray) → first_seen (without_paths rs) ray ≡ first_seen rs ray
same_first rs ray =
    ap (λ (test : Lit → Bool). find test (lit_of (without_paths rs) ray)) (fun_ext (λ l. same_solid rs l.region))
    ∙ ap (find (λ (l : Lit). is_solid (slice_get rs l.region))) (same_lit rs ray)

same_by : (rs : List Region) (seen : Option Lit) → place_by (without_paths rs) seen ≡ place_by rs seen
same_by rs None = refl
same_by rs (Some lit) = same_place rs lit.region

same_presented : (rs : List Region) (ray : Ray) → presented (without_paths rs) ray ≡ presented rs ray
same_presented rs ray = same_by rs (first_seen (without_paths rs) ray) ∙ ap (place_by rs) (same_first rs ray)

-- paths are no part of what a tile presents
same_presents : (rs : List Region) (view : View) (tile : ℕ) → tile_presents (without_paths rs) view tile ≡ tile_presents rs view tile
same_presents rs view tile =
    ap (λ (values : ℕ → ℕ → ℕ). block_numbers values (span_of view tile)) (fun_ext (λ column. fun_ext (λ row. same_presented rs (pixel_ray view column row))))

-- what a tile of regions presents, by what names it
pub named_presents : (rs : List Region) (view : View) (tile : ℕ) (key : TileName) (places presents : List ℕ) → key ≡ name_of rs view tile → places ≡ places_of rs → presents ≡ tile_presents rs view tile
    → IsNamedPresents key places presents
named_presents rs view tile key places presents key_is places_is is =
    subst (λ (k : TileName). IsNamedPresents k places presents) (sym key_is)
    (subst (λ (ps : List ℕ). IsNamedPresents (name_of rs view tile) ps presents) (sym places_is) (is ∙ sym (same_presents rs view tile)))

-- and back, where the name is that of the regions that are kept for a tile
pub presents_of_name : (scene : List Region) (view : View) (tile : ℕ) (key : TileName) (places presents : List ℕ) → tile_presents (kept_for scene view tile) view tile ≡ tile_presents scene view tile
    → key ≡ tile_name scene view tile → places ≡ places_of (kept_for scene view tile) → IsNamedPresents key places presents → presents ≡ tile_presents scene view tile
presents_of_name scene view tile key places presents kept key_is places_is is =
    subst (λ (ps : List ℕ). IsNamedPresents (tile_name scene view tile) ps presents) places_is (subst (λ (k : TileName). IsNamedPresents k places presents) key_is is)
    ∙ same_presents (kept_for scene view tile) view tile
    ∙ kept

-- what a tile presents is put into the list of its view
abbrev pub IsTilePut : List Region → View → ℕ → List ℕ → List ℕ → Type 0
IsTilePut scene view tile old new = IsCopied view tile (tile_presents scene view tile) old new

-- the list after so many tiles
abbrev pub IsLedList : List Region → View → ℕ → List ℕ → Type 0
IsLedList scene view count all = IsLed (IsTilePut scene view) (IsOnePerPixel view.w view.h) count all

pub led_list : (scene : List Region) (view : View) (all : List ℕ) → IsMadeOfBlocks view → IsLedList scene view (tiles_of view) all → all ≡ view_presents scene view
led_list scene view all made led = sym led.last ∙ made (presented_in scene view) led.states led.first led.each

pub presents_long : (scene : List Region) (view : View) (tile : ℕ) (presents : List ℕ) → presents ≡ tile_presents scene view tile → IsOnePerPixel (span_of view tile).w (span_of view tile).h presents
presents_long scene view tile presents is = ap (length {A = ℕ}) is ∙ block_size (presented_in scene view) (span_of view tile)
