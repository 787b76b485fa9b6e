-- Which boxes meet the box of a tile's rays.
use Rattle.std.proofs.Common.{◌≡◌, ◌↔◌, ◌<◌, ◌+◌, ℕ, List, [], ◌∷◌, ◌++◌, length, get_or, take, filter, Bool, true, cond, IsTrue, ap, sym, ◌∙◌}
use Rattle.std.proofs.lemmas.List.Elements.{filter_more}
use Rattle.lattice_core.specs.declared.boxes.Box3.{Box3}
use Rattle.lattice_core.specs.declared.view.View.{View}
use Rattle.lattice_core.specs.Boxes.{Meets, MeetsRay}
use Rattle.lattice_core.specs.Spans.{meet_span}
use Rattle.lattice_core.specs.Views.{pixel_ray, IsChecked}
use Rattle.lattice_core.specs.Tiles.{tiles_of, span_of, IsIn, IsTileBox}
use Rattle.lattice_core.proofs.Boxing.{meets_is}
use Rattle.lattice_core.proofs.Reaching.{reach_is}
use Rattle.lattice_core.proofs.Tiling.{span_part}
use Rattle.lattice_core.proofs.TileBoxes as tiles
use Rattle.shot_core.specs.Pruned.{share_points, ray_reach, tile_reach, meets_tile, TellsWhetherTileMet}
use Rattle.shot_core.proofs.Boxing.{has_points_tells, are_hull_and_meet, same_bool}

pub sharing_tells : (a b : Box3) → IsTrue (share_points a b) ↔ Meets a b
sharing_tells a b =
    let some = has_points_tells (meet_span a b) in
    let meet = meets_is a b in
    (λ h. meet.0 (some.0 h), λ m. some.1 (meet.1 m))

-- what tells whether two boxes meet is the test
pub sharing_is : (a b : Box3) (r : Bool) → (IsTrue r ↔ Meets a b) → r ≡ share_points a b
sharing_is a b r is = same_bool r (share_points a b) (λ h. (sharing_tells a b).1 (is.0 h)) (λ h. is.1 ((sharing_tells a b).0 h))

-- one more value of those that pass
pub one_more : {X : Type 0} (f : X → Bool) (xs old new : List X) (i : ℕ) (x : X) (b : Bool) → i < length xs → x ≡ get_or xs i x → b ≡ f x → old ≡ filter f (take i xs)
    → new ≡ old ++ cond b (x ∷ []) [] → new ≡ filter f (take (i + 1) xs)
one_more f xs old new i x b lt is passed before after =
    after ∙ ap (λ l. l ++ cond b (x ∷ []) []) before ∙ ap (λ c. filter f (take i xs) ++ cond c (x ∷ []) []) passed
    ∙ ap (λ y. filter f (take i xs) ++ cond (f y) (y ∷ []) []) is ∙ sym (filter_more f xs i x lt)

module _ (view : View) (tile : ℕ) (checked : IsChecked view) (in_view : tile < tiles_of view) where
  pub tile_reach_is : IsTileBox (tile_reach view tile) view tile
  tile_reach_is =
      tiles.tile_box_is view tile (ray_reach (tiles.first_ray view tile)) (ray_reach (tiles.last_ray view tile)) (tile_reach view tile) checked.cell (span_part view tile in_view)
      (reach_is (tiles.first_ray view tile)) (reach_is (tiles.last_ray view tile)) (are_hull_and_meet.hull (ray_reach (tiles.first_ray view tile)) (ray_reach (tiles.last_ray view tile)))

  -- a box that a ray of the tile meets meets the tile
  pub ray_met : (b : Box3) (column row : ℕ) → IsIn (span_of view tile) column row → MeetsRay b (pixel_ray view column row) → meets_tile b view tile ≡ true
  ray_met b column row pixel m = (sharing_tells b (tile_reach view tile)).1 (tiles.ray_meets_tile view tile b (tile_reach view tile) tile_reach_is column row pixel m)

pub tells_whether_tile_met : TellsWhetherTileMet
tells_whether_tile_met b view tile checked in_view =
    let some = sharing_tells b (tile_reach view tile) in
    let meet = tiles.meets_tile view tile b (tile_reach view tile) (tile_reach_is view tile checked in_view) in
    (λ h. meet.0 (some.0 h), λ m. some.1 (meet.1 m))
