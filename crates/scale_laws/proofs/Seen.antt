-- What a larger ray shows of larger regions.
use Rattle.std.proofs.Common.{arith, ◌≡◌, ◌<◌, ◌==◌, ℕ, zero, suc, ℤ, pos, ◌*ℤ◌, List, [], ◌∷◌, Bool, true, false, not, cond, map, Option, Some, None, ap, sym, ◌∙◌, refl}
use Rattle.std.specs.Prelude.{slice_get}
use Rattle.std.specs.List.{find}
use Rattle.std.specs.Option.{option_map}
use Rattle.lattice_core.specs.declared.ray.Ray.{Ray}
use Rattle.lattice_core.specs.declared.ray.Dir.{Dir}
use Rattle.lattice_core.specs.declared.vector.V3.{V3}
use Rattle.lattice_core.specs.declared.view.View.{View}
use Rattle.lattice_core.specs.Units.{unit_of}
use Rattle.lattice_core.specs.Vectors.{vector_sum, scaled}
use Rattle.lattice_core.specs.Views.{across_of, down_of, point_from, pixel_ray}
use Rattle.surd_order.specs.declared.position.Pos.{Pos}
use Rattle.bool_weave.specs.declared.woven.Woven.{Woven}
use Rattle.overlap_list.specs.declared.region.RegionClaims.{RegionClaims}
use Rattle.overlap_list.specs.declared.hit.Hit.{Hit}
use Rattle.overlap_list.specs.declared.partition.Partition.{Partition}
use Rattle.overlap_list.specs.Partitions.{partitions_up_to}
use Rattle.overlap_list.specs.Overlaps.{overlaps_up_to}
use Rattle.shot_core.specs.declared.shot.Lit.{Lit}
use Rattle.shot_core.specs.Regions.{Instance, Region, instances_of}
use Rattle.shot_core.specs.Shots.{claims_from_up_to, claims_on_up_to, woven_up_to, level_on, lit_by, lit_up_to, overlaps_on_up_to}
use Rattle.shot_core.specs.FirstShots.{is_solid, first_of}
use Rattle.tile_shot.specs.Pixels.{shaded, colour_of, pixel_by, pixel_up_to}
use Rattle.solid_set.specs.Times.{enlarged}
use Rattle.order_laws.specs.RaysMoved.{moved_woven, moved_partition, moved_overlap}
use Rattle.order_laws.proofs.Listed.{map_same, map_twice}
use Rattle.order_laws.proofs.RaysMoved.{partitions_same, overlaps_same}
use Rattle.solid_set.specs.Larger.{larger_ray}
use Rattle.solid_set.proofs.ScaledLevels.{levels_stay}
use Rattle.solid_set.proofs.ScaledVectors.{past, sum_scaled, scaled_twice}
use Rattle.scale_laws.specs.Scenes.{AreLargerInstances, AreLargerRegions, moved_lit, larger_view}
use Rattle.scale_laws.specs.SceneLaws.{ScalesOnRay, ScenesScale, PicturesStay, millimetre, RaysScaleToTenths, PicturesStayInTenths}
use Rattle.scale_laws.proofs.Woven.{instances_larger, woven_same, is_moved, claims_larger}

-- the instance of a number is larger, and so is the region
level_same : (m : ℕ) (ray : Ray) (is js : List Instance) (k face : ℕ) → 0 < m → AreLargerInstances m is js → level_on (slice_get js k) face (larger_ray m ray) ≡ level_on (slice_get is k) face ray
level_same m ray [] [] k face some h = refl
level_same m ray [] (j ∷ js) k face some h = absurd h
level_same m ray (i ∷ is) [] k face some h = absurd h
level_same m ray (i ∷ is) (j ∷ js) zero face some h = levels_stay m i.surface j.surface ray face some h.0
level_same m ray (i ∷ is) (j ∷ js) (suc k) face some h = level_same m ray is js k face some h.1

solid_same : (m : ℕ) (rs ss : List Region) (k : ℕ) → AreLargerRegions m rs ss → is_solid (slice_get ss k) ≡ is_solid (slice_get rs k)
solid_same m [] [] k h = refl
solid_same m [] (s ∷ ss) k h = absurd h
solid_same m (r ∷ rs) [] k h = absurd h
solid_same m (r ∷ rs) (s ∷ ss) zero h = ap (λ a. not (not (a == 0))) h.0.air
solid_same m (r ∷ rs) (s ∷ ss) (suc k) h = solid_same m rs ss k h.1

colour_same : (m : ℕ) (rs ss : List Region) (k : ℕ) → AreLargerRegions m rs ss → colour_of (slice_get ss k) ≡ colour_of (slice_get rs k)
colour_same m [] [] k h = refl
colour_same m [] (s ∷ ss) k h = absurd h
colour_same m (r ∷ rs) [] k h = absurd h
colour_same m (r ∷ rs) (s ∷ ss) zero h = h.0.rgb
colour_same m (r ∷ rs) (s ∷ ss) (suc k) h = colour_same m rs ss k h.1

chosen : {X : Type 0} (move : X → X) (b : Bool) (x : X) (o : Option X) → cond b (Some (move x)) (option_map move o) ≡ option_map move (cond b (Some x) o)
chosen move true x o = refl
chosen move false x o = refl

pub find_moved : {X : Type 0} (f g : X → Bool) (move : X → X) (xs : List X) → ((x : X) → f (move x) ≡ g x) → find f (map move xs) ≡ option_map move (find g xs)
find_moved f g move [] same = refl
find_moved f g move (x ∷ xs) same =
    ap (λ b. cond b (Some (move x)) (find f (map move xs))) (same x) ∙ (ap (λ o. cond (g x) (Some (move x)) o) (find_moved f g move xs same) ∙ chosen move (g x) x (find g xs))

abbrev lit : ℕ → Pos → Pos → Hit → ℕ → Lit
lit region start end hit level = record { region = region; start = start; end = end; hit = hit; level = level }

pixel_moved : (m : ℕ) (move : Pos → Pos) (rs ss : List Region) (o : Option Lit) → AreLargerRegions m rs ss → pixel_by ss (option_map (moved_lit move) o) ≡ pixel_by rs o
pixel_moved m move rs ss None h = refl
pixel_moved m move rs ss (Some l) h = ap (shaded l.level) (colour_same m rs ss l.region h)

module _ (m : ℕ) (far : ℤ) (regions larger : List Region) (ray : Ray) (some : 0 < m) (h : AreLargerRegions m regions larger) where
  abbrev move : Pos → Pos
  move x = enlarged m x

  abbrev long : ℤ
  long = pos m *ℤ far

  abbrev old : List Woven
  old = woven_up_to far regions ray

  abbrev gone : List Woven
  gone = map (moved_woven move) old

  abbrev rows : List RegionClaims
  rows = claims_on_up_to far regions ray

  claims_of_gone : claims_from_up_to long gone 0 larger ≡ rows
  claims_of_gone = claims_larger m far old 0 regions larger h (is_moved m far ray regions larger some h)

  claims_same : claims_on_up_to long larger (larger_ray m ray) ≡ rows
  claims_same = ap (λ ws. claims_from_up_to long ws 0 larger) (woven_same m far ray regions larger some h) ∙ claims_of_gone

  parts_same : partitions_up_to long (woven_up_to long larger (larger_ray m ray)) (claims_on_up_to long larger (larger_ray m ray)) ≡ map (moved_partition move) (partitions_up_to far old rows)
  parts_same =
      ap (λ ws. partitions_up_to long ws (claims_from_up_to long ws 0 larger)) (woven_same m far ray regions larger some h)
      ∙ (ap (partitions_up_to long gone) claims_of_gone ∙ partitions_same far long move old (is_moved m far ray regions larger some h) rows)

  lit_moved : (p : Partition) → lit_by larger (larger_ray m ray) (moved_partition move p) ≡ moved_lit move (lit_by regions ray p)
  lit_moved p = ap (lit p.region (move p.start) (move p.end) p.hit) (level_same m ray (instances_of regions) (instances_of larger) p.hit.instance p.hit.face some (instances_larger m regions larger h))

  lit_same : lit_up_to long larger (larger_ray m ray) ≡ map (moved_lit move) (lit_up_to far regions ray)
  lit_same =
      let parts = partitions_up_to far old rows in
      ap (map (lit_by larger (larger_ray m ray))) parts_same
      ∙ (map_twice (lit_by larger (larger_ray m ray)) (moved_partition move) parts
      ∙ (map_same (λ p. lit_by larger (larger_ray m ray) (moved_partition move p)) (λ p. moved_lit move (lit_by regions ray p)) parts (λ p there. lit_moved p)
      ∙ sym (map_twice (moved_lit move) (lit_by regions ray) parts)))

  laps_same : overlaps_on_up_to long larger (larger_ray m ray) ≡ map (moved_overlap move) (overlaps_on_up_to far regions ray)
  laps_same =
      ap (λ ws. overlaps_up_to long ws (claims_from_up_to long ws 0 larger)) (woven_same m far ray regions larger some h)
      ∙ (ap (overlaps_up_to long gone) claims_of_gone ∙ overlaps_same far long move old (is_moved m far ray regions larger some h) rows)

  pub pixel_same : pixel_up_to long larger (larger_ray m ray) ≡ pixel_up_to far regions ray
  pixel_same =
      let lits = lit_up_to far regions ray in
      ap (λ ls. pixel_by larger (first_of larger ls)) lit_same
      ∙ (ap (pixel_by larger) (find_moved (λ l. is_solid (slice_get larger l.region)) (λ l. is_solid (slice_get regions l.region)) (moved_lit move) lits (λ l. solid_same m regions larger l.region h))
      ∙ pixel_moved m move regions larger (first_of regions lits) h)

  pub scales : ScalesOnRay m far regions larger ray
  scales = record { claims = claims_same; lit = lit_same; overlaps = laps_same; pixel = pixel_same }

pub scenes_scale : ScenesScale
scenes_scale m far regions larger ray some h = scales m far regions larger ray some h

-- the rays of the pixels of a larger view
step_scaled : (m : ℤ) (n cell : ℤ) (u : V3) → scaled (n *ℤ (m *ℤ cell)) u ≡ scaled m (scaled (n *ℤ cell) u)
step_scaled m n cell u = ap (λ z. scaled z u) (past n m cell) ∙ sym (scaled_twice m (n *ℤ cell) u)

point_scaled : (m : ℤ) (corner : V3) (dir : Dir) (a b cell : ℤ) → point_from (scaled m corner) dir (a *ℤ (m *ℤ cell)) (b *ℤ (m *ℤ cell)) ≡ scaled m (point_from corner dir (a *ℤ cell) (b *ℤ cell))
point_scaled m corner dir a b cell =
    let x = unit_of (across_of dir) in
    let y = unit_of (down_of dir) in
    ap (λ (v : V3). vector_sum (scaled m corner) (vector_sum v (scaled (b *ℤ (m *ℤ cell)) y))) (step_scaled m a cell x)
    ∙ (ap (λ (v : V3). vector_sum (scaled m corner) (vector_sum (scaled m (scaled (a *ℤ cell) x)) v)) (step_scaled m b cell y)
    ∙ (ap (vector_sum (scaled m corner)) (sum_scaled m (scaled (a *ℤ cell) x) (scaled (b *ℤ cell) y)) ∙ sum_scaled m corner (vector_sum (scaled (a *ℤ cell) x) (scaled (b *ℤ cell) y))))

abbrev along : Dir → V3 → Ray
along dir origin = record { origin = origin; dir = dir }

pub ray_larger : (m : ℕ) (view : View) (column row : ℕ) → pixel_ray (larger_view m view) column row ≡ larger_ray m (pixel_ray view column row)
ray_larger m view column row = ap (along view.dir) (point_scaled (pos m) view.corner view.dir (pos column) (pos row) view.cell)

pub pictures_stay : PicturesStay
pictures_stay m far regions larger view column row some h =
    ap (pixel_up_to (pos m *ℤ far) larger) (ray_larger m view column row) ∙ pixel_same m far regions larger (pixel_ray view column row) some h

-- from millimetres to tenths
pub rays_scale_to_tenths : RaysScaleToTenths
rays_scale_to_tenths far regions larger ray ends h =
    let all : ScalesOnRay millimetre far regions larger ray = scenes_scale millimetre far regions larger ray (omega arith) h in
    record {
      claims = ap (λ (end : ℤ). claims_on_up_to end larger (larger_ray millimetre ray)) ends ∙ all.claims;
      lit = ap (λ (end : ℤ). lit_up_to end larger (larger_ray millimetre ray)) ends ∙ all.lit;
      overlaps = ap (λ (end : ℤ). overlaps_on_up_to end larger (larger_ray millimetre ray)) ends ∙ all.overlaps;
      pixel = ap (λ (end : ℤ). pixel_up_to end larger (larger_ray millimetre ray)) ends ∙ all.pixel;
    }

pub pictures_stay_in_tenths : PicturesStayInTenths
pictures_stay_in_tenths far regions larger view column row ends h =
    ap (λ (end : ℤ). pixel_up_to end larger (pixel_ray (larger_view millimetre view) column row)) ends
    ∙ pictures_stay millimetre far regions larger view column row (omega arith) h
