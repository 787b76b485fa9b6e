-- A region that holds at a point of a ray of a tile is kept for the tile: its box has the point.
use Rattle.std.proofs.Common.{◌≡◌, ◌<◌, zero, suc, ℕ, ℤ, pos, ◌<ℤ◌, List, [], ◌∷◌, length, get_or, slice_get, true, IfSome, Option, Some, None, All, sym, subst, ◌∙◌, refl, inl, inr, arith}
use Rattle.std.proofs.lemmas.Bool.{true≢false}
use Rattle.std.proofs.lemmas.Option.{get_or_from_slice_get}
use Rattle.lattice_core.specs.declared.boxes.Box3.{Box3}
use Rattle.lattice_core.specs.declared.boxes.Box3.TheVariants.{Empty}
use Rattle.lattice_core.specs.declared.ray.Ray.{Ray}
use Rattle.lattice_core.specs.declared.vector.V3.{V3}
use Rattle.lattice_core.specs.Boxes.{HasPoint}
use Rattle.lattice_core.specs.Rays.{scaled_point}
use Rattle.lattice_core.specs.Views.{pixel_ray}
use Rattle.tree_forms.specs.declared.Op.TheVariants.{U, N, Minus, X}
use Rattle.tree_forms.specs.Trees.{Leaf, Join, leaves}
use Rattle.solid_set.specs.Surfaces.{IsInside}
use Rattle.solid_set.proofs.Enclosed.{enclosed}
use Rattle.bool_weave.specs.Masks.{Mask}
use Rattle.bool_weave.proofs.Sorted.{Has, contains_from_has, has_append_left, has_append_right}
use Rattle.shot_core.specs.Regions.{Instance, RegionBody, Region, HasLeavesBelow, IsPlacedSolid}
use Rattle.shot_core.specs.Prepared.{boxes_of}
use Rattle.shot_core.specs.TreeBoxes.{tree_box}
use Rattle.shot_core.specs.RegionBoxes.{region_box}
use Rattle.shot_core.specs.Points.{TreeHolds, IsInInstance, HoldsPoint}
use Rattle.shot_core.specs.Pruned.{meets_tile}
use Rattle.shot_core.proofs.Boxing.{are_hull_and_meet}
use Rattle.shot_core.proofs.TileMeeting.{ray_met}
use Rattle.view_laws.specs.Pruning.{KeptHaveTheSamePartitions}
use Rattle.view_laws.proofs.LeftOut.{partitions_without_the_rest}

module _ (boxes : List Box3) (says : ℕ → Type 0) (v : V3) (w : ℤ) (some : pos 0 <ℤ w) where
  abbrev HaveAt : Mask → Type 0
  HaveAt t = (i : ℕ) → Has (leaves t) (Some i) → says i → HasPoint (get_or boxes i Empty) v w

  -- the box of a tree has each point at which the tree holds
  tree_has : (t : Mask) → HaveAt t → TreeHolds t says → HasPoint (tree_box boxes t) v w
  tree_has (Leaf None) each holds = elim holds [ ]
  tree_has (Leaf (Some i)) each holds = each i (inl refl) holds
  tree_has (Join U l r) each (inl holds) =
      (are_hull_and_meet.hull (tree_box boxes l) (tree_box boxes r)).first v w some (tree_has l (λ i there. each i (has_append_left (leaves l) (leaves r) (Some i) there)) holds)
  tree_has (Join U l r) each (inr holds) =
      (are_hull_and_meet.hull (tree_box boxes l) (tree_box boxes r)).second v w some (tree_has r (λ i there. each i (has_append_right (leaves l) (leaves r) (Some i) there)) holds)
  tree_has (Join N l r) each holds =
      (are_hull_and_meet.meet (tree_box boxes l) (tree_box boxes r) v w some).1 (
        tree_has l (λ i there. each i (has_append_left (leaves l) (leaves r) (Some i) there)) holds.0,
        tree_has r (λ i there. each i (has_append_right (leaves l) (leaves r) (Some i) there)) holds.1,
      )
  tree_has (Join Minus l r) each holds = tree_has l (λ i there. each i (has_append_left (leaves l) (leaves r) (Some i) there)) holds.0
  tree_has (Join X l r) each (inl holds) =
      (are_hull_and_meet.hull (tree_box boxes l) (tree_box boxes r)).first v w some (tree_has l (λ i there. each i (has_append_left (leaves l) (leaves r) (Some i) there)) holds.0)
  tree_has (Join X l r) each (inr holds) =
      (are_hull_and_meet.hull (tree_box boxes l) (tree_box boxes r)).second v w some (tree_has r (λ i there. each i (has_append_right (leaves l) (leaves r) (Some i) there)) holds.1)

record IsAt (xs : List Instance) (i : ℕ) : Type 0 where
  one : Instance
  there : slice_get xs i ≡ Some one
  box : get_or (boxes_of xs) i Empty ≡ one.bounds

at : (xs : List Instance) (i : ℕ) → i < length xs → IsAt xs i
at [] i lt = absurd (omega (arith, lt))
at (x ∷ xs) zero lt = record { one = x; there = refl; box = refl }
at (x ∷ xs) (suc i) lt = let a = at xs i (omega (arith, lt)) in record { one = a.one; there = a.there; box = a.box }

region_has : (body : RegionBody) (ray : Ray) (p q : ℤ) → pos 0 <ℤ q → HasLeavesBelow (length body.instances) body.tree → All IsPlacedSolid body.instances → HoldsPoint body ray p q → HasPoint (region_box body) (scaled_point ray p q) q
region_has body ray p q some below placed holds =
    tree_has (boxes_of body.instances) (λ i. IsInInstance (slice_get body.instances i) ray p q) (scaled_point ray p q) q some body.tree
    (λ i there is.
    let c = contains_from_has (leaves body.tree) (Some i) there in
    let within : i < length body.instances = subst (λ (o : Option ℕ). IfSome o (λ i. i < length body.instances)) c.2 (below c.0 (Some i) c.1) in
    let a = at body.instances i within in
    let solid : IsPlacedSolid a.one = subst IsPlacedSolid (get_or_from_slice_get body.instances i a.one a.one a.there) (placed i a.one within) in
    let inside : IsInside a.one.surface ray p q = subst (λ o. IsInInstance o ray p q) a.there is in
    subst (λ (b : Box3). HasPoint b (scaled_point ray p q) q) (sym a.box) (enclosed a.one.surface a.one.bounds solid ray p q some inside))
    holds

pub kept_have_the_same_partitions : KeptHaveTheSamePartitions
kept_have_the_same_partitions regions view tile column row rising pixel =
    partitions_without_the_rest regions (pixel_ray view column row) (λ r. meets_tile (region_box r.body) view tile) rising pixel.instances
    (λ r there failed p q on free holds.
    let body = r.body in
    let below : HasLeavesBelow (length r.body.instances) r.body.tree = subst (λ (s : Region). HasLeavesBelow (length s.body.instances) s.body.tree) there.2 (pixel.instances there.0 r there.1) in
    let solids : All IsPlacedSolid r.body.instances = subst (λ (s : Region). All IsPlacedSolid s.body.instances) there.2 (pixel.placed there.0 r there.1) in
    let point = region_has r.body (pixel_ray view column row) p q on.positive below solids holds in
    let met : meets_tile (region_box r.body) view tile ≡ true = ray_met view tile pixel.checked pixel.in_view (region_box r.body) column row pixel.in_tile (record { p = p; q = q; on_ray = on; inside = point }) in
    true≢false (sym met ∙ failed))
