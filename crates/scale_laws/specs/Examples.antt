-- Lengths in tenths of a millimetre, proved by computation.
use Rattle.std.specs.Prelude.{◌≡◌, refl, pos, negsuc, ◌*ℤ◌, [], ◌∷◌, map, Some, codes, false}
use Rattle.surd_order.specs.declared.position.Pos.TheVariants.{Frac, Surd}
use Rattle.surd_order.specs.PlaceOrder.{place_cmp}
use Rattle.lattice_core.specs.declared.limit.TheConstants.{FAR, MILLIMETRE}
use Rattle.lattice_core.specs.declared.turn.Turn.{Turn}
use Rattle.lattice_core.specs.Vectors.{vector}
use Rattle.tree_forms.specs.Trees.{Leaf}
use Rattle.region_attr.specs.declared.attr.Attr.{Attr}
use Rattle.solid_set.specs.declared.solid.Solid.TheVariants as solids
use Rattle.object_set.specs.declared.object.Body.TheVariants as bodies
use Rattle.overlap_list.specs.Partitions.{partitions_up_to}
use Rattle.order_laws.specs.Examples.{one_piece, one_region, part}
use Rattle.order_laws.specs.RaysMoved.{moved_woven}
use Rattle.solid_set.specs.Times.{enlarged}
use Rattle.solid_set.specs.Larger.{larger_solid}
use Rattle.scale_laws.specs.Models.{larger_directory}
use Rattle.scale_laws.specs.SceneLaws.{millimetre}

-- a ray was 1,048,576 millimetres long, and is so still
same_ray : FAR ≡ MILLIMETRE *ℤ pos 1048576
same_ray = refl

whole_place : enlarged millimetre (Frac (pos 5) (pos 1)) ≡ Frac (pos 50) (pos 1)
whole_place = refl

-- 7/2 of a millimetre are 35 tenths
half_place : enlarged millimetre (Frac (pos 7) (pos 2)) ≡ Frac (pos 35) (pos 1)
half_place = refl

root_place : enlarged millimetre (Surd (pos 10) false 23) ≡ Surd (pos 100) false 2300
root_place = refl

-- a ray that is ten times as long has the part from 5/2 to 10 - √23 from 25 to 100 - √2300
ten_times_as_long : partitions_up_to (pos 1000) (map (moved_woven (enlarged millimetre)) one_piece) one_region ≡ part 0 (Frac (pos 25) (pos 1)) (Surd (pos 100) false 2300) 0 1 ∷ []
unfolding place_cmp
ten_times_as_long = refl

-- a half-space keeps its normal
larger_half : larger_solid millimetre (solids.Half (record { normal = vector (pos 1) (negsuc 1) (pos 0); distance = pos 5 }))
    ≡ solids.Half (record { normal = vector (pos 1) (negsuc 1) (pos 0); distance = pos 50 })
larger_half = refl

-- a sphere of radius 5 in a combination whose member is shifted by 7
module _ (turn : Turn) (attr : Attr) where
  larger_model : larger_directory millimetre (
      (codes "s", record { body = bodies.Solid (solids.Sphere (record { centre = vector (pos 0) (pos 1) (negsuc 1); radius = pos 5 })); kept = [] })
      ∷ (codes "a", record { body = bodies.Comb attr (Some (Leaf (record { name = codes "s"; placement = record { turn = turn; shift = vector (pos 7) (pos 0) (pos 0) } }))); kept = [] }) ∷ []
      ) ≡ (codes "s", record { body = bodies.Solid (solids.Sphere (record { centre = vector (pos 0) (pos 10) (negsuc 19); radius = pos 50 })); kept = [] })
      ∷ (codes "a", record { body = bodies.Comb attr (Some (Leaf (record { name = codes "s"; placement = record { turn = turn; shift = vector (pos 70) (pos 0) (pos 0) } }))); kept = [] }) ∷ []
  larger_model = refl
