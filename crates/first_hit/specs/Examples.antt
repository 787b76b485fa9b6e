-- Where boxes begin along an axis, proved by computation.
use Rattle.std.specs.Prelude.{◌≡◌, refl, ℕ, ℤ, pos, negsuc, List, [], ◌∷◌, Some}
use Rattle.std.proofs.Common.{inl}
use Rattle.lattice_core.specs.declared.boxes.Side.TheVariants.{Open, At}
use Rattle.lattice_core.specs.declared.boxes.Box3.{Box3}
use Rattle.lattice_core.specs.declared.boxes.Box3.TheVariants.{Span}
use Rattle.lattice_core.specs.declared.ray.Dir.TheVariants.{PlusX, MinusX}
use Rattle.lattice_core.specs.Extents.{extent_between}
use Rattle.lattice_core.specs.Vectors.{vector}
use Rattle.prim_arb8.specs.Faces.{planes_of}
use Rattle.tree_forms.specs.Trees.{Leaf}
use Rattle.solid_set.specs.declared.surface.Surface.TheVariants.{Planes, HalfSpace}
use Rattle.solid_set.specs.Bounds.{all_of_space}
use Rattle.solid_set.specs.Rpps.{rpp_vertices}
use Rattle.bool_weave.specs.Masks.{Mask}
use Rattle.shot_core.specs.Regions.{Instance, Region}
use Rattle.first_hit.specs.NearFirst.{GoesBefore, begins_at}

-- a box by its least and greatest x, y and z
abbrev span : ℤ → ℤ → ℤ → ℤ → ℤ → ℤ → Box3
span xlo xhi ylo yhi zlo zhi = Span (extent_between xlo xhi) (extent_between ylo yhi) (extent_between zlo zhi)

abbrev box : ℤ → ℤ → ℤ → ℤ → ℤ → ℤ → Instance
box xlo xhi ylo yhi zlo zhi = record { surface = Planes (planes_of (rpp_vertices xlo xhi ylo yhi zlo zhi)); bounds = span xlo xhi ylo yhi zlo zhi }

-- the points with 5 x at most d
abbrev half : ℤ → Instance
half d = record { surface = HalfSpace (record { n = vector (pos 5) (pos 0) (pos 0); d = d }); bounds = all_of_space }

abbrev region : ℕ → ℕ → Mask → List Instance → Region
region place air tree instances = record { place = place; path = []; body = record { id = 0; air = air; rgb = record { r = 0; g = 0; b = 0 }; tree = tree; instances = instances } }

abbrev leaf : ℕ → Mask
leaf i = Leaf (Some i)

-- of one instance
abbrev single : ℕ → ℕ → Instance → Region
single place air i = region place air (leaf 0) (i ∷ [])

-- a box begins at its low side along an axis, and at its high side against it
begins_along_the_axis : begins_at PlusX (Some (single 1 0 (box (pos 20) (pos 30) (pos 5) (pos 25) (pos 0) (pos 10)))) ≡ At (pos 20)
begins_along_the_axis = refl

begins_against_the_axis : begins_at MinusX (Some (single 1 0 (box (pos 20) (pos 30) (pos 5) (pos 25) (pos 0) (pos 10)))) ≡ At (negsuc 29)
begins_against_the_axis = refl

-- a half-space has no side there, and goes before each that has one, also where its number is higher
begins_nowhere : begins_at PlusX (Some (single 1 0 (half (pos 5)))) ≡ Open
begins_nowhere = refl

goes_before_a_box : GoesBefore Open 2 (At (pos 20)) 0
goes_before_a_box = inl tt
