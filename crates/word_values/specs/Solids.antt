-- The solids that are made of numbers. Lengths count tenths of a millimetre.
use Rattle.std.specs.Prelude.{ℕ, ◌+◌, ℤ, pos, Bool, not, ◌&&◌, List, [], ◌∷◌, Option, Some, None, Result, Ok, Err, codes, bytes_eq, unwrap_or, slice_index_or, if◌then◌else◌}
use Rattle.std.specs.Ordering.{int_cmp, int_eq, is_lt}
use Rattle.lattice_core.specs.declared.vector.V3.{V3}
use Rattle.plane_geom.specs.declared.fault.ShapeFault.{ShapeFault}
use Rattle.plane_geom.specs.declared.fault.ShapeFault.TheVariants.{Axis, Radius, ZeroNormal}
use Rattle.prim_arb8.specs.Faces.{first_fault, cases_of}
use Rattle.solid_set.specs.Rpps.{vector, rpp_vertices}
use Rattle.solid_set.specs.declared.solid.Solid.{Solid}
use Rattle.solid_set.specs.declared.solid.Solid.TheVariants as solids
use Rattle.word_values.specs.declared.solid.SolidKind.{SolidKind}
use Rattle.word_values.specs.declared.solid.SolidKind.TheVariants.{Half, Rpp, Arb8, Sphere, Rcc}

-- the word of a kind of solid
abbrev pub kind_word : SolidKind → List ℕ
kind_word Half = codes "half"
kind_word Rpp = codes "rpp"
kind_word Arb8 = codes "arb8"
kind_word Sphere = codes "sph"
kind_word Rcc = codes "rcc"

-- the kind of solid that a word names
abbrev pub kind_of : List ℕ → Option SolidKind
kind_of word =
    if bytes_eq word (codes "half") then Some Half
    else (if bytes_eq word (codes "rpp") then Some Rpp
    else (if bytes_eq word (codes "arb8") then Some Arb8
    else (if bytes_eq word (codes "sph") then Some Sphere
    else (if bytes_eq word (codes "rcc") then Some Rcc else None))))

-- how many numbers make a solid of a kind
abbrev pub number_count : SolidKind → ℕ
number_count Half = 4
number_count Rpp = 6
number_count Arb8 = 24
number_count Sphere = 4
number_count Rcc = 7

-- the number at a place, 0 for none
abbrev pub nth_number : List (Option ℤ) → ℕ → ℤ
nth_number numbers i = unwrap_or (slice_index_or numbers i None) (pos 0)

-- the three numbers from a place on, as a vector
abbrev pub vector_at : List (Option ℤ) → ℕ → V3
vector_at numbers i = vector (nth_number numbers i) (nth_number numbers (i + 1)) (nth_number numbers (i + 2))

abbrev pub is_zero : V3 → Bool
is_zero v = int_eq v.x (pos 0) && int_eq v.y (pos 0) && int_eq v.z (pos 0)

-- a half-space by its normal and its distance, where the normal is not zero
abbrev pub half_made : V3 → ℤ → Result Solid ShapeFault
half_made normal distance = if is_zero normal then Err ZeroNormal else Ok (solids.Half (record { normal = normal; distance = distance }))

-- a sphere by its centre and its radius, where that is at least 1, a tenth of a millimetre
abbrev pub sphere_made : V3 → ℤ → Result Solid ShapeFault
sphere_made centre radius = if is_lt (int_cmp radius (pos 1)) then Err Radius else Ok (solids.Sphere (record { centre = centre; radius = radius }))

-- exactly one component differs from 0
abbrev pub has_one_component : V3 → Bool
has_one_component v =
    if int_eq v.x (pos 0) then (if int_eq v.y (pos 0) then not (int_eq v.z (pos 0)) else int_eq v.z (pos 0))
    else int_eq v.y (pos 0) && int_eq v.z (pos 0)

-- a cylinder by the centre of its base, its height and its radius, where exactly one component of the height differs from 0 and
-- the radius is at least 1
abbrev pub rcc_made : V3 → V3 → ℤ → Result Solid ShapeFault
rcc_made base height radius =
    if has_one_component height then (if is_lt (int_cmp radius (pos 1)) then Err Radius else Ok (solids.Rcc (record { base = base; height = height; radius = radius })))
    else Err Axis

abbrev pub unless_faulty : Option ShapeFault → List V3 → Result Solid ShapeFault
unless_faulty None vertices = Ok (solids.Arb8 (record { vertices = vertices }))
unless_faulty (Some fault) vertices = Err fault

-- a solid by its eight vertices, where it has no fault
abbrev pub arb8_made : List V3 → Result Solid ShapeFault
arb8_made vertices = unless_faulty (first_fault (cases_of vertices)) vertices

-- eight vertices, three numbers each
abbrev pub vertices_in : List (Option ℤ) → List V3
vertices_in numbers =
    vector_at numbers 0 ∷ vector_at numbers 3 ∷ vector_at numbers 6 ∷ vector_at numbers 9
    ∷ vector_at numbers 12 ∷ vector_at numbers 15 ∷ vector_at numbers 18 ∷ vector_at numbers 21 ∷ []

-- the solid of a kind by its numbers, or its first fault
abbrev pub solid_made : SolidKind → List (Option ℤ) → Result Solid ShapeFault
solid_made Half numbers = half_made (vector_at numbers 0) (nth_number numbers 3)
solid_made Rpp numbers =
    arb8_made (rpp_vertices (nth_number numbers 0) (nth_number numbers 1) (nth_number numbers 2) (nth_number numbers 3) (nth_number numbers 4) (nth_number numbers 5))
solid_made Arb8 numbers = arb8_made (vertices_in numbers)
solid_made Sphere numbers = sphere_made (vector_at numbers 0) (nth_number numbers 3)
solid_made Rcc numbers = rcc_made (vector_at numbers 0) (vector_at numbers 3) (nth_number numbers 6)
