-- The places of a few boxes, and which of them rays cross.
use Rattle.std.specs.Prelude.{◌≡◌, [], ◌∷◌, ℤ, pos, negsuc, Bool, true, false, List, refl}
use Rattle.lattice_core.specs.declared.vector.V3.{V3}
use Rattle.lattice_core.specs.Extents.{extent_between}
use Rattle.lattice_core.specs.Vectors.{vector}
use Rattle.lattice_core.specs.declared.boxes.Box3.{Box3}
use Rattle.lattice_core.specs.declared.boxes.Box3.TheVariants.{Empty, Span}
use Rattle.box_index.specs.Lines.{line_of, whole_line, is_crossed}
use Rattle.box_index.specs.Places.{places_where}
use Rattle.box_index.specs.Bounds.{around, all_points}

abbrev has_extents : Box3 → Bool
has_extents Empty = false
has_extents (Span x y z) = true

abbrev four : List Box3
four = Empty ∷ all_points ∷ Empty ∷ all_points ∷ []

pub no_boxes : places_where has_extents [] ≡ []
no_boxes = refl

pub none_pass : places_where (λ b. false) four ≡ []
none_pass = refl

pub all_pass : places_where (λ b. true) four ≡ 0 ∷ 1 ∷ 2 ∷ 3 ∷ []
all_pass = refl

pub some_pass : places_where has_extents four ≡ 1 ∷ 3 ∷ []
some_pass = refl

-- ---- bounds
abbrev cube_between : ℤ → ℤ → Box3
cube_between low high = Span (extent_between low high) (extent_between low high) (extent_between low high)

pub around_two : around (cube_between (pos 1) (pos 3)) (cube_between (pos 2) (pos 5)) ≡ cube_between (pos 1) (pos 5)
around_two = refl

pub around_none : around Empty (cube_between (pos 2) (pos 5)) ≡ cube_between (pos 2) (pos 5)
around_none = refl

pub around_all : around all_points (cube_between (pos 2) (pos 5)) ≡ all_points
around_all = refl

-- ---- rays in lattice directions
abbrev does_cross : V3 → V3 → Box3 → Bool
does_cross origin direction b = is_crossed (line_of origin direction) whole_line b

-- a cube whose third extent is given from a low side on
abbrev cube_from : ℤ → Box3
cube_from low = Span (extent_between (pos 10) (pos 20)) (extent_between (pos 10) (pos 20)) (extent_between low (pos 20))

pub all_rise : does_cross (vector (pos 0) (pos 0) (pos 0)) (vector (pos 1) (pos 1) (pos 1)) (cube_from (pos 10)) ≡ true
all_rise = refl

-- the ray touches the cube at its edge after 5 steps, when its coordinates are 20, 15 and 10
pub all_fall : does_cross (vector (pos 30) (pos 30) (pos 30)) (vector (negsuc 1) (negsuc 2) (negsuc 3)) (cube_from (pos 10)) ≡ true
all_fall = refl

pub all_fall_beside : does_cross (vector (pos 30) (pos 30) (pos 30)) (vector (negsuc 1) (negsuc 2) (negsuc 3)) (cube_from (pos 11)) ≡ false
all_fall_beside = refl

pub one_stays_outside : does_cross (vector (pos 0) (pos 0) (pos 0)) (vector (pos 1) (pos 0) (pos 1)) (cube_from (pos 10)) ≡ false
one_stays_outside = refl

pub cube_is_behind : does_cross (vector (pos 30) (pos 30) (pos 30)) (vector (pos 1) (pos 2) (pos 3)) (cube_from (pos 10)) ≡ false
cube_is_behind = refl
