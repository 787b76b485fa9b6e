-- Boxes by their extents.
use Rattle.std.specs.Prelude.{◌≡◌, ◌⊎◌}
use Rattle.lattice_core.specs.declared.boxes.Box3.{Box3}
use Rattle.lattice_core.specs.declared.boxes.Box3.TheVariants.{Empty, Span}
use Rattle.lattice_core.specs.declared.vector.V3.{V3}
use Rattle.lattice_core.specs.Extents.{IsOrdered, hull_extent, meet_extent, reach_extent}

-- no side lies beyond its opposite one
abbrev pub IsNonEmpty : Box3 → Type 0
IsNonEmpty Empty = ⊥
IsNonEmpty (Span x y z) = IsOrdered x × IsOrdered y × IsOrdered z

-- the box, or the empty one where it has no points
abbrev pub IsTidyOf : Box3 → Box3 → Type 0
IsTidyOf b result = (IsNonEmpty b × (result ≡ b)) ⊎ ((¬ IsNonEmpty b) × (result ≡ Empty))

-- the hull along each axis
abbrev pub hull_span : Box3 → Box3 → Box3
hull_span Empty b = Empty
hull_span (Span x y z) Empty = Empty
hull_span (Span x y z) (Span x' y' z') = Span (hull_extent x x') (hull_extent y y') (hull_extent z z')

-- what they share along each axis
abbrev pub meet_span : Box3 → Box3 → Box3
meet_span Empty b = Empty
meet_span (Span x y z) Empty = Empty
meet_span (Span x y z) (Span x' y' z') = Span (meet_extent x x') (meet_extent y y') (meet_extent z z')

-- from the least coordinate of a ray to the greatest, along each axis
abbrev pub reach_span : V3 → V3 → Box3
reach_span origin step = Span (reach_extent origin.x step.x) (reach_extent origin.y step.y) (reach_extent origin.z step.z)
