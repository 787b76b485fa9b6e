-- A placement takes the point p to M p + s, with its turn M and its shift s.
use Rattle.std.specs.Prelude.{◌≡◌, ℕ, ℤ, pos, List, [], ◌∷◌}
use Rattle.lattice_core.specs.declared.vector.V3.{V3}
use Rattle.lattice_core.specs.declared.placement.Placement.{Placement}
use Rattle.lattice_core.specs.Limits.{IsWithin}
use Rattle.lattice_core.specs.Vectors.{vector_sum}
use Rattle.lattice_core.specs.Turns.{entry_of, turned}

-- where a placement puts a point: turned, and then shifted
abbrev pub placed : Placement → V3 → V3
placed by p = vector_sum (turned by.turn.number p) by.shift

-- a row of the turn and a component of the shift, before other numbers
abbrev pub row_before : ℕ → ℕ → ℤ → List ℤ → List ℤ
row_before turn row shift rest = entry_of turn row 1 ∷ entry_of turn row 2 ∷ entry_of turn row 3 ∷ shift ∷ rest

-- the 4 by 4 matrix of a placement, row by row
abbrev pub matrix_of : Placement → List ℤ
matrix_of p =
    row_before p.turn.number 1 p.shift.x (row_before p.turn.number 2 p.shift.y (row_before p.turn.number 3 p.shift.z
    (pos 0 ∷ pos 0 ∷ pos 0 ∷ pos 1 ∷ [])))

-- the numbers are the matrix of some placement
abbrev pub IsPlacementMatrix : List ℤ → Type 0
IsPlacementMatrix numbers = (p : Placement) × (numbers ≡ matrix_of p)

-- applying the lower placement and then the upper one is applying the composed one
abbrev pub IsComposed : Placement → Placement → Placement → Type 0
IsComposed both upper lower = (p : V3) → placed both p ≡ placed upper (placed lower p)

-- a shift is over the limit
abbrev pub IsFarMatrix : ℤ → List ℤ → Type 0
IsFarMatrix limit numbers = (p : Placement) × (numbers ≡ matrix_of p) × (¬ IsWithin limit p.shift)
