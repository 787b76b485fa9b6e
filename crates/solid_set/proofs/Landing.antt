-- A turn takes some direction to each direction.
use Rattle.std.proofs.Common.{zero, suc, ◌≡◌, ◌==◌, ◌∙◌, ◌<◌, inl, inr, ℕ, ℤ, pos, negsuc, ◌+ℤ◌, ◌*ℤ◌, ◌≤ℤ◌, Bool, true, false, not, cond, refl, ap, arith}
use Rattle.std.proofs.lemmas.Int.{ints}
use Rattle.lattice_core.specs.declared.vector.V3.{V3}
use Rattle.lattice_core.specs.declared.row.Row.{Row}
use Rattle.lattice_core.specs.declared.ray.Dir.{Dir}
use Rattle.lattice_core.specs.declared.ray.Dir.TheVariants.{PlusX, MinusX, PlusY, MinusY, PlusZ, MinusZ}
use Rattle.lattice_core.specs.Rows.{IsPlace, row_vector}
use Rattle.lattice_core.specs.Turns.{column_of, is_negated, turned}
use Rattle.lattice_core.specs.Units.{unit_of}
use Rattle.lattice_core.specs.Vectors.{dot_product}
use Rattle.lattice_core.proofs.Products.{square_at_least}
use Rattle.lattice_core.proofs.Turning.{vector_same, column_ok, turned_dot}
use Rattle.prim_arb8.proofs.Volume.{by_zero, no_divisor}

-- the direction along a column, or against it
abbrev dir_to : ℕ → Bool → Dir
dir_to c b = cond (c == 1) (cond b MinusX PlusX) (cond (c == 2) (cond b MinusY PlusY) (cond b MinusZ PlusZ))

abbrev sign : Bool → ℤ
sign b = cond b (negsuc 0) (pos 1)

along : (c : ℕ) (b : Bool) → IsPlace c → dot_product (row_vector (let r : Row = record { column = c; negated = b } in r)) (unit_of (dir_to c b)) ≡ pos 1
along zero b h = absurd (omega (arith, h.0))
along (suc zero) true h = refl
along (suc zero) false h = refl
along (suc (suc zero)) true h = refl
along (suc (suc zero)) false h = refl
along (suc (suc (suc zero))) true h = refl
along (suc (suc (suc zero))) false h = refl
along (suc (suc (suc (suc n)))) b h = absurd (omega (arith, h.1))

against : (c : ℕ) (b : Bool) → IsPlace c → dot_product (row_vector (let r : Row = record { column = c; negated = b } in r)) (unit_of (dir_to c (not b))) ≡ negsuc 0
against zero b h = absurd (omega (arith, h.0))
against (suc zero) true h = refl
against (suc zero) false h = refl
against (suc (suc zero)) true h = refl
against (suc (suc zero)) false h = refl
against (suc (suc (suc zero))) true h = refl
against (suc (suc (suc zero))) false h = refl
against (suc (suc (suc (suc n)))) b h = absurd (omega (arith, h.1))

unit_length : (d : Dir) → dot_product (unit_of d) (unit_of d) ≡ pos 1
unit_length PlusX = refl
unit_length MinusX = refl
unit_length PlusY = refl
unit_length MinusY = refl
unit_length PlusZ = refl
unit_length MinusZ = refl

-- where one of three squares is the whole sum, the others are zero
square_zero : (x : ℤ) → (x *ℤ x) ≤ℤ pos 0 → x ≡ pos 0
square_zero x le = elim (by_zero x) [
  | inl none ↦ none
  | inr some ↦ no_divisor x x some (let e : x *ℤ x ≡ pos 0 = omega (arith, ints, le, square_at_least x) in e)
]

rest_zero : (a b c : ℤ) → a *ℤ a ≡ pos 1 → ((a *ℤ a) +ℤ (b *ℤ b)) +ℤ (c *ℤ c) ≡ pos 1 → (b ≡ pos 0) × (c ≡ pos 0)
rest_zero a b c one whole = (
  square_zero b (omega (arith, ints, one, whole, square_at_least c)),
  square_zero c (omega (arith, ints, one, whole, square_at_least b)),
)

one_square : (a : ℤ) (b : Bool) → a ≡ sign b → a *ℤ a ≡ pos 1
one_square a true e = ap (λ (z : ℤ). z *ℤ z) e
one_square a false e = ap (λ (z : ℤ). z *ℤ z) e

length_kept : (turn : ℕ) (d : Dir) → turn < 48 → dot_product (turned turn (unit_of d)) (turned turn (unit_of d)) ≡ pos 1
length_kept turn d h = turned_dot turn (unit_of d) (unit_of d) h ∙ unit_length d

at_x : (v : V3) (b : Bool) → v.x ≡ sign b → dot_product v v ≡ pos 1 → v ≡ unit_of (dir_to 1 b)
at_x v true e whole = let rest = rest_zero v.x v.y v.z (one_square v.x true e) whole in vector_same e rest.0 rest.1
at_x v false e whole = let rest = rest_zero v.x v.y v.z (one_square v.x false e) whole in vector_same e rest.0 rest.1

at_y : (v : V3) (b : Bool) → v.y ≡ sign b → dot_product v v ≡ pos 1 → v ≡ unit_of (dir_to 2 b)
at_y v true e whole = let rest = rest_zero v.y v.x v.z (one_square v.y true e) (omega (arith, ints, whole)) in vector_same rest.0 e rest.1
at_y v false e whole = let rest = rest_zero v.y v.x v.z (one_square v.y false e) (omega (arith, ints, whole)) in vector_same rest.0 e rest.1

at_z : (v : V3) (b : Bool) → v.z ≡ sign b → dot_product v v ≡ pos 1 → v ≡ unit_of (dir_to 3 b)
at_z v true e whole = let rest = rest_zero v.z v.x v.y (one_square v.z true e) (omega (arith, ints, whole)) in vector_same rest.0 rest.1 e
at_z v false e whole = let rest = rest_zero v.z v.x v.y (one_square v.z false e) (omega (arith, ints, whole)) in vector_same rest.0 rest.1 e

abbrev pub LandsOn : ℕ → Dir → Type 0
LandsOn turn to = (from : Dir) × (turned turn (unit_of from) ≡ unit_of to)

abbrev dir_of_row : ℕ → ℕ → Dir
dir_of_row turn place = dir_to (column_of turn place) (is_negated turn place)

abbrev dir_against_row : ℕ → ℕ → Dir
dir_against_row turn place = dir_to (column_of turn place) (not (is_negated turn place))

pub lands : (turn : ℕ) (to : Dir) → turn < 48 → LandsOn turn to
lands turn PlusX h =
    let ok : IsPlace (column_of turn 1) = column_ok turn 1 h (omega arith, omega arith) in
    (dir_of_row turn 1, at_x (turned turn (unit_of (dir_of_row turn 1))) false (along (column_of turn 1) (is_negated turn 1) ok) (length_kept turn (dir_of_row turn 1) h))
lands turn MinusX h =
    let ok : IsPlace (column_of turn 1) = column_ok turn 1 h (omega arith, omega arith) in
    (dir_against_row turn 1, at_x (turned turn (unit_of (dir_against_row turn 1))) true (against (column_of turn 1) (is_negated turn 1) ok) (length_kept turn (dir_against_row turn 1) h))
lands turn PlusY h =
    let ok : IsPlace (column_of turn 2) = column_ok turn 2 h (omega arith, omega arith) in
    (dir_of_row turn 2, at_y (turned turn (unit_of (dir_of_row turn 2))) false (along (column_of turn 2) (is_negated turn 2) ok) (length_kept turn (dir_of_row turn 2) h))
lands turn MinusY h =
    let ok : IsPlace (column_of turn 2) = column_ok turn 2 h (omega arith, omega arith) in
    (dir_against_row turn 2, at_y (turned turn (unit_of (dir_against_row turn 2))) true (against (column_of turn 2) (is_negated turn 2) ok) (length_kept turn (dir_against_row turn 2) h))
lands turn PlusZ h =
    let ok : IsPlace (column_of turn 3) = column_ok turn 3 h (omega arith, omega arith) in
    (dir_of_row turn 3, at_z (turned turn (unit_of (dir_of_row turn 3))) false (along (column_of turn 3) (is_negated turn 3) ok) (length_kept turn (dir_of_row turn 3) h))
lands turn MinusZ h =
    let ok : IsPlace (column_of turn 3) = column_ok turn 3 h (omega arith, omega arith) in
    (dir_against_row turn 3, at_z (turned turn (unit_of (dir_against_row turn 3))) true (against (column_of turn 3) (is_negated turn 3) ok) (length_kept turn (dir_against_row turn 3) h))
