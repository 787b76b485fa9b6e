use Rattle.std.proofs.Common.{refl, Ok, Err}
use Rattle.lattice_core.specs.declared.placement.MatrixFault.TheVariants.{NotLattice, TooFar}
use Rattle.std.proofs.lemmas.Bool.{false≢true}
use Rattle.lattice_core.specs.declared.placement.Placement.{Placement}
use Rattle.lattice_core.specs.declared.limit.TheConstants.{COORD}
use Rattle.lattice_core.proofs.Placing.{IsReadMatrix, matrix_is, rows_in, last_in, read_near, read_far, read_none, rows_of_parts, parts_of_rows}
use Rattle.lattice_core.proofs.placement.of_matrix.Goals as goal

pub returns-then-is_within : goal.returns-then-is_within
returns-then-is_within c =
    let p : Placement = record { turn = c.in-Some.turn; shift = c.shift_in-shift.result } in
    let e = matrix_is c.args.m.now p c.told-m
    (rows_of_parts c.args.m.now p.turn.number c.vector_at.ensures c.vector_at-2.ensures c.vector_at-3.ensures c.in-Some.ensures.some)
    (c.if-not-has_last_row.ensures.0 refl) c.shift_in-shift.ensures in
    let all : IsReadMatrix COORD c.args.m.now (Ok p) = read_near COORD c.args.m.now p e (c.if-is_within.ensures.0 refl) in
    record { value = all.value; not_lattice = all.not_lattice; too_far = all.too_far }

pub returns-else-is_within : goal.returns-else-is_within
returns-else-is_within c =
    let p : Placement = record { turn = c.in-Some.turn; shift = c.shift_in-shift.result } in
    let e = matrix_is c.args.m.now p c.told-m
    (rows_of_parts c.args.m.now p.turn.number c.vector_at.ensures c.vector_at-2.ensures c.vector_at-3.ensures c.in-Some.ensures.some)
    (c.if-not-has_last_row.ensures.0 refl) c.shift_in-shift.ensures in
    let all : IsReadMatrix COORD c.args.m.now (Err TooFar) = read_far COORD c.args.m.now p e (λ near. false≢true (c.if-is_within.ensures.1 near)) in
    record { value = all.value; not_lattice = all.not_lattice; too_far = all.too_far }

pub returns-then-not-has_last_row : goal.returns-then-not-has_last_row
returns-then-not-has_last_row c =
    let all : IsReadMatrix COORD c.args.m.now (Err NotLattice) = read_none COORD c.args.m.now (λ is. false≢true (c.if-not-has_last_row.ensures.1 (last_in c.args.m.now is.0 is.1))) in
    record { value = all.value; not_lattice = all.not_lattice; too_far = all.too_far }

pub returns-in_default : goal.returns-in_default
returns-in_default c =
    let all : IsReadMatrix COORD c.args.m.now (Err NotLattice) = read_none COORD c.args.m.now (λ is.
    c.in_default.ensures.none is.0.turn.number is.0.turn.in_range
    (parts_of_rows c.args.m.now is.0.turn.number c.vector_at.ensures c.vector_at-2.ensures c.vector_at-3.ensures (rows_in c.args.m.now is.0 is.1))) in
    record { value = all.value; not_lattice = all.not_lattice; too_far = all.too_far }
