-- Placements against their matrices, and one after the other.
use Rattle.std.proofs.Common.{◌≡◌, ◌<◌, ℕ, ℤ, ◌∙◌, refl, ap, sym, subst, arith, Result, Ok, Err, IfOk, ◌↔◌, List, [], ◌∷◌, length, drop, ◌+◌, zero, suc, pos, add-one, drop-cons}
use Rattle.std.specs.Prelude.{slice_index_or}
use Rattle.std.proofs.lemmas.Int.{ints}
use Rattle.lattice_core.specs.declared.vector.V3.{V3}
use Rattle.lattice_core.specs.declared.placement.Placement.{Placement}
use Rattle.lattice_core.specs.declared.placement.MatrixFault.{MatrixFault}
use Rattle.lattice_core.specs.declared.placement.MatrixFault.TheVariants.{NotLattice, TooFar}
use Rattle.lattice_core.specs.Limits.{IsWithin}
use Rattle.lattice_core.specs.Vectors.{vector_sum}
use Rattle.lattice_core.specs.Turns.{turned}
use Rattle.lattice_core.specs.Rows.{HasEntries}
use Rattle.lattice_core.specs.Matrices.{number_at, numbers_at, fourth_column, HasLastRow}
use Rattle.std.proofs.Math.Seq.{drop-length}
use Rattle.lattice_core.specs.Placements.{placed, matrix_of, IsPlacementMatrix, IsFarMatrix, IsComposed}
use Rattle.lattice_core.proofs.Turning.{vector_same, turned_sum}

sum_assoc : (a b c : V3) → vector_sum (vector_sum a b) c ≡ vector_sum a (vector_sum b c)
sum_assoc a b c = vector_same (omega (arith, ints)) (omega (arith, ints)) (omega (arith, ints))

pub composed_is : (both upper lower : Placement) → upper.turn.number < 48
    → ((v : V3) → turned both.turn.number v ≡ turned upper.turn.number (turned lower.turn.number v))
    → both.shift ≡ placed upper lower.shift → IsComposed both upper lower
composed_is both upper lower small turns shift = λ p.
    ap (λ (v : V3). vector_sum v both.shift) (turns p)
    ∙ ap (λ (s : V3). vector_sum (turned upper.turn.number (turned lower.turn.number p)) s) shift
    ∙ sym (sum_assoc (turned upper.turn.number (turned lower.turn.number p)) (turned upper.turn.number lower.shift) upper.shift)
    ∙ ap (λ (v : V3). vector_sum v upper.shift) (sym (turned_sum upper.turn.number (turned lower.turn.number p) lower.shift small))

-- placements with one matrix have one shift
pub one_shift : (p q : Placement) → matrix_of p ≡ matrix_of q → p.shift ≡ q.shift
one_shift p q e =
    let x : p.shift.x ≡ q.shift.x = cc in
    let y : p.shift.y ≡ q.shift.y = cc in
    let z : p.shift.z ≡ q.shift.z = cc in
    vector_same x y z

-- what is owed at each of the three answers
pub record IsReadMatrix (limit : ℤ) (numbers : List ℤ) (result : Result Placement MatrixFault) : Type 0 where
  pub value : IfOk result (λ p. (numbers ≡ matrix_of p) × IsWithin limit p.shift)
  pub not_lattice : (result ≡ Err NotLattice) ↔ (¬ IsPlacementMatrix numbers)
  pub too_far : (result ≡ Err TooFar) ↔ IsFarMatrix limit numbers

pub read_near : (limit : ℤ) (numbers : List ℤ) (p : Placement) → numbers ≡ matrix_of p → IsWithin limit p.shift → IsReadMatrix limit numbers (Ok p)
read_near limit numbers p e near = record {
  value = (e, near);
  not_lattice = (λ f. cc, λ none. absurd (none (p, e)));
  too_far = (λ f. cc, λ far. absurd (far.2 (subst (IsWithin limit) (one_shift p far.0 (sym e ∙ far.1)) near)));
}

pub read_far : (limit : ℤ) (numbers : List ℤ) (p : Placement) → numbers ≡ matrix_of p → ¬ (IsWithin limit p.shift) → IsReadMatrix limit numbers (Err TooFar)
read_far limit numbers p e far = record {
  value = tt;
  not_lattice = (λ f. cc, λ none. absurd (none (p, e)));
  too_far = (λ f. (p, e, far), λ f. refl);
}

pub read_none : (limit : ℤ) (numbers : List ℤ) → ¬ (IsPlacementMatrix numbers) → IsReadMatrix limit numbers (Err NotLattice)
read_none limit numbers none = record {
  value = tt;
  not_lattice = (λ f. none, λ f. refl);
  too_far = (λ f. cc, λ far. absurd (none (far.0, far.1)));
}

-- the numbers of a list from a place on
abbrev items_from : ℕ → ℕ → List ℤ → List ℤ
items_from zero i xs = []
items_from (suc n) i xs = slice_index_or xs i (pos 0) ∷ items_from n (i + 1) xs

items_are : (n i : ℕ) (xs : List ℤ) → length xs ≡ i + n → drop i xs ≡ items_from n i xs
items_are zero i xs h = let e : length xs ≡ i = omega arith in subst (λ (n : ℕ). drop n xs ≡ []) e (drop-length xs)
items_are (suc n) i xs h =
    drop-cons xs i (pos 0) (omega arith) ∙ ap (λ (r : List ℤ). slice_index_or xs i (pos 0) ∷ r) (rw (← add-one) (items_are n (i + 1) xs (omega arith)))

pub sixteen : (xs : List ℤ) → length xs ≡ 16 → xs ≡ items_from 16 0 xs
sixteen xs h = items_are 16 0 xs (omega arith)

-- sixteen numbers with the rows of a turn are the matrix of a placement
pub matrix_is : (m : List ℤ) (p : Placement) → length m ≡ 16 → HasEntries (numbers_at m 0) (numbers_at m 4) (numbers_at m 8) p.turn.number → HasLastRow m → p.shift ≡ fourth_column m → m ≡ matrix_of p
matrix_is m p whole rows last shift =
    let a = ap (λ (v : V3). v.x) rows.first_row in
    let b = ap (λ (v : V3). v.y) rows.first_row in
    let c = ap (λ (v : V3). v.z) rows.first_row in
    let d = ap (λ (v : V3). v.x) rows.second_row in
    let e = ap (λ (v : V3). v.y) rows.second_row in
    let f = ap (λ (v : V3). v.z) rows.second_row in
    let g = ap (λ (v : V3). v.x) rows.third_row in
    let h = ap (λ (v : V3). v.y) rows.third_row in
    let i = ap (λ (v : V3). v.z) rows.third_row in
    let x = ap (λ (v : V3). v.x) shift in
    let y = ap (λ (v : V3). v.y) shift in
    let z = ap (λ (v : V3). v.z) shift in
    let all = sixteen m whole in
    let w = last.first in
    let w2 = last.second in
    let w3 = last.third in
    let w4 = last.fourth in
    cc

pub rows_in : (m : List ℤ) (p : Placement) → m ≡ matrix_of p → HasEntries (numbers_at m 0) (numbers_at m 4) (numbers_at m 8) p.turn.number
rows_in m p e = record {
  first_row = ap (λ (n : List ℤ). numbers_at n 0) e;
  second_row = ap (λ (n : List ℤ). numbers_at n 4) e;
  third_row = ap (λ (n : List ℤ). numbers_at n 8) e;
}

pub last_in : (m : List ℤ) (p : Placement) → m ≡ matrix_of p → HasLastRow m
last_in m p e = record {
  first = ap (λ (n : List ℤ). number_at n 12) e;
  second = ap (λ (n : List ℤ). number_at n 13) e;
  third = ap (λ (n : List ℤ). number_at n 14) e;
  fourth = ap (λ (n : List ℤ). number_at n 15) e;
}

pub rows_of_parts : (m : List ℤ) (turn : ℕ) {a b c : V3} → a ≡ numbers_at m 0 → b ≡ numbers_at m 4 → c ≡ numbers_at m 8 → HasEntries a b c turn → HasEntries (numbers_at m 0) (numbers_at m 4) (numbers_at m 8) turn
rows_of_parts m turn p q r has = record {
  first_row = sym p ∙ has.first_row;
  second_row = sym q ∙ has.second_row;
  third_row = sym r ∙ has.third_row;
}

pub parts_of_rows : (m : List ℤ) (turn : ℕ) {a b c : V3} → a ≡ numbers_at m 0 → b ≡ numbers_at m 4 → c ≡ numbers_at m 8 → HasEntries (numbers_at m 0) (numbers_at m 4) (numbers_at m 8) turn → HasEntries a b c turn
parts_of_rows m turn p q r has = record {
  first_row = p ∙ has.first_row;
  second_row = q ∙ has.second_row;
  third_row = r ∙ has.third_row;
}
