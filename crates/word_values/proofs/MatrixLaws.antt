-- The placement that sixteen numbers are the matrix of.
use Rattle.std.proofs.Common.{◌≡◌, ◌<◌, ◌≤◌, ◌+◌, ◌∙◌, ◌==◌, ◌&&◌, ◌↔◌, ℕ, ℤ, pos, Bool, true, false, cond, List, [], ◌∷◌, length, map, find, Option, Some, None, Result, Ok, Err, IfOk, zero, suc, eqb-true, arith, ap, sym, refl, subst, nat_lt}
use Rattle.std.specs.List.{range_with_len}
use Rattle.std.specs.Coded.{le_prop}
use mathlib.Core.HLevel.{Σ_prop_path}
use Rattle.std.specs.Option.{option_map}
use Rattle.std.specs.Ordering.{int_eq}
use Rattle.std.specs.Result.{result_ok}
use Rattle.std.specs.Option.{IsSome}
use Rattle.std.specs.Int.RustNames.{unsigned_abs}
use Rattle.std.proofs.lemmas.Int.{ints}
use Rattle.std.proofs.lemmas.Bool.{and_parts, leb-true, ltb-true, ltb-false, le-leb, cond-true, cond-false}
use Rattle.std.proofs.lemmas.Bool.Decides.{Decides-int_eq}
use Rattle.lattice_core.specs.declared.turn.Turn.{Turn}
use Rattle.lattice_core.specs.declared.vector.V3.{V3}
use Rattle.lattice_core.specs.declared.placement.Placement.{Placement}
use Rattle.lattice_core.specs.declared.limit.TheConstants.{COORD}
use Rattle.lattice_core.specs.Limits.{IsAtMost, IsWithin}
use Rattle.lattice_core.specs.Matrices.{number_at, numbers_at, fourth_column, HasLastRow}
use Rattle.lattice_core.specs.Placements.{matrix_of, IsPlacementMatrix, IsFarMatrix}
use Rattle.lattice_core.specs.Rows.{HasEntries}
use Rattle.lattice_core.specs.Turns.{entry_of, row_of}
use Rattle.lattice_core.specs.Vectors.{zero_vector}
use Rattle.lattice_core.specs.declared.placement.MatrixFault.{MatrixFault}
use Rattle.lattice_core.specs.declared.placement.MatrixFault.TheVariants.{NotLattice, TooFar}
use Rattle.lattice_core.proofs.Turning.{vector_same}
use Rattle.lattice_core.proofs.Placing.{matrix_is, one_shift}
use Rattle.word_values.specs.Matrices.{has_row, has_rows, has_last_row, turn_number, turn_if, turn_numbered, is_near_number, is_near, placement_by, placement_in, IsNearMatrix, identity}
use Rattle.word_values.specs.Atoms.{all_numbers}

abbrev turn_made : (n : ℕ) × (n < 48) → Turn
turn_made u = record { number = u.0; in_range = u.1 }

same_turn : (a b : Turn) → a.number ≡ b.number → a ≡ b
same_turn a b e = ap turn_made (Σ_prop_path {B = λ n. n < 48} (λ n. le_prop) {u = (a.number, a.in_range)} {v = (b.number, b.in_range)} e)

-- the rows of each of the 48 turns are found at its number
abbrev rows_of : ℕ → V3 → List ℤ
rows_of turn s =
    entry_of turn 1 1 ∷ entry_of turn 1 2 ∷ entry_of turn 1 3 ∷ s.x ∷ entry_of turn 2 1 ∷ entry_of turn 2 2 ∷ entry_of turn 2 3 ∷ s.y
    ∷ entry_of turn 3 1 ∷ entry_of turn 3 2 ∷ entry_of turn 3 3 ∷ s.z ∷ pos 0 ∷ pos 0 ∷ pos 0 ∷ pos 1 ∷ []

abbrev is_at : Option ℕ → ℕ → Bool
is_at None n = false
is_at (Some m) n = m == n

-- from a number on, so many pass
abbrev all_from : (ℕ → Bool) → ℕ → ℕ → Bool
all_from p zero a = true
all_from p (suc k) a = p a && all_from p k (a + 1)

all_read : (p : ℕ → Bool) (k a i : ℕ) → all_from p k a ≡ true → i < k → p (a + i) ≡ true
all_read p zero a i h lt = absurd (omega (arith, lt))
all_read p (suc k) a zero h lt = let sum : a ≡ a + 0 = omega arith in subst (λ (n : ℕ). p n ≡ true) sum (and_parts (p a) (all_from p k (a + 1)) h).0
all_read p (suc k) a (suc i) h lt = let sum : (a + 1) + i ≡ a + suc i = omega arith in subst (λ (n : ℕ). p n ≡ true) sum (all_read p k (a + 1) i (and_parts (p a) (all_from p k (a + 1)) h).1 (omega (arith, lt)))

all_found : (s : V3) → all_from (λ n. is_at (turn_number (rows_of n s)) n) 48 0 ≡ true
all_found s = refl

at_same : (o : Option ℕ) (n : ℕ) → is_at o n ≡ true → o ≡ Some n
at_same None n h = absurd cc
at_same (Some m) n h = ap (λ k. Some k) (eqb-true m n h)

found : (p : Placement) → turn_number (matrix_of p) ≡ Some p.turn.number
found p =
    let n : ℕ = p.turn.number in
    let sum : 0 + n ≡ n = omega arith in
    at_same (turn_number (rows_of n p.shift)) n (subst (λ (k : ℕ). is_at (turn_number (rows_of k p.shift)) k ≡ true) sum (all_read (λ n. is_at (turn_number (rows_of n p.shift)) n) 48 0 n (all_found p.shift) p.turn.in_range))

turn_if_is : (n : ℕ) (t : Bool) (e : nat_lt n 48 ≡ t) (turn : Turn) → turn.number ≡ n → turn_if n t e ≡ Some turn
turn_if_is n true e turn is = ap (λ (u : Turn). Some u) (same_turn _ turn (sym is))
turn_if_is n false e turn is = let large : 48 ≤ n = ltb-false n 48 e in absurd (omega (arith, large, turn.in_range, is))

turn_here : (turn : Turn) → turn_numbered (Some turn.number) ≡ Some turn
turn_here turn = turn_if_is turn.number (nat_lt turn.number 48) refl turn refl

near_component : (c : ℤ) → IsAtMost COORD c → is_near_number c ≡ true
near_component c h = le-leb (unsigned_abs c) (unsigned_abs COORD) (omega (arith, ints, h.0, h.1))

component_near : (c : ℤ) → is_near_number c ≡ true → IsAtMost COORD c
component_near c h = let small : unsigned_abs c ≤ unsigned_abs COORD = leb-true (unsigned_abs c) (unsigned_abs COORD) h in (omega (arith, ints, small), omega (arith, ints, small))

both : (a b : Bool) → a ≡ true → b ≡ true → (a && b) ≡ true
both a b p q = cc

near_true : (s : V3) → IsWithin COORD s → is_near s ≡ true
near_true s h = both (is_near_number s.x && is_near_number s.y) (is_near_number s.z) (both (is_near_number s.x) (is_near_number s.y) (near_component s.x h.x) (near_component s.y h.y)) (near_component s.z h.z)

true_near : (s : V3) → is_near s ≡ true → IsWithin COORD s
true_near s h =
    let a = and_parts (is_near_number s.x && is_near_number s.y) (is_near_number s.z) h in
    let b = and_parts (is_near_number s.x) (is_near_number s.y) a.0 in
    record { x = component_near s.x b.0; y = component_near s.y b.1; z = component_near s.z a.1 }

not_true : (b : Bool) → (b ≡ true → ⊥) → b ≡ false
not_true true h = absurd (h refl)
not_true false h = refl

of_its_matrix : (p : Placement) → option_map (placement_by p.shift) (turn_numbered (turn_number (matrix_of p))) ≡ Some p
of_its_matrix p = ap (λ o. option_map (placement_by p.shift) (turn_numbered o)) (found p) ∙ ap (option_map (placement_by p.shift)) (turn_here p.turn)

read_near : (p : Placement) → IsWithin COORD p.shift → placement_in (matrix_of p) ≡ Some p
read_near p near =
    cond-true (is_near p.shift) (option_map (placement_by p.shift) (turn_numbered (turn_number (matrix_of p)))) None (near_true p.shift near) ∙ of_its_matrix p

read_far : (p : Placement) → ¬ (IsWithin COORD p.shift) → placement_in (matrix_of p) ≡ None
read_far p far =
    cond-false (is_near p.shift) (option_map (placement_by p.shift) (turn_numbered (turn_number (matrix_of p)))) None (not_true (is_near p.shift) (λ h. far (true_near p.shift h)))

-- what is found passes
passes_by : (p : ℕ → Bool) (x y : ℕ) (rest : Option ℕ) (t : Bool) → p x ≡ t → cond t (Some x) rest ≡ Some y → (rest ≡ Some y → p y ≡ true) → p y ≡ true
passes_by p x y rest true e h more = let same : x ≡ y = cc in subst (λ (n : ℕ). p n ≡ true) same e
passes_by p x y rest false e h more = more h

passes : (p : ℕ → Bool) (xs : List ℕ) (y : ℕ) → find p xs ≡ Some y → p y ≡ true
passes p [] y h = absurd cc
passes p (x ∷ xs) y h = passes_by p x y (find p xs) (p x) refl h (passes p xs y)

same_number : (a b : ℤ) → int_eq a b ≡ true → a ≡ b
same_number a b h = (Decides-int_eq a b).0 h

three : (a b c : Bool) → (a && b && c) ≡ true → (a ≡ true) × (b ≡ true) × (c ≡ true)
three a b c h = let p = and_parts (a && b) c h in let q = and_parts a b p.0 in (q.0, q.1, p.1)

row_read : (m : List ℤ) (place turn row : ℕ) → has_row m place turn row ≡ true → numbers_at m place ≡ row_of turn row
row_read m place turn row h =
    let a = three (int_eq (number_at m place) (entry_of turn row 1)) (int_eq (number_at m (place + 1)) (entry_of turn row 2)) (int_eq (number_at m (place + 2)) (entry_of turn row 3)) h in
    vector_same (same_number (number_at m place) (entry_of turn row 1) a.0) (same_number (number_at m (place + 1)) (entry_of turn row 2) a.1) (same_number (number_at m (place + 2)) (entry_of turn row 3) a.2)

rows_read : (m : List ℤ) (turn : ℕ) → has_rows m turn ≡ true → HasEntries (numbers_at m 0) (numbers_at m 4) (numbers_at m 8) turn
rows_read m turn h =
    let a = three (has_row m 0 turn 1) (has_row m 4 turn 2) (has_row m 8 turn 3) h in
    record { first_row = row_read m 0 turn 1 a.0; second_row = row_read m 4 turn 2 a.1; third_row = row_read m 8 turn 3 a.2 }

last_read : (m : List ℤ) → has_last_row m ≡ true → HasLastRow m
last_read m h =
    let p = and_parts (int_eq (number_at m 12) (pos 0) && int_eq (number_at m 13) (pos 0) && int_eq (number_at m 14) (pos 0)) (int_eq (number_at m 15) (pos 1)) h in
    let a = three (int_eq (number_at m 12) (pos 0)) (int_eq (number_at m 13) (pos 0)) (int_eq (number_at m 14) (pos 0)) p.0 in
    record { first = same_number (number_at m 12) (pos 0) a.0; second = same_number (number_at m 13) (pos 0) a.1; third = same_number (number_at m 14) (pos 0) a.2; fourth = same_number (number_at m 15) (pos 1) p.1 }

either_none : (t : Bool) (o : Option Placement) → o ≡ None → cond t o None ≡ None
either_none true o e = e
either_none false o e = refl

number_none : (m : List ℤ) (n : ℕ) (near t : Bool) (e : nat_lt n 48 ≡ t) → length m ≡ 16 → (¬ IsPlacementMatrix m) → has_last_row m ≡ true → has_rows m n ≡ true
    → cond near (option_map (placement_by (fourth_column m)) (turn_if n t e)) None ≡ None
number_none m n near true e len none last rows =
    let p : Placement = record { turn = record { number = n; in_range = ltb-true n 48 e }; shift = fourth_column m } in
    absurd (none (p, matrix_is m p len (rows_read m n rows) (last_read m last) refl))
number_none m n near false e len none last rows = either_none near (option_map (placement_by (fourth_column m)) (turn_if n false e)) refl

none_by : (m : List ℤ) (t : Bool) (o : Option ℕ) → length m ≡ 16 → (¬ IsPlacementMatrix m) → has_last_row m ≡ t → turn_number m ≡ o
    → cond (t && is_near (fourth_column m)) (option_map (placement_by (fourth_column m)) (turn_numbered o)) None ≡ None
none_by m false o len none e h = refl
none_by m true None len none e h = either_none (is_near (fourth_column m)) (option_map (placement_by (fourth_column m)) (turn_numbered None)) refl
none_by m true (Some n) len none e h = number_none m n (is_near (fourth_column m)) (nat_lt n 48) refl len none e (passes (has_rows m) (range_with_len 0 48) n h)

read_none : (m : List ℤ) → length m ≡ 16 → (¬ IsPlacementMatrix m) → placement_in m ≡ None
read_none m len none = none_by m (has_last_row m) (turn_number m) len none refl refl

-- what reading a matrix gave is the definition's placement
pub of_read : (m : List ℤ) (r : Result Placement MatrixFault) → length m ≡ 16 → IfOk r (λ p. (m ≡ matrix_of p) × IsWithin COORD p.shift)
    → ((r ≡ Err NotLattice) ↔ (¬ IsPlacementMatrix m)) → ((r ≡ Err TooFar) ↔ IsFarMatrix COORD m) → result_ok r ≡ placement_in m
of_read m (Ok p) len value none far = sym (ap placement_in value.0 ∙ read_near p value.1)
of_read m (Err NotLattice) len value none far = sym (read_none m len (none.0 refl))
of_read m (Err TooFar) len value none far = let f = far.0 refl in sym (ap placement_in f.1 ∙ read_far f.0 f.2)

-- a placement is found exactly where the numbers are the matrix of one that is near
pub some_near : (m : List ℤ) (r : Result Placement MatrixFault) → IfOk r (λ p. (m ≡ matrix_of p) × IsWithin COORD p.shift)
    → ((r ≡ Err NotLattice) ↔ (¬ IsPlacementMatrix m)) → ((r ≡ Err TooFar) ↔ IsFarMatrix COORD m) → IsSome (result_ok r) ↔ IsNearMatrix m
some_near m (Ok p) value none far = (λ h. (p, value.0, value.1), λ h. refl)
some_near m (Err NotLattice) value none far = (λ h. absurd cc, λ h. absurd ((none.0 refl) (h.0, h.1)))
some_near m (Err TooFar) value none far = (λ h. absurd cc, λ h. let f = far.0 refl in absurd (f.2 (subst (IsWithin COORD) (one_shift h.0 f.0 (sym h.1 ∙ f.1)) h.2)))

-- numbers that are all there
pub all_there : (xs : List ℤ) → all_numbers (map (λ (n : ℤ). Some n) xs) ≡ Some xs
all_there [] = refl
all_there (x ∷ xs) = ap (option_map (λ (numbers : List ℤ). x ∷ numbers)) (all_there xs)

-- the placement that moves nothing
pub still : (by : Placement) → by.turn.number ≡ 0 → by.shift ≡ zero_vector → by ≡ identity
still by turn shift = λ i. record { turn = same_turn by.turn identity.turn turn i; shift = shift i }
