-- Atoms as the numbers of a list.
use Rattle.std.proofs.Common.{◌≡◌, ◌∙◌, ◌+◌, ◌++◌, ◌<◌, ◌≤◌, ◌==◌, ◌||◌, ◌^◌, ℕ, ℤ, pos, zero, suc, Bool, true, false, cond, List, [], ◌∷◌, length, map, get_or, lit≤, lit<, Option, Some, None, refl, ap, subst, arith, zero-add, All}
use Rattle.std.specs.Prelude.{nat_le, nat_lt}
use Rattle.std.specs.Int.RustNames.{unsigned_abs}
use Rattle.std.proofs.lemmas.Bool.{leb-true, le-leb}
use Rattle.std.proofs.lemmas.Int.{ints}
use Rattle.std.proofs.lemmas.List.{get_or_default}
use Rattle.lattice_core.specs.Limits.{IsAtMost, IsWithin}
use Rattle.lattice_core.specs.declared.limit.TheConstants.{COORD, HALF_NORMAL}
use Rattle.tcl_words.specs.Numbers.{number_of, tenths_of}
use Rattle.word_values.specs.Atoms.{kept_to}
use Rattle.word_values.specs.Kinds.{number_as, most_of, solid_kind_at, kind_at, normal_kind, coordinate_kind, point_kind, plain_kind, numbers_from, numbers_as, AllWithinKinds}
use Rattle.word_values.specs.Solids.{vector_at}
use Rattle.word_values.specs.declared.atoms.NumberKind.{NumberKind}
use Rattle.word_values.specs.declared.atoms.NumberKind.TheVariants.{Whole, Length}
use Rattle.word_values.specs.declared.atoms.NumberList.{NumberList}
use Rattle.word_values.specs.declared.atoms.NumberList.TheVariants as lists
use Rattle.word_values.specs.declared.solid.SolidKind.{SolidKind}
use Rattle.word_values.specs.declared.solid.SolidKind.TheVariants as solids

-- ---- one number

kept_by : (most : ℕ) (m n : ℤ) (b : Bool) → nat_le (unsigned_abs m) most ≡ b → cond b (Some m) None ≡ Some n → (Some m ≡ Some n) × (unsigned_abs n ≤ most)
kept_by most m n true is e = let same : m ≡ n = cc in (e, subst (λ (x : ℤ). unsigned_abs x ≤ most) same (leb-true (unsigned_abs m) most is))
kept_by most m n false is e = cc

-- a number that is kept is one, and is small enough
pub kept_back : (most : ℕ) (o : Option ℤ) (n : ℤ) → kept_to most o ≡ Some n → (o ≡ Some n) × (unsigned_abs n ≤ most)
kept_back most None n e = cc
kept_back most (Some m) n e = kept_by most m n (nat_le (unsigned_abs m) most) refl e

-- a number that is small enough is kept
pub kept_is : (most : ℕ) (o : Option ℤ) (n : ℤ) → o ≡ Some n → unsigned_abs n ≤ most → kept_to most o ≡ Some n
kept_is most o n is small = ap (kept_to most) is ∙ ap (λ b. cond b (Some n) None) (le-leb (unsigned_abs n) most small)

-- a number of a kind is within its size
pub number_within : (kind : NumberKind) (atom : List ℕ) (n : ℤ) → number_as kind atom ≡ Some n → unsigned_abs n ≤ most_of kind
number_within (Whole most) atom n e = (kept_back most (number_of atom) n e).1
number_within (Length most) atom n e = (kept_back most (tenths_of atom) n e).1

-- ---- the numbers of a list

pub numbers_length : (list : NumberList) (place : ℕ) (atoms : List (List ℕ)) → length (numbers_from list place atoms) ≡ length atoms
numbers_length list place [] = refl
numbers_length list place (atom ∷ atoms) = ap suc (numbers_length list (place + 1) atoms)

pub numbers_append : (list : NumberList) (place : ℕ) (xs ys : List (List ℕ)) → numbers_from list place (xs ++ ys) ≡ numbers_from list place xs ++ numbers_from list (place + length xs) ys
numbers_append list place [] ys = ap (λ (n : ℕ). numbers_from list n ys) (let e : place ≡ place + 0 = omega arith in e)
numbers_append list place (x ∷ xs) ys =
    ap (λ (rest : List (Option ℤ)). number_as (kind_at list place) x ∷ rest)
    (numbers_append list (place + 1) xs ys ∙ ap (λ (n : ℕ). numbers_from list (place + 1) xs ++ numbers_from list n ys) (let e : (place + 1) + length xs ≡ place + suc (length xs) = omega arith in e))

-- the number at a place is its atom by the kind of that place
pub numbers_at : (list : NumberList) (place : ℕ) (atoms : List (List ℕ)) (k : ℕ) (d : Option ℤ) (e : List ℕ) → k < length atoms
    → get_or (numbers_from list place atoms) k d ≡ number_as (kind_at list (place + k)) (get_or atoms k e)
numbers_at list place [] k d e lt = absurd (omega (arith, lt))
numbers_at list place (atom ∷ atoms) zero d e lt = ap (λ (n : ℕ). number_as (kind_at list n) atom) (let e : place ≡ place + 0 = omega arith in e)
numbers_at list place (atom ∷ atoms) (suc k) d e lt =
    numbers_at list (place + 1) atoms k d e (omega (arith, lt)) ∙ ap (λ (n : ℕ). number_as (kind_at list n) (get_or atoms k e)) (let e : (place + 1) + k ≡ place + suc k = omega arith in e)

-- where all places have one kind
pub numbers_alike : (list : NumberList) (kind : NumberKind) (place : ℕ) (atoms : List (List ℕ)) → ((k : ℕ) → place ≤ k → kind_at list k ≡ kind) → numbers_from list place atoms ≡ map (number_as kind) atoms
numbers_alike list kind place [] same = refl
numbers_alike list kind place (atom ∷ atoms) same =
    ap (λ (by : NumberKind). number_as by atom ∷ numbers_from list (place + 1) atoms) (same place (omega arith))
    ∙ ap (λ (rest : List (Option ℤ)). number_as kind atom ∷ rest) (numbers_alike list kind (place + 1) atoms (λ k later. same k (omega (arith, later))))

abbrev first : List (Option ℤ) → Option ℤ
first [] = None
first (x ∷ xs) = x

abbrev rest_of : List (Option ℤ) → List (Option ℤ)
rest_of [] = []
rest_of (x ∷ xs) = xs

within_from : (list : NumberList) (place : ℕ) (atoms : List (List ℕ)) (numbers : List ℤ) → numbers_from list place atoms ≡ map (λ (n : ℤ). Some n) numbers
    → (k : ℕ) → k < length numbers → unsigned_abs (get_or numbers k (pos 0)) ≤ most_of (kind_at list (place + k))
within_from list place atoms [] e k lt = absurd (omega (arith, lt))
within_from list place [] (n ∷ ns) e k lt = cc
within_from list place (atom ∷ atoms) (n ∷ ns) e zero lt =
    subst (λ (i : ℕ). unsigned_abs n ≤ most_of (kind_at list i)) (let e : place ≡ place + 0 = omega arith in e) (number_within (kind_at list place) atom n (ap first e))
within_from list place (atom ∷ atoms) (n ∷ ns) e (suc k) lt =
    subst (λ (i : ℕ). unsigned_abs (get_or ns k (pos 0)) ≤ most_of (kind_at list i)) (let e : (place + 1) + k ≡ place + suc k = omega arith in e)
    (within_from list (place + 1) atoms ns (ap rest_of e) k (omega (arith, lt)))

-- numbers that were read are each within the kind of its place
pub read_within : (list : NumberList) (atoms : List (List ℕ)) (numbers : List ℤ) → numbers_as list atoms ≡ map (λ (n : ℤ). Some n) numbers → AllWithinKinds list numbers
read_within list atoms numbers e k lt = subst (λ (i : ℕ). unsigned_abs (get_or numbers k (pos 0)) ≤ most_of (kind_at list i)) (zero-add k) (within_from list 0 atoms numbers e k lt)

either_small : (b : Bool) (one other : NumberKind) → most_of one < 2 ^ 62 → most_of other < 2 ^ 62 → most_of (cond b one other) < 2 ^ 62
either_small true one other h k = h
either_small false one other h k = k

-- each number of a list fits 64 bits
pub kinds_small : (list : NumberList) (place : ℕ) → most_of (kind_at list place) < 2 ^ 62
kinds_small (lists.Solid solids.Half) place = either_small (nat_lt place 3) normal_kind coordinate_kind (lit< tt) (lit< tt)
kinds_small (lists.Solid solids.Rpp) place = lit< tt
kinds_small (lists.Solid solids.Arb8) place = lit< tt
kinds_small (lists.Solid solids.Sphere) place = lit< tt
kinds_small (lists.Solid solids.Rcc) place = lit< tt
kinds_small lists.Point place = lit< tt
kinds_small lists.Matrix place = either_small (place == 3 || place == 7 || place == 11) point_kind plain_kind (lit< tt) (lit< tt)

-- ---- the numbers of a solid

half_small : (b : Bool) → most_of (cond b normal_kind coordinate_kind) ≤ unsigned_abs COORD
half_small true = lit≤ tt
half_small false = lit≤ tt

solid_small : (kind : SolidKind) (place : ℕ) → most_of (solid_kind_at kind place) ≤ unsigned_abs COORD
solid_small solids.Half place = half_small (nat_lt place 3)
solid_small solids.Rpp place = lit≤ tt
solid_small solids.Arb8 place = lit≤ tt
solid_small solids.Sphere place = lit≤ tt
solid_small solids.Rcc place = lit≤ tt

at_most : (limit : ℕ) (n : ℤ) → unsigned_abs n ≤ limit → IsAtMost (pos limit) n
at_most limit n small = (omega (arith, ints, small), omega (arith, ints, small))

-- each is a coordinate
pub solid_within : (kind : SolidKind) (numbers : List ℤ) → AllWithinKinds (lists.Solid kind) numbers → All (IsAtMost COORD) numbers
solid_within kind numbers within i d lt =
    subst (IsAtMost COORD) (get_or_default numbers i (pos 0) d lt)
    (at_most (unsigned_abs COORD) (get_or numbers i (pos 0)) (omega (arith, within i lt, solid_small kind i)))

-- the first three of a half-space are a normal
pub normal_within : (numbers : List ℤ) → length numbers ≡ 4 → AllWithinKinds (lists.Solid solids.Half) numbers → IsWithin HALF_NORMAL (vector_at (map (λ (n : ℤ). Some n) numbers) 0)
normal_within [] len within = absurd (omega (arith, len))
normal_within (a ∷ []) len within = absurd (omega (arith, len))
normal_within (a ∷ b ∷ []) len within = absurd (omega (arith, len))
normal_within (a ∷ b ∷ c ∷ rest) len within = record {
  x = at_most (unsigned_abs HALF_NORMAL) a (within 0 (omega (arith, len)));
  y = at_most (unsigned_abs HALF_NORMAL) b (within 1 (omega (arith, len)));
  z = at_most (unsigned_abs HALF_NORMAL) c (within 2 (omega (arith, len)));
}
