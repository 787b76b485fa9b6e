-- The table of bytes, and what a good byte is.
use Rattle.std.proofs.Common.{◌≡◌, ℕ, ◌+◌, ◌<◌, cond, Bool, true, false, get_or, List, None, inl, inr, arith, refl, ap, ◌∙◌}
use Rattle.std.specs.Prelude.{not, ◌&&◌, ◌||◌, ◌==◌}
use Rattle.std.proofs.lemmas.Bool.{agree_below, agree_below_at, eqb-true, and_parts, not-true, cases_eq}
use Rattle.tcl_words.specs.Bytes.{is_atom, is_close, is_bad, is_bad_outside}
use Rattle.tcl_words.specs.Faults.{fault_of, is_bad_at}
use Rattle.tcl_words.specs.Cover.{AllBetween}
use Rattle.tcl_words.specs.ReadingSteps.{class_of, is_good}
use Rattle.tcl_words.proofs.Fine.{fine_none}
use Rattle.tcl_words.proofs.Written.{atom_fine}

-- a table of 256 entries that computes to the classes has them
pub table_is : (table : List ℕ) (b : ℕ) → b < 256 → agree_below (λ k. get_or table k 0 == class_of k) (λ k. true) 256 ≡ true → get_or table b 0 ≡ class_of b
table_is table b lt same = eqb-true (get_or table b 0) (class_of b) (agree_below_at (λ k. get_or table k 0 == class_of k) (λ k. true) 256 b same lt)

-- the tests of a class are those of its byte
good_by : (a d o z : Bool) → (cond (a && not d) (cond o 105 46) 120 == 46 || (cond (a && not d) (cond o 105 46) 120 == 105 && not z)) ≡ (a && not (d || (z && o)))
good_by true true o true = refl
good_by true true o false = refl
good_by true false true true = refl
good_by true false true false = refl
good_by true false false true = refl
good_by true false false false = refl
good_by false d o true = refl
good_by false d o false = refl

pub good_is : (b g c : ℕ) → c ≡ class_of b → (c == 46 || (c == 105 && not (g == 0))) ≡ is_good g b
good_is b g c is = ap (λ (n : ℕ). n == 46 || (n == 105 && not (g == 0))) is ∙ good_by (is_atom b) (is_bad b) (is_bad_outside b) (g == 0)

pub good_atom : (g b : ℕ) → is_good g b ≡ true → is_atom b ≡ true
good_atom g b good = (and_parts (is_atom b) (not (is_bad_at b g)) good).0

pub good_fine : (g b : ℕ) → is_good g b ≡ true → is_bad_at b g ≡ false
good_fine g b good = not-true (is_bad_at b g) (and_parts (is_atom b) (not (is_bad_at b g)) good).1

bad_by : (a d : Bool) → (a && not d) ≡ false → a ≡ true → d ≡ true
bad_by true true e is = refl
bad_by true false e is = cc
bad_by false d e is = cc

-- a byte of an atom that is not good is bad
pub bad_atom : (g b : ℕ) → is_good g b ≡ false → is_atom b ≡ true → is_bad_at b g ≡ true
bad_atom g b good is = bad_by (is_atom b) (is_bad_at b g) good is

-- a good byte has no fault, unless a group ended before it
pub good_none : (b last g place : ℕ) → is_good g b ≡ true → is_close last ≡ false → fault_of b last g place ≡ None
good_none b last g place good open_ = fine_none last g b place (atom_fine last g b (good_atom g b good) (good_fine g b good) open_)

-- one byte more
pub more_between : (p : ℕ → Bool) (text : List ℕ) (a b : ℕ) → AllBetween p text a b → p (get_or text b 0) ≡ true → AllBetween p text a (b + 1)
more_between p text a b all is k low high = elim (cases_eq k b) [
  | inl same ↦ ap (λ (m : ℕ). p (get_or text m 0)) same ∙ is
  | inr other ↦ all k low (omega (arith, other, high))
]
