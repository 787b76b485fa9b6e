-- Pieces of content that are read or written one after another.
use Rattle.std.proofs.Common.{◌≡◌, ◌≤◌, ◌+◌, ◌-◌, ◌∙◌, min, ℕ, List, ◌++◌, length, take, drop, Option, arith, ap, sym}
use Rattle.std.proofs.lemmas.Grind.{common_steps}
use Rattle.std.proofs.lemmas.List.{length-take, length-drop}
use Rattle.std.proofs.lemmas.List.Folds.{drop_split}
use Rattle.std.proofs.Math.Seq.{take-add}
use Rattle.std.proofs.KnownBytes.{Appends-trans}
use Rattle.std.specs.List.{slice_range}
use Rattle.std.specs.Io.KnownBytes.{Appends}

-- the next n bytes of the text, after the first at
pub appends_next : (a b c : Option (List ℕ)) (text : List ℕ) (at n : ℕ) → Appends a b (take at text) → Appends b c (take n (drop at text)) → Appends a c (take (at + n) text)
appends_next a b c text at n p q = rw take-add (Appends-trans a b c _ _ p q)

-- what a read out of memory takes
pub read_takes : (bytes rest copied tail : List ℕ) (at n room : ℕ) → rest ≡ drop at bytes → copied ≡ take (at + n - at) (drop at bytes) → n ≡ min room (length bytes - at) → at ≤ length bytes → rest ≡ take n (copied ++ tail) ++ drop (at + n) bytes
read_takes bytes rest copied tail at n room rest_is copied_is n_is within =
    let split : drop at bytes ≡ slice_range bytes at (at + n) ++ drop (at + n) bytes = drop_split bytes at (at + n) (omega arith) in
    let len : length copied ≡ n = rw copied_is (omega (arith, length-take {A = ℕ}, length-drop {A = ℕ})) in
    let front : take n (copied ++ tail) ≡ copied = grind (arith, common_steps) in
    rest_is ∙ split ∙ ap (λ xs. xs ++ drop (at + n) bytes) (sym copied_is ∙ sym front)
