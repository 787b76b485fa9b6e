-- A text is cut command by command.
use Rattle.std.proofs.Common.{◌≡◌, ◌<◌, ◌≤◌, ◌+◌, [], ℕ, zero, suc, List, Option, Some, None, length, take, drop, arith, ap}
use Rattle.directory.specs.Listing.{Listing}
use Rattle.asc_form.specs.Commands.{end_of, cut, line_after, pieces_within}
use Rattle.asc_form.specs.Reading.{made_by, made_from, made_of}

-- a command, and what follows it
pub cut_on : (most line : ℕ) (rest : List ℕ) (end : ℕ) → end_of rest ≡ Some end → length rest < most
    → (m : ℕ) × (length rest ≤ m) × ((d : Listing) → made_of (pieces_within most line rest) d ≡ made_from (made_of (pieces_within m (line_after line rest end) (drop (end + 1) rest))) line (made_by d (take end rest)))
cut_on zero line rest end ends lt = absurd (omega (arith, lt))
cut_on (suc m) line rest end ends lt = (m, omega (arith, lt), λ d. ap (λ (o : Option ℕ). made_of (cut (pieces_within m) line rest o) d) ends)

-- the last command
pub cut_last : (most line : ℕ) (rest : List ℕ) → end_of rest ≡ None → length rest < most → (d : Listing) → made_of (pieces_within most line rest) d ≡ made_from (made_of []) line (made_by d rest)
cut_last zero line rest ends lt d = absurd (omega (arith, lt))
cut_last (suc m) line rest ends lt d = ap (λ (o : Option ℕ). made_of (cut (pieces_within m) line rest o) d) ends
