use Rattle.std.proofs.Common.{◌≡◌, ◌+◌, ℕ, take}
use Rattle.object_pages.specs.Tallies.{count_on}
use Rattle.object_pages.proofs.tally.Tally.and.Given as goal

abbrev pub invariant-loop-place : goal.invariant-loop-place
invariant-loop-place l = (n : ℕ) → count_on l.joined n ≡ count_on l.fn.self n + count_on (take l.place l.more) n
