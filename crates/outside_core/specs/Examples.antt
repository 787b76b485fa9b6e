-- What the definitions mean, at small values. Each is proved by computation.
use Rattle.std.specs.Prelude.{◌≡◌, ◌-◌, ◌^◌, List, [], ◌∷◌, None, Some, refl, codes}
use Rattle.std.proofs.Common.{arith, lit≤, lit<}
use Rattle.outside_core.specs.Faults.{Rose, next_count}
use Rattle.outside_core.specs.CallCounts.{NextIsListed, faulted}
use Rattle.outside_core.specs.Files.{bytes_in, Gives}
use Rattle.outside_core.specs.Partial.{partial_name}
use Rattle.outside_core.specs.Transfers.{IsCutShort}
use Rattle.outside_core.specs.declared.calls.Calls.{Calls}
use Rattle.outside_core.specs.declared.traits.File.{File}

-- a count goes up by one, and stops at its last value
first_fault : next_count 0 ≡ 1
first_fault = refl

last_fault : next_count (2 ^ 64 - 1) ≡ 2 ^ 64 - 1
last_fault = refl

-- a fault raises the count, unless it stands at its last value
rose_once : Rose 4 5
rose_once = lit≤ tt

stays_at_last : Rose (2 ^ 64 - 1) (2 ^ 64 - 1)
stays_at_last = lit≤ tt

not_risen : ¬ Rose 4 4
not_risen h = omega (arith, h)

-- the third call fails where 3 is listed, and is counted among calls and faults
abbrev two_made : Calls
two_made = record { made = 2; faults = 0; fail_at = 3 ∷ [] }

third_fails : NextIsListed two_made
third_fails = (0, lit< tt, refl)

third_counted : faulted two_made ≡ record { made = 3; faults = 1; fail_at = 3 ∷ [] }
third_counted = refl

-- of two files of one name the later one counts
abbrev three_files : List File
three_files = record { name = codes "a"; bytes = 1 ∷ 2 ∷ [] } ∷ record { name = codes "b"; bytes = [] } ∷ record { name = codes "a"; bytes = 3 ∷ 4 ∷ 5 ∷ [] } ∷ []

later_counts : bytes_in three_files (codes "a") ≡ Some (3 ∷ 4 ∷ 5 ∷ [])
later_counts = refl

empty_file : bytes_in three_files (codes "b") ≡ Some []
empty_file = refl

no_such_file : bytes_in three_files (codes "c") ≡ None
no_such_file = refl

-- a read gives at most as many bytes as were asked for
first_two : Gives (Some three_files) (codes "a") 2 (Some (3 ∷ 4 ∷ []))
first_two = refl

-- of a text of three bytes two were written
cut_after_two : IsCutShort (Some (9 ∷ [])) (Some (9 ∷ 1 ∷ 2 ∷ [])) (1 ∷ 2 ∷ 3 ∷ [])
cut_after_two = record { count = 2; short = lit< tt; front = refl }

-- the file `m.asc` is written under this name
unfinished_name : partial_name (codes "m.asc") ≡ codes ".m.asc.partial"
unfinished_name = refl
