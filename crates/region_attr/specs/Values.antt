-- The values that attributes take.
use Rattle.std.specs.Prelude.{◌≡◌, ◌≤◌, ◌⊎◌, ℕ, ℤ, pos, negsuc, Bool, true, false, ◌||◌, nat_le, List, Option, Some, None, codes, if◌then◌else◌}
use Rattle.std.specs.Str.{bytes_eq}
use Rattle.tcl_words.specs.Numbers.{number_of}
use Rattle.tcl_words.specs.NumberForm.{IsNumber}

-- `yes` and `1`, `no` and `0`
abbrev pub truth_of : List ℕ → Option Bool
truth_of value =
    if bytes_eq value (codes "yes") || bytes_eq value (codes "1") then Some true
    else (if bytes_eq value (codes "no") || bytes_eq value (codes "0") then Some false else None)

-- a number that is not negative and at most so large
abbrev pub at_most : ℕ → Option ℤ → Option ℕ
at_most most None = None
at_most most (Some (pos n)) = if nat_le n most then Some n else None
at_most most (Some (negsuc n)) = None

abbrev pub number_to : ℕ → List ℕ → Option ℕ
number_to most value = at_most most (number_of value)

-- ---- the same as relations of a text and what it says

abbrev pub IsTruth : List ℕ → Bool → Type 0
IsTruth value true = (value ≡ codes "yes") ⊎ (value ≡ codes "1")
IsTruth value false = (value ≡ codes "no") ⊎ (value ≡ codes "0")

abbrev pub IsNumberTo : ℕ → List ℕ → ℕ → Type 0
IsNumberTo most value n = IsNumber value (pos n) × (n ≤ most)
