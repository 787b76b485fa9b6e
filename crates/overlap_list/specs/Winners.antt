-- Which region wins an interval.
use Rattle.std.specs.Prelude.{ℕ, List, Option, Some, None, Bool, false, ◌&&◌, not, slice_index_or}
use Rattle.std.specs.List.{position}
use Rattle.overlap_list.specs.declared.region.RegionClaims.{RegionClaims}

-- whether a region claims the interval of that number; there is none past the last
abbrev pub claims_at : RegionClaims → ℕ → Bool
claims_at region k = slice_index_or region.claims k false

abbrev pub or_else : Option ℕ → Option ℕ → Option ℕ
or_else None next = next
or_else (Some place) next = Some place

-- the place of the first region of a kind, with air or without, that claims the interval
abbrev pub first_without_air : List RegionClaims → ℕ → Option ℕ
first_without_air regions k = position (λ r. not r.air && claims_at r k) regions

abbrev pub first_with_air : List RegionClaims → ℕ → Option ℕ
first_with_air regions k = position (λ r. r.air && claims_at r k) regions

-- among the regions that claim an interval one without air wins before one with air, and then the one of the lower place
abbrev pub winner_of : List RegionClaims → ℕ → Option ℕ
winner_of regions k = or_else (first_without_air regions k) (first_with_air regions k)
