-- The first partition whose region has no air, from what regions claim beside a place.
use Rattle.std.specs.Prelude.{◌≡◌, ℕ, ◌+◌, List, Option, Some, None, Bool, true, false, ◌&&◌, not, nat_le, nat_lt, map, filter, slice_get}
use Rattle.std.specs.List.{list_any, position, find}
use Rattle.std.specs.Option.{option_map}
use Rattle.surd_order.specs.declared.position.Pos.{Pos}
use Rattle.surd_order.specs.Spelling.{IsSpelled}
use Rattle.bool_weave.specs.declared.woven.Woven.{Woven}
use Rattle.bool_weave.specs.Masks.{Mask}
use Rattle.bool_weave.specs.Claims.{is_before, claims_of}
use Rattle.bool_weave.specs.Behind.{claims_behind, claims_before, AreSpelled}
use Rattle.overlap_list.specs.declared.region.RegionClaims.{RegionClaims}
use Rattle.overlap_list.specs.declared.hit.Hit.{Hit}
use Rattle.overlap_list.specs.declared.partition.Partition.{Partition}
use Rattle.overlap_list.specs.Hits.{has_end_at, differ, lowest, hit_on}
use Rattle.overlap_list.specs.Partitions.{or_no_hit, partitions_of}

-- a region by its tree: whether it has air, the number of its first instance, and how many it has
pub record TreeRegion : Type 0 where
  pub air : Bool
  pub first : ℕ
  pub count : ℕ
  pub tree : Mask

-- what it claims of a ray
abbrev pub claims_by : List Woven → TreeRegion → RegionClaims
claims_by woven r = record { air = r.air; first = r.first; count = r.count; claims = claims_of woven r.tree r.first }

abbrev pub partitions_by : List Woven → List TreeRegion → List Partition
partitions_by woven regions = partitions_of woven (map (claims_by woven) regions)

abbrev pub has_no_air : Option TreeRegion → Bool
has_no_air None = false
has_no_air (Some r) = not r.air

-- the first partition whose region has no air
abbrev pub first_solid : List Woven → List TreeRegion → Option Partition
first_solid woven regions = find (λ p. has_no_air (slice_get regions p.region)) (partitions_by woven regions)

-- a partition without its end
pub record Start : Type 0 where
  pub region : ℕ
  pub start : Pos
  pub hit : Hit

abbrev pub start_of : Partition → Start
start_of p = record { region = p.region; start = p.start; hit = p.hit }

-- whether a region has no air and claims what lies just behind a place
abbrev pub is_solid_behind : List Woven → Pos → TreeRegion → Bool
is_solid_behind woven x r = not r.air && claims_behind woven r.tree r.first x

-- whether its claim changes at a place
abbrev pub changes_over : List Woven → Pos → TreeRegion → Bool
changes_over woven x r = differ (claims_before woven r.tree r.first x) (claims_behind woven r.tree r.first x)

-- an instance of a region whose claim changes at a place, with an end there
abbrev pub is_hit_at : List Woven → List TreeRegion → Pos → Woven → Bool
is_hit_at woven regions x w = has_end_at x w && list_any (λ r. (nat_le r.first w.instance && nat_lt w.instance (r.first + r.count)) && changes_over woven x r) regions

-- of all these the lowest-numbered one, with the face of that end
abbrev pub hit_by : List Woven → List TreeRegion → Pos → Hit
hit_by woven regions x = or_no_hit (hit_on x (lowest (filter (is_hit_at woven regions x) woven)))

abbrev pub start_by : List Woven → List TreeRegion → Pos → ℕ → Start
start_by woven regions x r = record { region = r; start = x; hit = hit_by woven regions x }

-- the first region without air that claims what lies just behind a place, with the hit there
abbrev pub start_at : List Woven → List TreeRegion → Pos → Option Start
start_at woven regions x = option_map (start_by woven regions x) (position (is_solid_behind woven x) regions)

-- whether some region without air claims what lies just behind a place
abbrev pub some_solid_behind : List Woven → List TreeRegion → Pos → Bool
some_solid_behind woven regions x = list_any (is_solid_behind woven x) regions

-- such a place before which there is no other
pub record IsFirstPlace (woven : List Woven) (regions : List TreeRegion) (x : Pos) : Type 0 where
  pub spelled : IsSpelled x
  pub solid : some_solid_behind woven regions x ≡ true
  pub first : (y : Pos) → is_before y x ≡ true → some_solid_behind woven regions y ≡ false

-- there the first partition starts whose region has no air
abbrev pub FirstStartsAtFirstPlace : Type 0
FirstStartsAtFirstPlace = (woven : List Woven) (regions : List TreeRegion) (x : Pos) → AreSpelled woven → IsFirstPlace woven regions x
    → option_map start_of (first_solid woven regions) ≡ start_at woven regions x

-- and without such a place there is no such partition
abbrev pub NoneWithoutPlace : Type 0
NoneWithoutPlace = (woven : List Woven) (regions : List TreeRegion) → AreSpelled woven → ((x : Pos) → some_solid_behind woven regions x ≡ false)
    → first_solid woven regions ≡ None
