-- The regions of a scene that may overlap another one, by their boxes.
use Rattle.std.specs.Prelude.{◌≡◌, List, Bool, not, nat_lt, ◌&&◌, ◌||◌, ◌==◌, length, filter}
use Rattle.std.specs.List.{list_any}
use Rattle.lattice_core.specs.declared.ray.Ray.{Ray}
use Rattle.shot_core.specs.declared.kept.TheConstants.{MOST_COMPARED}
use Rattle.shot_core.specs.Regions.{Region, has_air, HaveInstances, HavePlacedSolids, IsScene}
use Rattle.shot_core.specs.RegionBoxes.{region_box}
use Rattle.shot_core.specs.Pruned.{share_points, overlaps_by_place}

-- whether two regions, neither with air, have boxes that share a point
abbrev pub do_touch : Region → Region → Bool
do_touch r s = (not (has_air r.body) && not (has_air s.body)) && share_points (region_box r.body) (region_box s.body)

-- whether a region touches one of another place
abbrev pub touches_some : List Region → Region → Bool
touches_some regions r = list_any (λ s. not (r.place == s.place) && do_touch r s) regions

-- whether a region may overlap another one: of more than so many regions each may
abbrev pub is_candidate : List Region → Region → Bool
is_candidate regions r = nat_lt MOST_COMPARED (length regions) || touches_some regions r

-- the regions that may overlap another one, in order
abbrev pub candidates_of : List Region → List Region
candidates_of regions = filter (is_candidate regions) regions

-- on each ray they overlap as all regions do
abbrev pub CandidatesOverlapTheSame : Type 0
CandidatesOverlapTheSame = (regions : List Region) (ray : Ray) → IsScene regions → HaveInstances regions → HavePlacedSolids regions
    → overlaps_by_place (candidates_of regions) ray ≡ overlaps_by_place regions ray
