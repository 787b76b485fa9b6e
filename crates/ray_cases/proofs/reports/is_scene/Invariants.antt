use Rattle.std.proofs.Common.{◌≤◌, drop}
use Rattle.shot_core.specs.declared.limit.TheConstants.{MOST_LEAVES}
use Rattle.shot_core.specs.Regions.{IsScene}
use Rattle.ray_cases.proofs.PlacesRise.{Goes}
use Rattle.ray_cases.proofs.reports.is_scene.Given as goal

abbrev pub invariant-loop-region : goal.invariant-loop-region
invariant-loop-region l = record {
  goes : Goes l.last l.size l.count (drop l.region-index l.regions) → IsScene l.regions;
  size : l.size ≤ MOST_LEAVES;
  count : l.count ≤ MOST_LEAVES;
}
