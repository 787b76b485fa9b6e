use Rattle.std.proofs.Common.{◌≡◌, ◌<◌, ◌≤◌, ◌+◌, ◌++◌, ◌||◌, All, length, map, drop}
use Rattle.std.specs.List.{list_any}
use Rattle.shot_core.specs.Prepared.{instance_of}
use Rattle.shot_core.specs.Shots.{woven_from}
use Rattle.shot_core.specs.Steps.{has_segment, met_among}
use Rattle.shot_core.proofs.meet.weave_region.Given as goal

abbrev pub invariant-loop-i : goal.invariant-loop-i
invariant-loop-i g l = record {
  woven : l.weave ++ woven_from l.ray (l.first + l.i) (map instance_of (drop l.i l.solids)) ≡ l.initial.weave ++ woven_from l.ray l.first (map instance_of l.solids);
  hit : l.is_hit || list_any (has_segment l.ray) (map instance_of (drop l.i l.solids)) ≡ list_any (has_segment l.ray) (map instance_of l.solids);
  low : l.initial.steps ≤ l.steps;
  high : l.steps + met_among l.ray (map instance_of (drop l.i l.solids)) ≤ l.initial.steps + met_among l.ray (map instance_of l.solids);
  order : All (λ w. w.instance < l.first + l.i) l.weave;
  few : length l.weave ≤ length l.initial.weave + l.i;
}
