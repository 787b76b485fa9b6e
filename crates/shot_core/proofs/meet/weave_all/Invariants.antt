use Rattle.std.proofs.Common.{◌≡◌, ◌<◌, ◌≤◌, ◌+◌, ◌++◌, All, length, drop}
use Rattle.shot_core.specs.Regions.{instances_of}
use Rattle.shot_core.specs.Shots.{woven_from}
use Rattle.shot_core.specs.Steps.{hit_from, met_among}
use Rattle.shot_core.proofs.meet.weave_all.Given as goal

abbrev pub invariant-loop-i : goal.invariant-loop-i
invariant-loop-i g l = record {
  woven : l.weave ++ woven_from l.ray l.first (instances_of (drop l.i l.scene)) ≡ woven_from l.ray 0 (instances_of l.scene);
  hit : l.hit.items ++ hit_from l.ray l.i (drop l.i l.scene) ≡ hit_from l.ray 0 l.scene;
  low : l.initial.steps ≤ l.steps;
  high : l.steps + met_among l.ray (instances_of (drop l.i l.scene)) ≤ l.initial.steps + met_among l.ray (instances_of l.scene);
  left : l.first + length (instances_of (drop l.i l.scene)) ≡ length (instances_of l.scene);
  order : All (λ w. w.instance < l.first) l.weave;
  few : length l.weave ≤ l.first;
}
