use Rattle.std.proofs.Common.{◌≡◌, ◌+◌, ◌++◌, length, drop}
use Rattle.shot_core.specs.Regions.{instances_of}
use Rattle.shot_core.specs.Shots.{woven_from, woven_of}
use Rattle.plain_shot.proofs.segment.segments_of.Given as goal

abbrev pub invariant-loop-region : goal.invariant-loop-region
invariant-loop-region l = record {
  woven : l.segments.items ++ woven_from l.ray l.first (instances_of (drop l.region-index l.scene)) ≡ woven_of l.scene l.ray;
  left : l.first + length (instances_of (drop l.region-index l.scene)) ≡ length (instances_of l.scene);
}
