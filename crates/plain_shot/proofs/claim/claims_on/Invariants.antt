use Rattle.std.proofs.Common.{◌≡◌, ◌+◌, ◌++◌, length, drop}
use Rattle.shot_core.specs.Regions.{instances_of}
use Rattle.shot_core.specs.Shots.{claims_from}
use Rattle.plain_shot.proofs.claim.claims_on.Given as goal

abbrev pub invariant-loop-region : goal.invariant-loop-region
invariant-loop-region l = record {
  claims : l.all.items ++ claims_from l.segments l.first (drop l.region-index l.scene) ≡ claims_from l.segments 0 l.scene;
  left : l.first + length (instances_of (drop l.region-index l.scene)) ≡ length (instances_of l.scene);
}
