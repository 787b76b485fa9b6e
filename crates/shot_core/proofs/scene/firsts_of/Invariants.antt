use Rattle.std.proofs.Common.{◌≡◌, ◌+◌, ◌++◌, length, take, drop}
use Rattle.shot_core.specs.Regions.{firsts_from, instances_of, HaveInstances, HavePlacedSolids}
use Rattle.shot_core.proofs.scene.firsts_of.Given as goal

abbrev pub invariant-loop-region : goal.invariant-loop-region
invariant-loop-region l = record {
  firsts : l.firsts.items ++ firsts_from l.first (drop l.region-index l.regions) ≡ firsts_from 0 l.regions;
  left : l.first + length (instances_of (drop l.region-index l.regions)) ≡ length (instances_of l.regions);
  leaves : HaveInstances (take l.region-index l.regions);
  placed : HavePlacedSolids (take l.region-index l.regions);
}
