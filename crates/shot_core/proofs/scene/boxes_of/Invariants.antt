use Rattle.std.proofs.Common.{◌≡◌, take}
use Rattle.shot_core.specs.Prepared.{region_boxes}
use Rattle.shot_core.proofs.scene.boxes_of.Given as goal

abbrev pub invariant-loop-region : goal.invariant-loop-region
invariant-loop-region l = l.boxes.items ≡ region_boxes (take l.region-index l.regions)
