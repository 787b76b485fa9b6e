use Rattle.std.proofs.Common.{◌≡◌, take}
use Rattle.shot_core.specs.Regions.{instances_of}
use Rattle.shot_core.specs.Prepared.{boxes_of}
use Rattle.shot_core.proofs.scene.instance_boxes.Given as goal

abbrev pub invariant-loop-region : goal.invariant-loop-region
invariant-loop-region l = l.boxes.items ≡ boxes_of (instances_of (take l.region-index l.regions))
