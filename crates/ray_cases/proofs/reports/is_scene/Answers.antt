use Rattle.std.proofs.Common.{arith}
use Rattle.ray_cases.proofs.PlacesRise.{scene_from}
use Rattle.ray_cases.proofs.reports.is_scene.Goals as goal

pub loop-region-init : goal.loop-region-init
loop-region-init c = record { goes = scene_from c.args.regions.now; size = omega arith; count = omega arith }
