use Rattle.std.proofs.Common.{◌&&◌, IsTrue}
use Rattle.std.proofs.lemmas.Result.{IfOk-weaker}
use Rattle.lattice_core.specs.Boxes.{MeetsRay}
use Rattle.box_index.specs.Reaches.{has_points, do_touch}
use Rattle.box_index.proofs.Listing.{places_alike}
use Rattle.box_index.proofs.Touching.{touch_meets_ray}
use Rattle.box_index.proofs.index.BoxIndex.meets_ray.Goals as goal

pub returns : goal.returns
returns c =
    IfOk-weaker c.touches.result _ _
    (λ v h. places_alike (λ b. IsTrue (has_points b && do_touch b c.ray_box.result)) (λ b. MeetsRay b c.args.ray.now) c.args.self.now c.touches.new.out.items (touch_meets_ray c.ray_box.result c.args.ray.now c.ray_box.ensures) h)
    c.touches.ensures
