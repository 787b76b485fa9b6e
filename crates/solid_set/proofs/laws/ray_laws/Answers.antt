use Rattle.solid_set.proofs.InsideLaws.{on_ray_within}
use Rattle.solid_set.proofs.laws.ray_laws.Goals as goal

pub returns : goal.returns
returns c = on_ray_within
