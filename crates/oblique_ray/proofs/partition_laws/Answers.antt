use Rattle.oblique_ray.proofs.SlabTruth.{true_of_slant}
use Rattle.oblique_ray.proofs.ShotAxes.{partitions_along_axes}
use Rattle.oblique_ray.proofs.partition_laws.Goals as goal

pub returns-clause-points : goal.returns-clause-points
returns-clause-points c = true_of_slant

pub returns-clause-axes : goal.returns-clause-axes
returns-clause-axes c = partitions_along_axes
