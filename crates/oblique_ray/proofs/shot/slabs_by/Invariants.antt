use Rattle.std.proofs.Common.{◌≡◌, map, take}
use Rattle.shot_core.specs.Steps.{renumbered}
use Rattle.oblique_ray.specs.ShotSteps.{slab_by_ranks}
use Rattle.oblique_ray.proofs.shot.slabs_by.Given as goal

abbrev pub invariant-loop-partition : goal.invariant-loop-partition
invariant-loop-partition l = l.slabs.items ≡ map (λ p. slab_by_ranks l.cuts (renumbered l.numbers p)) (take l.partition-index l.partitions)
