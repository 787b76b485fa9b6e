use Rattle.std.proofs.Common.{◌≡◌, map, take}
use Rattle.shot_core.specs.Shots.{lit_by}
use Rattle.shot_core.specs.Steps.{renumbered}
use Rattle.shot_core.proofs.shot.lit_by_all.Given as goal

abbrev pub invariant-loop-partition : goal.invariant-loop-partition
invariant-loop-partition l = l.lit.items ≡ map (λ p. lit_by l.scene l.ray (renumbered l.numbers p)) (take l.partition-index l.partitions)
