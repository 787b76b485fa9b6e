use Rattle.std.proofs.Common.{◌≡◌, map, take}
use Rattle.directory.specs.Walks.{greatest_of}
use Rattle.directory.specs.Depths.{depth_kept}
use Rattle.directory.proofs.relax.greatest_among.Given as goal

abbrev pub invariant-loop-place : goal.invariant-loop-place
invariant-loop-place l = l.most ≡ greatest_of (map (depth_kept l.depths) (take l.place l.names))
