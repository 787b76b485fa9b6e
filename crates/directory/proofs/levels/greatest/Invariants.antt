use Rattle.std.proofs.Common.{◌≡◌, take}
use Rattle.directory.specs.Walks.{greatest_of}
use Rattle.directory.proofs.levels.greatest.Given as goal

abbrev pub invariant-loop-depth : goal.invariant-loop-depth
invariant-loop-depth l = l.most ≡ greatest_of (take l.depth-index l.depths)
