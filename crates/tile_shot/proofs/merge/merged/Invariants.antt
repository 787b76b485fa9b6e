use Rattle.std.proofs.Common.{length, drop, ◌-◌, ◌≡◌, ◌≤◌, ◌+◌, ◌++◌}
use Rattle.tile_shot.specs.Merges.{merged}
use Rattle.tile_shot.proofs.merge.merged.Given as goal

abbrev pub invariant-loop-i : goal.invariant-loop-i
invariant-loop-i l = record { is : merged l.fn.pairs l.fn.more ≡ l.all.items ++ merged (drop l.i l.pairs) (drop l.j l.more); in_pairs : l.i ≤ length l.pairs; in_more : l.j ≤ length l.more }

abbrev pub decreases-loop-i : goal.decreases-loop-i
decreases-loop-i l = (length l.pairs - l.i) + (length l.more - l.j)
