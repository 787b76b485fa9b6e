use Rattle.std.proofs.Common.{◌≡◌, ◌++◌, drop}
use Rattle.bool_weave.specs.Claims.{intervals_between}
use Rattle.plain_shot.proofs.interval.intervals_between.Given as goal

abbrev pub invariant-loop-i : goal.invariant-loop-i
invariant-loop-i l = l.intervals.items ++ intervals_between (drop l.i l.cuts) ≡ intervals_between l.cuts
