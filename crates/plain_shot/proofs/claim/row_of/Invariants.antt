use Rattle.std.proofs.Common.{◌≡◌, map, take}
use Rattle.bool_weave.specs.Claims.{claims_interval}
use Rattle.plain_shot.proofs.claim.row_of.Given as goal

abbrev pub invariant-loop-interval : goal.invariant-loop-interval
invariant-loop-interval l = l.row.items ≡ map (claims_interval l.segments l.tree l.first) (take l.interval-index l.intervals)
