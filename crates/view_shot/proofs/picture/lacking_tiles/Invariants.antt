use Rattle.std.proofs.Common.{◌≡◌, ◌++◌, drop}
use Rattle.view_shot.specs.Steps.{lacking}
use Rattle.view_shot.proofs.picture.lacking_tiles.Given as goal

abbrev pub invariant-loop-i : goal.invariant-loop-i
invariant-loop-i l = l.tiles.items ++ lacking (drop l.i l.plan.names.items) l.i ≡ lacking l.plan.names.items 0
