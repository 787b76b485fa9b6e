use Rattle.std.proofs.Common.{◌≡◌}
use Rattle.scene_make.specs.Steps.{entries_to}
use Rattle.scene_make.proofs.union.regions.Given as goal

abbrev pub invariant-loop-i : goal.invariant-loop-i
invariant-loop-i l = l.list.items ≡ entries_to l.i
