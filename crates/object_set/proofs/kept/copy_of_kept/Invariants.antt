use Rattle.std.proofs.Common.{◌≡◌, take}
use Rattle.object_set.proofs.kept.copy_of_kept.Given as goal

abbrev pub invariant-loop-attribute : goal.invariant-loop-attribute
invariant-loop-attribute l = l.copies ≡ take l.attribute-index l.kept
