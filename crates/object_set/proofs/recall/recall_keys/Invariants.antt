use Rattle.std.proofs.Common.{All, take}
use Rattle.object_set.specs.Named.{HasKey}
use Rattle.object_set.proofs.recall.recall_keys.Given as goal

abbrev pub invariant-loop-attribute : goal.invariant-loop-attribute
invariant-loop-attribute l = All HasKey (take l.attribute-index l.kept)
