use Rattle.std.proofs.Common.{All, take}
use Rattle.object_set.specs.Named.{IsNamedEntry}
use Rattle.directory.proofs.recall.recall_entries.Given as goal

abbrev pub invariant-loop-place : goal.invariant-loop-place
invariant-loop-place l = All IsNamedEntry (take l.place l.directory.objects)
