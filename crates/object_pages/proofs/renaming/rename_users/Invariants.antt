use Rattle.std.proofs.Common.{take}
use Rattle.object_pages.proofs.RenamingLemmas.{AreRenamed}
use Rattle.object_pages.proofs.renaming.rename_users.Given as goal

abbrev pub invariant-loop-place : goal.invariant-loop-place
invariant-loop-place l = AreRenamed l.old l.new l.own (take l.place l.tally) l.initial.renamed l.renamed
