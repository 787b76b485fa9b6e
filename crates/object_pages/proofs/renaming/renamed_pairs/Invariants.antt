use Rattle.std.proofs.Common.{◌≡◌, take}
use Rattle.object_pages.specs.Changes.{renamed_all}
use Rattle.object_pages.proofs.renaming.renamed_pairs.Given as goal

abbrev pub invariant-loop-place : goal.invariant-loop-place
invariant-loop-place l = l.renamed ≡ renamed_all (take l.place l.pairs) l.old l.new
