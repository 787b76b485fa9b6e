use Rattle.directory.proofs.ContentsLemmas.{nothing_kept}
use Rattle.directory.proofs.contents.Contents.new.Goals as goal

pub invariant_of-result : goal.invariant_of-result
invariant_of-result c = nothing_kept c.new.result c.new-2.result c.new.ensures c.new-2.ensures
