use Rattle.object_pages.proofs.ListLemmas.{none_kept}
use Rattle.object_pages.proofs.object_pages.ObjectPages.new.Goals as goal

pub invariant_of-result : goal.invariant_of-result
invariant_of-result c = none_kept c.new.result c.new-2.result c.new-3.result c.new.ensures c.new-2.ensures c.new-3.ensures
