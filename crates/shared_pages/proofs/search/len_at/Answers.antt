use Rattle.std.proofs.Common.{◌∙◌, ap, length}
use Rattle.shared_pages.proofs.DistinctPages.{pairs_there}
use Rattle.shared_pages.proofs.search.len_at.Goals as goal

pub returns : goal.returns
returns g c = c.len.ensures.value ∙ ap (λ l. length l) (c.pairs.ensures ∙ pairs_there c.args.pages.now c.args.place c.in-Some.page.now c.in-Some.ensures)
