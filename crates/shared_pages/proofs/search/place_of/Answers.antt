use Rattle.std.proofs.Common.{arith}
use Rattle.shared_pages.proofs.PageLemmas.{none_past, other_there}
use Rattle.shared_pages.proofs.search.place_of.Goals as goal

pub returns-else-number : goal.returns-else-number
returns-else-number g c =
    other_there c.args.pages.now c.args.number c.first_from-place.result c.in-Some.page.now c.requires c.first_from-place.ensures c.in-Some.ensures (λ e. omega (arith, c.number.ensures, c.if-number.false, e))

pub returns-in-None : goal.returns-in-None
returns-in-None g c = none_past c.args.pages.now c.args.number c.first_from-place.result c.first_from-place.ensures c.in-None.ensures
