use Rattle.std.proofs.Common.{◌∙◌, ap, sym, Some}
use Rattle.shared_pages.proofs.PageLemmas.{found_page}
use Rattle.shared_pages.proofs.spot.pairs_among.Goals as goal

pub returns-in-Some-get : goal.returns-in-Some-get
returns-in-Some-get g c =
    ap (λ ps. Some ps) c.pairs.ensures ∙ found_page c.args.pages.now c.args.number c.in-Some.place c.in-Some-get.page.now c.requires c.in-Some.ensures c.in-Some-get.ensures

pub returns-in-None : goal.returns-in-None
returns-in-None g c = sym c.in-None.ensures
