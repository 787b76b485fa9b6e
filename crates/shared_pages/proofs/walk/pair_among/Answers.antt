use Rattle.std.proofs.Common.{◌∙◌, ap, sym}
use Rattle.std.specs.Prelude.{slice_get}
use Rattle.shared_pages.proofs.DistinctPages.{pairs_there, pairs_past}
use Rattle.shared_pages.proofs.walk.pair_among.Goals as goal

pub returns-in-Some : goal.returns-in-Some
returns-in-Some g c =
    c.at.ensures
    ∙ ap (λ l. slice_get l c.find-page.result.1) (c.pairs.ensures ∙ pairs_there c.args.pages.now c.find-page.result.0 c.in-Some.page.now c.in-Some.ensures)
    ∙ sym c.find-page.ensures.found

pub returns-in-None : goal.returns-in-None
returns-in-None g c =
    ap (λ l. slice_get l c.find-page.result.1) (pairs_past c.args.pages.now c.find-page.result.0 c.in-None.ensures) ∙ sym c.find-page.ensures.found
