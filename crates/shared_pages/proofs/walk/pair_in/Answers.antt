use Rattle.std.proofs.Common.{◌∙◌, ap, sym}
use Rattle.std.specs.Prelude.{slice_get}
use Rattle.shared_pages.specs.Pages.{pairs_of}
use Rattle.shared_pages.specs.Groups.{group_at, pages_in}
use Rattle.shared_pages.proofs.DistinctPages.{pairs_there, pairs_past}
use Rattle.shared_pages.proofs.walk.pair_in.Goals as goal

pub returns-in-Some-page_on : goal.returns-in-Some-page_on
returns-in-Some-page_on g c =
    c.at.ensures
    ∙ ap (λ l. slice_get l c.find_in-rest.result.1) (c.pairs.ensures ∙ pairs_there (group_at c.in-Some.groups.now c.find_in-rest.result.0.group) c.find_in-rest.result.0.page c.in-Some-page_on.page.now c.in-Some-page_on.ensures)
    ∙ sym c.find_in-rest.ensures ∙ ap (λ l. slice_get (pairs_of (pages_in l)) c.args.place) c.in-Some.ensures

pub returns-in-None : goal.returns-in-None
returns-in-None g c =
    ap (λ l. slice_get l c.find_in-rest.result.1) (pairs_past (group_at c.in-Some.groups.now c.find_in-rest.result.0.group) c.find_in-rest.result.0.page c.in-None.ensures)
    ∙ sym c.find_in-rest.ensures ∙ ap (λ l. slice_get (pairs_of (pages_in l)) c.args.place) c.in-Some.ensures
