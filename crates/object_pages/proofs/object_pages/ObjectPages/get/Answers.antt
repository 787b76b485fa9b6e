use Rattle.std.proofs.Common.{◌∙◌, ap, sym}
use Rattle.std.specs.Option.{option_copied}
use Rattle.object_pages.specs.Entries.{Entries, object_of}
use Rattle.object_pages.proofs.ListLemmas.{page_object}
use Rattle.object_pages.proofs.object_pages.ObjectPages.get.Goals as goal

pub returns-in-Some-page : goal.returns-in-Some-page
returns-in-Some-page c =
    c.get-in-Some-page.ensures ∙ page_object c.self.inside.pages c.args.name.now _ c.in-Some.page.now c.in-Some-page.pairs.now c.self.invariant.distinct (c.self.invariant.placed c.args.name.now)
    (sym (ap option_copied c.in-Some.is) ∙ c.get.ensures) (sym (ap option_copied c.in-Some-page.is) ∙ c.page.ensures)
    ∙ ap (λ (l : Entries). object_of l c.args.name.now) c.self.view_is
