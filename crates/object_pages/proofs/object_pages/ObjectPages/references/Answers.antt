use Rattle.std.proofs.Common.{◌∙◌, ◌<◌, ℕ, ap, sym, subst}
use Rattle.std.specs.Option.{option_copied}
use Rattle.shared_pages.specs.Pages.{pairs_of}
use Rattle.shared_pages.proofs.PageOfLemmas.{numbers_distinct}
use Rattle.object_pages.specs.Entries.{Entries}
use Rattle.object_pages.specs.Changes.{references_of}
use Rattle.object_pages.proofs.ListLemmas.{references_small, sum_told, sum_untold}
use Rattle.object_pages.proofs.object_pages.ObjectPages.references.Goals as goal

pub total-requires : goal.total-requires
total-requires c =
    let told = sum_told c.self.inside.pages c.args.name.now _ c.in-Some.tally.now (numbers_distinct c.self.inside.pages 0 c.len-count.ensures.pages.rise) c.len-count-in-Some.ensures.distinct (c.self.invariant.counted c.args.name.now)
    (sym (ap option_copied c.in-Some.is) ∙ c.tally.ensures) in
    subst (λ (n : ℕ). n < 18446744073709551616) (sym told) (references_small (pairs_of c.self.inside.pages) c.args.name.now c.self.invariant.small c.self.invariant.few)

pub returns-in-Some : goal.returns-in-Some
returns-in-Some c =
    let told = sum_told c.self.inside.pages c.args.name.now _ c.in-Some.tally.now (numbers_distinct c.self.inside.pages 0 c.len-count.ensures.pages.rise) c.len-count-in-Some.ensures.distinct (c.self.invariant.counted c.args.name.now)
    (sym (ap option_copied c.in-Some.is) ∙ c.tally.ensures) in
    c.total.ensures ∙ told ∙ ap (λ (l : Entries). references_of l c.args.name.now) c.self.view_is

pub returns-in-None : goal.returns-in-None
returns-in-None c =
    sum_untold c.self.inside.pages c.args.name.now _ (numbers_distinct c.self.inside.pages 0 c.len-count.ensures.pages.rise) (c.self.invariant.counted c.args.name.now) (sym (ap option_copied c.in-None.is) ∙ c.tally.ensures)
    ∙ ap (λ (l : Entries). references_of l c.args.name.now) c.self.view_is
