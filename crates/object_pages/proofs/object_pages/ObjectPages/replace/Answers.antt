use Rattle.std.proofs.Common.{◌≡◌, ◌∙◌, ap, sym, subst, List, IsSome, cond}
use Rattle.std.specs.Prelude.{nat_eq}
use Rattle.std.specs.Arc.{arc_value}
use Rattle.name_core.specs.declared.name.Name.{Name}
use Rattle.object_set.specs.Objects.{Parts}
use Rattle.shared_pages.specs.Pages.{page_of, pairs_of}
use Rattle.object_pages.specs.Changes.{replaced}
use Rattle.object_pages.specs.Entries.{Entries, object_of, members_of}
use Rattle.object_pages.specs.Tallies.{Exchanges}
use Rattle.object_pages.proofs.ListLemmas.{has_place, stands_there, replace_listed}
use Rattle.object_pages.proofs.object_pages.ObjectPages.replace.Goals as goal

pub number_of-page-requires : goal.number_of-page-requires
number_of-page-requires c =
    has_place c.self.inside.pages c.args.name.now _ (c.self.invariant.placed c.args.name.now) (subst (λ (l : Entries). IsSome (object_of l c.args.name.now)) (sym c.self.view_is) c.requires)

pub invariant_of-result : goal.invariant_of-result
invariant_of-result c =
    let share : arc_value c.in_ok-share.share ≡ c.args.object = c.in_ok-share.ensures.ok in
    let there : IsSome (object_of (page_of c.self.inside.pages c.number_of-page.result) c.args.name.now) = stands_there c.self.inside.pages c.args.name.now _ c.number_of-page.result (c.self.invariant.placed c.args.name.now) (sym c.number_of-page.ensures) in
    replace_listed c.self.inside.pages c.in_ok-pages.pages c.self.inside.places c.self.inside.references c.in_ok-references.references c.number_of-page.result c.args.name.now c.args.object c.self.invariant there
    (λ n. c.in_ok-pages.ensures.pages n
    ∙ ap (λ (o : Parts). cond (nat_eq c.number_of-page.result n) (replaced (page_of c.self.inside.pages c.number_of-page.result) c.args.name.now o) (page_of c.self.inside.pages n)) share)
    (c.in_ok-pages.ensures.pairs c.self.invariant.distinct ∙ ap (λ (o : Parts). replaced (pairs_of c.self.inside.pages) c.args.name.now o) share)
    c.nodes_of.ensures.few
    (subst (λ (l : List Name). Exchanges c.number_of-page.result (members_of (object_of (page_of c.self.inside.pages c.number_of-page.result) c.args.name.now)) l c.self.inside.references c.in_ok-references.references) c.nodes_of.ensures.names c.in_ok-references.ensures)

pub returns : goal.returns
returns c =
    let share : arc_value c.in_ok-share.share ≡ c.args.object = c.in_ok-share.ensures.ok in
    c.in_ok-pages.ensures.pairs c.self.invariant.distinct
    ∙ ap (λ (o : Parts). replaced (pairs_of c.self.inside.pages) c.args.name.now o) share
    ∙ ap (λ (l : Entries). replaced l c.args.name.now c.args.object) c.self.view_is
