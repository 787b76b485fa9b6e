use Rattle.std.proofs.Common.{sym, subst, IsSome}
use Rattle.object_pages.specs.Entries.{Entries, object_of}
use Rattle.object_pages.proofs.ListLemmas.{has_place, remove_listed}
use Rattle.object_pages.proofs.object_pages.ObjectPages.remove.Goals as goal

pub number_of-page-requires : goal.number_of-page-requires
number_of-page-requires c =
    has_place c.self.inside.pages c.args.name.now _ (c.self.invariant.placed c.args.name.now) (subst (λ (l : Entries). IsSome (object_of l c.args.name.now)) (sym c.self.view_is) c.requires)

pub invariant_of-result : goal.invariant_of-result
invariant_of-result c =
    remove_listed c.self.inside.pages c.in_ok-pages.pages c.self.inside.places c.in_ok-places.places c.self.inside.references c.in_ok-references.references c.number_of-page.result c.args.name.now c.self.invariant
    c.in_ok-pages.ensures.pages (c.in_ok-pages.ensures.pairs c.self.invariant.distinct) c.in_ok-places.ensures c.in_ok-references.ensures
