use Rattle.std.proofs.Common.{◌∙◌, ap, sym, subst, IsSome}
use Rattle.object_pages.specs.Entries.{Entries, object_of}
use Rattle.object_pages.proofs.ListLemmas.{room_both, stands_there, rename_listed}
use Rattle.object_pages.proofs.object_pages.ObjectPages.rename.Goals as goal

pub rename-requires-clause-room : goal.rename-requires-clause-room
rename-requires-clause-room c n = room_both c.self.inside.pages c.self.inside.references n c.args.new.now c.args.old.now c.self.invariant.counted c.self.invariant.small c.self.invariant.few

pub invariant_of-result : goal.invariant_of-result
invariant_of-result c =
    rename_listed c.self.inside.pages c.in_ok-pages.pages c.self.inside.places c.in_ok-remove.field-0 c.in_ok-places.places c.self.inside.references c.in_ok-references.references c.number_of-page.result c.args.old.now c.args.new.now
    c.self.invariant (stands_there c.self.inside.pages c.args.old.now _ c.number_of-page.result (c.self.invariant.placed c.args.old.now) (sym c.number_of-page.ensures))
    (subst (λ (l : Entries). IsSome (object_of l c.args.old.now)) (sym c.self.view_is) c.requires.there)
    (ap (λ (l : Entries). object_of l c.args.new.now) c.self.view_is ∙ c.requires.absent)
    c.in_ok-pages.ensures.pages c.in_ok-pages.ensures.pairs c.in_ok-references.ensures c.in_ok-remove.ensures c.in_ok-places.ensures
