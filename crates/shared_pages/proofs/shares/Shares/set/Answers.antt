use Rattle.std.proofs.Common.{◌∙◌, ap}
use Rattle.std.specs.Arc.{arc_value, arc_with_value}
use Rattle.std.specs.Prelude.{slice_set}
use Rattle.std.proofs.lemmas.List.{map-set}
use Rattle.shared_pages.proofs.MapLemmas.{map_set_over}
use Rattle.shared_pages.proofs.shares.Shares.set.Goals as goal

pub returns-in-Some-clause-ok : goal.returns-in-Some-clause-ok
returns-in-Some-clause-ok g c =
    map-set arc_value c.self.inside.items.items c.args.place (arc_with_value c.index_mut.result.now c.args.value) ∙ ap (λ l. slice_set l c.args.place c.args.value) c.self.view_is

pub returns-clause-ok : goal.returns-clause-ok
returns-clause-ok g c =
    map-set arc_value (slice_set c.self.inside.items.items c.args.place c.index_mut.result.now) c.args.place c.in_ok-item.item
    ∙ map_set_over arc_value c.self.inside.items.items c.args.place c.index_mut.result.now (arc_value c.in_ok-item.item) c.args.self.now c.self.view_is
    ∙ ap (λ v. slice_set c.args.self.now c.args.place v) c.in_ok-item.ensures.ok
