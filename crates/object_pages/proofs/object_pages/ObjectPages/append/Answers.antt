use Rattle.std.proofs.Common.{[], ◌≡◌, ◌∙◌, ◌≤◌, ◌<◌, ap, sym, subst, List, length}
use Rattle.object_pages.specs.Changes.{appended}
use Rattle.std.specs.Arc.{arc_value}
use Rattle.object_set.specs.Objects.{Parts, member_names}
use Rattle.name_core.specs.declared.name.Name.{Name}
use Rattle.object_pages.specs.Entries.{Entries, object_of, most_objects}
use Rattle.object_pages.specs.Members.{node_names}
use Rattle.object_pages.specs.Tallies.{Exchanges}
use Rattle.object_pages.proofs.ListLemmas.{room_there, append_listed}
use Rattle.object_pages.proofs.object_pages.ObjectPages.append.Goals as goal

pub exchange-requires-clause-room : goal.exchange-requires-clause-room
exchange-requires-clause-room c x =
    room_there c.self.inside.pages c.self.inside.references c.in_ok-pages.page (node_names c.nodes_of.result.now) x c.self.invariant.counted c.self.invariant.small c.self.invariant.few
    (subst (λ (l : List Name). length l ≤ 4096) (sym c.nodes_of.ensures.names) c.nodes_of.ensures.few)

pub invariant_of-result : goal.invariant_of-result
invariant_of-result c =
    let o : Parts = arc_value c.args.object in
    let again : arc_value c.in_ok-again.again ≡ o = c.in_ok-again.ensures.cases in
    let object : c.deref.result.now ≡ o = c.deref.ensures ∙ again in
    let names : node_names c.nodes_of.result.now ≡ member_names o.body = c.nodes_of.ensures.names ∙ ap (λ (p : Parts). member_names p.body) object in
    append_listed c.self.inside.pages c.in_ok-pages.pages c.self.inside.places c.in_ok-places.places c.self.inside.references c.in_ok-references.references c.in_ok-pages.page c.args.name.now o c.self.invariant
    c.in_ok-pages.ensures.pages
    c.in_ok-pages.ensures.pairs
    (ap (λ (l : Entries). object_of l c.args.name.now) c.self.view_is ∙ c.requires.absent)
    (subst (λ (l : Entries). length l < most_objects) (sym c.self.view_is) c.requires.room)
    (subst (λ (p : Parts). length (member_names p.body) ≤ 4096) object c.nodes_of.ensures.few)
    c.in_ok-places.ensures
    (subst (λ (l : List Name). Exchanges c.in_ok-pages.page [] l c.self.inside.references c.in_ok-references.references) names c.in_ok-references.ensures)

pub returns : goal.returns
returns c = c.in_ok-pages.ensures.pairs ∙ ap (λ (l : Entries). appended l c.args.name.now (arc_value c.args.object)) c.self.view_is
