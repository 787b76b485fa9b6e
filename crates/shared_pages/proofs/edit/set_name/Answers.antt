use Rattle.std.proofs.Common.{◌∙◌, ap, sym, subst, IsSome}
use Rattle.std.specs.Arc.{arc_value}
use Rattle.std.specs.Map.{lookup, set_value}
use Rattle.std.proofs.lemmas.Result.{on_ok_weaker}
use Rattle.name_core.specs.Same.{same_name}
use Rattle.shared_pages.specs.Pages.{page_of, set_page}
use Rattle.shared_pages.specs.Groups.{pages_in}
use Rattle.shared_pages.proofs.GroupLemmas.{taken, edited}
use Rattle.shared_pages.proofs.NamedPages.{set_name}
use Rattle.shared_pages.proofs.edit.set_name.Goals as goal

pub returns-clause-pages : goal.returns-clause-pages
returns-clause-pages g c =
    let t = taken c.args.groups.now c.args.number c.in-Some.spot.group c.in-Some.spot.page c.into_pages-pages.result c.requires.order.0 c.in-Some.ensures.1 (c.into_pages-pages.ensures ∙ c.in_ok-group.ensures.value) in
    let on = subst (λ l. IsSome (lookup (same_name c.args.name.now) l)) (sym t.2) c.requires.there in
    let now = set_name c.into_pages-pages.result c.take_at-2.new.self c.set.new.self c.args.number c.in-Some.spot.page c.args.name.now (arc_value c.args.value) c.in_ok-take_at.field-0 c.in_ok-page.page
    t.0 t.1 on c.in_ok-take_at.ensures.value c.in_ok-take_at.ensures.hole c.in_ok-page.ensures c.in_ok-set.ensures.ok
    ∙ ap (λ l. set_page c.into_pages-pages.result c.args.number (set_value (same_name c.args.name.now) l (arc_value c.args.value))) t.2 in
    on_ok_weaker c.put_group.result
    (λ put. (edited c.args.groups.now c.take_at.new.self c.put_group.new.groups c.args.number c.in-Some.spot.group c.in-Some.spot.page c.into_pages-pages.result c.set.new.self
    (set_value (same_name c.args.name.now) (page_of (pages_in c.args.groups.now) c.args.number) (arc_value c.args.value))
    c.requires.order.0 c.requires.order.1 c.in-Some.ensures.0 c.in-Some.ensures.1 (c.into_pages-pages.ensures ∙ c.in_ok-group.ensures.value) c.in_ok-group.ensures.hole now put).0)
    c.put_group.ensures

pub returns-clause-filled : goal.returns-clause-filled
returns-clause-filled g c =
    let t = taken c.args.groups.now c.args.number c.in-Some.spot.group c.in-Some.spot.page c.into_pages-pages.result c.requires.order.0 c.in-Some.ensures.1 (c.into_pages-pages.ensures ∙ c.in_ok-group.ensures.value) in
    let on = subst (λ l. IsSome (lookup (same_name c.args.name.now) l)) (sym t.2) c.requires.there in
    let now = set_name c.into_pages-pages.result c.take_at-2.new.self c.set.new.self c.args.number c.in-Some.spot.page c.args.name.now (arc_value c.args.value) c.in_ok-take_at.field-0 c.in_ok-page.page
    t.0 t.1 on c.in_ok-take_at.ensures.value c.in_ok-take_at.ensures.hole c.in_ok-page.ensures c.in_ok-set.ensures.ok
    ∙ ap (λ l. set_page c.into_pages-pages.result c.args.number (set_value (same_name c.args.name.now) l (arc_value c.args.value))) t.2 in
    on_ok_weaker c.put_group.result
    (λ put. (edited c.args.groups.now c.take_at.new.self c.put_group.new.groups c.args.number c.in-Some.spot.group c.in-Some.spot.page c.into_pages-pages.result c.set.new.self
    (set_value (same_name c.args.name.now) (page_of (pages_in c.args.groups.now) c.args.number) (arc_value c.args.value))
    c.requires.order.0 c.requires.order.1 c.in-Some.ensures.0 c.in-Some.ensures.1 (c.into_pages-pages.ensures ∙ c.in_ok-group.ensures.value) c.in_ok-group.ensures.hole now put).1)
    c.put_group.ensures
