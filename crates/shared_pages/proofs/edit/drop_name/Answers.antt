use Rattle.std.proofs.Common.{◌∙◌, ap}
use Rattle.std.specs.Map.{remove_entry}
use Rattle.std.proofs.lemmas.Result.{on_ok_weaker}
use Rattle.name_core.specs.Same.{same_name}
use Rattle.shared_pages.specs.Pages.{page_of, set_page}
use Rattle.shared_pages.specs.Groups.{pages_in}
use Rattle.shared_pages.proofs.GroupLemmas.{taken, edited}
use Rattle.shared_pages.proofs.NamedPages.{drop_name}
use Rattle.shared_pages.proofs.edit.drop_name.Goals as goal

pub returns-clause-pages : goal.returns-clause-pages
returns-clause-pages g c =
    let t = taken c.args.groups.now c.args.number c.in-Some.spot.group c.in-Some.spot.page c.into_pages-pages.result c.requires.order.0 c.in-Some.ensures.1 (c.into_pages-pages.ensures ∙ c.in_ok-group.ensures.value) in
    let now = drop_name c.into_pages-pages.result c.take_at-2.new.self c.put_page.new.pages c.args.number c.in-Some.spot.page c.args.name.now c.in_ok-take_at.field-0 c.without-pairs.result
    t.0 t.1 c.in_ok-take_at.ensures.value c.in_ok-take_at.ensures.hole c.without-pairs.ensures c.in_ok-put_page.ensures
    ∙ ap (λ l. set_page c.into_pages-pages.result c.args.number (remove_entry (same_name c.args.name.now) l)) t.2 in
    on_ok_weaker c.put_group.result
    (λ put. (edited c.args.groups.now c.take_at.new.self c.put_group.new.groups c.args.number c.in-Some.spot.group c.in-Some.spot.page c.into_pages-pages.result c.put_page.new.pages
    (remove_entry (same_name c.args.name.now) (page_of (pages_in c.args.groups.now) c.args.number))
    c.requires.order.0 c.requires.order.1 c.in-Some.ensures.0 c.in-Some.ensures.1 (c.into_pages-pages.ensures ∙ c.in_ok-group.ensures.value) c.in_ok-group.ensures.hole now put).0)
    c.put_group.ensures

pub returns-clause-filled : goal.returns-clause-filled
returns-clause-filled g c =
    let t = taken c.args.groups.now c.args.number c.in-Some.spot.group c.in-Some.spot.page c.into_pages-pages.result c.requires.order.0 c.in-Some.ensures.1 (c.into_pages-pages.ensures ∙ c.in_ok-group.ensures.value) in
    let now = drop_name c.into_pages-pages.result c.take_at-2.new.self c.put_page.new.pages c.args.number c.in-Some.spot.page c.args.name.now c.in_ok-take_at.field-0 c.without-pairs.result
    t.0 t.1 c.in_ok-take_at.ensures.value c.in_ok-take_at.ensures.hole c.without-pairs.ensures c.in_ok-put_page.ensures
    ∙ ap (λ l. set_page c.into_pages-pages.result c.args.number (remove_entry (same_name c.args.name.now) l)) t.2 in
    on_ok_weaker c.put_group.result
    (λ put. (edited c.args.groups.now c.take_at.new.self c.put_group.new.groups c.args.number c.in-Some.spot.group c.in-Some.spot.page c.into_pages-pages.result c.put_page.new.pages
    (remove_entry (same_name c.args.name.now) (page_of (pages_in c.args.groups.now) c.args.number))
    c.requires.order.0 c.requires.order.1 c.in-Some.ensures.0 c.in-Some.ensures.1 (c.into_pages-pages.ensures ∙ c.in_ok-group.ensures.value) c.in_ok-group.ensures.hole now put).1)
    c.put_group.ensures
