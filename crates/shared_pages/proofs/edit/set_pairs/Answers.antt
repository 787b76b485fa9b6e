use Rattle.std.proofs.Common.{◌∙◌}
use Rattle.std.proofs.lemmas.Result.{on_ok_weaker}
use Rattle.shared_pages.proofs.GroupLemmas.{taken, edited}
use Rattle.shared_pages.proofs.PageLemmas.{put_there}
use Rattle.shared_pages.proofs.edit.set_pairs.Goals as goal

pub returns-clause-pages : goal.returns-clause-pages
returns-clause-pages g c =
    let t = taken c.args.groups.now c.args.number c.in-Some.spot.group c.in-Some.spot.page c.into_pages-pages.result c.requires.order.0 c.in-Some.ensures.1 (c.into_pages-pages.ensures ∙ c.in_ok-group.ensures.value) in
    let now = c.in_ok-put_page.ensures ∙ put_there c.into_pages-pages.result c.args.number c.in-Some.spot.page c.args.pairs t.0 t.1 in
    on_ok_weaker c.put_group.result
    (λ put. (edited c.args.groups.now c.take_at.new.self c.put_group.new.groups c.args.number c.in-Some.spot.group c.in-Some.spot.page c.into_pages-pages.result c.put_page.new.pages c.args.pairs
    c.requires.order.0 c.requires.order.1 c.in-Some.ensures.0 c.in-Some.ensures.1 (c.into_pages-pages.ensures ∙ c.in_ok-group.ensures.value) c.in_ok-group.ensures.hole now put).0)
    c.put_group.ensures

pub returns-clause-filled : goal.returns-clause-filled
returns-clause-filled g c =
    let t = taken c.args.groups.now c.args.number c.in-Some.spot.group c.in-Some.spot.page c.into_pages-pages.result c.requires.order.0 c.in-Some.ensures.1 (c.into_pages-pages.ensures ∙ c.in_ok-group.ensures.value) in
    let now = c.in_ok-put_page.ensures ∙ put_there c.into_pages-pages.result c.args.number c.in-Some.spot.page c.args.pairs t.0 t.1 in
    on_ok_weaker c.put_group.result
    (λ put. (edited c.args.groups.now c.take_at.new.self c.put_group.new.groups c.args.number c.in-Some.spot.group c.in-Some.spot.page c.into_pages-pages.result c.put_page.new.pages c.args.pairs
    c.requires.order.0 c.requires.order.1 c.in-Some.ensures.0 c.in-Some.ensures.1 (c.into_pages-pages.ensures ∙ c.in_ok-group.ensures.value) c.in_ok-group.ensures.hole now put).1)
    c.put_group.ensures
