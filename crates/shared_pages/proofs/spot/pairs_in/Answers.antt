use Rattle.std.proofs.Common.{◌∙◌, ap, sym, subst, Some, nat_eq}
use Rattle.std.specs.Map.{lookup}
use Rattle.shared_pages.specs.Groups.{AreInOrder, group_at, pages_in}
use Rattle.shared_pages.proofs.GroupLemmas.{rise_group, lookup_in}
use Rattle.shared_pages.proofs.PageLemmas.{found_page}
use Rattle.shared_pages.proofs.spot.pairs_in.Goals as goal

pub spot_of-requires : goal.spot_of-requires
spot_of-requires g c = subst (λ l. AreInOrder l) (sym c.in-Some.ensures) c.requires

pub returns-in-Some-page_on : goal.returns-in-Some-page_on
returns-in-Some-page_on g c =
    let order = subst (λ l. AreInOrder l) (sym c.in-Some.ensures) c.requires in
    ap (λ ps. Some ps) c.pairs.ensures
    ∙ found_page (group_at c.in-Some.groups.now c.in-Some-spot_of.spot.group) c.args.number c.in-Some-spot_of.spot.page c.in-Some-page_on.page.now
    (rise_group c.in-Some.groups.now 0 c.in-Some-spot_of.spot.group order.0) c.in-Some-spot_of.ensures.1 c.in-Some-page_on.ensures
    ∙ lookup_in c.in-Some.groups.now 0 c.args.number c.in-Some-spot_of.spot.group c.in-Some-spot_of.spot.page order.0 c.in-Some-spot_of.ensures.1
    ∙ ap (λ l. lookup (nat_eq c.args.number) (pages_in l)) c.in-Some.ensures

pub returns-in-None : goal.returns-in-None
returns-in-None g c = sym c.in-None.ensures ∙ ap (λ l. lookup (nat_eq c.args.number) (pages_in l)) c.in-Some.ensures
