use Rattle.std.proofs.Common.{◌∙◌, ap, sym, nat_eq}
use Rattle.std.specs.Map.{lookup}
use Rattle.shared_pages.specs.Groups.{pages_in}
use Rattle.shared_pages.proofs.DistinctPages.{found_front, found_back}
use Rattle.shared_pages.proofs.GroupLemmas.{rise_front, rise_back}
use Rattle.shared_pages.proofs.page_list.PageList.page.Goals as goal

pub pairs_in-requires : goal.pairs_in-requires
pairs_in-requires g c = (rise_front (pages_in c.self.inside.closed) c.self.inside.tail 0 c.self.invariant.pages.rise, c.self.invariant.filled)

pub returns-in-Some : goal.returns-in-Some
returns-in-Some g c =
    sym (found_front (nat_eq c.args.number) (pages_in c.self.inside.closed) c.self.inside.tail c.in-Some.pairs.now (sym c.in-Some.ensures))
    ∙ ap (λ l. lookup (nat_eq c.args.number) l) c.self.view_is

pub pairs_among-requires : goal.pairs_among-requires
pairs_among-requires g c = rise_back (pages_in c.self.inside.closed) c.self.inside.tail 0 c.self.invariant.pages.rise

pub returns-in-None : goal.returns-in-None
returns-in-None g c =
    c.pairs_among.ensures ∙ sym (found_back (nat_eq c.args.number) (pages_in c.self.inside.closed) c.self.inside.tail (sym c.in-None.ensures))
    ∙ ap (λ l. lookup (nat_eq c.args.number) l) c.self.view_is
