use Rattle.std.proofs.Common.{◌≡◌, ◌+◌, ◌-◌, ◌∙◌, rules, ap, sym, subst, arith, nat_eq, IsSome}
use Rattle.std.specs.Map.{lookup}
use Rattle.shared_pages.specs.Pages.{page_of, set_page, ArePages}
use Rattle.shared_pages.proofs.KeptPages.{kept_set, page_least}
use Rattle.shared_pages.proofs.PageLemmas.{found_is}
use Rattle.shared_pages.proofs.PageOfLemmas.{page_set}
use Rattle.shared_pages.proofs.page_list.PageList.with_page.Goals as goal

pub overflow_sub-rest : goal.overflow_sub-rest
overflow_sub-rest g c =
    let pages = subst (λ l. ArePages l c.self.inside.count) c.self.view_is c.self.invariant.pages in
    let there = found_is c.args.self c.args.number c.requires.there in
    omega (arith, c.len_of.ensures, page_least c.args.self c.self.inside.count c.args.number (page_of c.args.self c.args.number) pages there)

pub set_pairs-requires-clause-order : goal.set_pairs-requires-clause-order
set_pairs-requires-clause-order g c = c.in_ok-groups.ensures.order

pub set_pairs-requires-clause-there : goal.set_pairs-requires-clause-there
set_pairs-requires-clause-there g c = subst (λ l. IsSome (lookup (nat_eq c.args.number) l)) (sym c.in_ok-groups.ensures.pages) c.requires.there

pub of_groups-requires-clause-pages : goal.of_groups-requires-clause-pages
of_groups-requires-clause-pages g c =
    let pages = subst (λ l. ArePages l c.self.inside.count) c.self.view_is c.self.invariant.pages in
    let there = found_is c.args.self c.args.number c.requires.there in
    let least = page_least c.args.self c.self.inside.count c.args.number (page_of c.args.self c.args.number) pages there in
    let sum : c.in-Some.count ≡ c.self.inside.count - c.len_of.result + c.len.result = search rules in
    subst (λ l. ArePages l c.in-Some.count) (sym (c.in_ok-set_pairs.ensures.pages ∙ ap (λ l. set_page l c.args.number c.args.pairs) c.in_ok-groups.ensures.pages))
    (kept_set c.args.self c.self.inside.count c.args.number (page_of c.args.self c.args.number) c.args.pairs c.in-Some.count pages there c.requires.small
    (omega (arith, sum, least, c.len.ensures.value, c.len_of.ensures)))

pub of_groups-requires-clause-filled : goal.of_groups-requires-clause-filled
of_groups-requires-clause-filled g c = c.in_ok-set_pairs.ensures.filled

pub returns-clause-list : goal.returns-clause-list
returns-clause-list g c = c.in_ok-list.ensures ∙ c.in_ok-set_pairs.ensures.pages ∙ ap (λ l. set_page l c.args.number c.args.pairs) c.in_ok-groups.ensures.pages

pub returns-clause-pages : goal.returns-clause-pages
returns-clause-pages g c n =
    let pages = subst (λ l. ArePages l c.self.inside.count) c.self.view_is c.self.invariant.pages in
    ap (λ l. page_of l n) (c.in_ok-list.ensures ∙ c.in_ok-set_pairs.ensures.pages ∙ ap (λ l. set_page l c.args.number c.args.pairs) c.in_ok-groups.ensures.pages)
    ∙ page_set c.args.self c.args.number c.args.pairs n pages.rise c.requires.there
