use Rattle.std.proofs.Common.{◌-◌, ◌∙◌, ap, sym, subst, arith, IsSome}
use Rattle.std.specs.Map.{lookup, remove_entry}
use Rattle.name_core.specs.Same.{same_name}
use Rattle.shared_pages.specs.Pages.{pairs_of, page_of, set_page, ArePages}
use Rattle.shared_pages.proofs.DistinctPages.{pairs_removed, removed_one, page_short}
use Rattle.shared_pages.proofs.KeptPages.{kept_set, page_least}
use Rattle.shared_pages.proofs.NamedPages.{some_pairs}
use Rattle.shared_pages.proofs.PageLemmas.{found_is}
use Rattle.shared_pages.proofs.PageOfLemmas.{page_set, page_is}
use Rattle.shared_pages.proofs.page_list.PageList.without.Goals as goal

pub drop_name-requires-clause-order : goal.drop_name-requires-clause-order
drop_name-requires-clause-order g c = c.in_ok-groups.ensures.order

pub drop_name-requires-clause-there : goal.drop_name-requires-clause-there
drop_name-requires-clause-there g c = subst (λ l. IsSome (lookup (same_name c.args.name.now) (page_of l c.args.number))) (sym c.in_ok-groups.ensures.pages) c.requires

pub overflow_sub-count : goal.overflow_sub-count
overflow_sub-count g c =
    let pages = subst (λ l. ArePages l c.self.inside.count) c.self.view_is c.self.invariant.pages in
    let there = found_is c.args.self c.args.number (page_is c.args.self c.args.number c.args.name.now c.requires) in
    omega (
      arith,
      page_least c.args.self c.self.inside.count c.args.number (page_of c.args.self c.args.number) pages there,
      some_pairs (page_of c.args.self c.args.number) c.args.name.now c.requires,
    )

pub of_groups-requires-clause-pages : goal.of_groups-requires-clause-pages
of_groups-requires-clause-pages g c =
    let pages = subst (λ l. ArePages l c.self.inside.count) c.self.view_is c.self.invariant.pages in
    let less = removed_one (same_name c.args.name.now) (page_of c.args.self c.args.number) c.requires in
    let there = found_is c.args.self c.args.number (page_is c.args.self c.args.number c.args.name.now c.requires) in
    let least = page_least c.args.self c.self.inside.count c.args.number (page_of c.args.self c.args.number) pages there in
    subst (λ l. ArePages l (c.self.inside.count - 1))
    (sym (c.in_ok-drop_name.ensures.pages ∙ ap (λ l. set_page l c.args.number (remove_entry (same_name c.args.name.now) (page_of l c.args.number))) c.in_ok-groups.ensures.pages))
    (kept_set c.args.self c.self.inside.count c.args.number (page_of c.args.self c.args.number) (remove_entry (same_name c.args.name.now) (page_of c.args.self c.args.number)) (c.self.inside.count - 1)
    pages there (omega (arith, less, page_short c.args.self c.args.number pages.filled)) (omega (arith, less, least)))

pub of_groups-requires-clause-filled : goal.of_groups-requires-clause-filled
of_groups-requires-clause-filled g c = c.in_ok-drop_name.ensures.filled

pub returns-clause-list : goal.returns-clause-list
returns-clause-list g c =
    c.in_ok-list.ensures ∙ c.in_ok-drop_name.ensures.pages
    ∙ ap (λ l. set_page l c.args.number (remove_entry (same_name c.args.name.now) (page_of l c.args.number))) c.in_ok-groups.ensures.pages

pub returns-clause-pages : goal.returns-clause-pages
returns-clause-pages g c n =
    let pages = subst (λ l. ArePages l c.self.inside.count) c.self.view_is c.self.invariant.pages in
    ap (λ l. page_of l n)
    (c.in_ok-list.ensures ∙ c.in_ok-drop_name.ensures.pages
    ∙ ap (λ l. set_page l c.args.number (remove_entry (same_name c.args.name.now) (page_of l c.args.number))) c.in_ok-groups.ensures.pages)
    ∙ page_set c.args.self c.args.number (remove_entry (same_name c.args.name.now) (page_of c.args.self c.args.number)) n pages.rise
    (page_is c.args.self c.args.number c.args.name.now c.requires)

pub returns-clause-pairs : goal.returns-clause-pairs
returns-clause-pairs g c distinct =
    ap (λ l. pairs_of l)
    (c.in_ok-list.ensures ∙ c.in_ok-drop_name.ensures.pages
    ∙ ap (λ l. set_page l c.args.number (remove_entry (same_name c.args.name.now) (page_of l c.args.number))) c.in_ok-groups.ensures.pages)
    ∙ pairs_removed c.args.self c.args.number c.args.name.now c.requires distinct
