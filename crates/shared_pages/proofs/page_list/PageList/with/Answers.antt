use Rattle.std.proofs.Common.{◌∙◌, ap, sym, subst, arith, IsSome}
use Rattle.std.specs.Arc.{arc_value}
use Rattle.std.specs.Map.{lookup, set_value}
use Rattle.std.proofs.lemmas.Map.{length-set_value}
use Rattle.name_core.specs.Same.{same_name}
use Rattle.shared_pages.specs.Pages.{pairs_of, page_of, set_page, ArePages}
use Rattle.shared_pages.proofs.DistinctPages.{pairs_set, page_short}
use Rattle.shared_pages.proofs.KeptPages.{kept_set}
use Rattle.shared_pages.proofs.PageLemmas.{found_is}
use Rattle.shared_pages.proofs.PageOfLemmas.{page_set, page_is}
use Rattle.shared_pages.proofs.page_list.PageList.with.Goals as goal

pub set_name-requires-clause-order : goal.set_name-requires-clause-order
set_name-requires-clause-order g c = c.in_ok-groups.ensures.order

pub set_name-requires-clause-there : goal.set_name-requires-clause-there
set_name-requires-clause-there g c = subst (λ l. IsSome (lookup (same_name c.args.name.now) (page_of l c.args.number))) (sym c.in_ok-groups.ensures.pages) c.requires

pub of_groups-requires-clause-pages : goal.of_groups-requires-clause-pages
of_groups-requires-clause-pages g c =
    let pages = subst (λ l. ArePages l c.self.inside.count) c.self.view_is c.self.invariant.pages in
    let same = length-set_value (same_name c.args.name.now) (page_of c.args.self c.args.number) (arc_value c.args.value) in
    let list =
    c.in_ok-set_name.ensures.pages ∙ ap (λ l. set_page l c.args.number (set_value (same_name c.args.name.now) (page_of l c.args.number) (arc_value c.args.value))) c.in_ok-groups.ensures.pages in
    subst (λ l. ArePages l c.self.inside.count) (sym list)
    (kept_set c.args.self c.self.inside.count c.args.number (page_of c.args.self c.args.number) (set_value (same_name c.args.name.now) (page_of c.args.self c.args.number) (arc_value c.args.value))
    c.self.inside.count pages (found_is c.args.self c.args.number (page_is c.args.self c.args.number c.args.name.now c.requires))
    (omega (arith, same, page_short c.args.self c.args.number pages.filled)) (omega (arith, same)))

pub of_groups-requires-clause-filled : goal.of_groups-requires-clause-filled
of_groups-requires-clause-filled g c = c.in_ok-set_name.ensures.filled

pub returns-clause-list : goal.returns-clause-list
returns-clause-list g c =
    c.in_ok-list.ensures ∙ c.in_ok-set_name.ensures.pages
    ∙ ap (λ l. set_page l c.args.number (set_value (same_name c.args.name.now) (page_of l c.args.number) (arc_value c.args.value))) c.in_ok-groups.ensures.pages

pub returns-clause-pages : goal.returns-clause-pages
returns-clause-pages g c n =
    let pages = subst (λ l. ArePages l c.self.inside.count) c.self.view_is c.self.invariant.pages in
    ap (λ l. page_of l n)
    (c.in_ok-list.ensures ∙ c.in_ok-set_name.ensures.pages
    ∙ ap (λ l. set_page l c.args.number (set_value (same_name c.args.name.now) (page_of l c.args.number) (arc_value c.args.value))) c.in_ok-groups.ensures.pages)
    ∙ page_set c.args.self c.args.number (set_value (same_name c.args.name.now) (page_of c.args.self c.args.number) (arc_value c.args.value)) n pages.rise
    (page_is c.args.self c.args.number c.args.name.now c.requires)

pub returns-clause-pairs : goal.returns-clause-pairs
returns-clause-pairs g c distinct =
    ap (λ l. pairs_of l)
    (c.in_ok-list.ensures ∙ c.in_ok-set_name.ensures.pages
    ∙ ap (λ l. set_page l c.args.number (set_value (same_name c.args.name.now) (page_of l c.args.number) (arc_value c.args.value))) c.in_ok-groups.ensures.pages)
    ∙ pairs_set c.args.self c.args.number c.args.name.now (arc_value c.args.value) c.requires distinct
