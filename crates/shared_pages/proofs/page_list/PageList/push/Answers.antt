use Rattle.std.proofs.Common.{◌∙◌, ◌++◌, rules, ap, sym, subst}
use Rattle.std.specs.Arc.{arc_value}
use Rattle.name_core.specs.Same.{same_name}
use Rattle.shared_pages.specs.Groups.{pages_in}
use Rattle.shared_pages.specs.Pages.{pairs_of, page_of, last_number, ArePages}
use Rattle.shared_pages.proofs.GroupLemmas.{absent_behind, pushed_list}
use Rattle.shared_pages.proofs.KeptPages.{kept_pushed, pairs_pushed}
use Rattle.shared_pages.proofs.PageOfLemmas.{page_of_pushed}
use Rattle.shared_pages.proofs.page_list.PageList.push.Goals as goal

pub push_pair-requires : goal.push_pair-requires
push_pair-requires g c = absent_behind (pages_in c.in_ok-closed.closed) c.in_ok-closed.tail c.args.self (same_name c.args.name.now) c.in_ok-closed.ensures.pages c.requires

pub close_full-requires : goal.close_full-requires
close_full-requires g c = c.in_ok-closed.ensures.filled

pub invariant_of-list : goal.invariant_of-list
invariant_of-list g c =
    let list =
    pushed_list c.args.self c.in_ok-closed.closed c.in_ok-closed.tail c.push_pair.new.pages (pages_in c.in_ok-closed-2.closed ++ c.in_ok-closed-2.tail) c.args.name.now (arc_value c.args.value)
    c.in_ok-closed.ensures.pages c.in_ok-closed.ensures.some c.in_ok-number.ensures.list c.in_ok-closed-2.ensures.pages in
    let pages = subst (λ l. ArePages l c.self.inside.count) c.self.view_is c.self.invariant.pages in
    record {
      pages =
          subst (λ l. ArePages l c.in-Some.count) (sym list.0)
          (kept_pushed c.args.self c.self.inside.count c.in-Some.count c.args.name.now (arc_value c.args.value) pages (search rules));
      filled = c.in_ok-closed-2.ensures.filled;
    }

pub returns-clause-list : goal.returns-clause-list
returns-clause-list g c =
    (pushed_list c.args.self c.in_ok-closed.closed c.in_ok-closed.tail c.push_pair.new.pages (pages_in c.in_ok-closed-2.closed ++ c.in_ok-closed-2.tail) c.args.name.now (arc_value c.args.value)
    c.in_ok-closed.ensures.pages c.in_ok-closed.ensures.some c.in_ok-number.ensures.list c.in_ok-closed-2.ensures.pages).0

pub returns-clause-number : goal.returns-clause-number
returns-clause-number g c =
    c.in_ok-number.ensures.number
    ∙ (pushed_list c.args.self c.in_ok-closed.closed c.in_ok-closed.tail c.push_pair.new.pages (pages_in c.in_ok-closed-2.closed ++ c.in_ok-closed-2.tail) c.args.name.now (arc_value c.args.value)
    c.in_ok-closed.ensures.pages c.in_ok-closed.ensures.some c.in_ok-number.ensures.list c.in_ok-closed-2.ensures.pages).1

pub returns-clause-pages : goal.returns-clause-pages
returns-clause-pages g c n =
    let list =
    pushed_list c.args.self c.in_ok-closed.closed c.in_ok-closed.tail c.push_pair.new.pages (pages_in c.in_ok-closed-2.closed ++ c.in_ok-closed-2.tail) c.args.name.now (arc_value c.args.value)
    c.in_ok-closed.ensures.pages c.in_ok-closed.ensures.some c.in_ok-number.ensures.list c.in_ok-closed-2.ensures.pages in
    let pages = subst (λ l. ArePages l c.self.inside.count) c.self.view_is c.self.invariant.pages in
    ap (λ l. page_of l n) list.0
    ∙ page_of_pushed c.args.self c.args.name.now (arc_value c.args.value) c.in_ok-number.number n pages.rise (c.in_ok-number.ensures.number ∙ list.1 ∙ ap (λ l. last_number l) list.0)

pub returns-clause-pairs : goal.returns-clause-pairs
returns-clause-pairs g c =
    let list =
    pushed_list c.args.self c.in_ok-closed.closed c.in_ok-closed.tail c.push_pair.new.pages (pages_in c.in_ok-closed-2.closed ++ c.in_ok-closed-2.tail) c.args.name.now (arc_value c.args.value)
    c.in_ok-closed.ensures.pages c.in_ok-closed.ensures.some c.in_ok-number.ensures.list c.in_ok-closed-2.ensures.pages in
    ap (λ l. pairs_of l) list.0 ∙ pairs_pushed c.args.self c.args.name.now (arc_value c.args.value)
