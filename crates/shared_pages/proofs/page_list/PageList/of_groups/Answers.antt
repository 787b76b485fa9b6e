use Rattle.std.proofs.Common.{◌∙◌, ap, length, sym, subst}
use Rattle.shared_pages.specs.Pages.{ArePages}
use Rattle.shared_pages.specs.Groups.{AreFilled, pages_in}
use Rattle.shared_pages.proofs.GroupLemmas.{none_open}
use Rattle.shared_pages.proofs.page_list.PageList.of_groups.Goals as goal

pub invariant_of-result : goal.invariant_of-result
invariant_of-result g c = record {
  pages =
      subst (λ l. ArePages l c.args.count) (ap (λ l. pages_in l) (sym c.in_ok-closed.ensures) ∙ none_open (pages_in c.in_ok-closed.closed) c.new.result (ap (λ l. length l) c.new.ensures))
      c.requires.pages;
  filled = subst (λ l. AreFilled l) (sym c.in_ok-closed.ensures) c.requires.filled;
}

pub returns : goal.returns
returns g c = sym (none_open (pages_in c.in_ok-closed.closed) c.new.result (ap (λ l. length l) c.new.ensures)) ∙ ap (λ l. pages_in l) c.in_ok-closed.ensures
