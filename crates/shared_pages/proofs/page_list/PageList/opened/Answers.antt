use Rattle.std.proofs.Common.{◌≡◌, ◌<◌, ◌⊎◌, ◌∙◌, ◌++◌, [], ap, arith, length, sym, subst}
use Rattle.shared_pages.specs.Groups.{AreFilled, pages_in}
use Rattle.shared_pages.proofs.GroupLemmas.{IsCut, cut_pages, cut_some, filled_cut, none_open}
use Rattle.shared_pages.proofs.page_list.PageList.opened.Goals as goal

pub returns-clause-pages : goal.returns-clause-pages
returns-clause-pages g c =
    ap (λ l. pages_in l ++ c.into_pages-pages.result) c.in_ok-closed.ensures
    ∙ sym (cut_pages c.in_ok-groups.groups c.last_taken.new.self c.into_pages-pages.result (subst (λ p. IsCut c.in_ok-groups.groups c.last_taken.new.self p) (sym c.into_pages-pages.ensures) c.in_ok-group.ensures))
    ∙ ap (λ l. pages_in l) c.in_ok-groups.ensures ∙ none_open (pages_in c.self.inside.closed) c.self.inside.tail (omega (arith, c.len.ensures, c.if-len-gt0.false)) ∙ c.self.view_is

pub returns-clause-filled : goal.returns-clause-filled
returns-clause-filled g c =
    subst (λ l. AreFilled l) (sym c.in_ok-closed.ensures)
    (filled_cut c.in_ok-groups.groups c.last_taken.new.self c.into_pages-pages.result (subst (λ p. IsCut c.in_ok-groups.groups c.last_taken.new.self p) (sym c.into_pages-pages.ensures) c.in_ok-group.ensures) (subst (λ l. AreFilled l) (sym c.in_ok-groups.ensures) c.self.invariant.filled))

pub returns-clause-some : goal.returns-clause-some
returns-clause-some g c =
    subst (λ l. (l ≡ []) ⊎ (0 < length c.into_pages-pages.result)) (sym c.in_ok-closed.ensures)
    (cut_some c.in_ok-groups.groups c.last_taken.new.self c.into_pages-pages.result (subst (λ p. IsCut c.in_ok-groups.groups c.last_taken.new.self p) (sym c.into_pages-pages.ensures) c.in_ok-group.ensures) (subst (λ l. AreFilled l) (sym c.in_ok-groups.ensures) c.self.invariant.filled))
