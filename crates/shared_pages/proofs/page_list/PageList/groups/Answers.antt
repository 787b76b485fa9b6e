use Rattle.std.proofs.Common.{[], ◌∷◌, ◌∙◌, ◌++◌, ap, arith, sym, subst}
use Rattle.shared_pages.specs.Pages.{RiseFrom}
use Rattle.shared_pages.specs.Groups.{AreFilled, pages_in}
use Rattle.shared_pages.proofs.GroupLemmas.{none_open, one_pushed, filled_more}
use Rattle.shared_pages.proofs.page_list.PageList.groups.Goals as goal

pub returns-then-len-eq0-clause-pages : goal.returns-then-len-eq0-clause-pages
returns-then-len-eq0-clause-pages g c =
    ap (λ l. pages_in l) c.in_ok-groups.ensures ∙ none_open (pages_in c.self.inside.closed) c.self.inside.tail (omega (arith, c.len.ensures, c.if-len-eq0.true)) ∙ c.self.view_is

pub returns-then-len-eq0-clause-order : goal.returns-then-len-eq0-clause-order
returns-then-len-eq0-clause-order g c =
    let same = ap (λ l. pages_in l) c.in_ok-groups.ensures ∙ none_open (pages_in c.self.inside.closed) c.self.inside.tail (omega (arith, c.len.ensures, c.if-len-eq0.true)) in
    (subst (λ l. RiseFrom 0 l) (sym same) c.self.invariant.pages.rise, subst (λ l. AreFilled l) (sym c.in_ok-groups.ensures) c.self.invariant.filled)

pub returns-clause-pages : goal.returns-clause-pages
returns-clause-pages g c =
    one_pushed c.in_ok-groups.groups c.push.new.self c.self.inside.tail (c.in_ok-push.ensures.ok ∙ ap (λ p. c.in_ok-groups.groups ++ p ∷ []) c.of_pages.ensures) ∙ ap (λ l. pages_in l ++ c.self.inside.tail) c.in_ok-groups.ensures ∙ c.self.view_is

pub returns-clause-order : goal.returns-clause-order
returns-clause-order g c =
    let all = one_pushed c.in_ok-groups.groups c.push.new.self c.self.inside.tail (c.in_ok-push.ensures.ok ∙ ap (λ p. c.in_ok-groups.groups ++ p ∷ []) c.of_pages.ensures) ∙ ap (λ l. pages_in l ++ c.self.inside.tail) c.in_ok-groups.ensures in (
      subst (λ l. RiseFrom 0 l) (sym all) c.self.invariant.pages.rise,
      filled_more c.in_ok-groups.groups c.push.new.self c.self.inside.tail (c.in_ok-push.ensures.ok ∙ ap (λ p. c.in_ok-groups.groups ++ p ∷ []) c.of_pages.ensures) (omega (arith, c.len.ensures, c.if-len-eq0.false))
          (subst (λ l. AreFilled l) (sym c.in_ok-groups.ensures) c.self.invariant.filled),
    )
