use Rattle.std.proofs.Common.{◌≡◌, ◌<◌, ◌+◌, ◌∙◌, ◌++◌, ◌∷◌, [], ap, arith, length, subst, sym}
use Rattle.std.specs.Arc.{arc_value}
use Rattle.std.proofs.lemmas.List.{length-append}
use Rattle.shared_pages.specs.Groups.{AreFilled, pages_in}
use Rattle.shared_pages.proofs.GroupLemmas.{one_closed, filled_more}
use Rattle.shared_pages.proofs.edit.close_full.Goals as goal

pub returns-clause-pages : goal.returns-clause-pages
returns-clause-pages g c =
    ap (λ l. pages_in l ++ c.push_share.new.self) c.in_ok-closed.ensures
    ∙ ap (λ l. pages_in c.push.new.self ++ l) (c.in_ok-push_share.ensures.ok ∙ ap (λ l. l ++ arc_value c.in-Some.last ∷ []) c.new-next.ensures)
    ∙ one_closed c.in_ok-groups.groups c.push.new.self c.take_last.new.self c.args.tail (arc_value c.in-Some.last) (c.in_ok-push.ensures.ok ∙ ap (λ p. c.in_ok-groups.groups ++ p ∷ []) c.of_pages.ensures) c.in-Some.ensures.some
    ∙ ap (λ l. pages_in l ++ c.args.tail) c.in_ok-groups.ensures

pub returns-clause-filled : goal.returns-clause-filled
returns-clause-filled g c =
    let more : length (c.take_last.new.self ++ arc_value c.in-Some.last ∷ []) ≡ length c.take_last.new.self + 1 = length-append c.take_last.new.self (arc_value c.in-Some.last ∷ []) in
    let some : 0 < length c.take_last.new.self = omega (arith, ap (λ l. length l) c.in-Some.ensures.some, more, c.len.ensures, c.if-len-le-MOST_PAGES.false) in
    subst (λ l. AreFilled l) (sym c.in_ok-closed.ensures)
    (filled_more c.in_ok-groups.groups c.push.new.self c.take_last.new.self (c.in_ok-push.ensures.ok ∙ ap (λ p. c.in_ok-groups.groups ++ p ∷ []) c.of_pages.ensures) some (subst (λ l. AreFilled l) (sym c.in_ok-groups.ensures) c.requires))
