use Rattle.std.proofs.Common.{◌≡◌, ◌+◌, ◌∙◌, [], ◌∷◌, ◌++◌, rules, ap, sym, arith, length}
use Rattle.std.specs.Arc.{arc_value}
use Rattle.std.specs.Map.{lookup}
use Rattle.indexmap.specs.IndexMap.{insert_entry}
use Rattle.name_core.specs.Same.{same_name}
use Rattle.shared_pages.specs.Pages.{pairs_of, pushed, last_number}
use Rattle.shared_pages.proofs.KeptPages.{absent_last, pushed_room, pushed_full, last_next}
use Rattle.shared_pages.proofs.NameLemmas.{inserted_new}
use Rattle.shared_pages.proofs.put.push_pair.Goals as goal

pub returns-then-len-lt-MOST_PAIRS-clause-list : goal.returns-then-len-lt-MOST_PAIRS-clause-list
returns-then-len-lt-MOST_PAIRS-clause-list g c =
    let last = arc_value c.in-Some.share in
    let at = c.in-Some.ensures.some in
    let none = absent_last (same_name c.args.name.now) c.take_last.new.self last (ap (λ l. lookup (same_name c.args.name.now) (pairs_of l)) (sym at) ∙ c.requires) in
    let page =
    c.in_ok-page.ensures ∙ ap (λ p. (p.0, insert_entry same_name p.1 c.args.name.now (arc_value c.args.value))) c.in_ok-own.ensures
    ∙ ap (λ l. (last.0, l)) (inserted_new last.1 c.args.name.now (arc_value c.args.value) none) in
    c.in_ok-push.ensures.ok ∙ ap (λ p. c.take_last.new.self ++ p ∷ []) page
    ∙ pushed_room c.take_last.new.self last c.args.name.now (arc_value c.args.value)
    (omega (arith, c.if-len-lt-MOST_PAIRS.true, c.len.ensures.value, ap (λ l. length l) c.pairs.ensures, ap (λ p. length p.1) c.deref.ensures))
    ∙ ap (λ l. pushed l c.args.name.now (arc_value c.args.value)) (sym at)

pub returns-then-len-lt-MOST_PAIRS-clause-number :
    goal.returns-then-len-lt-MOST_PAIRS-clause-number
returns-then-len-lt-MOST_PAIRS-clause-number g c =
    c.number-number.ensures ∙ sym (ap (λ l. last_number l) c.in_ok-push.ensures.ok ∙ last_next c.take_last.new.self c.in_ok-page.page)

pub returns-clause-list : goal.returns-clause-list
returns-clause-list g c =
    let last = arc_value c.in-Some.share in
    let at = c.in-Some.ensures.some in
    let next : c.in-Some-checked_add.number ≡ (arc_value c.in-Some.share).0 + 1 = search rules in
    c.in_ok-push-2.ensures.ok ∙ ap (λ l. l ++ c.in_ok-of_pair.field-0 ∷ []) c.in_ok-push_share.ensures.ok
    ∙ ap (λ p. (c.take_last.new.self ++ last ∷ []) ++ p ∷ []) (c.in_ok-of_pair.ensures ∙ ap (λ n. (n, (c.args.name.now, arc_value c.args.value) ∷ [])) next)
    ∙ pushed_full c.take_last.new.self last c.args.name.now (arc_value c.args.value)
    (omega (arith, c.if-len-lt-MOST_PAIRS.false, c.len.ensures.value, ap (λ l. length l) c.pairs.ensures, ap (λ p. length p.1) c.deref.ensures))
    ∙ ap (λ l. pushed l c.args.name.now (arc_value c.args.value)) (sym at)

pub returns-clause-number : goal.returns-clause-number
returns-clause-number g c =
    sym (ap (λ l. last_number l) c.in_ok-push-2.ensures.ok ∙ last_next c.push_share.new.self c.in_ok-of_pair.field-0 ∙ ap (λ p. p.0) c.in_ok-of_pair.ensures)
