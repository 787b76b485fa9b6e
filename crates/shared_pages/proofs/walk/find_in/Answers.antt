use Rattle.std.proofs.Common.{◌+◌, ◌∙◌, ap, sym, arith}
use Rattle.std.specs.Prelude.{slice_get}
use Rattle.shared_pages.specs.Pages.{pairs_of, pairs_at}
use Rattle.shared_pages.proofs.GroupLemmas.{pair_here, pair_later, pages_beyond}
use Rattle.shared_pages.proofs.walk.find_in.Goals as goal

pub returns-then-page-len_in : goal.returns-then-page-len_in
returns-then-page-len_in g c =
    c.loop-group.invariant
    ∙ pair_here c.args.groups.now c.loop-group.group c.loop-group.rest (c.find_at-page.ensures.here (omega (arith, c.if-page-len_in.true, c.len_in.ensures)))
    ∙ c.find_at-page.ensures.found

pub loop-group-preserved-in-Some : goal.loop-group-preserved-in-Some
loop-group-preserved-in-Some g c =
    c.loop-group.invariant ∙ pair_later c.args.groups.now c.loop-group.group (c.loop-group.group + 1) c.loop-group.rest c.in-Some.left (omega arith) c.in-Some.ensures

pub loop-group-preserved : goal.loop-group-preserved
loop-group-preserved g c =
    c.loop-group.invariant
    ∙ pair_later c.args.groups.now c.loop-group.group (c.loop-group.group + 1) c.loop-group.rest c.find_at-page.result.1 (omega arith)
    (c.find_at-page.ensures.past (omega (arith, c.if-page-len_in.false, c.len_in.ensures)))

pub returns : goal.returns
returns g c =
    let past = pages_beyond c.args.groups.now c.loop-group.group (omega (arith, c.loop-group-test.false, c.len-group-end.ensures)) in
    let end = pages_beyond c.args.groups.now c.len.result (omega (arith, c.len.ensures)) in
    c.loop-group.invariant ∙ ap (λ l. slice_get (pairs_of l) c.loop-group.rest) past.1 ∙ sym (ap (λ l. slice_get (pairs_at l 0) c.loop-group.rest) end.0)
