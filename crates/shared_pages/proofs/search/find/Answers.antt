use Rattle.std.proofs.Common.{◌+◌, ◌-◌, ◌∙◌, ap, sym, arith, length}
use Rattle.std.specs.Prelude.{slice_get}
use Rattle.shared_pages.proofs.DistinctPages.{found_here, found_later, pairs_beyond, count_later}
use Rattle.shared_pages.proofs.search.find.Goals as goal

pub returns-then-rest-count-clause-found : goal.returns-then-rest-count-clause-found
returns-then-rest-count-clause-found g c =
    c.loop-page.invariant.found ∙ found_here c.args.pages.now c.loop-page.page c.loop-page.rest (omega (arith, c.if-rest-count.true, c.len_at-count.ensures))

pub returns-then-rest-count-clause-here : goal.returns-then-rest-count-clause-here
returns-then-rest-count-clause-here g c within =
    omega (arith, c.loop-page.invariant.left, c.if-rest-count.true, c.len_at-count.ensures, count_later c.args.pages.now c.loop-page.page (c.loop-page.page + 1) (omega arith))

pub loop-page-preserved : goal.loop-page-preserved
loop-page-preserved g c = record {
  found =
      c.loop-page.invariant.found
      ∙ found_later c.args.pages.now c.loop-page.page (c.loop-page.page + 1) c.loop-page.rest (c.loop-page.rest - c.len_at-count.result) (omega arith) (omega (arith, c.if-rest-count.false, c.len_at-count.ensures));
  left =
      omega (arith, c.loop-page.invariant.left, c.if-rest-count.false, c.len_at-count.ensures, count_later c.args.pages.now c.loop-page.page (c.loop-page.page + 1) (omega arith));
}

pub returns-clause-found : goal.returns-clause-found
returns-clause-found g c =
    let past = pairs_beyond c.args.pages.now c.loop-page.page (omega (arith, c.loop-page-test.false, c.len-page-end.ensures)) in
    let end = pairs_beyond c.args.pages.now c.len.result (omega (arith, c.len.ensures)) in
    c.loop-page.invariant.found ∙ ap (λ l. slice_get l c.loop-page.rest) (past.1 ∙ sym end.0)

pub returns-clause-past : goal.returns-clause-past
returns-clause-past g c le =
    let past = pairs_beyond c.args.pages.now c.loop-page.page (omega (arith, c.loop-page-test.false, c.len-page-end.ensures)) in
    omega (arith, c.loop-page.invariant.left, ap (λ l. length l) past.1)
