use Rattle.std.proofs.Common.{◌≡◌, ◌≢◌, ◌∙◌, ap, subst, arith, length, OnOk}
use Rattle.std.specs.Prelude.{slice_set}
use Rattle.shared_pages.proofs.PageLemmas.{put_none, put_some}
use Rattle.shared_pages.proofs.put.put_page.Goals as goal

pub returns-then-len-eq0 : goal.returns-then-len-eq0
returns-then-len-eq0 g c =
    c.remove.ensures ∙ put_none c.args.pages.now c.args.number c.args.place c.args.pairs (omega (arith, c.len.ensures.value, c.if-len-eq0.true))

pub returns : goal.returns
returns g c =
    let some : length c.args.pairs ≢ 0 = λ e. omega (arith, c.len.ensures.value, c.if-len-eq0.false, e) in
    let there = ap (λ v. slice_set c.args.pages.now c.args.place v) c.of_pairs.ensures ∙ put_some c.args.pages.now c.args.number c.args.place c.args.pairs some in
    subst (λ l. OnOk c.set.result (c.set.new.self ≡ l)) there c.set.ensures.ok
