use Rattle.std.proofs.Common.{◌≢◌, ◌∙◌, ap, arith, length}
use Rattle.std.specs.Prelude.{slice_set}
use Rattle.std.proofs.lemmas.Result.{on_ok_weaker}
use Rattle.shared_pages.proofs.GroupLemmas.{put_none, put_some}
use Rattle.shared_pages.proofs.edit.put_group.Goals as goal

pub returns-then-len-eq0 : goal.returns-then-len-eq0
returns-then-len-eq0 g c = c.remove.ensures ∙ put_none c.args.groups.now c.args.place c.args.pages (omega (arith, c.len.ensures, c.if-len-eq0.true))

pub returns : goal.returns
returns g c =
    let some : length c.args.pages ≢ 0 = λ e. omega (arith, c.len.ensures, c.if-len-eq0.false, e) in
    on_ok_weaker c.set.result (λ is. is ∙ ap (λ p. slice_set c.args.groups.now c.args.place p) c.of_pages.ensures ∙ put_some c.args.groups.now c.args.place c.args.pages some) c.set.ensures.ok
