use Rattle.std.proofs.Common.{◌∙◌, ap, sym, Some}
use Rattle.put_form.proofs.SolidLaws.{bad_found, bad_none}
use Rattle.put_form.proofs.solid.bad_word.Goals as goal

pub returns-then-not-branch : goal.returns-then-not-branch
returns-then-not-branch c =
    ap (λ n. Some n) c.place.ensures
    ∙ bad_found c.args.text.now c.args.tokens.now c.args.form c.args.pairs.now c.in_ok-radius.radius c.loop-pair.pair-index c.pair-item.result c.in_ok-radius.ensures c.loop-pair.invariant c.loop-pair-test.true c.pair-item.is
    (sym c.in_ok-is_good.ensures ∙ c.if-not-branch.true)

pub returns : goal.returns
returns c =
    bad_none c.args.text.now c.args.tokens.now c.args.form c.args.pairs.now c.in_ok-radius.radius c.loop-pair.pair-index c.in_ok-radius.ensures c.loop-pair.invariant c.loop-pair-test.false
