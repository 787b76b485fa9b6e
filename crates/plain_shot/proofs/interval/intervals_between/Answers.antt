use Rattle.std.proofs.Common.{◌∙◌, ◌++◌, ap, sym, arith}
use Rattle.std.proofs.lemmas.List.{append-nil}
use Rattle.plain_shot.proofs.Lists.{none_between}
use Rattle.plain_shot.proofs.interval.intervals_between.Goals as goal

pub returns : goal.returns
returns c =
    sym (append-nil c.loop-i.intervals.items)
    ∙ sym (ap (λ l. c.loop-i.intervals.items ++ l) (none_between c.args.cuts.now c.loop-i.i (omega (arith, c.loop-i-test.false, c.saturating_sub-i-end.ensures))))
    ∙ c.loop-i.invariant
