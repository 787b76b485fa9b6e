use Rattle.std.proofs.Common.{◌∙◌, ap, sym, Some}
use Rattle.put_form.specs.declared.fault.PutFault.TheVariants.{Number}
use Rattle.put_form.proofs.CombLaws.{attrs_more, bad_past, bad_here}
use Rattle.put_form.proofs.attrs.read_attrs.Goals as goal

pub returns-in-None : goal.returns-in-None
returns-in-None c =
    bad_here c.args.text.now c.args.tokens.now c.args.fine c.args.pairs.now c.loop-pair.pair-index c.pair-item.result c.loop-pair.attr c.requires.tree c.loop-pair-test.true c.pair-item.is
    (sym c.in_ok-changed.ensures.value ∙ c.in-None.is) c.loop-pair.invariant.bad
    ∙ ap (λ n. Some (Number n)) (sym c.place.ensures)

pub loop-pair-preserved : goal.loop-pair-preserved
loop-pair-preserved c =
    let set = sym c.in_ok-changed.ensures.value ∙ c.in-Some.is in
    record {
      attrs = attrs_more c.args.text.now c.args.tokens.now c.args.fine c.args.pairs.now c.loop-pair.pair-index c.pair-item.result c.loop-pair.attr c.in-Some.changed c.loop-pair-test.true c.pair-item.is set ∙ c.loop-pair.invariant.attrs;
      bad = bad_past c.args.text.now c.args.tokens.now c.args.fine c.args.pairs.now c.loop-pair.pair-index c.pair-item.result c.loop-pair.attr c.in-Some.changed c.requires.tree c.loop-pair-test.true c.pair-item.is set ∙ c.loop-pair.invariant.bad;
      ranges = (rw c.in-Some.is at c.in_ok-changed.ensures.ranges) c.loop-pair.invariant.ranges;
    }
