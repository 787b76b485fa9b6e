use Rattle.std.proofs.Common.{◌+◌, nat_eq, arith}
use Rattle.shared_pages.proofs.BucketLemmas.{other_none, other_more, first_at, none_at}
use Rattle.std.proofs.lemmas.Bool.{eq-eqb, ne_eqb}
use Rattle.object_pages.proofs.tally.place_from_front.Goals as goal

pub loop-place-init : goal.loop-place-init
loop-place-init c = other_none (nat_eq c.args.page) c.args.counts.now

pub returns-then-page-counts : goal.returns-then-page-counts
returns-then-page-counts c =
    first_at (nat_eq c.args.page) c.args.counts.now c.loop-place.place (0, 0) c.loop-place.invariant (omega (arith, c.loop-place-test.true)) (eq-eqb _ _ c.if-page-counts.true)

pub loop-place-preserved : goal.loop-place-preserved
loop-place-preserved c =
    other_more (nat_eq c.args.page) c.args.counts.now c.loop-place.place (c.loop-place.place + 1) (0, 0) (omega arith) c.loop-place.invariant
    (omega (arith, c.loop-place-test.true)) (ne_eqb _ _ c.if-page-counts.false)

pub returns : goal.returns
returns c = none_at (nat_eq c.args.page) c.args.counts.now c.loop-place.place c.loop-place.invariant (omega (arith, c.loop-place-test.false))
