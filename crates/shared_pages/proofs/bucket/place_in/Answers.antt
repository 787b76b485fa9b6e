use Rattle.std.proofs.Common.{◌+◌, ◌∙◌, sym, arith}
use Rattle.name_core.specs.Same.{same_name}
use Rattle.shared_pages.proofs.BucketLemmas.{other_none, other_more, first_at, none_at}
use Rattle.shared_pages.proofs.bucket.place_in.Goals as goal

pub loop-place-init : goal.loop-place-init
loop-place-init g c = other_none (same_name c.args.name.now) c.args.entries.now

pub returns-then-eq : goal.returns-then-eq
returns-then-eq g c =
    first_at (same_name c.args.name.now) c.args.entries.now c.loop-place.place c.index-entries-place.result c.loop-place.invariant (omega (arith, c.loop-place-test.true))
    (sym c.eq.ensures ∙ c.if-eq.true)

pub loop-place-preserved : goal.loop-place-preserved
loop-place-preserved g c =
    other_more (same_name c.args.name.now) c.args.entries.now c.loop-place.place (c.loop-place.place + 1) c.index-entries-place.result (omega arith) c.loop-place.invariant
    (omega (arith, c.loop-place-test.true)) (sym c.eq.ensures ∙ c.if-eq.false)

pub returns : goal.returns
returns g c = none_at (same_name c.args.name.now) c.args.entries.now c.loop-place.place c.loop-place.invariant (omega (arith, c.loop-place-test.false))
