use Rattle.std.proofs.Common.{arith, ◌∙◌, ap, not, take}
use Rattle.std.proofs.lemmas.List.{length-take-le}
use Rattle.directory.specs.Walks.{depth_within}
use Rattle.directory.proofs.FindLemmas.{some_at, lost, deep_found, all_found, all_shallow}
use Rattle.directory.proofs.walk.find_first.Goals as goal

pub returns-then-is_none-clause-cycle : goal.returns-then-is_none-clause-cycle
returns-then-is_none-clause-cycle c =
    let at = some_at (take c.args.count c.args.objects.now) c.loop-place.place (omega (arith, c.loop-place-test.true, length-take-le c.args.count c.args.objects.now c.requires.count)) in
    λ _. deep_found (take c.args.count c.args.objects.now) at.0 (lost (λ n. depth_within n (take c.args.count c.args.objects.now) at.0) 33 c.find_place.result (c.is_none.ensures ∙ ap not c.if-is_none.true) (c.find_place.ensures.depth at.0 at.1 at.2))

pub returns-clause-known : goal.returns-clause-known
returns-clause-known c =
    λ _. all_found (take c.args.count c.args.objects.now) c.loop-place.depths (omega (arith, c.loop-place.auto.depths, c.forget.auto.depths, c.requires.len, length-take-le c.args.count c.args.objects.now c.requires.count)) c.loop-place.invariant.found
    (λ j lt. c.loop-place.invariant.before j (omega (arith, lt, c.loop-place-test.false, length-take-le c.args.count c.args.objects.now c.requires.count)))

pub returns-clause-shallow : goal.returns-clause-shallow
returns-clause-shallow c =
    λ _. all_shallow (take c.args.count c.args.objects.now) c.loop-place.depths (omega (arith, c.loop-place.auto.depths, c.forget.auto.depths, c.requires.len, length-take-le c.args.count c.args.objects.now c.requires.count)) c.loop-place.invariant.found
    (λ j lt. c.loop-place.invariant.before j (omega (arith, lt, c.loop-place-test.false, length-take-le c.args.count c.args.objects.now c.requires.count)))
