use Rattle.std.proofs.Common.{◌≡◌, ◌<◌, ◌+◌, ◌∙◌, ◌∷◌, [], ℕ, List, All, length, get_or, drop, slice_get, ap, sym, subst, arith}
use Rattle.std.proofs.lemmas.List.{drop_more, drop_all}
use Rattle.std.proofs.lemmas.List.Elements.{All-nil}
use Rattle.std.proofs.lemmas.List.Kept.{AllPairs-from_increasing}
use Rattle.bool_weave.specs.declared.woven.Woven.{Woven}
use Rattle.shot_core.specs.Steps.{owned_from, with_instance, with_instances}
use Rattle.shot_core.proofs.Reaching.{State, below_next, one_more}
use Rattle.shot_core.proofs.meet.weave_instances.Goals as goal

pub loop-number-init : goal.loop-number-init
loop-number-init g c =
    let zs = owned_from 0 c.args.scene.now in
    let ray = c.args.ray.now in
    record {
      state = ap (λ (w : List Woven). with_instances ray zs (w, c.new-hit.result.items) c.args.numbers.now) c.requires.empty
          ∙ ap (λ (h : List ℕ). with_instances ray zs ([], h) c.args.numbers.now) c.new-hit.ensures.items;
      low = omega arith;
      high = omega arith;
      order = λ k le lt. subst (All (λ (w : Woven). w.instance < get_or c.args.numbers.now k 0)) (sym c.requires.empty) (All-nil (λ (w : Woven). w.instance < get_or c.args.numbers.now k 0));
      few = omega (arith, ap length c.requires.empty);
    }

pub weave_instance-requires-clause-order : goal.weave_instance-requires-clause-order
weave_instance-requires-clause-order g c = c.loop-number.invariant.order c.loop-number.number-index (omega arith) c.loop-number-test.true

pub weave_instance-requires-clause-few : goal.weave_instance-requires-clause-few
weave_instance-requires-clause-few g c = omega (arith, c.loop-number.invariant.few, c.loop-number-test.true, c.requires.few)

pub returns-in_err-weave_instance-clause-steps : goal.returns-in_err-weave_instance-clause-steps
returns-in_err-weave_instance-clause-steps g c =
    (omega (arith, c.weave_instance.ensures.steps.0, c.loop-number.invariant.low), omega (arith, c.weave_instance.ensures.steps.1, c.loop-number.invariant.high, c.loop-number-test.true))

pub loop-number-preserved : goal.loop-number-preserved
loop-number-preserved g c =
    let zs = owned_from 0 c.args.scene.now in
    let ray = c.args.ray.now in
    let numbers = c.args.numbers.now in
    let i = c.loop-number.number-index in
    let number = get_or numbers i 0 in
    let before : State = (c.loop-number.weave, c.loop-number.hit.items) in
    let rest = drop (i + 1) numbers in
    let at : drop i numbers ≡ number ∷ rest = drop_more numbers i 0 c.loop-number-test.true in
    let step = c.in_ok-weave_instance.ensures.state in
    let woven : c.weave_instance.new.weave ≡ (with_instance ray number (slice_get zs number) before).0 = ap (λ (s : State). s.0) step in
    record {
      state = ap (λ (s : State). with_instances ray zs s rest) step ∙ ap (with_instances ray zs before) (sym at) ∙ c.loop-number.invariant.state;
      low = omega (arith, c.weave_instance.ensures.steps.0, c.loop-number.invariant.low);
      high = omega (arith, c.weave_instance.ensures.steps.1, c.loop-number.invariant.high);
      order = λ k le lt.
          subst (All (λ (w : Woven). w.instance < get_or numbers k 0)) (sym woven)
          (below_next ray number (get_or numbers k 0) (slice_get zs number) before (AllPairs-from_increasing numbers c.requires.rising i k 0 (omega (arith, le)) lt) (c.loop-number.invariant.order k (omega (arith, le)) lt));
      few = omega (arith, ap length woven, one_more ray number (slice_get zs number) before, c.loop-number.invariant.few);
    }

pub returns-clause-state : goal.returns-clause-state
returns-clause-state g c =
    ap (with_instances c.args.ray.now (owned_from 0 c.args.scene.now) (c.loop-number.weave, c.loop-number.hit.items)) (sym (drop_all c.loop-number.number-index c.args.numbers.now c.loop-number-test.false))
    ∙ c.loop-number.invariant.state

pub returns-clause-steps : goal.returns-clause-steps
returns-clause-steps g c = (c.loop-number.invariant.low, omega (arith, c.loop-number.invariant.high, c.loop-number.auto.number-index-end))
