use Rattle.std.proofs.Common.{◌≡◌, length, subst, arith}
use Rattle.first_hit.specs.FirstSteps.{IsFront, IsThrough}
use Rattle.first_hit.proofs.Fronting.{front_met, through_next}
use Rattle.first_hit.proofs.front.front_of.Goals as goal

pub loop-i-preserved : goal.loop-i-preserved
loop-i-preserved c =
    let within = c.requires.order c.loop-i.i 0 c.loop-i-test.true in
    record {
      front = front_met c.args.scene.now c.args.ray.now c.args.order.now c.loop-i.i within c.requires.leaves c.requires.placed c.loop-i.best c.meet_region.new.best c.loop-i.parts.items c.meet_region.new.parts.items
          c.loop-i.invariant.front c.in_ok-meet_region.ensures.met;
      through = through_next c.args.scene.now c.args.ray.now c.args.order.now c.loop-i.i within c.loop-i.best c.meet_region.new.best c.loop-i.parts.items c.meet_region.new.parts.items c.loop-i.invariant.front
          c.loop-i.invariant.through c.in_ok-meet_region.ensures.met;
      sound = c.in_ok-meet_region.ensures.sound;
      parts = c.in_ok-meet_region.ensures.parts;
    }

pub returns-clause-front : goal.returns-clause-front
returns-clause-front c =
    let end : c.loop-i.i ≡ length c.args.order.now = omega (arith, c.loop-i-test.false, c.loop-i.auto.i-end) in
    subst (λ n. IsFront c.args.scene.now c.args.ray.now c.args.order.now n c.loop-i.best) end c.loop-i.invariant.front

pub returns-clause-through : goal.returns-clause-through
returns-clause-through c =
    let end : c.loop-i.i ≡ length c.args.order.now = omega (arith, c.loop-i-test.false, c.loop-i.auto.i-end) in
    subst (λ n. IsThrough c.args.scene.now c.args.ray.now c.args.order.now n c.loop-i.best c.loop-i.parts.items) end c.loop-i.invariant.through
