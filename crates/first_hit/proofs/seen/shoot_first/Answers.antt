use Rattle.std.proofs.Common.{length, Option, Some, All, sym, subst}
use Rattle.std.proofs.lemmas.List.Elements.{All-weaker}
use Rattle.bool_weave.specs.declared.woven.Woven.{Woven}
use Rattle.bool_weave.specs.Cuts.{IsSegment}
use Rattle.first_hit.specs.declared.front.Front.{Front}
use Rattle.shot_core.specs.Steps.{IsHitOn}
use Rattle.first_hit.specs.FirstSteps.{IsFront, IsFrontAt, IsThrough, IsPartOf, IsPartIn, TurnsInFront}
use Rattle.first_hit.proofs.Owning.{part_within}
use Rattle.first_hit.proofs.Seeing.{nothing_seen, part_turns, hit_is_on, seen_there}
use Rattle.first_hit.proofs.seen.shoot_first.Goals as goal

pub returns-in_default-clause-seen : goal.returns-in_default-clause-seen
returns-in_default-clause-seen c =
    nothing_seen c.args.scene.now c.args.ray.now c.regions.ensures.leaves c.args.order.now c.requires.order
    (subst (IsFront c.args.scene.now c.args.ray.now c.args.order.now (length c.args.order.now)) c.in_default.is c.in_ok-front.ensures.front)

pub hit_at-requires-clause-parts : goal.hit_at-requires-clause-parts
hit_at-requires-clause-parts c =
    let parts : All (IsPartOf c.args.scene.now c.args.ray.now c.deref.result.now) c.deref-2.result.now =
    subst (All (IsPartOf c.args.scene.now c.args.ray.now c.deref.result.now)) (sym c.deref-2.ensures.value)
    (subst (λ ws. All (IsPartOf c.args.scene.now c.args.ray.now ws) c.front_of.new.parts.items) (sym c.deref.ensures.value) c.in_ok-front.ensures.parts) in
    let sound : All (λ (w : Woven). IsSegment w.seg) c.deref.result.now = subst (All (λ (w : Woven). IsSegment w.seg)) (sym c.deref.ensures.value) c.in_ok-front.ensures.sound in
    All-weaker (IsPartOf c.args.scene.now c.args.ray.now c.deref.result.now) (IsPartIn c.args.scene.now c.deref.result.now) (λ p i. part_within c.args.scene.now c.args.ray.now c.deref.result.now p sound i) c.deref-2.result.now parts

pub hit_at-requires-clause-turns : goal.hit_at-requires-clause-turns
hit_at-requires-clause-turns c =
    let front : IsFrontAt c.args.scene.now c.args.ray.now c.args.order.now (length c.args.order.now) c.in-Some.front =
    subst (IsFront c.args.scene.now c.args.ray.now c.args.order.now (length c.args.order.now)) c.in-Some.is c.in_ok-front.ensures.front in
    let parts : All (IsPartOf c.args.scene.now c.args.ray.now c.deref.result.now) c.deref-2.result.now =
    subst (All (IsPartOf c.args.scene.now c.args.ray.now c.deref.result.now)) (sym c.deref-2.ensures.value)
    (subst (λ ws. All (IsPartOf c.args.scene.now c.args.ray.now ws) c.front_of.new.parts.items) (sym c.deref.ensures.value) c.in_ok-front.ensures.parts) in
    All-weaker (IsPartOf c.args.scene.now c.args.ray.now c.deref.result.now) (TurnsInFront c.args.scene.now c.deref.result.now c.in-Some.front)
    (λ p i. part_turns c.args.scene.now c.args.ray.now c.regions.ensures.leaves c.args.order.now c.requires.order c.in-Some.front front c.deref.result.now p i) c.deref-2.result.now parts

pub level_of_hit-requires-clause-hit : goal.level_of_hit-requires-clause-hit
level_of_hit-requires-clause-hit c =
    let front : IsFrontAt c.args.scene.now c.args.ray.now c.args.order.now (length c.args.order.now) c.in-Some.front =
    subst (IsFront c.args.scene.now c.args.ray.now c.args.order.now (length c.args.order.now)) c.in-Some.is c.in_ok-front.ensures.front in
    let through : IsThrough c.args.scene.now c.args.ray.now c.args.order.now (length c.args.order.now) (Some c.in-Some.front) c.deref-2.result.now =
    subst (λ (o : Option Front). IsThrough c.args.scene.now c.args.ray.now c.args.order.now (length c.args.order.now) o c.deref-2.result.now) c.in-Some.is
    (subst (IsThrough c.args.scene.now c.args.ray.now c.args.order.now (length c.args.order.now) c.in_ok-front.field-0) (sym c.deref-2.ensures.value) c.in_ok-front.ensures.through) in
    let parts : All (IsPartOf c.args.scene.now c.args.ray.now c.deref.result.now) c.deref-2.result.now =
    subst (All (IsPartOf c.args.scene.now c.args.ray.now c.deref.result.now)) (sym c.deref-2.ensures.value)
    (subst (λ ws. All (IsPartOf c.args.scene.now c.args.ray.now ws) c.front_of.new.parts.items) (sym c.deref.ensures.value) c.in_ok-front.ensures.parts) in
    subst (IsHitOn c.args.scene.now c.args.ray.now) (sym c.in_ok-hit.ensures)
    (hit_is_on c.args.scene.now c.args.ray.now c.regions.ensures.leaves c.args.order.now c.requires.order c.in-Some.front front c.regions.ensures.placed c.deref.result.now c.deref-2.result.now through parts)

pub returns-clause-seen : goal.returns-clause-seen
returns-clause-seen c =
    let front : IsFrontAt c.args.scene.now c.args.ray.now c.args.order.now (length c.args.order.now) c.in-Some.front =
    subst (IsFront c.args.scene.now c.args.ray.now c.args.order.now (length c.args.order.now)) c.in-Some.is c.in_ok-front.ensures.front in
    let through : IsThrough c.args.scene.now c.args.ray.now c.args.order.now (length c.args.order.now) (Some c.in-Some.front) c.deref-2.result.now =
    subst (λ (o : Option Front). IsThrough c.args.scene.now c.args.ray.now c.args.order.now (length c.args.order.now) o c.deref-2.result.now) c.in-Some.is
    (subst (IsThrough c.args.scene.now c.args.ray.now c.args.order.now (length c.args.order.now) c.in_ok-front.field-0) (sym c.deref-2.ensures.value) c.in_ok-front.ensures.through) in
    let parts : All (IsPartOf c.args.scene.now c.args.ray.now c.deref.result.now) c.deref-2.result.now =
    subst (All (IsPartOf c.args.scene.now c.args.ray.now c.deref.result.now)) (sym c.deref-2.ensures.value)
    (subst (λ ws. All (IsPartOf c.args.scene.now c.args.ray.now ws) c.front_of.new.parts.items) (sym c.deref.ensures.value) c.in_ok-front.ensures.parts) in
    seen_there c.args.scene.now c.args.ray.now c.regions.ensures.leaves c.args.order.now c.requires.order c.in-Some.front front c.regions.ensures.placed c.deref.result.now c.deref-2.result.now through parts
    c.in_ok-hit.hit c.level_of_hit.result c.in_ok-hit.ensures c.level_of_hit.ensures
