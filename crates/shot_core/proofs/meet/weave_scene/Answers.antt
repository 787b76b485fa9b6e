use Rattle.std.proofs.Common.{◌≡◌, ◌∙◌, [], length, ap, arith}
use Rattle.std.proofs.lemmas.Result.{IfOk-weaker}
use Rattle.shot_core.specs.Regions.{instances_of}
use Rattle.shot_core.specs.Shots.{woven_from}
use Rattle.shot_core.specs.Steps.{owned_from, hit_from, with_instances}
use Rattle.shot_core.proofs.Reaching.{State, as_many, reached, met_within}
use Rattle.shot_core.proofs.meet.weave_scene.Goals as goal

pub weave_instances-requires-clause-few : goal.weave_instances-requires-clause-few
weave_instances-requires-clause-few g c =
    omega (
      arith,
      ap length c.deref.ensures.value,
      as_many c.args.ray.now c.args.scene.now c.in-Some.index.now c.meets_ray.new.out.items c.in-Some.ensures.boxes c.in_ok-meets_ray.ensures,
      met_within c.args.scene.now c.args.ray.now,
      c.by_instance.ensures.sound.instances,
    )

pub returns-clause-woven : goal.returns-clause-woven
returns-clause-woven g c =
    let whole : with_instances c.args.ray.now (owned_from 0 c.args.scene.now) ([], []) c.deref.result.now ≡ (woven_from c.args.ray.now 0 (instances_of c.args.scene.now), hit_from c.args.ray.now 0 c.args.scene.now) =
    ap (with_instances c.args.ray.now (owned_from 0 c.args.scene.now) ([], [])) c.deref.ensures.value
    ∙ reached c.args.ray.now c.args.scene.now c.in-Some.index.now c.meets_ray.new.out.items c.in-Some.ensures.boxes c.in_ok-meets_ray.ensures c.by_instance.ensures.placed in
    IfOk-weaker c.weave_instances.result _ _ (λ hit e. ap (λ (s : State). s.0) (e ∙ whole)) c.weave_instances.ensures.state

pub returns-clause-hit : goal.returns-clause-hit
returns-clause-hit g c =
    let whole : with_instances c.args.ray.now (owned_from 0 c.args.scene.now) ([], []) c.deref.result.now ≡ (woven_from c.args.ray.now 0 (instances_of c.args.scene.now), hit_from c.args.ray.now 0 c.args.scene.now) =
    ap (with_instances c.args.ray.now (owned_from 0 c.args.scene.now) ([], [])) c.deref.ensures.value
    ∙ reached c.args.ray.now c.args.scene.now c.in-Some.index.now c.meets_ray.new.out.items c.in-Some.ensures.boxes c.in_ok-meets_ray.ensures c.by_instance.ensures.placed in
    IfOk-weaker c.weave_instances.result _ _ (λ hit e. ap (λ (s : State). s.1) (e ∙ whole)) c.weave_instances.ensures.state

pub returns-clause-steps : goal.returns-clause-steps
returns-clause-steps g c = (
  c.weave_instances.ensures.steps.0,
  omega (
    arith,
    c.weave_instances.ensures.steps.1,
    ap length c.deref.ensures.value,
    as_many c.args.ray.now c.args.scene.now c.in-Some.index.now c.meets_ray.new.out.items c.in-Some.ensures.boxes c.in_ok-meets_ray.ensures,
  ),
)
