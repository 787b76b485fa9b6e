use Rattle.std.proofs.Common.{◌≡◌, ◌∙◌, Option, None, Some, true, false, IfSome, slice_get, ap, sym, subst, arith}
use Rattle.std.specs.Option.{option_map, option_copied}
use Rattle.std.proofs.lemmas.Bool.{cond-true, cond-false}
use Rattle.std.proofs.lemmas.Option.{slice_get_within}
use Rattle.shot_core.specs.Regions.{instances_of}
use Rattle.shot_core.specs.Prepared.{instance_of}
use Rattle.shot_core.specs.MetBoxes.{meets_ray}
use Rattle.shot_core.specs.Steps.{has_segment, owned_from, noted, with_instance}
use Rattle.shot_core.proofs.Reaching.{Owned, nothing_owned, owned_there, state_is, at_most_one}
use Rattle.shot_core.proofs.meet.weave_instance.Goals as goal

pub returns-in_default-clause-state : goal.returns-in_default-clause-state
returns-in_default-clause-state g c =
    let none : slice_get (instances_of c.args.scene.now) c.args.number ≡ None = sym c.instance.ensures ∙ ap (λ r. option_map instance_of (option_copied r)) c.in_default.is in
    ap (λ (o : Option Owned). with_instance c.args.ray.now c.args.number o (c.args.weave.now, c.args.hit.now.items)) (sym (nothing_owned c.args.scene.now c.args.number none))

pub returns-in_err-weave_solid-clause-steps : goal.returns-in_err-weave_solid-clause-steps
returns-in_err-weave_solid-clause-steps g c =
    (omega (arith, c.weave_solid.ensures.steps), omega (arith, c.weave_solid.ensures.steps, at_most_one (meets_ray c.in-Some.solid.now.bounds c.args.ray.now)))

pub owner-requires : goal.owner-requires
owner-requires g c =
    let there : slice_get (instances_of c.args.scene.now) c.args.number ≡ Some (instance_of c.in-Some.solid.now) = sym c.instance.ensures ∙ ap (λ r. option_map instance_of (option_copied r)) c.in-Some.is in
    slice_get_within (instances_of c.args.scene.now) c.args.number (instance_of c.in-Some.solid.now) there

pub returns-in_ok-note-clause-state : goal.returns-in_ok-note-clause-state
returns-in_ok-note-clause-state g c =
    let one = instance_of c.in-Some.solid.now in
    let there : slice_get (instances_of c.args.scene.now) c.args.number ≡ Some one = sym c.instance.ensures ∙ ap (λ r. option_map instance_of (option_copied r)) c.in-Some.is in
    let a = owned_there c.args.scene.now c.args.number one there in
    let owner : a.region ≡ c.owner.result = subst (λ (o : Option Owned). IfSome o (λ z. z.0 ≡ c.owner.result)) a.there c.owner.ensures in
    let hit = c.args.hit.now.items in
    let yes : has_segment c.args.ray.now one ≡ true = sym c.in_ok-weave_solid.ensures.hit ∙ c.if-branch.true in
    state_is c.args.ray.now c.args.number (slice_get (owned_from 0 c.args.scene.now) c.args.number) a.region one (c.args.weave.now, hit) c.weave_solid.new.weave c.note.new.hit.items a.there
    c.in_ok-weave_solid.ensures.woven
    (c.in_ok-note.ensures ∙ ap (noted hit) (sym owner) ∙ sym (cond-true (has_segment c.args.ray.now one) (noted hit a.region) hit yes))

pub returns-else-branch-clause-state : goal.returns-else-branch-clause-state
returns-else-branch-clause-state g c =
    let one = instance_of c.in-Some.solid.now in
    let there : slice_get (instances_of c.args.scene.now) c.args.number ≡ Some one = sym c.instance.ensures ∙ ap (λ r. option_map instance_of (option_copied r)) c.in-Some.is in
    let a = owned_there c.args.scene.now c.args.number one there in
    let hit = c.args.hit.now.items in
    let no : has_segment c.args.ray.now one ≡ false = sym c.in_ok-weave_solid.ensures.hit ∙ c.if-branch.false in
    state_is c.args.ray.now c.args.number (slice_get (owned_from 0 c.args.scene.now) c.args.number) a.region one (c.args.weave.now, hit) c.weave_solid.new.weave hit a.there
    c.in_ok-weave_solid.ensures.woven (sym (cond-false (has_segment c.args.ray.now one) (noted hit a.region) hit no))

pub returns-else-branch-clause-steps : goal.returns-else-branch-clause-steps
returns-else-branch-clause-steps g c =
    (omega (arith, c.weave_solid.ensures.steps), omega (arith, c.weave_solid.ensures.steps, at_most_one (meets_ray c.in-Some.solid.now.bounds c.args.ray.now)))
