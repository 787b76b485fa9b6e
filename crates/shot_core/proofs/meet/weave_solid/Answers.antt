use Rattle.std.proofs.Common.{rules, ◌≡◌, ◌∙◌, ◌++◌, false, true, None, ap, sym, arith}
use Rattle.std.proofs.lemmas.Bool.{true≢false}
use Rattle.std.proofs.lemmas.List.{append-nil}
use Rattle.lattice_core.specs.declared.boxes.Box3.{Box3}
use Rattle.solid_set.specs.Laws.{IsSound}
use Rattle.solid_set.specs.Segments.{segment_of}
use Rattle.shot_core.specs.MetBoxes.{meets_ray}
use Rattle.shot_core.specs.Shots.{woven_if}
use Rattle.shot_core.specs.Steps.{is_some, one_if}
use Rattle.shot_core.proofs.Boxing.{met_is}
use Rattle.shot_core.proofs.Landing.{missed}
use Rattle.shot_core.proofs.meet.weave_solid.Goals as goal

pub returns-then-not-box_meets_ray-clause-woven : goal.returns-then-not-box_meets_ray-clause-woven
returns-then-not-box_meets_ray-clause-woven g c =
    let no : c.box_meets_ray.result ≡ false = search rules in
    let none : segment_of c.args.solid.now.surface c.args.ray.now ≡ None =
    missed c.args.solid.now.surface c.bounds.result c.args.ray.now c.bounds.ensures.holds (λ m. true≢false (sym (c.box_meets_ray.ensures.1 m) ∙ no)) in
    sym (append-nil c.args.weave.now) ∙ ap (λ o. c.args.weave.now ++ woven_if c.args.number o) (sym none)

pub returns-then-not-box_meets_ray-clause-hit : goal.returns-then-not-box_meets_ray-clause-hit
returns-then-not-box_meets_ray-clause-hit g c =
    let no : c.box_meets_ray.result ≡ false = search rules in
    ap is_some (sym (missed c.args.solid.now.surface c.bounds.result c.args.ray.now c.bounds.ensures.holds (λ m. true≢false (sym (c.box_meets_ray.ensures.1 m) ∙ no))))

pub returns-then-not-box_meets_ray-clause-steps : goal.returns-then-not-box_meets_ray-clause-steps
returns-then-not-box_meets_ray-clause-steps g c =
    let no : c.box_meets_ray.result ≡ false = search rules in
    let none : one_if (meets_ray c.args.solid.now.bounds c.args.ray.now) ≡ 0 =
    ap one_if (ap (λ (b : Box3). meets_ray b c.args.ray.now) (sym c.bounds.ensures.value) ∙ sym (met_is c.bounds.result c.args.ray.now c.box_meets_ray.result c.box_meets_ray.ensures) ∙ no) in
    omega (arith, none)

pub returns-in_default-clause-steps : goal.returns-in_default-clause-steps
returns-in_default-clause-steps g c =
    let yes : c.box_meets_ray.result ≡ true = search rules in
    let one : one_if (meets_ray c.args.solid.now.bounds c.args.ray.now) ≡ 1 =
    ap one_if (ap (λ (b : Box3). meets_ray b c.args.ray.now) (sym c.bounds.ensures.value) ∙ sym (met_is c.bounds.result c.args.ray.now c.box_meets_ray.result c.box_meets_ray.ensures) ∙ yes) in
    omega (arith, one, c.tick.ensures)

pub weave-requires-clause-segment : goal.weave-requires-clause-segment
weave-requires-clause-segment g c =
    let s : IsSound c.in-Some.seg = c.segment.ensures.sound c.in-Some.seg c.in-Some.is in
    record {
      ordered = s.ordered;
      begun = s.begun;
      not_ended = s.not_ended;
      start_range = s.start_range;
      start_spelled = s.start_spelled;
      end_range = s.end_range;
      end_spelled = s.end_spelled;
    }

pub returns-in_err-weave-clause-steps : goal.returns-in_err-weave-clause-steps
returns-in_err-weave-clause-steps g c =
    let yes : c.box_meets_ray.result ≡ true = search rules in
    let one : one_if (meets_ray c.args.solid.now.bounds c.args.ray.now) ≡ 1 =
    ap one_if (ap (λ (b : Box3). meets_ray b c.args.ray.now) (sym c.bounds.ensures.value) ∙ sym (met_is c.bounds.result c.args.ray.now c.box_meets_ray.result c.box_meets_ray.ensures) ∙ yes) in
    omega (arith, one, c.tick.ensures)

pub returns-clause-steps : goal.returns-clause-steps
returns-clause-steps g c =
    let yes : c.box_meets_ray.result ≡ true = search rules in
    let one : one_if (meets_ray c.args.solid.now.bounds c.args.ray.now) ≡ 1 =
    ap one_if (ap (λ (b : Box3). meets_ray b c.args.ray.now) (sym c.bounds.ensures.value) ∙ sym (met_is c.bounds.result c.args.ray.now c.box_meets_ray.result c.box_meets_ray.ensures) ∙ yes) in
    omega (arith, one, c.tick.ensures)
