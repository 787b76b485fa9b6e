use Rattle.std.proofs.Common.{rules, ◌≡◌, ◌∙◌, ◌++◌, false, None, ap, sym}
use Rattle.std.proofs.lemmas.Bool.{true≢false}
use Rattle.std.proofs.lemmas.List.{append-nil}
use Rattle.solid_set.specs.Segments.{segment_of}
use Rattle.shot_core.specs.Shots.{woven_if}
use Rattle.first_hit.proofs.FirstSearch.{segment_from}
use Rattle.shot_core.proofs.Landing.{missed}
use Rattle.first_hit.proofs.own.add_segment.Goals as goal

pub returns-then-not-box_meets_ray-clause-segments : goal.returns-then-not-box_meets_ray-clause-segments
returns-then-not-box_meets_ray-clause-segments c =
    let no : c.box_meets_ray.result ≡ false = search rules in
    let none : segment_of c.args.solid.now.surface c.args.ray.now ≡ None =
    missed c.args.solid.now.surface c.bounds.result c.args.ray.now c.bounds.ensures.holds (λ m. true≢false (sym (c.box_meets_ray.ensures.1 m) ∙ no)) in
    sym (append-nil c.args.segments.now.items) ∙ ap (λ o. c.args.segments.now.items ++ woven_if c.args.number o) (sym none)

pub returns-then-not-box_meets_ray-clause-sound : goal.returns-then-not-box_meets_ray-clause-sound
returns-then-not-box_meets_ray-clause-sound c =
    let no : c.box_meets_ray.result ≡ false = search rules in
    let none : segment_of c.args.solid.now.surface c.args.ray.now ≡ None =
    missed c.args.solid.now.surface c.bounds.result c.args.ray.now c.bounds.ensures.holds (λ m. true≢false (sym (c.box_meets_ray.ensures.1 m) ∙ no)) in
    λ seg is. absurd (let e : None ≡ _ = sym none ∙ is in cc (e))

pub returns-clause-sound : goal.returns-clause-sound
returns-clause-sound c = λ seg is. segment_from seg (c.segment.ensures.sound seg (c.segment.ensures.exact ∙ is))
