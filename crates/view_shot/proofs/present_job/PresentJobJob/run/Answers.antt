use Rattle.std.proofs.Common.{◌≡◌, ◌∙◌, List, ap}
use Rattle.std.specs.Arc.{arc_value}
use Rattle.shot_core.specs.Pruned.{kept_for}
use Rattle.shot_core.specs.Regions.{Region}
use Rattle.tile_shot.specs.Named.{name_of}
use Rattle.view_shot.specs.Named.{places_of}
use Rattle.view_shot.proofs.present_job.PresentJobJob.run.Goals as goal

pub returns-clause-gives : goal.returns-clause-gives
returns-clause-gives c =
    let job = c.args.self.now in
    let here : c.in_ok-kept.kept ≡ kept_for (arc_value job.scene) job.view c.args.i = c.in_ok-kept.ensures ∙ ap (λ (s : List Region). kept_for s job.view c.args.i) c.deref.ensures in
    c.piece_law.ensures (arc_value c.in_ok-shared.shared.named) c.in_ok-shared.ensures.right
    (c.in_ok-shared.ensures.key ∙ ap (λ (s : List Region). name_of s job.view c.args.i) here, c.in_ok-shared.ensures.places ∙ ap places_of here)
