use Rattle.std.proofs.Common.{◌≡◌, ◌∙◌, List, ap, sym, subst}
use Rattle.std.specs.Arc.{arc_value}
use Rattle.shot_core.specs.Pruned.{kept_for}
use Rattle.shot_core.specs.Regions.{Region}
use Rattle.tile_shot.specs.Named.{name_of}
use Rattle.view_shot.specs.Jobs.{IsPresentedBy}
use Rattle.view_shot.specs.Named.{places_of}
use Rattle.view_shot.specs.declared.present_job.NamedPresents.{NamedPresents}
use Rattle.view_shot.proofs.present_job.PresentJobJob.again.Goals as goal

pub returns-then-is_of-clause-gives : goal.returns-then-is_of-clause-gives
returns-then-is_of-clause-gives c =
    let job = c.args.self.now in
    let here : c.in_ok-kept.kept ≡ kept_for (arc_value job.scene) job.view c.args.i = c.in_ok-kept.ensures ∙ ap (λ (s : List Region). kept_for s job.view c.args.i) c.deref.ensures in
    let same = c.is_of.ensures.0 c.if-is_of.true in
    subst (λ (named : NamedPresents). IsPresentedBy job c.args.i named.presents) (sym c.in_ok-share.ensures)
    (c.piece_law.ensures (arc_value c.args.out.now.named) c.presents-right.ensures.right
    (same.0 ∙ c.in_ok-key.ensures ∙ ap (λ (s : List Region). name_of s job.view c.args.i) here, same.1 ∙ c.in_ok-places.ensures ∙ ap places_of here))
