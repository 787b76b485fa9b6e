use Rattle.std.proofs.Common.{◌∙◌, ap, sym, subst}
use Rattle.std.proofs.lemmas.Result.{IfOk-weaker}
use Rattle.shot_core.specs.Regions.{IsScene}
use Rattle.shot_core.specs.Candidates.{is_candidate, candidates_of}
use Rattle.shot_core.proofs.Missing.{scene_left}
use Rattle.shot_core.proofs.kept.overlap_candidates.Goals as goal

pub new-requires : goal.new-requires
new-requires c =
    subst IsScene (sym (c.in_ok-kept.ensures ∙ ap candidates_of c.regions.ensures.value)) (scene_left (is_candidate c.args.scene.now) c.args.scene.now c.regions.ensures.sound)

pub returns : goal.returns
returns c =
    IfOk-weaker c.new.result _ _ (λ s e. e ∙ c.in_ok-kept.ensures ∙ ap candidates_of c.regions.ensures.value) c.new.ensures
