use Rattle.std.proofs.Common.{◌∙◌, rules}
use Rattle.std.proofs.lemmas.List.Sorted.{answers_always}
use Rattle.shot_core.specs.Regions.{Region}
use Rattle.report_text.proofs.OverlapLaws.{path_lent, no_path_lent}
use Rattle.report_text.proofs.overlaps.path_of.Goals as goal

pub returns-in-Ok-clause-value : goal.returns-in-Ok-clause-value
returns-in-Ok-clause-value c =
    let by_key = c.in-Ok.ensures.position (λ (r : Region). r.place) (answers_always _ _ _ (λ f a r g called. search rules)) in
    c.items.ensures ∙ c.deref.ensures ∙ c.path.ensures.value
    ∙ path_lent c.args.scene.now c.regions-regions.result.now c.args.place c.regions-regions.ensures.value c.regions-regions.ensures.sound.rising c.in-Ok.at c.index-regions-at.result c.in-Ok.ensures.bound by_key c.index-regions-at.is

pub returns-in-Err-clause-value : goal.returns-in-Err-clause-value
returns-in-Err-clause-value c =
    let by_key = c.in-Err.ensures.position (λ (r : Region). r.place) (answers_always _ _ _ (λ f a r g called. search rules)) in
    no_path_lent c.args.scene.now c.regions-regions.result.now c.args.place c.regions-regions.ensures.value c.regions-regions.ensures.sound.rising c.in-Err.field-0 by_key
