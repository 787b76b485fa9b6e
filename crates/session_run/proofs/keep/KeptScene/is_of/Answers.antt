use Rattle.std.proofs.Common.{◌≡◌, ◌∙◌, List, Ok, subst, sym}
use Rattle.std.specs.Arc.{arc_value}
use Rattle.name_core.specs.declared.name.Name.{Name}
use Rattle.scene_prep.specs.Outcomes.{IsSceneOf}
use Rattle.session_run.proofs.KeepLaws.{same_names}
use Rattle.session_run.proofs.keep.KeptScene.is_of.Goals as goal

pub returns-then-self-version : goal.returns-then-self-version
returns-then-self-version c = λ equal directory kept.
    let same : c.args.self.now.names.items ≡ c.args.names.now = sym c.as_slice.ensures.value ∙ same_names c.as_slice.result.now c.args.names.now (sym c.eq.ensures ∙ equal) in
    subst (λ (n : List Name). IsSceneOf (Ok (arc_value c.args.self.now.scene)) directory n) same (kept.scene_is c.if-self-version.true)
