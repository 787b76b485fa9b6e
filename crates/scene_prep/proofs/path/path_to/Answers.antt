use Rattle.std.proofs.Common.{◌≡◌, sym, subst, arith}
use Rattle.std.proofs.lemmas.Grind.{common_steps}
use Rattle.std.specs.Arc.{arc_value}
use Rattle.shot_core.specs.Regions.{IsPathText}
use Rattle.scene_prep.specs.Steps.{path_to}
use Rattle.scene_prep.proofs.PathLines.{to_name_plain}
use Rattle.scene_prep.proofs.path.path_to.Goals as goal

pub returns-clause-line : goal.returns-clause-line
returns-clause-line c =
    let is : arc_value c.in_ok-new.field-0 ≡ path_to c.args.above.now c.args.name.now = grind (arith, common_steps) in
    subst IsPathText (sym is) (to_name_plain c.args.above.now c.args.name.now c.requires c.bytes.ensures.named)
