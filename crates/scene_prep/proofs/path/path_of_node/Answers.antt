use Rattle.std.proofs.Common.{◌≡◌, ◌<◌, ◌^◌, sym, subst, arith}
use Rattle.std.proofs.lemmas.Grind.{common_steps}
use Rattle.std.specs.Arc.{arc_value}
use Rattle.shot_core.specs.Regions.{IsPathText}
use Rattle.scene_prep.specs.Steps.{path_to_node}
use Rattle.scene_prep.proofs.PathLines.{to_node_plain}
use Rattle.scene_prep.proofs.path.path_of_node.Goals as goal

pub returns-clause-line : goal.returns-clause-line
returns-clause-line c =
    let is : arc_value c.in_ok-new.field-0 ≡ path_to_node c.args.comb.now c.args.number = grind (arith, common_steps) in
    let fits : c.args.number < 2 ^ 64 = omega arith in
    subst IsPathText (sym is) (to_node_plain c.args.comb.now c.args.number c.requires fits)
