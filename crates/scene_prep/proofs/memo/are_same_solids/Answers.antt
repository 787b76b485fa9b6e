use Rattle.std.proofs.Common.{◌∙◌, sym, map}
use Rattle.shot_core.specs.Prepared.{instance_of}
use Rattle.scene_prep.proofs.SameParts.{list_decides, instance_decides, instances_are}
use Rattle.scene_prep.proofs.memo.are_same_solids.Goals as goal

pub returns : goal.returns
returns c = λ h. (list_decides instance_decides (map instance_of c.args.one.now) (map instance_of c.args.two.now)).0 (sym (instances_are c.args.one.now c.args.two.now) ∙ sym c.eq.ensures ∙ h)
