use Rattle.std.proofs.Common.{◌∙◌, sym}
use Rattle.scene_prep.proofs.SameParts.{same_ball}
use Rattle.scene_prep.proofs.memo.is_same_sphere.Goals as goal

pub returns : goal.returns
returns c = λ h. same_ball c.args.one.now c.args.two.now (sym c.eq.ensures ∙ h)
