use Rattle.std.proofs.Common.{◌∙◌, sym}
use Rattle.scene_prep.proofs.SameParts.{same_half}
use Rattle.scene_prep.proofs.memo.is_same_half.Goals as goal

pub returns : goal.returns
returns c = λ h. same_half c.args.one.now c.args.two.now (sym c.eq.ensures ∙ h)
