use Rattle.std.proofs.Common.{◌∙◌, sym}
use Rattle.scene_prep.proofs.Keys.{rgb_decides}
use Rattle.scene_prep.proofs.memo.is_same_colour.Goals as goal

pub returns : goal.returns
returns c = λ h. (rgb_decides c.args.one.now c.args.two.now).0 (sym c.eq.ensures ∙ h)
