use Rattle.std.proofs.Common.{◌∙◌, sym}
use Rattle.comb_tree.proofs.Equal.{placement_decides}
use Rattle.scene_prep.proofs.memo.is_same_placement.Goals as goal

pub returns : goal.returns
returns c = λ h. (placement_decides c.args.one.now c.args.two.now).0 (sym c.eq.ensures ∙ h)
