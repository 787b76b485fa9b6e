use Rattle.std.proofs.Common.{◌≡◌, true, rules}
use Rattle.std.specs.Cmp.Lexicographic.{pointwise}
use Rattle.bool_weave.specs.Masks.{mask_nodes}
use Rattle.bool_weave.specs.contracts.mask.MaskNodePartialEq.TheImpl as nodes
use Rattle.scene_prep.proofs.SameParts.{tree_decides}
use Rattle.scene_prep.proofs.memo.is_same_tree.Goals as goal

pub returns : goal.returns
returns c = λ h.
    let same : pointwise nodes.eq-value.it (mask_nodes c.args.one.now) (mask_nodes c.args.two.now) ≡ true = search (rules, h) in
    (tree_decides c.args.one.now c.args.two.now).0 same
