use Rattle.std.proofs.Common.{◌≡◌, ◌∙◌, length, ap, sym, subst, arith, vec_len}
use Rattle.std.proofs.lemmas.Result.{IfOk-weaker}
use Rattle.tree_forms.specs.Trees.{leaves}
use Rattle.bool_weave.specs.Masks.{Mask}
use Rattle.shot_core.specs.Regions.{HasLeavesBelow}
use Rattle.scene_prep.specs.Solids.{numbered}
use Rattle.scene_prep.proofs.Finishing.{mask_is, leaves_below, finished_is}
use Rattle.scene_prep.proofs.Scening.{leaves-numbered}
use Rattle.scene_prep.proofs.body.finish.Goals as goal

pub body-requires-clause-leaves : goal.body-requires-clause-leaves
body-requires-clause-leaves c =
    let count : vec_len c.into_parts-tree.result.1 ≡ length c.args.out.solids.items = omega (arith, c.into_parts-tree.result.1.ok.0, ap length c.into_parts-tree.ensures.solids) in
    subst (HasLeavesBelow (vec_len c.into_parts-tree.result.1)) (sym (mask_is c.args.out c.requires.0 c.into_parts-tree.result.0 c.into_parts-tree.ensures.tree c.requires.1))
    (leaves_below c.args.out c.requires.0 (vec_len c.into_parts-tree.result.1) c.requires.1 count)

pub body-requires-clause-few : goal.body-requires-clause-few
body-requires-clause-few c =
    let same : length (leaves c.into_parts-tree.result.0) ≡ length (leaves (numbered 0 c.requires.0)) =
    ap (λ (m : Mask). length (leaves m)) (mask_is c.args.out c.requires.0 c.into_parts-tree.result.0 c.into_parts-tree.ensures.tree c.requires.1) in
    omega (arith, same, leaves-numbered 0 c.requires.0, c.requires.2)

pub returns : goal.returns
returns c =
    IfOk-weaker c.body.result _ _
    (λ body is tree w. is ∙ finished_is c.args.out tree c.into_parts-tree.result.0 c.into_parts-tree.result.1.items c.args.rgb c.args.id c.args.air c.into_parts-tree.ensures.tree c.into_parts-tree.ensures.solids w)
    c.body.ensures
