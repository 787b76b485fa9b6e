use Rattle.std.proofs.Common.{rules, ◌≡◌, ◌∙◌, ap, sym, subst, length, map, filter, vec_len, arith}
use Rattle.std.proofs.lemmas.List.{length-map}
use Rattle.bool_weave.specs.Masks.{mask_of}
use Rattle.bool_weave.proofs.Held.{mask_back}
use Rattle.shot_core.specs.Regions.{HasLeavesBelow}
use Rattle.shot_core.specs.Prepared.{instance_of, boxes_of}
use Rattle.shot_core.specs.Steps.{is_leaf}
use Rattle.shot_core.specs.TreeBoxes.{tree_box}
use Rattle.shot_core.proofs.Nodes.{leaves_counted}
use Rattle.shot_core.proofs.region.PrepRegion.new.Goals as goal

pub leaf_count-size-requires : goal.leaf_count-size-requires
leaf_count-size-requires c = omega (arith, c.requires.few, ap (λ ns. length (filter is_leaf ns)) c.nodes-2.ensures, leaves_counted c.args.tree)

pub invariant_of-result : goal.invariant_of-result
invariant_of-result c =
    let counted : vec_len c.args.solids ≡ length (map instance_of c.args.solids.items) = search rules ∙ sym (length-map c.args.solids.items instance_of) in (
      record {
        leaves = subst (λ n. HasLeavesBelow n c.args.tree) counted c.requires.leaves;
        size_is = c.leaf_count-size.ensures ∙ ap (λ ns. length (filter is_leaf ns)) c.nodes-2.ensures ∙ leaves_counted c.args.tree;
        bounds_is = c.in_ok-bounds.ensures
            ∙ ap (λ l. tree_box (boxes_of (map instance_of l)) (mask_of c.nodes.result.now)) c.deref.ensures.value
            ∙ ap (tree_box (boxes_of (map instance_of c.args.solids.items))) (ap mask_of c.nodes.ensures ∙ mask_back c.args.tree);
      },
      search rules,
    )
