use Rattle.std.proofs.Common.{◌≡◌, ◌∷◌, [], length, map, reverse, ap, sym, subst, arith, length-append}
use Rattle.comb_tree.specs.declared.node.CombNode.TheVariants as variant
use Rattle.scene_prep.specs.Parts.{nodes_behind}
use Rattle.scene_prep.proofs.Parts.{HasUnited, united_none, united_union, united_part, united_ends, united_all, pushed_first}
use Rattle.scene_prep.proofs.part.united_trees.Goals as goal

pub loop-last-init : goal.loop-last-init
loop-last-init c = record {
  united = λ t is. subst (HasUnited t c.args.nodes.now) (sym (ap (λ xs. map nodes_behind (reverse xs)) c.new-trees.ensures.items)) (united_none t c.args.nodes.now is);
  few = omega (arith, ap length c.new-trees.ensures.items);
}

pub loop-last-preserved-then-is_union : goal.loop-last-preserved-then-is_union
loop-last-preserved-then-is_union c =
    let found = map nodes_behind (reverse c.loop-last.trees.items) in
    let union : c.in-Some.last.now ≡ variant.U = c.is_union.ensures.0 c.if-is_union.true in
    record {
      united = λ t is. united_union t c.in-Some.before.now c.in-Some.last.now found union (subst (λ ns. HasUnited t ns found) c.in-Some.ensures.cases.0 (c.loop-last.invariant.united t is));
      few = omega (arith, c.in-Some.ensures.cases.1);
    }

pub tree_start-requires : goal.tree_start-requires
tree_start-requires c =
    united_ends c.requires.0 c.loop-last.rest.now (map nodes_behind (reverse c.loop-last.trees.items)) (omega (arith, c.in-Some.ensures.cases.1)) (c.loop-last.invariant.united c.requires.0 c.requires.1)

pub loop-last-preserved : goal.loop-last-preserved
loop-last-preserved c =
    let found = map nodes_behind (reverse c.loop-last.trees.items) in
    let union = λ (e : c.in-Some.last.now ≡ variant.U). absurd (cc (c.is_union.ensures.1 e, c.if-is_union.false)) in
    record {
      united = λ t is. subst (HasUnited t c.split_at.result.0.now) (sym (pushed_first c.loop-last.trees.items c.push.new.self.items c.split_at.result.1 c.in_ok-push.ensures.items))
          (united_part t c.loop-last.rest.now c.split_at.result.0.now c.split_at.result.1.now c.in-Some.before.now c.in-Some.last.now found c.tree_start.result union c.in-Some.ensures.cases.0 c.tree_start.ensures.before
          c.split_at.ensures.front c.split_at.ensures.back (c.loop-last.invariant.united t is));
      few = omega (arith, c.split_at.ensures.front_len, ap length c.in_ok-push.ensures.items, length-append c.loop-last.trees.items (c.split_at.result.1 ∷ []));
    }

pub returns-clause-trees : goal.returns-clause-trees
returns-clause-trees c = λ t is. united_all t c.loop-last.rest.now (map nodes_behind (reverse c.loop-last.trees.items)) c.in_default.ensures.cases (c.loop-last.invariant.united t is)
