use Rattle.std.proofs.Common.{◌≤◌, All, arith, take, subst, ap}
use Rattle.std.proofs.lemmas.List.{take_all, get_or_default}
use Rattle.std.proofs.lemmas.List.Elements.{All-more, All-weaker}
use Rattle.bool_weave.specs.declared.mask.MaskNode.TheVariants.{Never, Leaf}
use Rattle.bool_weave.specs.Tables.{leaf_end}
use Rattle.bool_weave.proofs.mask.last_leaf_end.Goals as goal

pub loop-node-preserved : goal.loop-node-preserved
loop-node-preserved c = record {
  all = All-more (λ n. leaf_end n ≤ c.max-end.result) c.args.nodes.now c.loop-node.node-index Never c.loop-node-test.true
      (All-weaker (λ n. leaf_end n ≤ c.loop-node.end) (λ n. leaf_end n ≤ c.max-end.result) (λ n h. omega (arith, h, c.max-end.ensures)) (take c.loop-node.node-index c.args.nodes.now) c.loop-node.invariant.all)
      (omega (arith, c.leaf_end.ensures.value, ap leaf_end (get_or_default c.args.nodes.now c.loop-node.node-index Never (Leaf 0) c.loop-node-test.true), c.max-end.ensures));
  bound = omega (arith, c.leaf_end.ensures.bound, c.max-end.ensures, c.loop-node.invariant.bound);
}

pub returns-clause-all : goal.returns-clause-all
returns-clause-all c =
    subst (λ l. All (λ n. leaf_end n ≤ c.loop-node.end) l) (take_all c.loop-node.node-index c.args.nodes.now c.loop-node-test.false) c.loop-node.invariant.all
