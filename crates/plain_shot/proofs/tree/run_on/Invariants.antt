use Rattle.std.proofs.Common.{◌≡◌, drop, reverse, []}
use Rattle.tree_forms.specs.Trees.{joined}
use Rattle.tree_forms.specs.Stacks.{run}
use Rattle.bool_weave.specs.Masks.{leaf_value, read}
use Rattle.plain_shot.specs.Steps.{spans_from}
use Rattle.plain_shot.proofs.tree.run_on.Given as goal

abbrev pub invariant-loop-node : goal.invariant-loop-node
invariant-loop-node l =
    run read (leaf_value (spans_from l.segments l.interval l.first)) joined (drop l.node-index l.nodes) (reverse l.stack.items) ≡ run read (leaf_value (spans_from l.segments l.interval l.first)) joined l.nodes []
