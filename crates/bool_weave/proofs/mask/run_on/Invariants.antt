use Rattle.std.proofs.Common.{◌≡◌, drop, reverse, []}
use Rattle.tree_forms.specs.Trees.{joined}
use Rattle.tree_forms.specs.Stacks.{run}
use Rattle.bool_weave.specs.Masks.{leaf_value, read}
use Rattle.bool_weave.specs.Tables.{at_leaf}
use Rattle.bool_weave.proofs.mask.run_on.Given as goal

abbrev pub invariant-loop-node : goal.invariant-loop-node
invariant-loop-node l = run read (leaf_value (at_leaf l.table l.interval)) joined (drop l.node-index l.nodes) (reverse l.stack.items) ≡ run read (leaf_value (at_leaf l.table l.interval)) joined l.nodes []
