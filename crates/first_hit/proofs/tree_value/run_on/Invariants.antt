use Rattle.std.proofs.Common.{◌≡◌, drop, reverse, []}
use Rattle.tree_forms.specs.Trees.{joined}
use Rattle.tree_forms.specs.Stacks.{run}
use Rattle.bool_weave.specs.Masks.{leaf_value, read}
use Rattle.first_hit.specs.FirstSteps.{value_at}
use Rattle.first_hit.proofs.tree_value.run_on.Given as goal

abbrev pub invariant-loop-node : goal.invariant-loop-node
invariant-loop-node l = run read (leaf_value (value_at l.values)) joined (drop l.node-index l.nodes) (reverse l.stack.items) ≡ run read (leaf_value (value_at l.values)) joined l.nodes []
