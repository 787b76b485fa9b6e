use Rattle.std.proofs.Common.{◌≡◌, drop, reverse, map, []}
use Rattle.tree_forms.specs.Stacks.{run}
use Rattle.bool_weave.specs.Masks.{read}
use Rattle.shot_core.specs.Prepared.{instance_of, boxes_of}
use Rattle.shot_core.specs.TreeBoxes.{leaf_box, joined_box}
use Rattle.shot_core.proofs.tree_box.run_on.Given as goal

abbrev pub invariant-loop-node : goal.invariant-loop-node
invariant-loop-node l = run read (leaf_box (boxes_of (map instance_of l.solids))) joined_box (drop l.node-index l.nodes) (reverse l.stack.items) ≡ run read (leaf_box (boxes_of (map instance_of l.solids))) joined_box l.nodes []
