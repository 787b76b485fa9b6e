use Rattle.std.proofs.Common.{◌≡◌, ◌++◌, [], length, drop, reverse}
use Rattle.put_form.specs.WritingSteps.{walked}
use Rattle.put_form.proofs.write_tree.push_nodes_backwards.Given as goal

abbrev pub invariant-loop-node : goal.invariant-loop-node
invariant-loop-node l = l.line.items ++ walked (drop (length l.yielded) (reverse l.nodes)) (reverse l.stack.items) ≡ l.initial.line.items ++ walked (reverse l.nodes) []
