use Rattle.std.proofs.Common.{◌≡◌, ◌++◌, ◌∷◌, [], length, drop, reverse}
use Rattle.tree_forms.specs.declared.Op.TheVariants.{U}
use Rattle.report_text.specs.Steps.{found_in}
use Rattle.report_text.proofs.leaves.leaves_backwards.Given as goal

abbrev pub invariant-loop-node : goal.invariant-loop-node
invariant-loop-node l = l.found.items ++ found_in (drop (length l.yielded) (reverse l.nodes)) (reverse l.operators.items) ≡ found_in (reverse l.nodes) (U ∷ [])
