use Rattle.std.proofs.Common.{◌≡◌, ◌++◌, reverse, vec_len}
use Rattle.put_form.specs.WritingSteps.{owed, after}
use Rattle.put_form.proofs.write_tree.push_before.Given as goal

abbrev pub invariant-loop-before : goal.invariant-loop-before
invariant-loop-before l = record {
  line : l.line.items ++ owed (reverse l.stack.items) ≡ l.initial.line.items ++ owed (reverse l.initial.stack.items);
  stack : after (reverse l.stack.items) ≡ after (reverse l.initial.stack.items);
}

abbrev pub decreases-loop-before : goal.decreases-loop-before
decreases-loop-before l = vec_len l.stack
