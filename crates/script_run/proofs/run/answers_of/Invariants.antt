use Rattle.std.proofs.Common.{◌≡◌}
use Rattle.script_run.specs.Answers.{lists_of}
use Rattle.script_run.proofs.run.answers_of.Given as goal

abbrev pub invariant-loop-one : goal.invariant-loop-one
invariant-loop-one l = l.lists.items ≡ lists_of l.yielded
