use Rattle.std.proofs.Common.{◌≡◌, replicate, []}
use Rattle.script_run.proofs.run.no_answers.Given as goal

abbrev pub invariant-loop-i : goal.invariant-loop-i
invariant-loop-i l = l.answers.items ≡ replicate l._i []
