use Rattle.std.proofs.Common.{◌≡◌}
use Rattle.asc_form.specs.CutSteps.{end_from}
use Rattle.asc_form.proofs.cut.end_of_line.Given as goal

abbrev pub invariant-loop-place : goal.invariant-loop-place
invariant-loop-place l = end_from l.text l.place ≡ end_from l.text l.start
