use Rattle.std.proofs.Common.{◌≡◌, ◌≤◌, ◌+◌, drop, length}
use Rattle.view_shot.specs.Steps.{found}
use Rattle.view_shot.proofs.plan.Plan.reused.Given as goal

abbrev pub invariant-loop-i : goal.invariant-loop-i
invariant-loop-i l = record { counted : l.reused + length (found (drop l.i l.self.names.items)) ≡ length (found l.self.names.items); most : l.reused ≤ l.i }
