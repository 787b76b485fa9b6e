use Rattle.std.proofs.Common.{◌≡◌, ◌++◌, option_map, length}
use Rattle.script_run.proofs.OrderLaws.{named_after}
use Rattle.script_run.proofs.order.read_digits.Given as goal

abbrev pub invariant-loop-session : goal.invariant-loop-session
invariant-loop-session l = option_map (λ o. l.order.items ++ o) (named_after l.rest) ≡ named_after l.text

abbrev pub decreases-loop-session : goal.decreases-loop-session
decreases-loop-session l = length l.rest
