use Rattle.std.proofs.Common.{ℕ, ◌==◌, ap₂, ◌∙◌}
use Rattle.script_run.proofs.OrderLaws.{commands_of}
use Rattle.script_run.proofs.order.has_its_digits.Goals as goal

pub returns : goal.returns
returns c =
    ap₂ (λ (digits commands : ℕ). digits == commands) c.count_digits.ensures (c.count_commands.ensures ∙ commands_of c.args.script.now c.args.session)
