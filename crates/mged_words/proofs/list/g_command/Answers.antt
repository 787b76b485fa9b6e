use Rattle.std.proofs.Common.{◌<◌, [], List, ℕ, length, rules}
use Rattle.std.specs.Borrow.{Bor}
use Rattle.mged_words.proofs.CommandLaws.{read_refused, read_passed, g_bad, g_rest}
use Rattle.mged_words.proofs.list.g_command.Goals as goal

pub returns-in_err-name-in-len1-up : goal.returns-in_err-name-in-len1-up
returns-in_err-name-in-len1-up c =
    let none : Bor (List ℕ) = record { ref_ptr = (0, 0); now = [] } in
    let lt : 1 < length c.args.atoms.now = search rules in
    read_refused c.from_residual.result c.in_err-name-in-len1-up.field-0.0 _ c.from_residual.ensures (λ e h. h)
    (g_bad c.args.atoms.now none c.in_err-name-in-len1-up.field-0.0 lt c.in_err-name-in-len1-up.ensures.fault)

pub returns-in_err-members-in-len1-up : goal.returns-in_err-members-in-len1-up
returns-in_err-members-in-len1-up c =
    let none : Bor (List ℕ) = record { ref_ptr = (0, 0); now = [] } in
    let lt : 1 < length c.args.atoms.now = search rules in
    read_passed ℕ c.from_residual-in_err-members-in-len1-up.result c.in_err-members-in-len1-up.field-0.0 _ _ c.from_residual-in_err-members-in-len1-up.ensures (λ e h. h)
    c.in_err-members-in-len1-up.ensures.fault
    (λ refusal bad. g_rest c.args.atoms.now none refusal lt c.in_ok-name-in-len1-up.ensures.none bad)
