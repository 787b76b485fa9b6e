use Rattle.std.proofs.Common.{◌<◌, [], List, ℕ, length, rules}
use Rattle.std.specs.Borrow.{Bor}
use Rattle.mged_words.proofs.CommandLaws.{read_refused, read_passed, rm_bad, rm_rest}
use Rattle.mged_words.proofs.edit.rm_command.Goals as goal

pub returns-in_err-comb-in-len1-up : goal.returns-in_err-comb-in-len1-up
returns-in_err-comb-in-len1-up c =
    let none : Bor (List ℕ) = record { ref_ptr = (0, 0); now = [] } in
    let lt : 1 < length c.args.atoms.now = search rules in
    read_refused c.from_residual.result c.in_err-comb-in-len1-up.field-0.0 _ c.from_residual.ensures (λ e h. h)
    (rm_bad c.args.atoms.now none c.in_err-comb-in-len1-up.field-0.0 lt c.in_err-comb-in-len1-up.ensures.fault)

pub returns-in_err-read_names-in-len1-up : goal.returns-in_err-read_names-in-len1-up
returns-in_err-read_names-in-len1-up c =
    let none : Bor (List ℕ) = record { ref_ptr = (0, 0); now = [] } in
    let lt : 1 < length c.args.atoms.now = search rules in
    read_passed ℕ c.from_residual-in_err-read_names-in-len1-up.result c.in_err-read_names-in-len1-up.field-0.0 _ _ c.from_residual-in_err-read_names-in-len1-up.ensures (λ e h. h)
    c.in_err-read_names-in-len1-up.ensures.fault
    (λ refusal bad. rm_rest c.args.atoms.now none refusal lt c.in_ok-comb-in-len1-up.ensures.none bad)
