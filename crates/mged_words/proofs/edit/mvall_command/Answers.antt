use Rattle.std.proofs.Common.{[], List, ℕ}
use Rattle.std.specs.Borrow.{Bor}
use Rattle.mged_words.proofs.CommandLaws.{read_refused, mvall_bad, mvall_other}
use Rattle.mged_words.proofs.edit.mvall_command.Goals as goal

pub returns-then-atoms-ne2 : goal.returns-then-atoms-ne2
returns-then-atoms-ne2 c = mvall_other c.args.atoms.now c.if-atoms-ne2.true

pub returns-in_err-old : goal.returns-in_err-old
returns-in_err-old c =
    let none : Bor (List ℕ) = record { ref_ptr = (0, 0); now = [] } in
    read_refused c.from_residual.result c.in_err-old.field-0.0 _ c.from_residual.ensures (λ e h. h)
    (mvall_bad c.args.atoms.now none c.in_err-old.field-0.0 c.if-atoms-ne2.false c.in_err-old.ensures.fault)
