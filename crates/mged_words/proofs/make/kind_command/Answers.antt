use Rattle.std.proofs.Common.{◌∙◌, subst, sym}
use Rattle.mged_words.specs.Readings.{IsRead}
use Rattle.mged_words.proofs.LineLaws.{kind_right, kind_wrong}
use Rattle.mged_words.proofs.make.kind_command.Goals as goal

pub returns-then-atoms-number_count : goal.returns-then-atoms-number_count
returns-then-atoms-number_count c =
    subst (IsRead c.solid_command.result)
    (sym (kind_right c.args.name.now c.args.kind c.in-Some.kind c.args.atoms.now c.in-Some.is (c.if-atoms-number_count.true ∙ c.number_count.ensures.exact)))
    c.solid_command.ensures

pub returns-else-atoms-number_count : goal.returns-else-atoms-number_count
returns-else-atoms-number_count c =
    sym (kind_wrong c.args.name.now c.args.kind c.in-Some.kind c.args.atoms.now c.in-Some.is (λ e. c.if-atoms-number_count.false (e ∙ sym c.number_count.ensures.exact)))
