use Rattle.std.proofs.Common.{◌∙◌, subst, sym, ap, map, List, ℤ, Option, [], ◌∷◌, is_ok}
use Rattle.name_core.specs.NameText.{read_name}
use Rattle.word_values.specs.Kinds.{numbers_as}
use Rattle.word_values.specs.declared.atoms.NumberList.TheVariants as lists
use Rattle.mged_words.specs.Readings.{IsRead}
use Rattle.mged_words.specs.Commands.{numbers_command, numbers_fault, make_command}
use Rattle.word_values.specs.Solids.{solid_made}
use Rattle.command_set.specs.declared.refusal.Refusal.TheVariants.{Name}
use Rattle.mged_words.proofs.LineLaws.{past_fault, read_same}
use Rattle.mged_words.proofs.make.solid_command.Goals as goal

pub returns-in-Ok : goal.returns-in-Ok
returns-in-Ok c =
    let numbers : List (Option ℤ) = numbers_as (lists.Solid c.args.kind) (map (λ a. a.now) c.args.atoms.now) in
    let read = sym c.read.ensures.exact ∙ c.in-Ok.is in
    subst (IsRead c.numbers_command.result)
    (ap (λ name. numbers_command name c.args.kind numbers) (read_same c.args.name.now c.in-Ok.name read)
    ∙ sym (past_fault (is_ok (read_name c.args.name.now)) (Name 2) (numbers_fault 4 1 numbers ∷ []) (make_command c.args.name.now (solid_made c.args.kind numbers)) (ap is_ok read)))
    c.numbers_command.ensures
