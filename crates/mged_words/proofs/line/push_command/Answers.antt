use Rattle.std.proofs.Common.{◌++◌, ◌∷◌, [], All, List, map, ap, sym, subst, ◌∙◌}
use Rattle.std.proofs.lemmas.List.{map-append}
use Rattle.transcript.specs.Merge.{Entry}
use Rattle.mged_words.specs.Entries.{command_entry}
use Rattle.mged_words.specs.Readable.{IsReadable}
use Rattle.command_set.specs.declared.command.Command.{Command}
use Rattle.mged_words.specs.declared.command.ScriptCommand.{ScriptCommand}
use Rattle.mged_words.proofs.PlainLaws.{line_end}
use Rattle.mged_words.proofs.line.push_command.Goals as goal

pub returns-clause-readable : goal.returns-clause-readable
returns-clause-readable c = λ h.
    let old : List ScriptCommand = c.args.commands.now in
    let grown = ap (map command_entry) c.in_ok-push.ensures.ok ∙ map-append command_entry old (c.in_ok-command_line.field-0 ∷ []) in
    subst (All IsReadable) (sym (grown ∙ ap (λ (e : Entry Command). map command_entry old ++ e ∷ []) c.in_ok-command_line.ensures.entry))
    (line_end (map command_entry old) c.args.session c.args.rest.now h)
