use Rattle.std.proofs.Common.{◌∙◌, ap, map, sym, string_bytes, true≢false}
use denote.Enum.Bare.{sameb}
use Rattle.clap.specs.Words.{app_of, found_of, kind_of, rows_of}
use Rattle.clap.specs.contracts.error.kind.ErrorKind.{the_type}
use Rattle.clap.specs.declared.error.kind.ErrorKind.{ErrorKind}
use Rattle.clap.specs.declared.error.kind.ErrorKind.TheVariants.{OutOfMemory}
use Rattle.clap.proofs.WalkLemmas.{first_value-rows}
use Rattle.option_words.specs.declared.options.Key.TheVariants.{Load, Demo, Replay, Workers}
use Rattle.option_words.proofs.ClapSteps.{id_of}
use Rattle.option_words.proofs.TextLaws.{refused_texts, taken_texts}
use Rattle.option_words.proofs.command.option_texts.Goals as goal

-- clap takes the words, so they are in the grammar
pub returns-in-Ok : goal.returns-in-Ok
returns-in-Ok c = λ none.
    let found = found_of c.in-Ok.matches in
    taken_texts (app_of c.in_ok-command.command) (map string_bytes c.args.words.now) (rows_of found) _ _ _ _ c.in_ok-command.ensures none
    c.in-Ok.ensures.kinds (λ simple. (c.in-Ok.ensures.matches simple).0)
    (c.get_str.ensures ∙ first_value-rows found (id_of Load)) (c.get_str-in-Ok.ensures ∙ first_value-rows found (id_of Demo))
    (c.get_str-in-Ok-2.ensures ∙ first_value-rows found (id_of Replay)) (c.get_str-in-Ok-3.ensures ∙ first_value-rows found (id_of Workers))

-- clap refuses the words, and not for want of memory
pub returns : goal.returns
returns c = λ none.
    refused_texts (app_of c.in_ok-command.command) (map string_bytes c.args.words.now) (kind_of c.in-Err.error) c.in_ok-command.ensures none
    c.in-Err.ensures.kinds (λ memory. true≢false (sym (ap (λ (k : ErrorKind). sameb the_type k OutOfMemory) (c.kind.ensures ∙ memory)) ∙ sym c.if-eq.ensures))
