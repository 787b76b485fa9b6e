use Rattle.std.proofs.Common.{Err, None, map, string_bytes, subst, sym, ◌≡◌}
use Rattle.option_words.specs.Grammar.{asked_of}
use Rattle.option_words.specs.Reading.{IsAnswer, IsOptions}
use Rattle.option_words.proofs.Ends.{end_asks_nothing, none_ends}
use Rattle.option_words.proofs.read.read_options.Goals as goal

pub returns-then-has_end-clause-options : goal.returns-then-has_end-clause-options
returns-then-has_end-clause-options c =
    subst (λ words. asked_of (map string_bytes words) ≡ None) c.as_slice-words.ensures.value (end_asks_nothing string_bytes c.as_slice-words.result.now (sym c.if-has_end.ensures))

pub returns-in-Ok-clause-options : goal.returns-in-Ok-clause-options
returns-in-Ok-clause-options c =
    let asked = c.in-Ok.ensures (none_ends string_bytes c.as_slice-words.result.now (sym c.if-has_end.ensures)) in
    subst (λ words. IsOptions c.options_with.result (map string_bytes words)) c.as_slice-words.ensures.value (subst (IsAnswer c.options_with.result) (sym asked) c.options_with.ensures.options)

pub returns-in-Err-clause-options : goal.returns-in-Err-clause-options
returns-in-Err-clause-options c =
    subst (λ words. IsOptions (Err c.in-Err.fault) (map string_bytes words)) c.as_slice-words.ensures.value
    (c.in-Err.ensures (none_ends string_bytes c.as_slice-words.result.now (sym c.if-has_end.ensures)))
