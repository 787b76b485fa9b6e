use Rattle.std.proofs.Common.{arith, sym, ap, ◌∙◌, length}
use Rattle.std.proofs.lemmas.Bool.{eqb-true, eqb-false}
use Rattle.region_attr.proofs.Cuts.{three_words, more_words}
use Rattle.region_attr.proofs.colour.of_words.Goals as goal

pub returns-then-is_empty : goal.returns-then-is_empty
returns-then-is_empty c = c.of_parts.ensures ∙ three_words c.args.text.now _ _ _ _ _ _ c.split_word.ensures.word c.split_word.ensures.rest c.split_word-2.ensures.word c.split_word-2.ensures.rest c.split_word-3.ensures.word c.split_word-3.ensures.rest (sym (ap length c.trimmed.ensures) ∙ eqb-true (length c.trimmed.result.now) 0 (sym c.is_empty.ensures ∙ c.if-is_empty.true))

pub returns-else-is_empty : goal.returns-else-is_empty
returns-else-is_empty c =
    let some = eqb-false (length c.trimmed.result.now) 0 (sym c.is_empty.ensures ∙ c.if-is_empty.false) in
    sym (more_words c.args.text.now _ _ _ _ _ _ c.split_word.ensures.word c.split_word.ensures.rest c.split_word-2.ensures.word c.split_word-2.ensures.rest c.split_word-3.ensures.word c.split_word-3.ensures.rest (omega (arith, some, ap length c.trimmed.ensures)))
