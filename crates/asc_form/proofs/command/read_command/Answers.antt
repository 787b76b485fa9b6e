use Rattle.std.proofs.Common.{arith, ap, ◌∙◌, ◌≡◌, length}
use Rattle.tcl_words.specs.TopWords.{top_words}
use Rattle.word_values.proofs.TokenLaws.{few_words}
use Rattle.asc_form.proofs.command.read_command.Goals as goal

pub words_command-requires-clause-few : goal.words_command-requires-clause-few
words_command-requires-clause-few c =
    let few = few_words (length c.args.text.now) c.in-Ok.read c.in-Ok.ensures.tokens in
    let same : length c.deref.result.now ≡ length (top_words c.in-Ok.read) = ap length (c.deref.ensures.value ∙ c.in_ok-words-in-Ok.ensures.words ∙ ap top_words c.tokens.ensures.value) in
    omega (arith, few, same, c.requires)
