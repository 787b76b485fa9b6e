use Rattle.std.proofs.Common.{arith}
use Rattle.word_values.proofs.TokenLaws.{last_behind, last_within}
use Rattle.word_values.proofs.value.text_from.Goals as goal

pub part-requires-clause-from : goal.part-requires-clause-from
part-requires-clause-from c = last_behind _ c.args.tokens.now c.args.word.first _ c.requires.tokens (omega (arith, c.requires.word.ordered, c.requires.word.within))

pub part-requires-clause-to : goal.part-requires-clause-to
part-requires-clause-to c = last_within _ c.args.tokens.now _ c.requires.tokens (omega (arith, c.requires.word.within))
