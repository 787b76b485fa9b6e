use Rattle.tcl_words.specs.TopWords.{AllLie}
use Rattle.std.proofs.Common.{ap, sym, subst, arith, length}
use Rattle.tcl_words.proofs.RoundTrip.{lies_index, read_lies, all_written}
use Rattle.tcl_words.proofs.write.write_words.Goals as goal

pub add_token-requires-clause-start : goal.add_token-requires-clause-start
add_token-requires-clause-start c = (lies_index (length c.args.text.now) c.tokens-token-items.result.now c.loop-token.token-index _ (subst (AllLie (length c.args.text.now)) (sym c.tokens-token-items.ensures.value) (read_lies c.args.text.now c.args.words.now c.requires)) c.loop-token-test.true).0

pub add_token-requires-clause-end : goal.add_token-requires-clause-end
add_token-requires-clause-end c = (lies_index (length c.args.text.now) c.tokens-token-items.result.now c.loop-token.token-index _ (subst (AllLie (length c.args.text.now)) (sym c.tokens-token-items.ensures.value) (read_lies c.args.text.now c.args.words.now c.requires)) c.loop-token-test.true).1

pub returns-clause-again : goal.returns-clause-again
returns-clause-again c = all_written c.args.text.now c.loop-token.out.items c.loop-token.last c.args.words.now c.loop-token.token-index (omega (arith, ap length c.tokens-token-items.ensures.value)) c.loop-token.invariant c.requires
