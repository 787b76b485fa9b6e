use Rattle.tcl_words.proofs.Balanced.{read_balanced}
use Rattle.tcl_words.proofs.Inner.{read_tokens}
use Rattle.tcl_words.proofs.Covering.{found_cover}
use Rattle.tcl_words.proofs.Steps.{read_ok}
use Rattle.tcl_words.proofs.Unique.{unique}
use Rattle.tcl_words.proofs.read.read_words.Goals as goal

pub invariant_of-result : goal.invariant_of-result
invariant_of-result c = read_balanced c.args.text.now c.in_ok-tokens.tokens.items (read_ok c.args.text.now c.in_ok-tokens.tokens.items c.in_ok-tokens.ensures.tokens)

pub returns-clause-covers : goal.returns-clause-covers
returns-clause-covers c = found_cover c.args.text.now c.in_ok-tokens.tokens.items c.in_ok-tokens.ensures.tokens.1

pub returns-clause-only : goal.returns-clause-only
returns-clause-only c = λ tokens covers. unique c.args.text.now 0 tokens c.in_ok-tokens.tokens.items covers (found_cover c.args.text.now c.in_ok-tokens.tokens.items c.in_ok-tokens.ensures.tokens.1)

pub returns-clause-tokens : goal.returns-clause-tokens
returns-clause-tokens c = read_tokens c.args.text.now c.in_ok-tokens.tokens.items (read_ok c.args.text.now c.in_ok-tokens.tokens.items c.in_ok-tokens.ensures.tokens)
