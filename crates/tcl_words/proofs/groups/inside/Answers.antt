use Rattle.tcl_words.proofs.Inner.{inner_tokens}
use Rattle.tcl_words.proofs.groups.inside.Goals as goal

pub returns-clause-tokens : goal.returns-clause-tokens
returns-clause-tokens c n are = inner_tokens n c.args.tokens.now c.args.word c.requires.word c.requires.group are
