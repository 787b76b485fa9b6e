use Rattle.std.proofs.Common.{length}
use Rattle.tcl_words.specs.Tokens.{token}
use Rattle.tcl_words.specs.declared.token.Kind.TheVariants.{Open}
use Rattle.tcl_words.proofs.RoundTrip.{lies_index}
use Rattle.tcl_words.proofs.groups.token_text.Goals as goal

pub part-requires-clause-from : goal.part-requires-clause-from
part-requires-clause-from c = (lies_index (length c.args.text.now) c.args.tokens.now c.args.index (token Open 0 0) c.requires.tokens.lie c.requires.index).0

pub part-requires-clause-to : goal.part-requires-clause-to
part-requires-clause-to c = (lies_index (length c.args.text.now) c.args.tokens.now c.args.index (token Open 0 0) c.requires.tokens.lie c.requires.index).1
