use Rattle.std.proofs.Common.{length, arith, ◌<◌}
use Rattle.tcl_words.specs.Tokens.{token}
use Rattle.tcl_words.specs.declared.token.Kind.TheVariants.{Open}
use Rattle.tcl_words.proofs.RoundTrip.{lies_index}
use Rattle.tcl_words.proofs.Order.{in_order}
use Rattle.tcl_words.proofs.groups.raw_text.Goals as goal

pub part-requires-clause-from : goal.part-requires-clause-from
part-requires-clause-from c =
    let apart : c.args.word.first < c.args.word.last = omega (arith, c.requires.word.ordered) in
    omega (arith, in_order 0 c.args.tokens.now c.args.word.first c.args.word.last (token Open 0 0) c.requires.tokens.starts apart c.requires.word.within)

pub part-requires-clause-to : goal.part-requires-clause-to
part-requires-clause-to c =
    let lies = lies_index (length c.args.text.now) c.args.tokens.now c.args.word.last (token Open 0 0) c.requires.tokens.lie c.requires.word.within in
    omega (arith, lies.0, lies.1)
