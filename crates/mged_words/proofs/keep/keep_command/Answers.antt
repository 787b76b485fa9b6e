use Rattle.std.proofs.Common.{arith}
use Rattle.mged_words.proofs.TextLaws.{few_kept}
use Rattle.mged_words.proofs.keep.keep_command.Goals as goal

pub read_command-requires-clause-short : goal.read_command-requires-clause-short
read_command-requires-clause-short c =
    let few = few_kept c.args.line.now c.args.tokens.now 4 c.args.words.now c.in-Ok.kept c.in-Ok.ensures.read in omega (arith, few, c.requires.few)
