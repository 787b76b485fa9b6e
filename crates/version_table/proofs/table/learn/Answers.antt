use Rattle.std.proofs.Common.{arith}
use Rattle.version_table.proofs.Moves.{learn_allows}
use Rattle.version_table.proofs.table.learn.Goals as goal

pub load-requires : goal.load-requires
load-requires g c =
    let own = c.requires.own in
    (own.0, omega (arith, own.1), rw own.2 (learn_allows c.args.table.now.key c.args.token.now.id c.args.token.now.me c.requires.idle.0))
