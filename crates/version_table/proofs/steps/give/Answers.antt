use Rattle.std.proofs.Common.{arith}
use Rattle.version_table.proofs.Moves.{give_allows}
use Rattle.version_table.proofs.steps.give.Goals as goal

pub store-requires : goal.store-requires
store-requires g c =
    let own = c.requires.own in
    (own.0, omega (arith, own.1), rw own.2 (give_allows c.args.table.now.key c.args.token.now.id c.args.token.now.me c.requires.turn.0 c.requires.turn.1))
