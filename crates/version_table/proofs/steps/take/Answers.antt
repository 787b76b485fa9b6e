use Rattle.std.proofs.Common.{arith}
use Rattle.version_table.proofs.Moves.{take_allows}
use Rattle.version_table.proofs.steps.take.Goals as goal

pub compare_exchange-requires : goal.compare_exchange-requires
compare_exchange-requires g c =
    let own = c.requires.own in
    (own.0, omega (arith, own.1), rw (own.2, c.requires.told) (take_allows c.args.table.now.key c.args.token.now.id c.args.token.now.me c.requires.call c.requires.idle.0 c.requires.idle.2))
