use Rattle.std.proofs.Common.{arith, ◌≤◌}
use Rattle.version_table.proofs.Moves.{split_allows}
use Rattle.version_table.proofs.table.split_by.Goals as goal

pub split_seat-requires : goal.split_seat-requires
split_seat-requires g c =
    let own = c.requires.own in
    let room : g.E.Handing.calls ≤ c.args.token.now.me.0.left = omega (arith, c.requires.calls, c.requires.room) in
    (own.0, omega (arith, own.1), split_allows c.args.table.now.key c.args.token.now.id g.E.Handing.session g.E.Handing.calls c.args.token.now.me.0 c.requires.idle.0 room)
