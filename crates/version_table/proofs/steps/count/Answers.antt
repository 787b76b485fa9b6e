use Rattle.std.proofs.Common.{arith, sym}
use Rattle.std.specs.Arc.{arc_value}
use Rattle.version_table.specs.Run.{note_of}
use Rattle.version_table.proofs.Moves.{count_allows}
use Rattle.version_table.proofs.steps.count.Goals as goal

pub fetch_add-requires : goal.fetch_add-requires
fetch_add-requires g c =
    let own = c.requires.own in
    (own.0, omega (arith, own.1), rw (own.2, c.requires.entry) (count_allows c.args.table.now.key c.args.token.now.id (note_of c.args.session (arc_value c.args.command.now) c.args.memory) c.args.token.now.me c.requires.turn.0 c.requires.turn.1 (sym c.requires.session)))
