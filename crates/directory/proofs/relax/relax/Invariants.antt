use Rattle.std.proofs.Common.{[]}
use Rattle.directory.specs.Depths.{depth_kept, IsRound, IsTracedIf}
use Rattle.directory.proofs.relax.relax.Given as goal

abbrev pub invariant-loop-turn : goal.invariant-loop-turn
invariant-loop-turn l = record {
  round : IsRound l.list l._turn (depth_kept l.round.depths) l.round.next [] l.round.high;
  known : IsTracedIf l.list l.edited (depth_kept l.round.depths);
}
