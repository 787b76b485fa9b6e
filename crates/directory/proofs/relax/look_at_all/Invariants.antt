use Rattle.std.proofs.Common.{◌<◌, ℕ, [], drop}
use Rattle.name_core.specs.declared.name.Name.{Name}
use Rattle.directory.specs.Walks.{unbounded}
use Rattle.directory.specs.Depths.{depth_kept, IsRound, IsTraced, IsTracedIf}
use Rattle.directory.proofs.relax.look_at_all.Given as goal

abbrev pub invariant-loop-place : goal.invariant-loop-place
invariant-loop-place l = record {
  round : (turns : ℕ) → turns < unbounded → IsTracedIf l.list l.edited (depth_kept l.fn.depths) → IsRound l.list turns (depth_kept l.fn.depths) l.names [] l.fn.high
      → IsRound l.list turns (depth_kept l.round.depths) (drop l.place l.names) l.round.next l.round.high;
  known : IsTracedIf l.list l.edited (depth_kept l.fn.depths) → IsTracedIf l.list l.edited (depth_kept l.round.depths);
  traced : (e : Name) → IsTracedIf l.list l.edited (depth_kept l.fn.depths) → IsTraced l.list e l.names (depth_kept l.fn.depths) → IsTraced l.list e (drop l.place l.names) (depth_kept l.round.depths);
}
