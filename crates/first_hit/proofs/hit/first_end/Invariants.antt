use Rattle.std.proofs.Common.{◌≡◌, drop}
use Rattle.std.specs.List.{find}
use Rattle.overlap_list.specs.Hits.{has_end_at}
use Rattle.first_hit.proofs.hit.first_end.Given as goal

abbrev pub invariant-loop-one : goal.invariant-loop-one
invariant-loop-one l = find (has_end_at l.place) (drop l.one-index l.own) ≡ find (has_end_at l.place) l.own
