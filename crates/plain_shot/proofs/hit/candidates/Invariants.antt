use Rattle.std.proofs.Common.{◌≡◌, ◌++◌, drop, filter}
use Rattle.overlap_list.specs.Hits.{is_candidate}
use Rattle.plain_shot.proofs.hit.candidates.Given as goal

abbrev pub invariant-loop-segment : goal.invariant-loop-segment
invariant-loop-segment l =
    l.kept.items ++ filter (is_candidate l.regions l.k l.place) (drop l.segment-index l.segments) ≡ filter (is_candidate l.regions l.k l.place) l.segments
