use Rattle.std.proofs.Common.{◌≡◌, drop}
use Rattle.std.specs.List.{find}
use Rattle.overlap_list.specs.Runs.{is_maximal}
use Rattle.overlap_list.specs.Overlaps.{do_overlap_at}
use Rattle.plain_shot.proofs.overlap.first_run.Given as goal

abbrev pub invariant-loop-run : goal.invariant-loop-run
invariant-loop-run l = find (is_maximal (do_overlap_at l.regions l.pair)) (drop l.run-index l.runs) ≡ find (is_maximal (do_overlap_at l.regions l.pair)) l.runs
