use Rattle.std.proofs.Common.{◌≡◌, ◌≤◌, ◌+◌, length}
use Rattle.overlap_list.specs.declared.overlap.TheConstants.{MOST_PAIRS}
use Rattle.view_shot.proofs.CheckLaws.{first_report}
use Rattle.view_shot.proofs.check.add_tiles.Given as goal

abbrev pub invariant-loop-i : goal.invariant-loop-i
invariant-loop-i l = record {
  within : l.i ≤ length l.shots;
  report : l.report.items ≡ first_report l.scene l.view (l.first + l.i);
  most : length l.initial.report.items ≤ MOST_PAIRS → length l.report.items ≤ MOST_PAIRS;
}
