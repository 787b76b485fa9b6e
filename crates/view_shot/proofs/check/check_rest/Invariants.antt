use Rattle.std.proofs.Common.{◌≡◌, ◌≤◌, ◌-◌, length}
use Rattle.std.specs.Arc.{arc_value}
use Rattle.overlap_list.specs.declared.overlap.TheConstants.{MOST_PAIRS}
use Rattle.view_shot.proofs.CheckLaws.{first_report}
use Rattle.view_shot.proofs.check.check_rest.Given as goal

abbrev pub decreases-loop-first : goal.decreases-loop-first
decreases-loop-first g l = l.tiles - l.first

abbrev pub invariant-loop-first : goal.invariant-loop-first
invariant-loop-first g l = record {
  within : l.first ≤ l.tiles;
  report : l.report.items ≡ first_report (arc_value l.scene) l.view l.first;
  most : length l.report.items ≤ MOST_PAIRS;
}
