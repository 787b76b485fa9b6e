use Rattle.std.proofs.Common.{◌≡◌, ◌≤◌, length}
use Rattle.overlap_list.specs.declared.overlap.TheConstants.{MOST_PAIRS}
use Rattle.tile_shot.specs.Reports.{report_of}
use Rattle.tile_shot.specs.RaySteps.{spots_before}
use Rattle.tile_shot.proofs.check.add_row.Given as goal

abbrev pub invariant-loop-column : goal.invariant-loop-column
invariant-loop-column l = record {
  report : l.pairs.items ≡ report_of l.scene l.view (spots_before l.span l.column l.row);
  most : length l.initial.pairs.items ≤ MOST_PAIRS → length l.pairs.items ≤ MOST_PAIRS;
}
