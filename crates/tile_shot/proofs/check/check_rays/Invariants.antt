use Rattle.std.proofs.Common.{◌≡◌, ◌≤◌, length}
use Rattle.overlap_list.specs.declared.overlap.TheConstants.{MOST_PAIRS}
use Rattle.tile_shot.specs.Reports.{report_of}
use Rattle.tile_shot.specs.RaySteps.{spots_above}
use Rattle.tile_shot.proofs.check.check_rays.Given as goal

abbrev pub invariant-loop-row : goal.invariant-loop-row
invariant-loop-row l = record {
  report : l.pairs.items ≡ report_of l.scene l.view (spots_above l.span l.row);
  most : length l.pairs.items ≤ MOST_PAIRS;
}
