use Rattle.std.proofs.Common.{◌-◌, Ok, [], take}
use Rattle.std.specs.Prelude.{slice_index_or}
use Rattle.report_text.specs.Areas.{area_lines}
use Rattle.report_text.specs.Steps.{IsPushed}
use Rattle.report_text.proofs.areas.area_text.Given as goal

abbrev pub invariant-loop-region : goal.invariant-loop-region
invariant-loop-region l = IsPushed (Ok l.left) [] l.body (area_lines (take l.region-index l.scene) (λ place. slice_index_or l.areas (place - 1) 0)) l.room
