-- The line of a region that pixels present is one line.
use Rattle.std.proofs.Common.{ℕ, codes, decimal, refl}
use Rattle.transcript.specs.Lines.{Lacks}
use Rattle.transcript.proofs.LineLaws.{lacks_append}
use Rattle.transcript.proofs.TranscriptLaws.{computed}
use Rattle.shot_core.specs.Regions.{Region, IsPathText}
use Rattle.report_text.specs.Areas.{area_line}
use Rattle.report_text.proofs.ShotLaws.{number_lacks, path_lacks, after_blank}

pub area_one_line : (region : Region) (pixels : ℕ) → Lacks 10 region.path → Lacks 10 (area_line region pixels)
area_one_line region pixels h =
    lacks_append 10 (codes "area ") _ (computed 10 (codes "area ") refl)
    (lacks_append 10 (decimal region.place) _ (number_lacks region.place)
    (after_blank _ (lacks_append 10 region.path _ h (after_blank _ (number_lacks pixels)))))

pub area_lacks : (region : Region) (pixels : ℕ) → IsPathText region.path → Lacks 10 (area_line region pixels)
area_lacks region pixels h = area_one_line region pixels (path_lacks region.path h)
