-- The running start and end of what of a ray the faces so far hold, as the code keeps them.
use Rattle.std.specs.Prelude.{◌||◌, false, cond, Option, None}
use Rattle.lattice_core.specs.declared.limit.TheConstants.{FAR}
use Rattle.surd_quot.specs.declared.position.QPos.{QPos}
use Rattle.surd_quot.specs.Range.{IsQuotientInRange}
use Rattle.surd_quot.specs.Spelling.{IsSpelledQuotient}
use Rattle.oblique_ray.specs.declared.run.Run.{Run}
use Rattle.oblique_ray.specs.Cuts.{LineCut}
use Rattle.oblique_ray.specs.Running.{all_spelled}
use Rattle.oblique_ray.specs.Segments.{Stretch, slant_start, slant_end, ahead_of, foremost, comes_after, comes_before, stretch_between}

-- a place in range, in its one spelling
abbrev pub IsKnown : QPos → Type 0
IsKnown x = IsQuotientInRange x × IsSpelledQuotient x

pub record IsRunKnown (run : Run) : Type 0 where
  pub start : IsKnown run.start
  pub end : IsKnown run.end

-- all of a ray
abbrev pub whole_run : Run
whole_run = record { start = slant_start; end = slant_end FAR; missed = false }

-- what is left of it behind more faces
abbrev pub run_past : Run → LineCut → Run
run_past run cut = record {
  start = foremost comes_after run.start (all_spelled cut.entered);
  end = foremost comes_before run.end (all_spelled cut.left);
  missed = cut.missed || run.missed;
}

abbrev pub run_entered : Run → QPos → Run
run_entered run x = record { start = ahead_of comes_after run.start x; end = run.end; missed = run.missed }

abbrev pub run_left : Run → QPos → Run
run_left run x = record { start = run.start; end = ahead_of comes_before run.end x; missed = run.missed }

-- what remains of the ray
abbrev pub stretch_of_run : Run → Option Stretch
stretch_of_run run = cond run.missed None (stretch_between run.start run.end)
