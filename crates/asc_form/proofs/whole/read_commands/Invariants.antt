use Rattle.std.proofs.Common.{◌<◌, ◌≤◌, ◌+◌, ℕ, length}
use Rattle.asc_form.specs.Commands.{pieces_within}
use Rattle.asc_form.specs.Progress.{HasRead}
use Rattle.asc_form.specs.Reading.{made_of, directory_of}
use Rattle.asc_form.proofs.whole.read_commands.Given as goal

abbrev pub invariant-loop-end : goal.invariant-loop-end
invariant-loop-end l = record {
  short : length l.rest ≤ length l.text;
  lines : l.line + length l.rest ≤ length l.text + 1;
  made : (most : ℕ) × (length l.rest < most) × HasRead (directory_of l.text) (made_of (pieces_within most l.line l.rest)) l.reader;
}

abbrev pub decreases-loop-end : goal.decreases-loop-end
decreases-loop-end l = length l.rest
