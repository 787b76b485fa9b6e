use Rattle.std.proofs.Common.{◌≡◌, ◌≤◌, take}
use Rattle.std.specs.Prelude.{count_by}
use Rattle.tcl_words.specs.Bytes.{is_open, is_close}
use Rattle.asc_form.specs.CutSteps.{end_from}
use Rattle.asc_form.proofs.cut.end_outside.Given as goal

abbrev pub invariant-loop-place : goal.invariant-loop-place
invariant-loop-place l = record {
  few_opened : l.opened ≤ l.place;
  few_closed : l.closed ≤ l.place;
  opened : l.opened ≡ count_by is_open (take l.place l.text);
  closed : l.closed ≡ count_by is_close (take l.place l.text);
  rest : end_from l.text l.place ≡ end_from l.text l.start;
}
