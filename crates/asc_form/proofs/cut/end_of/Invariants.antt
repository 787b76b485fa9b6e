use Rattle.std.proofs.Common.{◌≡◌, take, None}
use Rattle.std.specs.Prelude.{count_by}
use Rattle.tcl_words.specs.Bytes.{is_open, is_close}
use Rattle.asc_form.specs.Commands.{first_byte, end_of}
use Rattle.asc_form.specs.CutSteps.{end_from}
use Rattle.asc_form.proofs.cut.end_of.Given as goal

abbrev pub invariant-loop-place : goal.invariant-loop-place
invariant-loop-place l = record {
  opened : count_by is_open (take l.place l.text) ≡ 0;
  closed : count_by is_close (take l.place l.text) ≡ 0;
  first : first_byte (take l.place l.text) ≡ None;
  rest : end_from l.text l.place ≡ end_of l.text;
}
