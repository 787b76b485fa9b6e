use Rattle.std.proofs.Common.{◌≡◌, ◌++◌, ◌+◌, drop, map}
use Rattle.transcript.specs.Lines.{text_of}
use Rattle.transcript.specs.Transcript.{session_lines}
use Rattle.session_run.specs.Answers.{core_answer}
use Rattle.script_run.proofs.run.push_session.Given as goal

abbrev pub invariant-loop-answer : goal.invariant-loop-answer
invariant-loop-answer l = record {
  number : l.number ≡ l.answer-index + 1;
  text : l.text.items ++ text_of (session_lines l.session l.number (map core_answer (drop l.answer-index l.answers))) ≡ l.initial.text.items ++ text_of (session_lines l.session 1 (map core_answer l.answers));
}
