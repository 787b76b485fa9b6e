use Rattle.std.proofs.Common.{◌≡◌, ◌++◌}
use Rattle.transcript.specs.Lines.{text_of}
use Rattle.script_run.specs.Answers.{all_session_lines}
use Rattle.script_run.proofs.run.push_sessions.Given as goal

abbrev pub invariant-loop-i : goal.invariant-loop-i
invariant-loop-i l = l.text.items ≡ l.initial.text.items ++ text_of (all_session_lines l.lists l.i)
