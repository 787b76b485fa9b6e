use Rattle.std.proofs.Common.{◌≡◌, ◌≤◌, ◌+◌, ◌++◌, All, length, map}
use Rattle.transcript.specs.Lines.{lines_in}
use Rattle.mged_words.specs.Entries.{HasSession, command_entry}
use Rattle.mged_words.specs.Readable.{IsReadable}
use Rattle.mged_words.specs.Scripts.{commands_in, numbers_in, lines_flaw}
use Rattle.mged_words.specs.declared.command.ScriptCommand.{ScriptCommand}
use Rattle.mged_words.proofs.script.read_script.Given as goal

abbrev pub invariant-loop-rest : goal.invariant-loop-rest
invariant-loop-rest l = record {
  size : length l.rest ≤ length l.text;
  flaw : lines_flaw (l.number + 1) (lines_in l.rest) ≡ lines_flaw 1 (lines_in l.text);
  commands : map command_entry l.commands ++ commands_in (lines_in l.rest) ≡ commands_in (lines_in l.text);
  lines : map (λ (c : ScriptCommand). c.line) l.commands ++ numbers_in (l.number + 1) (lines_in l.rest) ≡ numbers_in 1 (lines_in l.text);
  read : All HasSession (map command_entry l.commands);
  readable : All IsReadable (map command_entry l.commands);
  few : length l.commands ≤ l.number;
  many : l.number ≤ 65536;
}

abbrev pub decreases-loop-rest : goal.decreases-loop-rest
decreases-loop-rest l = length l.rest
