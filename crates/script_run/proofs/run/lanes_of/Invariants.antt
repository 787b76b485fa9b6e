use Rattle.std.proofs.Common.{◌≡◌, [], All, map, replicate, take, vec_len}
use Rattle.transcript.specs.Merge.{lane}
use Rattle.transcript.specs.Transcript.{sessions}
use Rattle.mged_words.specs.Entries.{command_entry}
use Rattle.session_run.specs.Replies.{nothing_used}
use Rattle.session_run.specs.declared.answer.Book.{Book}
use Rattle.script_run.specs.Answers.{left_of, lists_of, owns_of}
use Rattle.script_run.specs.Steps.{IsReady}
use Rattle.script_run.proofs.run.lanes_of.Given as goal

abbrev pub invariant-loop-i : goal.invariant-loop-i
invariant-loop-i l = record {
  len : vec_len l.lanes ≡ l.i;
  left : map left_of l.lanes.items ≡ map (lane (map command_entry l.script)) (take l.i sessions);
  owns : owns_of l.lanes.items ≡ replicate l.i nothing_used;
  answers : lists_of l.lanes.items ≡ replicate l.i [];
  ready : (book : Book) → All (IsReady book) l.lanes.items;
}
