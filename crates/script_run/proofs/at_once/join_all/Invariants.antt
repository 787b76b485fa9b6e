use Rattle.std.proofs.Common.{◌≡◌, ℕ, length, take, vec_len}
use Rattle.session_merge.specs.Joined.{HaveSeen, all_together, answers_of, passes_of}
use Rattle.script_run.specs.Answers.{core_answers}
use Rattle.script_run.specs.AtOnce.{all_done}
use Rattle.script_run.proofs.at_once.join_all.Given as goal

abbrev pub invariant-loop-one : goal.invariant-loop-one
invariant-loop-one l = record {
  table : l.pass.table ≡ l.table.id;
  first : l.yielded ≡ take (length l.yielded) l.fn.finished.items;
  pass : l.pass ≡ all_together l.initial.pass (passes_of (all_done l.yielded));
  seen : HaveSeen l.pass.seen (passes_of (all_done l.yielded));
  eight : vec_len l.lists ≡ 8;
  answers : (k : ℕ) → core_answers l.lists.items k ≡ answers_of (all_done l.yielded) k;
}
