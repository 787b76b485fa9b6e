use Rattle.std.proofs.Common.{◌≡◌, ◌≤◌, All, take, vec_len}
use Rattle.script_run.specs.Answers.{core_state, left_at, owns_of}
use Rattle.script_run.specs.Steps.{HaveAnswered, IsReady}
use Rattle.script_run.proofs.run.answer_all.Given as goal

abbrev pub invariant-loop-session : goal.invariant-loop-session
invariant-loop-session g l = record {
  eight : vec_len l.lanes ≡ 8;
  ready : All (IsReady l.book) l.lanes.items;
  version : l.book.version ≤ l.session-index;
  answered : HaveAnswered (core_state l.initial.book (owns_of l.initial.lanes.items)) (left_at l.initial.lanes.items) (take l.session-index l.order) l.book l.lanes.items;
}
