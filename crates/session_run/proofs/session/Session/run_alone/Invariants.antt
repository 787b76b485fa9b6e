use Rattle.std.proofs.Common.{◌≡◌, ◌≤◌, length, vec_len, vec_capacity}
use Rattle.session_run.specs.Replies.{most_used}
use Rattle.session_run.specs.Sessions.{IsCurrentPast}
use Rattle.session_run.proofs.SessionLaws.{Holds}
use Rattle.session_run.proofs.session.Session.run_alone.Given as goal

abbrev pub invariant-loop-task : goal.invariant-loop-task
invariant-loop-task g l = record {
  holds : Holds l.table.told.state l.fn.self.own l.yielded l.initial.pass l.pass l.answers.items l.course.own;
  quota : l.course.own.used ≤ most_used;
  current : IsCurrentPast l.course.keep l.table.told.state l.pass.seen;
  count : vec_len l.answers ≡ length l.yielded;
  room : length l.fn.self.commands ≤ vec_capacity l.answers;
}
