use Rattle.std.proofs.Common.{◌≡◌, ◌≤◌, ◌<◌, ◌+◌, IfSome, length, vec_len, vec_capacity}
use Rattle.session_run.specs.Replies.{most_used}
use Rattle.session_run.specs.Sessions.{IsCurrentPast}
use Rattle.session_run.proofs.FlightLaws.{IsOpen}
use Rattle.session_run.proofs.session.Session.run_over.Given as goal

abbrev pub invariant-loop-task : goal.invariant-loop-task
invariant-loop-task g l = record {
  so_far : IsOpen l.table.told.state l.fn.self.own l.yielded l.initial.pass l.pass l.log.answers.items l.log.waiting l.course.own;
  place : IfSome l.log.waiting (λ w. w.place < vec_len l.log.answers);
  quota : l.course.own.used ≤ most_used;
  current : IsCurrentPast l.course.keep l.table.told.state l.pass.seen;
  count : vec_len l.log.answers ≡ length l.yielded;
  room : length l.fn.self.commands ≤ vec_capacity l.log.answers;
  table : l.pass.table ≡ l.initial.pass.table;
  left : l.pass.left + length l.yielded ≡ l.initial.pass.left;
}
