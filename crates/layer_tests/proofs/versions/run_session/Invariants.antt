use Rattle.std.proofs.Common.{◌≡◌, ◌≤◌, ◌+◌, ◌*◌}
use Rattle.layer_tests.specs.Calls.{calls_of}
use Rattle.layer_tests.proofs.versions.run_session.Given as goal

abbrev pub invariant-loop-k : goal.invariant-loop-k
invariant-loop-k g l = record {
  table : l.pass.table ≡ l.fn.pass.table;
  calls : calls_of l.pass ≡ calls_of l.fn.pass;
  room : l.numbers * 2 ≤ l.pass.left + l.k * 2;
}
