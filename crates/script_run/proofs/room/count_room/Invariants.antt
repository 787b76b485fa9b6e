use Rattle.std.proofs.Common.{◌≤◌, vec_len}
use Rattle.script_run.proofs.room.count_room.Given as goal

abbrev pub invariant-loop : goal.invariant-loop
invariant-loop l = vec_len l.pieces ≤ l.counter
