use Rattle.std.proofs.Common.{◌+◌, ◌*◌}
use Rattle.layer_tests.proofs.versions.+fn-run_sessions-one+fn-run_sessions-two+run_sessions.Given as goal

abbrev pub decreases-one : goal.decreases-one
decreases-one g l = 2 * l.half + 1

abbrev pub decreases-two : goal.decreases-two
decreases-two g l = 2 * l.rest + 1

abbrev pub decreases-run_sessions : goal.decreases-run_sessions
decreases-run_sessions g l = 2 * l.sessions
