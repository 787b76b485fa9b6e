use Rattle.std.proofs.Common.{◌≡◌, take}
use Rattle.transcript.specs.Merge.{order_of}
use Rattle.version_table.specs.Entries.{noted}
use Rattle.session_merge.specs.Noted.{entries_of}
use Rattle.script_run.proofs.at_once.history_order.Given as goal

abbrev pub invariant-loop-entry : goal.invariant-loop-entry
invariant-loop-entry l = l.order.items ≡ order_of (entries_of (noted (take l.entry-index l.entries)))
