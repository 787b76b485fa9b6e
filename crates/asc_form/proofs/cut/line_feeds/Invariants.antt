use Rattle.std.proofs.Common.{◌≡◌, ◌≤◌, take}
use Rattle.std.specs.Prelude.{count_by}
use Rattle.asc_form.specs.Commands.{is_line_feed}
use Rattle.asc_form.proofs.cut.line_feeds.Given as goal

abbrev pub invariant-loop-byte : goal.invariant-loop-byte
invariant-loop-byte l = record {
  few : l.count ≤ l.byte-index;
  counted : l.count ≡ count_by is_line_feed (take l.byte-index l.command);
}
