use Rattle.std.proofs.Common.{◌≡◌, ◌<◌, ◌≤◌, drop}
use Rattle.tcl_words.proofs.GroupTexts.{stays_open}
use Rattle.tcl_words.proofs.group_text.is_group_text.Given as goal

abbrev pub invariant-loop-byte : goal.invariant-loop-byte
invariant-loop-byte l = record {
  few : l.groups ≤ 4100;
  inside : 0 < l.groups;
  same : stays_open 123 1 l.value ≡ stays_open l.last l.groups (drop l.byte-index l.value);
}
