use Rattle.std.proofs.Common.{◌≡◌, ◌+◌, drop}
use Rattle.std.specs.List.{prefix_len}
use Rattle.tcl_words.specs.Bytes.{is_blank}
use Rattle.region_attr.proofs.colour.blank_count.Given as goal

abbrev pub invariant-loop-count : goal.invariant-loop-count
invariant-loop-count l = prefix_len is_blank l.text ≡ l.count + prefix_len is_blank (drop l.count l.text)
