use Rattle.std.proofs.Common.{◌≡◌, ◌+◌, drop}
use Rattle.tcl_words.specs.Bytes.{is_blank}
use Rattle.region_attr.specs.Colours.{len_before}
use Rattle.region_attr.proofs.colour.word_len.Given as goal

abbrev pub invariant-loop-count : goal.invariant-loop-count
invariant-loop-count l = len_before is_blank l.text ≡ l.count + len_before is_blank (drop l.count l.text)
