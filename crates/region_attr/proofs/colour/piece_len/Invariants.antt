use Rattle.std.proofs.Common.{◌≡◌, ◌+◌, drop}
use Rattle.region_attr.specs.Colours.{is_slash, len_before}
use Rattle.region_attr.proofs.colour.piece_len.Given as goal

abbrev pub invariant-loop-count : goal.invariant-loop-count
invariant-loop-count l = len_before is_slash l.text ≡ l.count + len_before is_slash (drop l.count l.text)
