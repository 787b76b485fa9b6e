use Rattle.std.proofs.Common.{◌≡◌, drop}
use Rattle.region_attr.specs.Ranges.{HasRanges}
use Rattle.put_form.specs.Combs.{attr_from, attr_of, bad_pair}
use Rattle.put_form.proofs.attrs.read_attrs.Given as goal

abbrev pub invariant-loop-pair : goal.invariant-loop-pair
invariant-loop-pair l = record {
  attrs : attr_from l.text l.tokens (drop l.pair-index l.pairs) l.attr ≡ attr_of l.text l.tokens l.pairs;
  bad : bad_pair l.text l.tokens (drop l.pair-index l.pairs) ≡ bad_pair l.text l.tokens l.pairs;
  ranges : HasRanges l.attr;
}
