use Rattle.std.proofs.Common.{◌≡◌, drop}
use Rattle.std.specs.List.{list_all}
use Rattle.put_form.specs.Keeps.{has_form}
use Rattle.put_form.proofs.keep.have_form.Given as goal

abbrev pub invariant-loop-pair : goal.invariant-loop-pair
invariant-loop-pair l = list_all (has_form l.text l.tokens) (drop l.pair-index l.pairs) ≡ list_all (has_form l.text l.tokens) l.pairs
