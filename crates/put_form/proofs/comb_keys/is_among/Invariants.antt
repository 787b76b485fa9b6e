use Rattle.std.proofs.Common.{◌≡◌, drop}
use Rattle.std.specs.List.{list_any}
use Rattle.std.specs.Option.{option_copied}
use Rattle.put_form.specs.Pairs.{Pair, same_keys}
use Rattle.put_form.proofs.comb_keys.is_among.Given as goal

abbrev pub invariant-loop-other : goal.invariant-loop-other
invariant-loop-other l = list_any (λ (other : Pair). same_keys (option_copied l.key) other.key) (drop l.other-index l.rest) ≡ list_any (λ (other : Pair). same_keys (option_copied l.key) other.key) l.rest
