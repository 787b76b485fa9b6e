use Rattle.std.proofs.Common.{◌≡◌, drop, take, map, find, not}
use Rattle.put_form.specs.Pairs.{Pair}
use Rattle.put_form.specs.Keeps.{is_named, kept_attr}
use Rattle.put_form.proofs.keep.read_kept.Given as goal

abbrev pub invariant-loop-pair : goal.invariant-loop-pair
invariant-loop-pair l = record {
  named : find (λ (p : Pair). not (is_named p)) (drop l.pair-index l.pairs) ≡ find (λ (p : Pair). not (is_named p)) l.pairs;
  kept : l.kept ≡ map (kept_attr l.text l.tokens) (take l.pair-index l.pairs);
}
