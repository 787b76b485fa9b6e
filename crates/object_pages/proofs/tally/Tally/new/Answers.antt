use Rattle.std.proofs.Common.{[], nat_eq, sym, subst, arith}
use Rattle.std.specs.List.{IsDistinct}
use Rattle.std.specs.Map.{keys_of}
use Rattle.std.proofs.lemmas.Map.Keys.{IsDistinct-from_apart}
use Rattle.object_pages.proofs.tally.Tally.new.Goals as goal

pub invariant_of-result : goal.invariant_of-result
invariant_of-result c = subst (λ l. IsDistinct nat_eq (keys_of l)) (sym c.new.ensures.items) (IsDistinct-from_apart nat_eq [] (λ i j d apart lt. absurd (omega (arith, lt))))
