use Rattle.std.proofs.Common.{[], sym, subst, arith}
use Rattle.std.specs.List.{IsDistinct}
use Rattle.std.specs.Map.{keys_of}
use Rattle.std.proofs.lemmas.Map.Keys.{IsDistinct-from_apart}
use Rattle.name_core.specs.Same.{same_name}
use Rattle.shared_pages.proofs.bucket.Bucket.new.Goals as goal

pub invariant_of-result : goal.invariant_of-result
invariant_of-result g c = subst (λ l. IsDistinct same_name (keys_of l)) (sym c.new.ensures.items) (IsDistinct-from_apart same_name [] (λ i j d apart lt. absurd (omega (arith, lt))))
