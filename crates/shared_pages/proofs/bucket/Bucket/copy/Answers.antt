use Rattle.std.proofs.Common.{◌∙◌, sym, subst}
use Rattle.std.specs.List.{IsDistinct}
use Rattle.std.specs.Map.{keys_of}
use Rattle.name_core.specs.Same.{same_name}
use Rattle.shared_pages.proofs.bucket.Bucket.copy.Goals as goal

pub invariant_of-result : goal.invariant_of-result
invariant_of-result g c = subst (λ l. IsDistinct same_name (keys_of l)) (sym (c.in_ok-entries.ensures ∙ c.deref.ensures.value)) c.self.invariant

pub returns : goal.returns
returns g c = c.in_ok-entries.ensures ∙ c.deref.ensures.value ∙ c.self.view_is
