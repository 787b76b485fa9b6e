use Rattle.std.proofs.Common.{◌≡◌, ◌∙◌, ◌∷◌, ◌++◌, [], ap, sym, subst}
use Rattle.bool_weave.specs.Cuts.{ray_start, ray_end}
use Rattle.bool_weave.specs.Tables.{IsKept}
use Rattle.bool_weave.proofs.Kept.{kept_none}
use Rattle.bool_weave.proofs.woven.Weave.new.Goals as goal

pub invariant_of-result : goal.invariant_of-result
invariant_of-result c =
    let cuts : c.push-2.new.self.items ≡ ray_start ∷ ray_end ∷ [] =
    c.in_ok-push-2.ensures.items ∙ ap (λ l. l ++ ray_end ∷ []) (c.in_ok-push.ensures.items ∙ ap (λ l. l ++ ray_start ∷ []) c.in_ok-cuts.ensures.items) in
    subst (λ l. IsKept c.new.result.items l) (sym cuts) (subst (λ l. IsKept l (ray_start ∷ ray_end ∷ [])) (sym c.new.ensures.items) kept_none)
