use Rattle.std.proofs.Common.{◌≡◌, ℕ, zero, suc, false, List, [], ◌∷◌, ◌++◌, refl, ap, Option, None, Some}
use Rattle.std.specs.Prelude.{is_some, slice_get}
use Rattle.std.specs.Arc.{arc_value}
use Rattle.std.specs.Option.{option_map}
use Rattle.std.specs.declared.sync.Arc.{Arc}
use Rattle.shared_pages.specs.Sharing.{values_shared}

-- Pairs whose values are shared, by place and with one more.

module _ {K V Z : Type 0} where
  pub shared_at : (es : List (K × Arc V Z)) (i : ℕ) → slice_get (values_shared es) i ≡ option_map (λ e. (e.0, arc_value e.1)) (slice_get es i)
  shared_at [] i = refl
  shared_at (e ∷ es) zero = refl
  shared_at (e ∷ es) (suc i) = shared_at es i

  pub shared_pushed : (es : List (K × Arc V Z)) (k : K) (v : Arc V Z) → values_shared (es ++ (k, v) ∷ []) ≡ values_shared es ++ (k, arc_value v) ∷ []
  shared_pushed [] k v = refl
  shared_pushed (e ∷ es) k v = ap (λ l. (e.0, arc_value e.1) ∷ l) (shared_pushed es k v)

pub none_within : {A B : Type 0} (f : A → B) (o : Option A) → option_map f o ≡ None → o ≡ None
none_within f None e = refl
none_within f (Some x) e = cc

pub none_told : {A : Type 0} (o : Option A) → is_some o ≡ false → o ≡ None
none_told None e = refl
none_told (Some x) e = cc
