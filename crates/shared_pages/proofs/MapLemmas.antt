use Rattle.std.proofs.Common.{◌≡◌, ◌∙◌, ℕ, suc, List, [], ◌∷◌, ◌++◌, map, remove, refl, ap, sym}
use Rattle.std.specs.Prelude.{take, drop, slice_set}
use Rattle.std.specs.List.{AllZip}
use Rattle.std.proofs.lemmas.List.{map-append, map-set, set-set, take-map, drop-map}

-- ---- a list and its values
module _ {A B : Type 0} (f : A → B) where
  -- each item of ys has the value of that of xs
  pub map_same : (xs ys : List A) → AllZip (λ x y. f y ≡ f x) xs ys → map f ys ≡ map f xs
  map_same [] [] h = refl
  map_same [] (y ∷ ys) h = absurd h
  map_same (x ∷ xs) [] h = absurd h
  map_same (x ∷ xs) (y ∷ ys) h = ap (λ v. v ∷ map f ys) h.0 ∙ ap (λ l. f x ∷ l) (map_same xs ys h.1)

  pub map_removed : (xs : List A) (i : ℕ) → map f (remove xs i) ≡ remove (map f xs) i
  map_removed xs i = map-append f (take i xs) (drop (suc i) xs) ∙ (λ j. sym (take-map f i xs) j ++ sym (drop-map f (suc i) xs) j)

  -- what stands where a value is put makes no difference
  pub map_set_over : (xs : List A) (i : ℕ) (x : A) (v : B) (now : List B) → map f xs ≡ now → slice_set (map f (slice_set xs i x)) i v ≡ slice_set now i v
  map_set_over xs i x v now is = ap (λ l. slice_set l i v) (map-set f xs i x) ∙ set-set (map f xs) i (f x) v ∙ ap (λ l. slice_set l i v) is
