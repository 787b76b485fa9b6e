-- What moves to the front, where no two keys are equal.
use Rattle.std.proofs.Common.{◌≡◌, ◌∙◌, ◌++◌, Bool, true, false, not, List, [], ◌∷◌, filter, Option, Some, None, refl, sym, ap}
use Rattle.std.specs.Cmp.{IsEquivalence}
use Rattle.std.specs.List.{AllByRecursion, IsDistinct}
use Rattle.std.specs.Map.{keys_of, lookup_entry, remove_entry}
use Rattle.std.specs.Option.{option_map_or}
use Rattle.std.proofs.lemmas.Map.Keys.{IsDistinct-head, IsDistinct-tail}
use Rattle.lru.specs.LruCache.{promoted}
use Rattle.tile_cache.specs.Kept.{front_moved, is_kept}

module _ {K V : Type 0} (equal : K → K → Bool) where
  -- no key of the list equals this one
  abbrev pub AllDiffer : K → List (K × V) → Type 0
  AllDiffer key entries = AllByRecursion (λ other. equal key other ≡ false) (keys_of entries)

  pub differ_from_any : (key : K) (entries : List (K × V)) → is_kept equal key entries ≡ false → AllDiffer key entries
  differ_from_any key [] h = tt
  differ_from_any key (e ∷ es) h = (elim (equal key e.0) as (λ b. equal key e.0 ≡ b → AllDiffer key (e ∷ es)) [
    | true ↦ λ t. let h' = rw t at h in cc
    | false ↦ λ t. (t, differ_from_any key es (rw t at h))
  ]) refl

  pub none_found : (key : K) (entries : List (K × V)) → AllDiffer key entries → lookup_entry (equal key) entries ≡ None
  none_found key [] h = refl
  none_found key (e ∷ es) h = rw h.0 (none_found key es h.1)

  none_with : (key : K) (entries : List (K × V)) → AllDiffer key entries → filter (λ entry. equal key entry.0) entries ≡ []
  none_with key [] h = refl
  none_with key (e ∷ es) h = rw h.0 (none_with key es h.1)

  all_without : (key : K) (entries : List (K × V)) → AllDiffer key entries → filter (λ entry. not (equal key entry.0)) entries ≡ entries
  all_without key [] h = refl
  all_without key (e ∷ es) h = rw h.0 (ap (λ l. e ∷ l) (all_without key es h.1))

  missed : (key : K) (entries : List (K × V)) → lookup_entry (equal key) entries ≡ None → remove_entry (equal key) entries ≡ entries
  missed key [] h = refl
  missed key (e ∷ es) h = (elim (equal key e.0) as (λ b. equal key e.0 ≡ b → remove_entry (equal key) (e ∷ es) ≡ e ∷ es) [
    | true ↦ λ t. let h' = rw t at h in cc
    | false ↦ λ t. rw t (ap (λ l. e ∷ l) (missed key es (rw t at h)))
  ]) refl

  -- the entry that was found, as a list
  abbrev listed : Option (K × V) → List (K × V)
  listed None = []
  listed (Some e) = e ∷ []

  module _ (laws : IsEquivalence equal) where
    -- what differs from a key differs from its equals
    differ_alike : (key head : K) → equal key head ≡ true → (entries : List (K × V)) → AllDiffer head entries → AllDiffer key entries
    differ_alike key head same [] h = tt
    differ_alike key head same (e ∷ es) h = (laws.congr key head e.0 same ∙ h.0, differ_alike key head same es h.1)

    firsts : (key : K) (entries : List (K × V)) → IsDistinct equal (keys_of entries) → filter (λ entry. equal key entry.0) entries ≡ listed (lookup_entry (equal key) entries)
    firsts key [] apart = refl
    firsts key (e ∷ es) apart = (elim (equal key e.0) as (λ b. equal key e.0 ≡ b → filter (λ entry. equal key entry.0) (e ∷ es) ≡ listed (lookup_entry (equal key) (e ∷ es))) [
      | true ↦ λ t. rw t (ap (λ l. e ∷ l) (none_with key es (differ_alike key e.0 t es (IsDistinct-head equal e.0 (keys_of es) apart))))
      | false ↦ λ t. rw t (firsts key es (IsDistinct-tail equal e.0 (keys_of es) apart))
    ]) refl

    others : (key : K) (entries : List (K × V)) → IsDistinct equal (keys_of entries) → filter (λ entry. not (equal key entry.0)) entries ≡ remove_entry (equal key) entries
    others key [] apart = refl
    others key (e ∷ es) apart = (elim (equal key e.0) as (λ b. equal key e.0 ≡ b → filter (λ entry. not (equal key entry.0)) (e ∷ es) ≡ remove_entry (equal key) (e ∷ es)) [
      | true ↦ λ t. rw t (all_without key es (differ_alike key e.0 t es (IsDistinct-head equal e.0 (keys_of es) apart)))
      | false ↦ λ t. rw t (ap (λ l. e ∷ l) (others key es (IsDistinct-tail equal e.0 (keys_of es) apart)))
    ]) refl

    by_found : (key : K) (entries : List (K × V)) → IsDistinct equal (keys_of entries) → (found : Option (K × V)) → lookup_entry (equal key) entries ≡ found
        → option_map_or (λ e. e ∷ remove_entry (equal key) entries) found entries ≡ front_moved equal key entries
    by_found key entries apart None h =
        sym (ap (λ l. l ++ filter (λ entry. not (equal key entry.0)) entries) (firsts key entries apart ∙ ap listed h) ∙ others key entries apart ∙ missed key entries h)
    by_found key entries apart (Some e) h =
        sym (ap (λ l. l ++ filter (λ entry. not (equal key entry.0)) entries) (firsts key entries apart ∙ ap listed h) ∙ ap (λ l. e ∷ l) (others key entries apart))

    -- the kit's words for it say the same
    pub promoted_is : (key : K) (entries : List (K × V)) → IsDistinct equal (keys_of entries) → promoted (equal key) entries ≡ front_moved equal key entries
    promoted_is key entries apart = by_found key entries apart (lookup_entry (equal key) entries) refl

  -- where no key equals this one, all stays
  pub stays : (key : K) (entries : List (K × V)) → is_kept equal key entries ≡ false → front_moved equal key entries ≡ entries
  stays key entries h =
      let differ = differ_from_any key entries h in ap (λ l. l ++ filter (λ entry. not (equal key entry.0)) entries) (none_with key entries differ) ∙ all_without key entries differ
