use Rattle.std.proofs.Common.{◌≡◌, ◌≢◌, ◌⊎◌, inl, inr, ◌<◌, ◌∙◌, ℕ, zero, suc, List, [], ◌∷◌, length, refl, ap, sym, None, Some, Result, Ok, Err, OnOk}
use Rattle.std.specs.Prelude.{slice_get, slice_set, slice_index_or}
use Rattle.std.specs.Option.{unwrap_or}
use Rattle.std.proofs.lemmas.Bool.{cases_eq}
use Rattle.std.proofs.lemmas.List.{get_or-set_same, get_or-set_other}
use Rattle.name_core.specs.declared.name.Name.{Name}
use Rattle.shared_pages.specs.Buckets.{Shelves, bucket_at}

-- new has v at the place, and at each other place what old has, where d stands past the ends
abbrev pub PutsAt : {A : Type 0} → A → List A → ℕ → A → List A → Type 0
PutsAt d old i v new = (slice_index_or new i d ≡ v) × ((k : ℕ) → k ≢ i → slice_index_or new k d ≡ slice_index_or old k d)

-- new has this bucket at the place, and at each other place what old has
abbrev pub PutsBucket : {V : Type 0} → Shelves V → ℕ → ℕ → ℕ → List (Name × V) → Shelves V → Type 0
PutsBucket old i j k bucket new = (bucket_at new i j k ≡ bucket) × ((x y z : ℕ) → (x ≢ i) ⊎ ((y ≢ j) ⊎ (z ≢ k)) → bucket_at new x y z ≡ bucket_at old x y z)

-- ---- places past the end are empty
module _ {A : Type 0} (d : A) where
  pub none_there : (xs : List A) (i : ℕ) → None ≡ slice_get xs i → d ≡ slice_index_or xs i d
  none_there [] i h = refl
  none_there (x ∷ xs) zero h = cc
  none_there (x ∷ xs) (suc i) h = none_there xs i h

  pub some_there : (xs : List A) (i : ℕ) (x : A) → Some x ≡ slice_get xs i → x ≡ slice_index_or xs i d
  some_there [] i x h = cc
  some_there (y ∷ xs) zero x h = cc
  some_there (y ∷ xs) (suc i) x h = some_there xs i x h

  pub read_there : (xs : List A) (i : ℕ) → unwrap_or (slice_get xs i) d ≡ slice_index_or xs i d
  read_there [] i = refl
  read_there (x ∷ xs) zero = refl
  read_there (x ∷ xs) (suc i) = read_there xs i

  -- a value put into a list that has the same at the other places
  pub puts_set : (old xs new : List A) (p : ℕ) (v : A) → ((i : ℕ) → i ≢ p → slice_index_or xs i d ≡ slice_index_or old i d) → p < length xs → new ≡ slice_set xs p v → PutsAt d old p v new
  puts_set old xs new p v same lt is = (
    ap (λ l. slice_index_or l p d) is ∙ get_or-set_same xs p v d lt,
    λ k apart. ap (λ l. slice_index_or l k d) is ∙ get_or-set_other xs p k v d apart ∙ same k apart,
  )

-- ---- what holds whatever came of it
pub always : {X E P : Type 0} (r : Result X E) → P → OnOk r P
always (Ok x) h = h
always (Err e) h = tt

-- ---- a bucket of a row on a shelf
module _ {V : Type 0} where
  pub puts_bucket : (old new : Shelves V) (shelf next : List (List (List (Name × V)))) (row last : List (List (Name × V))) (i j k : ℕ) (bucket : List (Name × V))
      → shelf ≡ slice_index_or old i [] → row ≡ slice_index_or shelf j [] → PutsAt [] row k bucket last → PutsAt [] shelf j last next → PutsAt [] old i next new
      → PutsBucket old i j k bucket new
  puts_bucket old new shelf next row last i j k bucket from_old from_shelf inner middle outer = (
    (ap (λ l. slice_index_or (slice_index_or l j []) k []) outer.0 ∙ ap (λ l. slice_index_or l k []) middle.0) ∙ inner.0,
    λ x y z apart. elim (cases_eq x i) [
      | inr other ↦ ap (λ l. slice_index_or (slice_index_or l y []) z []) (outer.1 x other)
      | inl e ↦ elim apart [
        | inl other ↦ absurd (other e)
        | inr beside ↦
            ap (λ n. bucket_at new n y z) e ∙ ap (λ l. slice_index_or (slice_index_or l y []) z []) outer.0 ∙ on_shelf y z beside
            ∙ ap (λ l. slice_index_or (slice_index_or l y []) z []) from_old ∙ ap (λ n. bucket_at old n y z) (sym e)
      ]
    ],
  )
    where
      at : List (List (List (Name × V))) → ℕ → ℕ → List (Name × V)
      at l y z = slice_index_or (slice_index_or l y []) z []

      on_shelf : (y z : ℕ) → (y ≢ j) ⊎ (z ≢ k) → at next y z ≡ at shelf y z
      on_shelf y z apart = elim (cases_eq y j) [
        | inr other ↦ ap (λ l. slice_index_or l z []) (middle.1 y other)
        | inl e ↦ elim apart [
          | inl other ↦ absurd (other e)
          | inr beside ↦
              ap (λ n. at next n z) e ∙ ap (λ l. slice_index_or l z []) middle.0 ∙ inner.1 z beside ∙ ap (λ l. slice_index_or l z []) from_shelf ∙ ap (λ n. at shelf n z) (sym e)
        ]
      ]
