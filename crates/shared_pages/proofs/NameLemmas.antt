use Rattle.std.proofs.Common.{◌≡◌, ◌≢◌, ◌⊎◌, inl, inr, ◌∙◌, ℕ, Bool, true, false, cond, List, [], ◌∷◌, ◌++◌, refl, ap, sym, subst, Option, None, Some}
use Rattle.std.specs.Map.{lookup, keys_of, remove_entry}
use Rattle.std.specs.List.{IsDistinct}
use Rattle.std.proofs.lemmas.Bool.{cases_eq}
use Rattle.std.proofs.lemmas.Map.{lookup-remove_entry}
use Rattle.indexmap.specs.IndexMap.{insert_entry}
use Rattle.name_core.specs.declared.name.Name.{Name}
use Rattle.name_core.specs.Same.{same_name, same_name_decides, same_name_equiv}
use Rattle.shared_pages.specs.Buckets.{Shelves, bucket_at, shelf_of, row_of, bucket_of}
use Rattle.shared_pages.proofs.PlaceLemmas.{PutsBucket}

-- two names are one or apart
pub name_tells : (a b : Name) → ((same_name a b ≡ true) × (a ≡ b)) ⊎ ((same_name a b ≡ false) × (a ≢ b))
name_tells a b = by (same_name a b) refl
  where
    by : (t : Bool) → same_name a b ≡ t → ((same_name a b ≡ true) × (a ≡ b)) ⊎ ((same_name a b ≡ false) × (a ≢ b))
    by true e = inl (e, (same_name_decides a b).0 e)
    by false e = inr (e, λ is. let yes : same_name a b ≡ true = (same_name_decides a b).1 is in let wrong : true ≡ false = sym yes ∙ e in cc)

module _ {V : Type 0} where
  -- ---- a name's value after an edit of the pairs
  pub lookup_inserted : (es : List (Name × V)) (n : Name) (v : V) (a : Name) → lookup (same_name a) (insert_entry same_name es n v) ≡ cond (same_name n a) (Some v) (lookup (same_name a) es)
  lookup_inserted [] n v a =
      elim (name_tells n a) [
        | inl t ↦ elim (name_tells a n) [ inl s ↦ rw (t.0, s.0) | inr s ↦ absurd (s.1 (sym t.1)) ]
        | inr t ↦ elim (name_tells a n) [ inl s ↦ absurd (t.1 (sym s.1)) | inr s ↦ rw (t.0, s.0) ]
      ]
  lookup_inserted ((k, w) ∷ es) n v a =
      elim (name_tells n k) [
        | inl t ↦ elim (name_tells n a) [
          | inl s ↦ elim (name_tells a k) [ inl r ↦ rw (t.0, s.0, r.0) | inr r ↦ absurd (r.1 (sym s.1 ∙ t.1)) ]
          | inr s ↦ elim (name_tells a k) [ inl r ↦ absurd (s.1 (t.1 ∙ sym r.1)) | inr r ↦ rw (t.0, s.0, r.0) ]
        ]
        | inr t ↦ elim (name_tells a k) [
          | inl r ↦ elim (name_tells n a) [ inl s ↦ absurd (t.1 (s.1 ∙ r.1)) | inr s ↦ rw (t.0, s.0, r.0) ]
          | inr r ↦ rw (t.0, r.0) (lookup_inserted es n v a)
        ]
      ]

  pub lookup_removed : (es : List (Name × V)) (n a : Name) → IsDistinct same_name (keys_of es) → lookup (same_name a) (remove_entry (same_name n) es) ≡ cond (same_name n a) None (lookup (same_name a) es)
  lookup_removed es n a distinct = lookup-remove_entry same_name_equiv (same_name n) (same_name_equiv.congr n) a es distinct

  -- ---- and after its bucket is put in
  abbrev bucket_in : Shelves V → Name → List (Name × V)
  bucket_in map a = bucket_at map (shelf_of a) (row_of a) (bucket_of a)

  abbrev Changes : Shelves V → Name → Option V → Shelves V → Name → Type 0
  Changes old n w new a = lookup (same_name a) (bucket_in new a) ≡ cond (same_name n a) w (lookup (same_name a) (bucket_in old a))

  pub gives : (old new : Shelves V) (n : Name) (w : Option V) (was bucket : List (Name × V)) → PutsBucket old (shelf_of n) (row_of n) (bucket_of n) bucket new
      → was ≡ bucket_in old n → ((a : Name) → lookup (same_name a) bucket ≡ cond (same_name n a) w (lookup (same_name a) was)) → (a : Name) → Changes old n w new a
  gives old new n w was bucket puts is h a =
      elim (name_tells n a) [
        | inl t ↦ subst (λ (b : Name). Changes old n w new b) t.1 (ap (λ l. lookup (same_name n) l) puts.0 ∙ h n ∙ ap (λ l. cond (same_name n n) w (lookup (same_name n) l)) is)
        | inr t ↦ rw t.0 (other a t.0)
      ]
    where
      here : (a : Name) → same_name n a ≡ false → shelf_of a ≡ shelf_of n → row_of a ≡ row_of n → bucket_of a ≡ bucket_of n → lookup (same_name a) (bucket_in new a) ≡ lookup (same_name a) (bucket_in old a)
      here a apart e f g =
          let at : (l : Shelves V) → bucket_in l a ≡ bucket_in l n = λ l. (λ k. bucket_at l (e k) (f k) (g k)) in
          let now : lookup (same_name a) bucket ≡ lookup (same_name a) was = h a ∙ ap (λ b. cond b w (lookup (same_name a) was)) apart in
          ap (λ l. lookup (same_name a) l) (at new ∙ puts.0) ∙ now ∙ ap (λ l. lookup (same_name a) l) (is ∙ sym (at old))

      other : (a : Name) → same_name n a ≡ false → lookup (same_name a) (bucket_in new a) ≡ lookup (same_name a) (bucket_in old a)
      other a apart =
          let beside : (shelf_of a ≢ shelf_of n) ⊎ ((row_of a ≢ row_of n) ⊎ (bucket_of a ≢ bucket_of n)) → lookup (same_name a) (bucket_in new a) ≡ lookup (same_name a) (bucket_in old a) =
          λ which. ap (λ l. lookup (same_name a) l) (puts.1 (shelf_of a) (row_of a) (bucket_of a) which) in
          elim (cases_eq (shelf_of a) (shelf_of n)) [
            | inr x ↦ beside (inl x)
            | inl e ↦ elim (cases_eq (row_of a) (row_of n)) [
              | inr y ↦ beside (inr (inl y))
              | inl f ↦ elim (cases_eq (bucket_of a) (bucket_of n)) [ inr z ↦ beside (inr (inr z)) | inl g ↦ here a apart e f g ]
            ]
          ]

  -- the slot as the code has it
  pub gives_at : (old new : Shelves V) (n : Name) (w : Option V) (was bucket : List (Name × V)) (i j k : ℕ) → i ≡ shelf_of n → j ≡ row_of n → k ≡ bucket_of n → PutsBucket old i j k bucket new
      → was ≡ bucket_at old i j k → ((a : Name) → lookup (same_name a) bucket ≡ cond (same_name n a) w (lookup (same_name a) was)) → (a : Name) → Changes old n w new a
  gives_at old new n w was bucket i j k e f g puts is h =
      gives old new n w was bucket
      (subst (λ (l : ℕ). PutsBucket old l (row_of n) (bucket_of n) bucket new) e (subst (λ (l : ℕ). PutsBucket old i l (bucket_of n) bucket new) f (subst (λ (l : ℕ). PutsBucket old i j l bucket new) g puts)))
      (is ∙ (λ l. bucket_at old (e l) (f l) (g l))) h

  pub inserted_new : (es : List (Name × V)) (n : Name) (v : V) → lookup (same_name n) es ≡ None → insert_entry same_name es n v ≡ es ++ (n, v) ∷ []
  inserted_new [] n v h = refl
  inserted_new ((k, w) ∷ es) n v h =
      elim (name_tells n k) [
        | inl t ↦ let wrong : Some w ≡ None = rw t.0 at h in cc
        | inr t ↦ rw t.0 (ap (λ l. (k, w) ∷ l) (inserted_new es n v (rw t.0 at h)))
      ]
