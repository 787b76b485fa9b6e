use Rattle.std.proofs.Common.{◌≡◌, inl, inr, ◌<◌, ◌≤◌, ◌∙◌, ℕ, zero, suc, Bool, true, false, List, [], ◌∷◌, length, remove, refl, ap, sym, subst, arith, None, Some}
use Rattle.std.specs.Prelude.{slice_set, slice_index_or}
use Rattle.std.specs.List.{AllByRecursion, IsDistinct}
use Rattle.std.specs.Map.{lookup, keys_of, remove_entry}
use Rattle.std.proofs.lemmas.Map.Keys.{IsDistinct-head, IsDistinct-tail, IsDistinct-cons}
use Rattle.indexmap.specs.IndexMap.{insert_entry}
use Rattle.name_core.specs.declared.name.Name.{Name}
use Rattle.name_core.specs.Same.{same_name}
use Rattle.shared_pages.specs.Named.{IsFirst, AreOther}
use Rattle.shared_pages.proofs.NameLemmas.{name_tells}

-- ---- pairs before a place
module _ {K X : Type 0} (test : K → Bool) where
  pub other_none : (es : List (K × X)) → AreOther test es 0
  other_none [] = tt
  other_none (e ∷ es) = tt

  other_next : (es : List (K × X)) (i : ℕ) (e : K × X) → AreOther test es i → i < length es → test (slice_index_or es i e).0 ≡ false → AreOther test es (suc i)
  other_next [] i e h lt is = tt
  other_next (x ∷ es) zero e h lt is = (is, other_none es)
  other_next (x ∷ es) (suc i) e h lt is = (h.0, other_next es i e h.1 (omega (arith, lt)) is)

  pub other_more : (es : List (K × X)) (i j : ℕ) (e : K × X) → j ≡ suc i → AreOther test es i → i < length es → test (slice_index_or es i e).0 ≡ false → AreOther test es j
  other_more es i j e next h lt is = subst (λ (k : ℕ). AreOther test es k) (sym next) (other_next es i e h lt is)

  pub first_at : (es : List (K × X)) (i : ℕ) (e : K × X) → AreOther test es i → i < length es → test (slice_index_or es i e).0 ≡ true → IsFirst test es i
  first_at [] i e h lt is = absurd (omega (arith, lt))
  first_at (x ∷ es) zero e h lt is = is
  first_at (x ∷ es) (suc i) e h lt is = (h.0, first_at es i e h.1 (omega (arith, lt)) is)

  pub none_at : (es : List (K × X)) (i : ℕ) → AreOther test es i → length es ≤ i → lookup test es ≡ None
  none_at [] i h le = refl
  none_at (x ∷ es) zero h le = absurd (omega (arith, le))
  none_at (x ∷ es) (suc i) h le = rw h.0 (none_at es i h.1 (omega (arith, le)))

  pub first_within : (es : List (K × X)) (i : ℕ) → IsFirst test es i → i < length es
  first_within [] i h = absurd h
  first_within (x ∷ es) zero h = omega arith
  first_within (x ∷ es) (suc i) h = omega (arith, first_within es i h.1)

  pub first_value : (es : List (K × X)) (i : ℕ) (e : K × X) → IsFirst test es i → e ≡ slice_index_or es i e → Some e.1 ≡ lookup test es
  first_value [] i e h at = absurd h
  first_value (x ∷ es) zero e h at = rw h (ap (λ (p : K × X). Some p.1) at)
  first_value (x ∷ es) (suc i) e h at = rw h.0 (first_value es i e h.1 at)

  pub first_removed : (es : List (K × X)) (i : ℕ) → IsFirst test es i → remove es i ≡ remove_entry test es
  first_removed [] i h = absurd h
  first_removed (x ∷ es) zero h = rw h refl
  first_removed (x ∷ es) (suc i) h = rw h.0 (ap (λ (l : List (K × X)). x ∷ l) (first_removed es i h.1))

  pub none_removed : (es : List (K × X)) → lookup test es ≡ None → es ≡ remove_entry test es
  none_removed [] h = refl
  none_removed (x ∷ es) h = by (test x.0) refl (λ later. none_removed es later)
    where
      by : (t : Bool) → test x.0 ≡ t → (lookup test es ≡ None → es ≡ remove_entry test es) → x ∷ es ≡ remove_entry test (x ∷ es)
      by true is rest = let wrong : Some x.1 ≡ None = rw is at h in cc
      by false is rest = let later = rest (rw is at h) in rw is (ap (λ (l : List (K × X)). x ∷ l) later)

swapped : (k a : Name) → same_name a k ≡ false → same_name k a ≡ false
swapped k a is = elim (name_tells k a) [
  | inl t ↦ elim (name_tells a k) [ inl s ↦ let wrong : true ≡ false = sym s.0 ∙ is in cc | inr s ↦ absurd (s.1 (sym t.1)) ]
  | inr t ↦ t.0
]

module _ {X : Type 0} where
  pub first_inserted : (es : List (Name × X)) (i : ℕ) (a : Name) (v : X) → IsFirst (same_name a) es i → slice_set es i (a, v) ≡ insert_entry same_name es a v
  first_inserted [] i a v h = absurd h
  first_inserted ((k, w) ∷ es) zero a v h = elim (name_tells a k) [
    | inl t ↦ rw t.0 (ap (λ (n : Name). (n, v) ∷ es) t.1)
    | inr t ↦ let wrong : true ≡ false = sym h ∙ t.0 in cc
  ]
  first_inserted ((k, w) ∷ es) (suc i) a v h = rw h.0 (ap (λ (l : List (Name × X)). (k, w) ∷ l) (first_inserted es i a v h.1))

  -- ---- no name stands twice
  apart_inserted : (k a : Name) (es : List (Name × X)) (v : X) → same_name k a ≡ false → AllByRecursion (λ y. same_name k y ≡ false) (keys_of es) → AllByRecursion (λ y. same_name k y ≡ false) (keys_of (insert_entry same_name es a v))
  apart_inserted k a [] v is h = (is, tt)
  apart_inserted k a ((y, w) ∷ es) v is h = by (same_name a y) refl (apart_inserted k a es v is h.1)
    where
      by : (t : Bool) → same_name a y ≡ t → AllByRecursion (λ x. same_name k x ≡ false) (keys_of (insert_entry same_name es a v))
          → AllByRecursion (λ x. same_name k x ≡ false) (keys_of (insert_entry same_name ((y, w) ∷ es) a v))
      by true e rest = rw e (h.0, h.1)
      by false e rest = rw e (h.0, rest)

  pub distinct_inserted : (es : List (Name × X)) (a : Name) (v : X) → IsDistinct same_name (keys_of es) → IsDistinct same_name (keys_of (insert_entry same_name es a v))
  distinct_inserted [] a v h = IsDistinct-cons same_name a [] tt h
  distinct_inserted ((y, w) ∷ es) a v h = by (same_name a y) refl (distinct_inserted es a v (IsDistinct-tail same_name y (keys_of es) h))
    where
      by : (t : Bool) → same_name a y ≡ t → IsDistinct same_name (keys_of (insert_entry same_name es a v)) → IsDistinct same_name (keys_of (insert_entry same_name ((y, w) ∷ es) a v))
      by true e rest = rw e h
      by false e rest = rw e (IsDistinct-cons same_name y (keys_of (insert_entry same_name es a v)) (apart_inserted y a es v (swapped y a e) (IsDistinct-head same_name y (keys_of es) h)) rest)

  apart_removed : (test : Name → Bool) (k : Name) (es : List (Name × X)) → AllByRecursion (λ y. same_name k y ≡ false) (keys_of es) → AllByRecursion (λ y. same_name k y ≡ false) (keys_of (remove_entry test es))
  apart_removed test k [] h = tt
  apart_removed test k ((y, w) ∷ es) h = by (test y) refl (apart_removed test k es h.1)
    where
      by : (t : Bool) → test y ≡ t → AllByRecursion (λ x. same_name k x ≡ false) (keys_of (remove_entry test es)) → AllByRecursion (λ x. same_name k x ≡ false) (keys_of (remove_entry test ((y, w) ∷ es)))
      by true e rest = rw e h.1
      by false e rest = rw e (h.0, rest)

  pub distinct_removed : (test : Name → Bool) (es : List (Name × X)) → IsDistinct same_name (keys_of es) → IsDistinct same_name (keys_of (remove_entry test es))
  distinct_removed test [] h = h
  distinct_removed test ((y, w) ∷ es) h = by (test y) refl (distinct_removed test es (IsDistinct-tail same_name y (keys_of es) h))
    where
      by : (t : Bool) → test y ≡ t → IsDistinct same_name (keys_of (remove_entry test es)) → IsDistinct same_name (keys_of (remove_entry test ((y, w) ∷ es)))
      by true e rest = rw e (IsDistinct-tail same_name y (keys_of es) h)
      by false e rest = rw e (IsDistinct-cons same_name y (keys_of (remove_entry test es)) (apart_removed test y es (IsDistinct-head same_name y (keys_of es) h)) rest)
