use Rattle.std.proofs.Common.{◌≡◌, ◌≢◌, inl, inr, ◌<◌, ◌≤◌, ◌+◌, ◌∙◌, ℕ, zero, suc, Bool, true, false, List, [], ◌∷◌, ◌++◌, length, drop, nat_eq, refl, ap, sym, subst, arith, Option, None, Some, IsSome}
use Rattle.std.specs.Prelude.{slice_get}
use Rattle.std.specs.List.{AllByRecursion, IsDistinct}
use Rattle.std.specs.Map.{lookup, keys_of, set_value, remove_entry}
use Rattle.std.proofs.lemmas.List.{length-append}
use Rattle.std.proofs.lemmas.Map.Keys.{IsDistinct-head, IsDistinct-tail}
use Rattle.indexmap.specs.IndexMap.{insert_entry}
use Rattle.name_core.specs.declared.name.Name.{Name}
use Rattle.name_core.specs.Same.{same_name}
use Rattle.shared_pages.specs.Pages.{Pages, most_pairs, pairs_of, pairs_at, page_of, set_page, IsFilled}
use Rattle.shared_pages.proofs.NameLemmas.{name_tells}

-- ---- two lists, one after the other
module _ {K X : Type 0} (test : K → Bool) where
  pub set_front : (es fs : List (K × X)) (v : X) → IsSome (lookup test es) → set_value test (es ++ fs) v ≡ set_value test es v ++ fs
  set_front [] fs v h = cc
  set_front (e ∷ es) fs v h = by (test e.0) refl (λ later. set_front es fs v later)
    where
      by : (t : Bool) → test e.0 ≡ t → (IsSome (lookup test es) → set_value test (es ++ fs) v ≡ set_value test es v ++ fs) → set_value test ((e ∷ es) ++ fs) v ≡ set_value test (e ∷ es) v ++ fs
      by true is rest = rw is refl
      by false is rest = let later = rest (rw is at h) in rw is (ap (λ l. e ∷ l) later)

  pub set_back : (es fs : List (K × X)) (v : X) → lookup test es ≡ None → set_value test (es ++ fs) v ≡ es ++ set_value test fs v
  set_back [] fs v h = refl
  set_back (e ∷ es) fs v h = by (test e.0) refl (λ later. set_back es fs v later)
    where
      by : (t : Bool) → test e.0 ≡ t → (lookup test es ≡ None → set_value test (es ++ fs) v ≡ es ++ set_value test fs v) → set_value test ((e ∷ es) ++ fs) v ≡ e ∷ es ++ set_value test fs v
      by true is rest = let wrong : Some e.1 ≡ None = rw is at h in cc
      by false is rest = let later = rest (rw is at h) in rw is (ap (λ l. e ∷ l) later)

  pub removed_front : (es fs : List (K × X)) → IsSome (lookup test es) → remove_entry test (es ++ fs) ≡ remove_entry test es ++ fs
  removed_front [] fs h = cc
  removed_front (e ∷ es) fs h = by (test e.0) refl (λ later. removed_front es fs later)
    where
      by : (t : Bool) → test e.0 ≡ t → (IsSome (lookup test es) → remove_entry test (es ++ fs) ≡ remove_entry test es ++ fs) → remove_entry test ((e ∷ es) ++ fs) ≡ remove_entry test (e ∷ es) ++ fs
      by true is rest = rw is refl
      by false is rest = let later = rest (rw is at h) in rw is (ap (λ l. e ∷ l) later)

  pub removed_back : (es fs : List (K × X)) → lookup test es ≡ None → remove_entry test (es ++ fs) ≡ es ++ remove_entry test fs
  removed_back [] fs h = refl
  removed_back (e ∷ es) fs h = by (test e.0) refl (λ later. removed_back es fs later)
    where
      by : (t : Bool) → test e.0 ≡ t → (lookup test es ≡ None → remove_entry test (es ++ fs) ≡ es ++ remove_entry test fs) → remove_entry test ((e ∷ es) ++ fs) ≡ e ∷ es ++ remove_entry test fs
      by true is rest = let wrong : Some e.1 ≡ None = rw is at h in cc
      by false is rest = let later = rest (rw is at h) in rw is (ap (λ l. e ∷ l) later)

  pub found_front : (es fs : List (K × X)) (v : X) → lookup test es ≡ Some v → lookup test (es ++ fs) ≡ Some v
  found_front [] fs v h = cc
  found_front (e ∷ es) fs v h = by (test e.0) refl (λ later. found_front es fs v later)
    where
      by : (t : Bool) → test e.0 ≡ t → (lookup test es ≡ Some v → lookup test (es ++ fs) ≡ Some v) → lookup test ((e ∷ es) ++ fs) ≡ Some v
      by true is rest = let here : Some e.1 ≡ Some v = rw is at h in rw is here
      by false is rest = let later = rest (rw is at h) in rw is later

  pub found_back : (es fs : List (K × X)) → lookup test es ≡ None → lookup test (es ++ fs) ≡ lookup test fs
  found_back [] fs h = refl
  found_back (e ∷ es) fs h = by (test e.0) refl (λ later. found_back es fs later)
    where
      by : (t : Bool) → test e.0 ≡ t → (lookup test es ≡ None → lookup test (es ++ fs) ≡ lookup test fs) → lookup test ((e ∷ es) ++ fs) ≡ lookup test fs
      by true is rest = let wrong : Some e.1 ≡ None = rw is at h in cc
      by false is rest = let later = rest (rw is at h) in rw is later

  pub removed_one : (es : List (K × X)) → IsSome (lookup test es) → length (remove_entry test es) + 1 ≡ length es
  removed_one [] h = cc
  removed_one (e ∷ es) h = by (test e.0) refl (λ later. removed_one es later)
    where
      by : (t : Bool) → test e.0 ≡ t → (IsSome (lookup test es) → length (remove_entry test es) + 1 ≡ length es) → length (remove_entry test (e ∷ es)) + 1 ≡ length (e ∷ es)
      by true is rest = rw is (omega arith)
      by false is rest = let later = rest (rw is at h) in rw is (omega (arith, later))

module _ {V : Type 0} where
  pub inserted_there : (es : List (Name × V)) (a : Name) (v : V) → IsSome (lookup (same_name a) es) → insert_entry same_name es a v ≡ set_value (same_name a) es v
  inserted_there [] a v h = cc
  inserted_there ((k, w) ∷ es) a v h =
      elim (name_tells a k) [
        | inl t ↦ rw t.0 refl
        | inr t ↦ let later = rw t.0 at h in rw t.0 (ap (λ l. (k, w) ∷ l) (inserted_there es a v later))
      ]

  -- ---- a name stands on one page alone
  none_left : (k : Name) (es : List (Name × V)) → AllByRecursion (λ y. same_name k y ≡ false) (keys_of es) → lookup (same_name k) es ≡ None
  none_left k [] h = refl
  none_left k ((y, v) ∷ es) h = rw h.0 (none_left k es h.1)

  some_none : (o : Option V) → IsSome o → o ≢ None
  some_none None h e = cc
  some_none (Some v) h e = cc

  behind : (es fs : List (Name × V)) (a : Name) (b : Option V) → lookup (same_name a) fs ≡ b → IsSome b → IsSome (lookup (same_name a) (es ++ fs))
  behind [] fs a b e h = subst (λ o. IsSome o) (sym e) h
  behind ((k, v) ∷ es) fs a b e h = elim (name_tells a k) [ inl t ↦ rw t.0 refl | inr t ↦ rw t.0 (behind es fs a b e h) ]

  pub not_before : (es fs : List (Name × V)) (a : Name) → IsDistinct same_name (keys_of (es ++ fs)) → IsSome (lookup (same_name a) fs) → lookup (same_name a) es ≡ None
  not_before [] fs a h there = refl
  not_before ((k, v) ∷ es) fs a h there =
      elim (name_tells a k) [
        | inl t ↦
            let none : lookup (same_name k) (es ++ fs) ≡ None = none_left k (es ++ fs) (IsDistinct-head same_name k (keys_of (es ++ fs)) h) in
            absurd (some_none _ (behind es fs a (lookup (same_name a) fs) refl there) (ap (λ b. lookup (same_name b) (es ++ fs)) t.1 ∙ none))
        | inr t ↦ rw t.0 (not_before es fs a (IsDistinct-tail same_name k (keys_of (es ++ fs)) h) there)
      ]

  pub distinct_back : (es fs : List (Name × V)) → IsDistinct same_name (keys_of (es ++ fs)) → IsDistinct same_name (keys_of fs)
  distinct_back [] fs h = h
  distinct_back ((k, v) ∷ es) fs h = distinct_back es fs (IsDistinct-tail same_name k (keys_of (es ++ fs)) h)

  -- what a name has on its page is what it has
  pub on_page : (pages : Pages V) (n : ℕ) (a : Name) → IsSome (lookup (same_name a) (page_of pages n)) → IsSome (lookup (same_name a) (pairs_of pages))
  on_page [] n a h = cc
  on_page (p ∷ pages) n a h = by (nat_eq n p.0) refl (λ later. on_page pages n a later)
    where
      front : (o : Option V) → lookup (same_name a) p.1 ≡ o → IsSome o → IsSome (lookup (same_name a) (pairs_of (p ∷ pages)))
      front None e some = cc
      front (Some v) e some = subst (λ o. IsSome o) (sym (found_front (same_name a) p.1 (pairs_of pages) v e)) refl

      by : (t : Bool) → nat_eq n p.0 ≡ t → (IsSome (lookup (same_name a) (page_of pages n)) → IsSome (lookup (same_name a) (pairs_of pages))) → IsSome (lookup (same_name a) (pairs_of (p ∷ pages)))
      by true is rest = let here = rw is at h in front (lookup (same_name a) p.1) refl here
      by false is rest = let later = rest (rw is at h) in behind p.1 (pairs_of pages) a (lookup (same_name a) (pairs_of pages)) refl later

  pub page_value : (pages : Pages V) (n : ℕ) (a : Name) → IsDistinct same_name (keys_of (pairs_of pages)) → IsSome (lookup (same_name a) (page_of pages n)) → lookup (same_name a) (pairs_of pages) ≡ lookup (same_name a) (page_of pages n)
  page_value [] n a h there = cc
  page_value (p ∷ pages) n a h there = by (nat_eq n p.0) refl (λ later. page_value pages n a (distinct_back p.1 (pairs_of pages) h) later)
    where
      front : (o : Option V) → lookup (same_name a) p.1 ≡ o → IsSome o → lookup (same_name a) (pairs_of (p ∷ pages)) ≡ lookup (same_name a) p.1
      front None e some = cc
      front (Some v) e some = found_front (same_name a) p.1 (pairs_of pages) v e ∙ sym e

      by : (t : Bool) → nat_eq n p.0 ≡ t → (IsSome (lookup (same_name a) (page_of pages n)) → lookup (same_name a) (pairs_of pages) ≡ lookup (same_name a) (page_of pages n))
          → lookup (same_name a) (pairs_of (p ∷ pages)) ≡ lookup (same_name a) (page_of (p ∷ pages) n)
      by true is rest = let here = rw is at there in rw is (front (lookup (same_name a) p.1) refl here)
      by false is rest =
          let now = rw is at there in
          rw is (found_back (same_name a) p.1 (pairs_of pages) (not_before p.1 (pairs_of pages) a h (on_page pages n a now)) ∙ rest now)

  -- ---- all pairs after a page's are changed
  set_here : (p : ℕ × List (Name × V)) (pages : Pages V) (n : ℕ) (qs : List (Name × V)) → nat_eq n p.0 ≡ true → pairs_of (set_page (p ∷ pages) n qs) ≡ qs ++ pairs_of pages
  set_here p pages n [] is = rw is refl
  set_here p pages n (q ∷ qs) is = rw is refl

  set_later : (p : ℕ × List (Name × V)) (pages : Pages V) (n : ℕ) (qs : List (Name × V)) → nat_eq n p.0 ≡ false → pairs_of (set_page (p ∷ pages) n qs) ≡ p.1 ++ pairs_of (set_page pages n qs)
  set_later p pages n [] is = rw is refl
  set_later p pages n (q ∷ qs) is = rw is refl

  pub pairs_set : (pages : Pages V) (n : ℕ) (a : Name) (v : V) → IsSome (lookup (same_name a) (page_of pages n)) → IsDistinct same_name (keys_of (pairs_of pages))
      → pairs_of (set_page pages n (set_value (same_name a) (page_of pages n) v)) ≡ set_value (same_name a) (pairs_of pages) v
  pairs_set [] n a v there h = cc
  pairs_set (p ∷ pages) n a v there h = by (nat_eq n p.0) refl (λ later. pairs_set pages n a v later (distinct_back p.1 (pairs_of pages) h))
    where
      by : (t : Bool) → nat_eq n p.0 ≡ t → (IsSome (lookup (same_name a) (page_of pages n)) → pairs_of (set_page pages n (set_value (same_name a) (page_of pages n) v)) ≡ set_value (same_name a) (pairs_of pages) v)
          → pairs_of (set_page (p ∷ pages) n (set_value (same_name a) (page_of (p ∷ pages) n) v)) ≡ set_value (same_name a) (pairs_of (p ∷ pages)) v
      by true is rest =
          let here = rw is at there in
          set_here p pages n _ is ∙ rw is (sym (set_front (same_name a) p.1 (pairs_of pages) v here))
      by false is rest =
          let now = rw is at there in
          set_later p pages n _ is ∙ rw is (ap (λ l. p.1 ++ l) (rest now) ∙ sym (set_back (same_name a) p.1 (pairs_of pages) v (not_before p.1 (pairs_of pages) a h (on_page pages n a now))))

  pub pairs_removed : (pages : Pages V) (n : ℕ) (a : Name) → IsSome (lookup (same_name a) (page_of pages n)) → IsDistinct same_name (keys_of (pairs_of pages))
      → pairs_of (set_page pages n (remove_entry (same_name a) (page_of pages n))) ≡ remove_entry (same_name a) (pairs_of pages)
  pairs_removed [] n a there h = cc
  pairs_removed (p ∷ pages) n a there h = by (nat_eq n p.0) refl (λ later. pairs_removed pages n a later (distinct_back p.1 (pairs_of pages) h))
    where
      by : (t : Bool) → nat_eq n p.0 ≡ t → (IsSome (lookup (same_name a) (page_of pages n)) → pairs_of (set_page pages n (remove_entry (same_name a) (page_of pages n))) ≡ remove_entry (same_name a) (pairs_of pages))
          → pairs_of (set_page (p ∷ pages) n (remove_entry (same_name a) (page_of (p ∷ pages) n))) ≡ remove_entry (same_name a) (pairs_of (p ∷ pages))
      by true is rest =
          let here = rw is at there in
          set_here p pages n _ is ∙ rw is (sym (removed_front (same_name a) p.1 (pairs_of pages) here))
      by false is rest =
          let now = rw is at there in
          set_later p pages n _ is ∙ rw is (ap (λ l. p.1 ++ l) (rest now) ∙ sym (removed_back (same_name a) p.1 (pairs_of pages) (not_before p.1 (pairs_of pages) a h (on_page pages n a now))))

  -- ---- no page is too long
  pub page_short : (pages : Pages V) (n : ℕ) → AllByRecursion IsFilled pages → length (page_of pages n) ≤ most_pairs
  page_short [] n h = omega arith
  page_short (p ∷ pages) n h = by (nat_eq n p.0) refl (page_short pages n h.1)
    where
      by : (t : Bool) → nat_eq n p.0 ≡ t → length (page_of pages n) ≤ most_pairs → length (page_of (p ∷ pages) n) ≤ most_pairs
      by true is rest = rw is h.0.1
      by false is rest = rw is rest

  -- ---- a place among all pairs
  pub pairs_there : (pages : Pages V) (i : ℕ) (p : ℕ × List (Name × V)) → Some p ≡ slice_get pages i → p.1 ≡ pairs_at pages i
  pairs_there [] i p h = cc
  pairs_there (q ∷ pages) zero p h = let same : p ≡ q = cc in ap (λ r. r.1) same
  pairs_there (q ∷ pages) (suc i) p h = pairs_there pages i p h

  pub pairs_past : (pages : Pages V) (i : ℕ) → None ≡ slice_get pages i → [] ≡ pairs_at pages i
  pairs_past [] i h = refl
  pairs_past (q ∷ pages) zero h = cc
  pairs_past (q ∷ pages) (suc i) h = pairs_past pages i h

  pub pairs_beyond : (pages : Pages V) (i : ℕ) → length pages ≤ i → (pairs_at pages i ≡ []) × (pairs_of (drop i pages) ≡ [])
  pairs_beyond [] zero le = (refl, refl)
  pairs_beyond [] (suc i) le = (refl, refl)
  pairs_beyond (p ∷ pages) zero le = absurd (omega (arith, le))
  pairs_beyond (p ∷ pages) (suc i) le = pairs_beyond pages i (omega (arith, le))

  drop_pairs : (pages : Pages V) (i : ℕ) → pairs_of (drop i pages) ≡ pairs_at pages i ++ pairs_of (drop (suc i) pages)
  drop_pairs [] zero = refl
  drop_pairs [] (suc i) = refl
  drop_pairs (p ∷ pages) zero = refl
  drop_pairs (p ∷ pages) (suc i) = drop_pairs pages i

  pub at_front : (es fs : List (Name × V)) (i : ℕ) → i < length es → slice_get (es ++ fs) i ≡ slice_get es i
  at_front [] fs i lt = absurd (omega (arith, lt))
  at_front (e ∷ es) fs zero lt = refl
  at_front (e ∷ es) fs (suc i) lt = at_front es fs i (omega (arith, lt))

  pub at_back : (es fs : List (Name × V)) (i k : ℕ) → i ≡ length es + k → slice_get (es ++ fs) i ≡ slice_get fs k
  at_back [] fs i k is = ap (λ m. slice_get fs m) (omega (arith, is))
  at_back (e ∷ es) fs zero k is = absurd (omega (arith, is))
  at_back (e ∷ es) fs (suc i) k is = at_back es fs i k (omega (arith, is))

  pub found_here : (pages : Pages V) (i rest : ℕ) → rest < length (pairs_at pages i) → slice_get (pairs_of (drop i pages)) rest ≡ slice_get (pairs_at pages i) rest
  found_here pages i rest lt = ap (λ l. slice_get l rest) (drop_pairs pages i) ∙ at_front (pairs_at pages i) (pairs_of (drop (suc i) pages)) rest lt

  pub found_later : (pages : Pages V) (i j rest left : ℕ) → j ≡ suc i → rest ≡ length (pairs_at pages i) + left → slice_get (pairs_of (drop i pages)) rest ≡ slice_get (pairs_of (drop j pages)) left
  found_later pages i j rest left next is =
      ap (λ l. slice_get l rest) (drop_pairs pages i) ∙ at_back (pairs_at pages i) (pairs_of (drop (suc i) pages)) rest left is ∙ ap (λ m. slice_get (pairs_of (drop m pages)) left) (sym next)

  pub count_later : (pages : Pages V) (i j : ℕ) → j ≡ suc i → length (pairs_of (drop i pages)) ≡ length (pairs_at pages i) + length (pairs_of (drop j pages))
  count_later pages i j next =
      ap (λ (l : List (Name × V)). length l) (drop_pairs pages i) ∙ length-append (pairs_at pages i) (pairs_of (drop (suc i) pages)) ∙ ap (λ m. length (pairs_at pages i) + length (pairs_of (drop m pages))) (sym next)
