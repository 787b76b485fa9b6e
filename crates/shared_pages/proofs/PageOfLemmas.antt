use Rattle.std.proofs.Common.{◌≡◌, ◌≢◌, ◌⊎◌, inl, inr, ◌<◌, ◌≤◌, ◌+◌, ◌∙◌, ℕ, Bool, true, false, cond, List, [], ◌∷◌, ◌++◌, length, nat_eq, nat_lt, refl, ap, sym, arith, ne_eqb, Option, None, Some, IsSome}
use Rattle.std.specs.Option.{unwrap_or}
use Rattle.std.specs.List.{AllByRecursion, IsDistinct}
use Rattle.std.specs.Map.{lookup, keys_of}
use Rattle.std.specs.Cmp.{nat_eq_equiv}
use Rattle.std.proofs.lemmas.Bool.{cases_eq, eq-eqb, eqb-true}
use Rattle.std.proofs.lemmas.Map.{lookup-set_value, lookup-remove_entry}
use Rattle.std.proofs.lemmas.Map.Keys.{IsDistinct-cons, IsDistinct-from_apart}
use Rattle.name_core.specs.declared.name.Name.{Name}
use Rattle.name_core.specs.Same.{same_name}
use Rattle.shared_pages.specs.Pages.{Pages, most_pairs, pairs_of, page_of, set_page, pushed, last_number, RiseFrom}
use Rattle.shared_pages.proofs.KeptPages.{lookup_front}
use Rattle.shared_pages.proofs.DistinctPages.{on_page, not_before, distinct_back}

same_back : (n m : ℕ) → nat_eq n m ≡ nat_eq m n
same_back n m = elim (cases_eq n m) [ inl e ↦ eq-eqb n m e ∙ sym (eq-eqb m n (sym e)) | inr apart ↦ ne_eqb n m apart ∙ sym (ne_eqb m n (λ e. apart (sym e))) ]

module _ {V : Type 0} where
  -- ---- the page of a number, after an edit
  numbers_apart : (pages : Pages V) (n least : ℕ) → n < least → RiseFrom least pages → AllByRecursion (λ y. nat_eq n y ≡ false) (keys_of pages)
  numbers_apart [] n least lt h = tt
  numbers_apart (p ∷ pages) n least lt h = (ne_eqb n p.0 (λ e. omega (arith, lt, h.0, e)), numbers_apart pages n (p.0 + 1) (omega (arith, lt, h.0)) h.1)

  pub numbers_distinct : (pages : Pages V) (least : ℕ) → RiseFrom least pages → IsDistinct nat_eq (keys_of pages)
  numbers_distinct [] least h = IsDistinct-from_apart nat_eq [] (λ i j d apart lt. absurd (omega (arith, lt)))
  numbers_distinct (p ∷ pages) least h = IsDistinct-cons nat_eq p.0 (keys_of pages) (numbers_apart pages p.0 (p.0 + 1) (omega arith) h.1) (numbers_distinct pages (p.0 + 1) h.1)

  at_cond : (b : Bool) (w o : Option (List (Name × V))) → unwrap_or (cond b w o) [] ≡ cond b (unwrap_or w []) (unwrap_or o [])
  at_cond true w o = refl
  at_cond false w o = refl

  -- the page that was set has the pairs, and each other one what it had
  pub page_set : (pages : Pages V) (n : ℕ) (qs : List (Name × V)) (m : ℕ) → RiseFrom 0 pages → IsSome (lookup (nat_eq n) pages) → page_of (set_page pages n qs) m ≡ cond (nat_eq n m) qs (page_of pages m)
  page_set pages n [] m h there =
      ap (λ o. unwrap_or o []) (lookup-remove_entry nat_eq_equiv (nat_eq n) (nat_eq_equiv.congr n) m pages (numbers_distinct pages 0 h)) ∙ at_cond (nat_eq n m) None (lookup (nat_eq m) pages)
  page_set pages n (q ∷ qs) m h there =
      ap (λ o. unwrap_or o []) (lookup-set_value nat_eq_equiv (nat_eq n) (nat_eq_equiv.congr n) m (q ∷ qs) pages there) ∙ at_cond (nat_eq n m) (Some (q ∷ qs)) (lookup (nat_eq m) pages)

  last_least : (p : ℕ × List (Name × V)) (pages : Pages V) (least : ℕ) (a : Name) (v : V) → RiseFrom least (p ∷ pages) → least ≤ last_number (pushed (p ∷ pages) a v)
  last_least p [] least a v h = by (nat_lt (length p.1) most_pairs) refl
    where
      by : (t : Bool) → nat_lt (length p.1) most_pairs ≡ t → least ≤ last_number (pushed (p ∷ []) a v)
      by true e = rw e (omega (arith, h.0))
      by false e = rw e (omega (arith, h.0))
  last_least p (q ∷ []) least a v h = omega (arith, h.0, last_least q [] (p.0 + 1) a v h.1, later)
    where
      later : last_number (p ∷ pushed (q ∷ []) a v) ≡ last_number (pushed (q ∷ []) a v)
      later = by (nat_lt (length q.1) most_pairs) refl
        where
          by : (t : Bool) → nat_lt (length q.1) most_pairs ≡ t → last_number (p ∷ pushed (q ∷ []) a v) ≡ last_number (pushed (q ∷ []) a v)
          by true e = rw e refl
          by false e = rw e refl
  last_least p (q ∷ r ∷ pages) least a v h = omega (arith, h.0, last_least q (r ∷ pages) (p.0 + 1) a v h.1)

  -- ---- a name stands on one page alone
  pub absent_page : (pages : Pages V) (m : ℕ) (test : Name → Bool) → lookup test (pairs_of pages) ≡ None → lookup test (page_of pages m) ≡ None
  absent_page [] m test h = refl
  absent_page (p ∷ pages) m test h = by (nat_eq m p.0) refl (absent_page pages m test (lookup_front test p.1 (pairs_of pages) h).1)
    where
      by : (t : Bool) → nat_eq m p.0 ≡ t → lookup test (page_of pages m) ≡ None → lookup test (page_of (p ∷ pages) m) ≡ None
      by true is rest = rw is (lookup_front test p.1 (pairs_of pages) h).0
      by false is rest = rw is rest

  some_or : (o : Option V) → (o ≡ None) ⊎ IsSome o
  some_or None = inl refl
  some_or (Some v) = inr refl

  none_some : (o : Option V) → o ≡ None → ¬ (IsSome o)
  none_some None e h = cc
  none_some (Some v) e h = cc

  pub one_page : (pages : Pages V) (n m : ℕ) (a : Name) → IsDistinct same_name (keys_of (pairs_of pages)) → IsSome (lookup (same_name a) (page_of pages n)) → n ≢ m → lookup (same_name a) (page_of pages m) ≡ None
  one_page [] n m a h there apart = refl
  one_page (p ∷ pages) n m a h there apart =
      by (nat_eq n p.0) (nat_eq m p.0) refl refl (λ later. one_page pages n m a (distinct_back p.1 (pairs_of pages) h) later apart)
    where
      after : IsSome (lookup (same_name a) p.1) → lookup (same_name a) (pairs_of pages) ≡ None
      after here = elim (some_or (lookup (same_name a) (pairs_of pages))) [ inl none ↦ none | inr too ↦ absurd (none_some _ (not_before p.1 (pairs_of pages) a h too) here) ]

      by : (s t : Bool) → nat_eq n p.0 ≡ s → nat_eq m p.0 ≡ t → (IsSome (lookup (same_name a) (page_of pages n)) → lookup (same_name a) (page_of pages m) ≡ None) → lookup (same_name a) (page_of (p ∷ pages) m) ≡ None
      by true true e f rest = elim (cases_eq n m) [
        | inl same ↦ absurd (apart same)
        | inr other ↦ absurd (other (eqb-true n p.0 e ∙ sym (eqb-true m p.0 f)))
      ]
      by true false e f rest = let here = rw e at there in rw f (absent_page pages m (same_name a) (after here))
      by false true e f rest = let now = rw e at there in rw f (not_before p.1 (pairs_of pages) a h (on_page pages n a now))
      by false false e f rest = let now = rw e at there in rw f (rest now)

  -- the page on which a pair was put has it at the end, and each other one what it had
  pub page_pushed : (p : ℕ × List (Name × V)) (pages : Pages V) (a : Name) (v : V) (m least : ℕ) → RiseFrom least (p ∷ pages)
      → page_of (pushed (p ∷ pages) a v) m ≡ cond (nat_eq m (last_number (pushed (p ∷ pages) a v))) (page_of (p ∷ pages) m ++ (a, v) ∷ []) (page_of (p ∷ pages) m)
  page_pushed p [] a v m least h = by (nat_lt (length p.1) most_pairs) refl
    where
      by : (t : Bool) → nat_lt (length p.1) most_pairs ≡ t
          → page_of (pushed (p ∷ []) a v) m ≡ cond (nat_eq m (last_number (pushed (p ∷ []) a v))) (page_of (p ∷ []) m ++ (a, v) ∷ []) (page_of (p ∷ []) m)
      by true e = elim (cases_eq m p.0) [ inl here ↦ rw (e, eq-eqb m p.0 here) refl | inr other ↦ rw (e, ne_eqb m p.0 other) refl ]
      by false e = elim (cases_eq m p.0) [
        | inl here ↦ rw (e, eq-eqb m p.0 here, ne_eqb m (p.0 + 1) (λ f. omega (arith, here, f))) refl
        | inr other ↦ elim (cases_eq m (p.0 + 1)) [
          | inl next ↦ rw (e, ne_eqb m p.0 other, eq-eqb m (p.0 + 1) next) refl
          | inr beyond ↦ rw (e, ne_eqb m p.0 other, ne_eqb m (p.0 + 1) beyond) refl
        ]
      ]
  page_pushed p (q ∷ pages) a v m least h =
      elim (cases_eq m p.0) [
        | inl here ↦
            let past : p.0 + 1 ≤ last_number (pushed (q ∷ pages) a v) = last_least q pages (p.0 + 1) a v h.1 in
            rw (eq-eqb m p.0 here) (ap (λ b. cond b (p.1 ++ (a, v) ∷ []) p.1) (sym (ap (nat_eq m) (last_behind p (q ∷ pages) a v) ∙ ne_eqb m (last_number (pushed (q ∷ pages) a v)) (λ f. omega (arith, here, f, past)))))
        | inr other ↦
            rw (ne_eqb m p.0 other) (page_pushed q pages a v m (p.0 + 1) h.1
            ∙ ap (λ k. cond (nat_eq m k) (page_of (q ∷ pages) m ++ (a, v) ∷ []) (page_of (q ∷ pages) m)) (sym (last_behind p (q ∷ pages) a v)))
      ]
    where
      last_behind : (p : ℕ × List (Name × V)) (pages : Pages V) (a : Name) (v : V) → last_number (p ∷ pushed pages a v) ≡ last_number (pushed pages a v)
      last_behind p [] a v = refl
      last_behind p (q ∷ []) a v = by (nat_lt (length q.1) most_pairs) refl
        where
          by : (t : Bool) → nat_lt (length q.1) most_pairs ≡ t → last_number (p ∷ pushed (q ∷ []) a v) ≡ last_number (pushed (q ∷ []) a v)
          by true e = rw e refl
          by false e = rw e refl
      last_behind p (q ∷ r ∷ pages) a v = refl

  pub page_of_pushed : (pages : Pages V) (a : Name) (v : V) (n m : ℕ) → RiseFrom 0 pages → n ≡ last_number (pushed pages a v)
      → page_of (pushed pages a v) m ≡ cond (nat_eq n m) (page_of pages m ++ (a, v) ∷ []) (page_of pages m)
  page_of_pushed [] a v n m h is = let first : n ≡ 0 = is in elim (cases_eq m 0) [
    | inl here ↦ rw (first, eq-eqb m 0 here, eq-eqb 0 m (sym here)) refl
    | inr other ↦ rw (first, ne_eqb m 0 other, ne_eqb 0 m (λ e. other (sym e))) refl
  ]
  page_of_pushed (p ∷ pages) a v n m h is =
      page_pushed p pages a v m 0 h
      ∙ ap (λ b. cond b (page_of (p ∷ pages) m ++ (a, v) ∷ []) (page_of (p ∷ pages) m)) (same_back m (last_number (pushed (p ∷ pages) a v)) ∙ ap (λ k. nat_eq k m) (sym is))

  -- a name on the page of a number
  pub page_is : (pages : Pages V) (n : ℕ) (a : Name) → IsSome (lookup (same_name a) (page_of pages n)) → IsSome (lookup (nat_eq n) pages)
  page_is pages n a h = by (lookup (nat_eq n) pages) h
    where
      by : (o : Option (List (Name × V))) → IsSome (lookup (same_name a) (unwrap_or o [])) → IsSome o
      by None there = cc
      by (Some ps) there = refl
