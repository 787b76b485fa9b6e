use Rattle.std.proofs.Common.{◌≡◌, ◌≢◌, ◌⊎◌, inl, inr, ◌<◌, ◌≤◌, ◌+◌, ◌∙◌, ℕ, zero, suc, Bool, true, false, List, [], ◌∷◌, length, remove, nat_eq, nat_lt, refl, ap, sym, arith, ne_eqb, Option, None, Some, IsSome}
use Rattle.std.specs.Prelude.{slice_get, slice_set, slice_index_or}
use Rattle.std.specs.Option.{unwrap_or}
use Rattle.std.specs.Map.{lookup, set_value, remove_entry}
use Rattle.std.proofs.lemmas.Bool.{cases_eq, eq-eqb, ltb-false, ltb-true}
use Rattle.name_core.specs.declared.name.Name.{Name}
use Rattle.shared_pages.specs.Pages.{Pages, page_of, set_page, put_at, RiseFrom, IsPlace, AreBelow, AreFrom, StandsFrom}
use Rattle.shared_pages.proofs.PlaceLemmas.{some_there}

pub cases_lt : (a b : ℕ) → (a < b) ⊎ (b ≤ a)
cases_lt a b = by (nat_lt a b) refl
  where
    by : (t : Bool) → nat_lt a b ≡ t → (a < b) ⊎ (b ≤ a)
    by true e = inl (ltb-true a b e)
    by false e = inr (ltb-false a b e)

some_before : {A : Type 0} (xs : List A) (i k : ℕ) (x : A) → slice_get xs i ≡ None → i ≤ k → slice_get xs k ≢ Some x
some_before [] i k x none le at = cc
some_before (y ∷ xs) zero k x none le at = cc
some_before (y ∷ xs) (suc i) zero x none le at = omega (arith, le)
some_before (y ∷ xs) (suc i) (suc k) x none le at = some_before xs i k x none (omega (arith, le)) at

module _ {V : Type 0} where
  -- ---- numbers rise
  pub least_at : (pages : Pages V) (least i : ℕ) (p : ℕ × List (Name × V)) → RiseFrom least pages → slice_get pages i ≡ Some p → least ≤ p.0
  least_at [] least i p h at = cc
  least_at (q ∷ pages) least zero p h at = let same : q ≡ p = cc in omega (arith, h.0, ap (λ (r : ℕ × List (Name × V)). r.0) same)
  least_at (q ∷ pages) least (suc i) p h at = omega (arith, h.0, least_at pages (q.0 + 1) i p h.1 at)

  pub less_at : (pages : Pages V) (least i j : ℕ) (p q : ℕ × List (Name × V)) → RiseFrom least pages → slice_get pages i ≡ Some p → slice_get pages j ≡ Some q → i < j → p.0 < q.0
  less_at [] least i j p q h at later lt = cc
  less_at (r ∷ pages) least i zero p q h at later lt = absurd (omega (arith, lt))
  less_at (r ∷ pages) least zero (suc j) p q h at later lt = let same : r ≡ p = cc in omega (arith, ap (λ (x : ℕ × List (Name × V)). x.0) same, least_at pages (r.0 + 1) j q h.1 later)
  less_at (r ∷ pages) least (suc i) (suc j) p q h at later lt = less_at pages (r.0 + 1) i j p q h.1 at later (omega (arith, lt))

  one_at : (x : ℕ × List (Name × V)) (pages : Pages V) (i : ℕ) (p : ℕ × List (Name × V)) → slice_get pages i ≡ Some p → slice_get pages i ≡ Some x → p ≡ x
  one_at x pages i p at too = let same : Some p ≡ Some x = sym at ∙ too in cc

  pub at_most_at : (pages : Pages V) (i j : ℕ) (p q : ℕ × List (Name × V)) → RiseFrom 0 pages → slice_get pages i ≡ Some p → slice_get pages j ≡ Some q → i ≤ j → p.0 ≤ q.0
  at_most_at pages i j p q h at later le =
      elim (cases_eq i j) [
        | inl e ↦ omega (arith, ap (λ (x : ℕ × List (Name × V)). x.0) (one_at q pages i p at (ap (λ k. slice_get pages k) e ∙ later)))
        | inr apart ↦ omega (arith, less_at pages 0 i j p q h at later (omega (arith, le, apart)))
      ]

  pub below_more : (pages : Pages V) (n m x : ℕ) → RiseFrom 0 pages → IsPlace pages x (Some m) → x < n → AreBelow pages n (m + 1)
  below_more pages n m x h there lt k p at le = omega (arith, at_most_at pages k m p (x, there.0) h at there.1 (omega (arith, le)), lt)

  pub from_more : (pages : Pages V) (n m x : ℕ) → RiseFrom 0 pages → IsPlace pages x (Some m) → n ≤ x → AreFrom pages n m
  from_more pages n m x h there le k p at later = omega (arith, at_most_at pages m k (x, there.0) p h there.1 at later, le)

  -- ---- where a number stands
  pub none_by : (pages : Pages V) (n : ℕ) → ((k : ℕ) (q : ℕ × List (Name × V)) → slice_get pages k ≡ Some q → n ≢ q.0) → lookup (nat_eq n) pages ≡ None
  none_by [] n h = refl
  none_by (p ∷ pages) n h = rw (ne_eqb n p.0 (h 0 p refl)) (none_by pages n (λ k q at. h (suc k) q at))

  -- no page stands at the place
  pub none_past : (pages : Pages V) (n i : ℕ) → StandsFrom pages n i → None ≡ slice_get pages i → lookup (nat_eq n) pages ≡ None
  none_past pages n i h none =
      none_by pages n (λ k q at is. elim (cases_lt k i) [
        | inl lt ↦ omega (arith, h.1 k q at lt, is)
        | inr le ↦ some_before pages i k q (sym none) le at
      ])

  -- another number stands there
  pub other_there : (pages : Pages V) (n i : ℕ) (p : ℕ × List (Name × V)) → RiseFrom 0 pages → StandsFrom pages n i → Some p ≡ slice_get pages i → p.0 ≢ n → lookup (nat_eq n) pages ≡ None
  other_there pages n i p rise h at apart =
      none_by pages n (λ k q there is. elim (cases_lt k i) [
        | inl lt ↦ omega (arith, h.1 k q there lt, is)
        | inr le ↦ apart (omega (arith, h.2 i p (sym at) (omega arith), at_most_at pages i k p q rise (sym at) there le, is))
      ])

  -- ---- what is done at the place is done at the number
  pub lookup_at : (pages : Pages V) (least n i : ℕ) (ps : List (Name × V)) → RiseFrom least pages → slice_get pages i ≡ Some (n, ps) → lookup (nat_eq n) pages ≡ Some ps
  lookup_at [] least n i ps h at = cc
  lookup_at (p ∷ pages) least n zero ps h at =
      let same : p ≡ (n, ps) = cc in rw (eq-eqb n p.0 (sym (ap (λ (r : ℕ × List (Name × V)). r.0) same))) (ap (λ (r : ℕ × List (Name × V)). Some r.1) same)
  lookup_at (p ∷ pages) least n (suc i) ps h at =
      let less : p.0 + 1 ≤ n = least_at pages (p.0 + 1) i (n, ps) h.1 at in
      rw (ne_eqb n p.0 (λ e. omega (arith, less, e))) (lookup_at pages (p.0 + 1) n i ps h.1 at)

  pub set_at : (pages : Pages V) (least n i : ℕ) (ps qs : List (Name × V)) → RiseFrom least pages → slice_get pages i ≡ Some (n, ps) → slice_set pages i (n, qs) ≡ set_value (nat_eq n) pages qs
  set_at [] least n i ps qs h at = cc
  set_at (p ∷ pages) least n zero ps qs h at =
      let same : p ≡ (n, ps) = cc in
      let is : p.0 ≡ n = ap (λ (r : ℕ × List (Name × V)). r.0) same in
      rw (eq-eqb n p.0 (sym is)) (ap (λ (m : ℕ). (m, qs) ∷ pages) (sym is))
  set_at (p ∷ pages) least n (suc i) ps qs h at =
      let less : p.0 + 1 ≤ n = least_at pages (p.0 + 1) i (n, ps) h.1 at in
      rw (ne_eqb n p.0 (λ e. omega (arith, less, e))) (ap (λ (l : Pages V). p ∷ l) (set_at pages (p.0 + 1) n i ps qs h.1 at))

  pub removed_at : (pages : Pages V) (least n i : ℕ) (ps : List (Name × V)) → RiseFrom least pages → slice_get pages i ≡ Some (n, ps) → remove pages i ≡ remove_entry (nat_eq n) pages
  removed_at [] least n i ps h at = cc
  removed_at (p ∷ pages) least n zero ps h at =
      let same : p ≡ (n, ps) = cc in rw (eq-eqb n p.0 (sym (ap (λ (r : ℕ × List (Name × V)). r.0) same)))
  removed_at (p ∷ pages) least n (suc i) ps h at =
      let less : p.0 + 1 ≤ n = least_at pages (p.0 + 1) i (n, ps) h.1 at in
      rw (ne_eqb n p.0 (λ e. omega (arith, less, e))) (ap (λ (l : Pages V). p ∷ l) (removed_at pages (p.0 + 1) n i ps h.1 at))

  pub put_there : (pages : Pages V) (n i : ℕ) (qs : List (Name × V)) → RiseFrom 0 pages → IsPlace pages n (Some i) → put_at pages i n qs ≡ set_page pages n qs
  put_there pages n i [] h there = removed_at pages 0 n i there.0 h there.1
  put_there pages n i (q ∷ qs) h there = set_at pages 0 n i there.0 (q ∷ qs) h there.1

  -- another page at the place before makes no difference
  removed_again : (pages : Pages V) (i : ℕ) (p : ℕ × List (Name × V)) → remove (slice_set pages i p) i ≡ remove pages i
  removed_again [] i p = refl
  removed_again (q ∷ pages) zero p = refl
  removed_again (q ∷ pages) (suc i) p = ap (λ (l : Pages V). q ∷ l) (removed_again pages i p)

  pub put_again : (mid pages : Pages V) (n i : ℕ) (qs : List (Name × V)) → ((r : ℕ × List (Name × V)) → slice_set mid i r ≡ slice_set pages i r) → put_at mid i n qs ≡ put_at pages i n qs
  put_again mid pages n i [] hole = sym (removed_again mid i (0, [])) ∙ ap (λ (l : Pages V). remove l i) (hole (0, [])) ∙ removed_again pages i (0, [])
  put_again mid pages n i (q ∷ qs) hole = hole (n, q ∷ qs)

  pub put_none : (pages : Pages V) (n i : ℕ) (qs : List (Name × V)) → length qs ≡ 0 → remove pages i ≡ put_at pages i n qs
  put_none pages n i [] is = refl
  put_none pages n i (q ∷ qs) is = absurd (omega (arith, is))

  pub put_some : (pages : Pages V) (n i : ℕ) (qs : List (Name × V)) → length qs ≢ 0 → slice_set pages i (n, qs) ≡ put_at pages i n qs
  put_some pages n i [] some = absurd (some refl)
  put_some pages n i (q ∷ qs) some = refl

  -- the page at the place of a number
  pub page_there : (pages : Pages V) (n i : ℕ) (d : ℕ × List (Name × V)) → RiseFrom 0 pages → IsPlace pages n (Some i) → slice_index_or pages i d ≡ (n, page_of pages n)
  page_there pages n i d h there =
      sym (some_there d pages i (n, there.0) (sym there.1)) ∙ ap (λ (o : Option (List (Name × V))). (n, unwrap_or o [])) (sym (lookup_at pages 0 n i there.0 h there.1))

  pub place_within : (pages : Pages V) (n i : ℕ) → IsPlace pages n (Some i) → i < length pages
  place_within pages n i there = by pages i (n, there.0) there.1
    where
      by : (xs : Pages V) (i : ℕ) (x : ℕ × List (Name × V)) → slice_get xs i ≡ Some x → i < length xs
      by [] i x h = cc
      by (y ∷ xs) zero x h = omega arith
      by (y ∷ xs) (suc i) x h = omega (arith, by xs i x h)

  pub found_page : (pages : Pages V) (n i : ℕ) (p : ℕ × List (Name × V)) → RiseFrom 0 pages → IsPlace pages n (Some i) → Some p ≡ slice_get pages i → Some p.1 ≡ lookup (nat_eq n) pages
  found_page pages n i p h there at = ap (λ (r : ℕ × List (Name × V)). Some r.1) (one_at (n, there.0) pages i p (sym at) there.1) ∙ sym (lookup_at pages 0 n i there.0 h there.1)

  pub there_is : (pages : Pages V) (n i : ℕ) → RiseFrom 0 pages → IsPlace pages n (Some i) → lookup (nat_eq n) pages ≡ Some (page_of pages n)
  there_is pages n i h there =
      let is : lookup (nat_eq n) pages ≡ Some there.0 = lookup_at pages 0 n i there.0 h there.1 in
      is ∙ ap (λ o. Some (unwrap_or o [])) (sym is)

  pub found_is : (pages : Pages V) (n : ℕ) → IsSome (lookup (nat_eq n) pages) → lookup (nat_eq n) pages ≡ Some (page_of pages n)
  found_is pages n there = by (lookup (nat_eq n) pages) there
    where
      by : (o : Option (List (Name × V))) → IsSome o → o ≡ Some (unwrap_or o [])
      by None h = cc
      by (Some ps) h = refl
