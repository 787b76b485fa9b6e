use Rattle.std.proofs.Common.{◌≡◌, ◌<◌, ◌≤◌, ◌+◌, ◌∙◌, ℕ, Bool, true, false, List, [], ◌∷◌, ◌++◌, length, nat_eq, nat_lt, refl, ap, sym, arith, None, Some}
use Rattle.std.specs.List.{AllByRecursion}
use Rattle.std.specs.Map.{lookup, set_value, remove_entry}
use Rattle.std.proofs.lemmas.Bool.{ltb-true, lt-ltb, le-ltb}
use Rattle.std.proofs.lemmas.List.{append-nil, append_assoc, length-append}
use Rattle.name_core.specs.declared.name.Name.{Name}
use Rattle.shared_pages.specs.Pages.{Pages, most_pairs, pairs_of, set_page, pushed, last_number, RiseFrom, IsFilled, ArePages}

pub lookup_front : {K X : Type 0} (test : K → Bool) (es fs : List (K × X)) → lookup test (es ++ fs) ≡ None → (lookup test es ≡ None) × (lookup test fs ≡ None)
lookup_front test [] fs h = (refl, h)
lookup_front test (e ∷ es) fs h = by (test e.0) refl (λ later. lookup_front test es fs later)
  where
    by : (t : Bool) → test e.0 ≡ t → (lookup test (es ++ fs) ≡ None → (lookup test es ≡ None) × (lookup test fs ≡ None)) → (lookup test (e ∷ es) ≡ None) × (lookup test fs ≡ None)
    by true is rest = let wrong : Some e.1 ≡ None = rw is at h in cc
    by false is rest = let later = rest (rw is at h) in (rw is later.0, later.1)

module _ {V : Type 0} where
  -- ---- another page's pairs
  pub rise_more : (pages : Pages V) (low high : ℕ) → low ≤ high → RiseFrom high pages → RiseFrom low pages
  rise_more [] low high le h = tt
  rise_more (p ∷ pages) low high le h = (omega (arith, le, h.0), h.1)

  rise_removed : (test : ℕ → Bool) (pages : Pages V) (least : ℕ) → RiseFrom least pages → RiseFrom least (remove_entry test pages)
  rise_removed test [] least h = tt
  rise_removed test (p ∷ pages) least h = by (test p.0) refl (rise_removed test pages (p.0 + 1) h.1)
    where
      by : (t : Bool) → test p.0 ≡ t → RiseFrom (p.0 + 1) (remove_entry test pages) → RiseFrom least (remove_entry test (p ∷ pages))
      by true e rest = rw e (rise_more pages least (p.0 + 1) (omega (arith, h.0)) h.1)
      by false e rest = rw e (h.0, rest)

  rise_set : (test : ℕ → Bool) (pages : Pages V) (least : ℕ) (qs : List (Name × V)) → RiseFrom least pages → RiseFrom least (set_value test pages qs)
  rise_set test [] least qs h = tt
  rise_set test (p ∷ pages) least qs h = by (test p.0) refl (rise_set test pages (p.0 + 1) qs h.1)
    where
      by : (t : Bool) → test p.0 ≡ t → RiseFrom (p.0 + 1) (set_value test pages qs) → RiseFrom least (set_value test (p ∷ pages) qs)
      by true e rest = rw e (h.0, h.1)
      by false e rest = rw e (h.0, rest)

  filled_removed : (test : ℕ → Bool) (pages : Pages V) → AllByRecursion IsFilled pages → AllByRecursion IsFilled (remove_entry test pages)
  filled_removed test [] h = tt
  filled_removed test (p ∷ pages) h = by (test p.0) refl (filled_removed test pages h.1)
    where
      by : (t : Bool) → test p.0 ≡ t → AllByRecursion IsFilled (remove_entry test pages) → AllByRecursion IsFilled (remove_entry test (p ∷ pages))
      by true e rest = rw e h.1
      by false e rest = rw e (h.0, rest)

  filled_set : (test : ℕ → Bool) (pages : Pages V) (qs : List (Name × V)) → 0 < length qs → length qs ≤ most_pairs → AllByRecursion IsFilled pages → AllByRecursion IsFilled (set_value test pages qs)
  filled_set test [] qs some few h = tt
  filled_set test (p ∷ pages) qs some few h = by (test p.0) refl (filled_set test pages qs some few h.1)
    where
      by : (t : Bool) → test p.0 ≡ t → AllByRecursion IsFilled (set_value test pages qs) → AllByRecursion IsFilled (set_value test (p ∷ pages) qs)
      by true e rest = rw e ((some, few), h.1)
      by false e rest = rw e (h.0, rest)

  pub count_cons : (p : ℕ × List (Name × V)) (pages : Pages V) → length (pairs_of (p ∷ pages)) ≡ length p.1 + length (pairs_of pages)
  count_cons p pages = length-append p.1 (pairs_of pages)

  count_removed : (test : ℕ → Bool) (pages : Pages V) (ps : List (Name × V)) → lookup test pages ≡ Some ps → length (pairs_of (remove_entry test pages)) + length ps ≡ length (pairs_of pages)
  count_removed test [] ps h = cc
  count_removed test (p ∷ pages) ps h = by (test p.0) refl (λ later. count_removed test pages ps later)
    where
      by : (t : Bool) → test p.0 ≡ t → (lookup test pages ≡ Some ps → length (pairs_of (remove_entry test pages)) + length ps ≡ length (pairs_of pages))
          → length (pairs_of (remove_entry test (p ∷ pages))) + length ps ≡ length (pairs_of (p ∷ pages))
      by true e rest = let here : Some p.1 ≡ Some ps = rw e at h in let same : p.1 ≡ ps = cc in rw e (omega (arith, count_cons p pages, ap (length {A = Name × V}) same))
      by false e rest = let later = rest (rw e at h) in rw e (omega (arith, count_cons p pages, count_cons p (remove_entry test pages), later))

  count_set : (test : ℕ → Bool) (pages : Pages V) (ps qs : List (Name × V)) → lookup test pages ≡ Some ps → length (pairs_of (set_value test pages qs)) + length ps ≡ length (pairs_of pages) + length qs
  count_set test [] ps qs h = cc
  count_set test (p ∷ pages) ps qs h = by (test p.0) refl (λ later. count_set test pages ps qs later)
    where
      by : (t : Bool) → test p.0 ≡ t → (lookup test pages ≡ Some ps → length (pairs_of (set_value test pages qs)) + length ps ≡ length (pairs_of pages) + length qs)
          → length (pairs_of (set_value test (p ∷ pages) qs)) + length ps ≡ length (pairs_of (p ∷ pages)) + length qs
      by true e rest = let here : Some p.1 ≡ Some ps = rw e at h in let same : p.1 ≡ ps = cc in rw e (omega (arith, count_cons p pages, count_cons (p.0, qs) pages, ap (length {A = Name × V}) same))
      by false e rest = let later = rest (rw e at h) in rw e (omega (arith, count_cons p pages, count_cons p (set_value test pages qs), later))

  -- the pages with other pairs under a number that is there
  pub kept_set : (pages : Pages V) (count n : ℕ) (ps qs : List (Name × V)) (new : ℕ) → ArePages pages count → lookup (nat_eq n) pages ≡ Some ps → length qs ≤ most_pairs → new + length ps ≡ count + length qs
      → ArePages (set_page pages n qs) new
  kept_set pages count n ps [] new h there few is = record {
    rise = rise_removed (nat_eq n) pages 0 h.rise;
    filled = filled_removed (nat_eq n) pages h.filled;
    count_is = omega (arith, is, h.count_is, count_removed (nat_eq n) pages ps there);
  }
  kept_set pages count n ps (q ∷ qs) new h there few is = record {
    rise = rise_set (nat_eq n) pages 0 (q ∷ qs) h.rise;
    filled = filled_set (nat_eq n) pages (q ∷ qs) (omega arith) few h.filled;
    count_is = omega (arith, is, h.count_is, count_set (nat_eq n) pages ps (q ∷ qs) there);
  }

  pub page_least : (pages : Pages V) (count n : ℕ) (ps : List (Name × V)) → ArePages pages count → lookup (nat_eq n) pages ≡ Some ps → length ps ≤ count
  page_least pages count n ps h there = omega (arith, h.count_is, count_removed (nat_eq n) pages ps there)

  -- ---- a pair more at the end
  pub pairs_pushed : (pages : Pages V) (a : Name) (v : V) → pairs_of (pushed pages a v) ≡ pairs_of pages ++ (a, v) ∷ []
  pairs_pushed [] a v = refl
  pairs_pushed (p ∷ []) a v = by (nat_lt (length p.1) most_pairs) refl
    where
      by : (t : Bool) → nat_lt (length p.1) most_pairs ≡ t → pairs_of (pushed (p ∷ []) a v) ≡ (p.1 ++ []) ++ (a, v) ∷ []
      by true e = rw e (append-nil (p.1 ++ (a, v) ∷ []) ∙ ap (λ (l : List (Name × V)). l ++ (a, v) ∷ []) (sym (append-nil p.1)))
      by false e = rw e (ap (λ (l : List (Name × V)). l ++ (a, v) ∷ []) (sym (append-nil p.1)))
  pairs_pushed (p ∷ q ∷ pages) a v = ap (λ (l : List (Name × V)). p.1 ++ l) (pairs_pushed (q ∷ pages) a v) ∙ sym (append_assoc p.1 (pairs_of (q ∷ pages)) ((a, v) ∷ []))

  rise_pushed : (p : ℕ × List (Name × V)) (pages : Pages V) (least : ℕ) (a : Name) (v : V) → RiseFrom least (p ∷ pages) → RiseFrom least (pushed (p ∷ pages) a v)
  rise_pushed p [] least a v h = by (nat_lt (length p.1) most_pairs) refl
    where
      by : (t : Bool) → nat_lt (length p.1) most_pairs ≡ t → RiseFrom least (pushed (p ∷ []) a v)
      by true e = rw e (h.0, tt)
      by false e = rw e (h.0, (omega arith, tt))
  rise_pushed p (q ∷ pages) least a v h = (h.0, rise_pushed q pages (p.0 + 1) a v h.1)

  filled_pushed : (pages : Pages V) (a : Name) (v : V) → AllByRecursion IsFilled pages → AllByRecursion IsFilled (pushed pages a v)
  filled_pushed [] a v h = ((omega arith, omega arith), tt)
  filled_pushed (p ∷ []) a v h = by (nat_lt (length p.1) most_pairs) refl
    where
      by : (t : Bool) → nat_lt (length p.1) most_pairs ≡ t → AllByRecursion IsFilled (pushed (p ∷ []) a v)
      by true e =
          let one : length (p.1 ++ (a, v) ∷ []) ≡ length p.1 + 1 = length-append p.1 ((a, v) ∷ []) in
          rw e ((omega (arith, one), omega (arith, one, ltb-true (length p.1) most_pairs e)), tt)
      by false e = rw e (h.0, ((omega arith, omega arith), tt))
  filled_pushed (p ∷ q ∷ pages) a v h = (h.0, filled_pushed (q ∷ pages) a v h.1)

  rises : (pages : Pages V) (a : Name) (v : V) → RiseFrom 0 pages → RiseFrom 0 (pushed pages a v)
  rises [] a v h = (omega arith, tt)
  rises (p ∷ pages) a v h = rise_pushed p pages 0 a v h

  pub kept_pushed : (pages : Pages V) (count new : ℕ) (a : Name) (v : V) → ArePages pages count → new ≡ count + 1 → ArePages (pushed pages a v) new
  kept_pushed pages count new a v h is = record {
    rise = rises pages a v h.rise;
    filled = filled_pushed pages a v h.filled;
    count_is = omega (arith, is, h.count_is, ap (length {A = Name × V}) (pairs_pushed pages a v), length-append (pairs_of pages) ((a, v) ∷ []));
  }

  -- where it comes to stand
  pub pushed_room : (front : Pages V) (p : ℕ × List (Name × V)) (a : Name) (v : V) → length p.1 < most_pairs → front ++ (p.0, p.1 ++ (a, v) ∷ []) ∷ [] ≡ pushed (front ++ p ∷ []) a v
  pushed_room [] p a v lt = rw (lt-ltb (length p.1) most_pairs lt) refl
  pushed_room (r ∷ []) p a v lt = ap (λ (l : Pages V). r ∷ l) (pushed_room [] p a v lt)
  pushed_room (r ∷ s ∷ front) p a v lt = ap (λ (l : Pages V). r ∷ l) (pushed_room (s ∷ front) p a v lt)

  pub pushed_full : (front : Pages V) (p : ℕ × List (Name × V)) (a : Name) (v : V) → most_pairs ≤ length p.1 → (front ++ p ∷ []) ++ (p.0 + 1, (a, v) ∷ []) ∷ [] ≡ pushed (front ++ p ∷ []) a v
  pushed_full [] p a v le = rw (le-ltb (length p.1) most_pairs le) refl
  pushed_full (r ∷ []) p a v le = ap (λ (l : Pages V). r ∷ l) (pushed_full [] p a v le)
  pushed_full (r ∷ s ∷ front) p a v le = ap (λ (l : Pages V). r ∷ l) (pushed_full (s ∷ front) p a v le)

  pub last_next : (pages : Pages V) (q : ℕ × List (Name × V)) → last_number (pages ++ q ∷ []) ≡ q.0
  last_next [] q = refl
  last_next (r ∷ []) q = refl
  last_next (r ∷ s ∷ pages) q = last_next (s ∷ pages) q

  -- ---- a name on the last page
  pub absent_last : (test : Name → Bool) (front : Pages V) (p : ℕ × List (Name × V)) → lookup test (pairs_of (front ++ p ∷ [])) ≡ None → lookup test p.1 ≡ None
  absent_last test [] p h = (lookup_front test p.1 [] h).0
  absent_last test (r ∷ front) p h = absent_last test front p (lookup_front test r.1 (pairs_of (front ++ p ∷ [])) h).1
