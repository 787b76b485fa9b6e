use Rattle.std.proofs.Common.{◌≡◌, ◌≢◌, ◌⊎◌, inl, inr, ◌<◌, ◌≤◌, ◌+◌, ◌∙◌, ℕ, zero, suc, Bool, true, false, List, [], ◌∷◌, ◌++◌, length, drop, remove, nat_eq, nat_lt, refl, ap, sym, subst, arith, ne_eqb, Option, None, Some, IsSome}
use Rattle.std.specs.Prelude.{slice_get, slice_set, slice_index_or}
use Rattle.std.specs.Option.{unwrap_or}
use Rattle.std.specs.Map.{lookup}
use Rattle.std.proofs.lemmas.Bool.{cases_eq}
use Rattle.std.proofs.lemmas.List.{append_assoc, append-nil, length-append}
use Rattle.name_core.specs.declared.name.Name.{Name}
use Rattle.shared_pages.specs.Pages.{Pages, most_pairs, pairs_of, page_of, set_page, pushed, last_number, RiseFrom, IsPlace, AreFrom, StandsFrom}
use Rattle.shared_pages.specs.Groups.{Groups, pages_in, group_at, firsts, group_put, AreFilled}
use Rattle.shared_pages.proofs.DistinctPages.{set_front, set_back, removed_front, removed_back, found_front, found_back}
use Rattle.shared_pages.proofs.KeptPages.{rise_more, lookup_front}
use Rattle.shared_pages.proofs.PageLemmas.{cases_lt, least_at, lookup_at, none_by}
use Rattle.shared_pages.proofs.PlaceLemmas.{none_there, some_there}

module _ {V : Type 0} where
  -- ---- numbers rise over two lists, one after the other
  pub rise_front : (xs ys : Pages V) (least : ℕ) → RiseFrom least (xs ++ ys) → RiseFrom least xs
  rise_front [] ys least h = tt
  rise_front (p ∷ xs) ys least h = (h.0, rise_front xs ys (p.0 + 1) h.1)

  pub rise_back : (xs ys : Pages V) (least : ℕ) → RiseFrom least (xs ++ ys) → RiseFrom least ys
  rise_back [] ys least h = h
  rise_back (p ∷ xs) ys least h = rise_more ys least (p.0 + 1) (omega (arith, h.0)) (rise_back xs ys (p.0 + 1) h.1)

  rise_after : (xs ys : Pages V) (least i : ℕ) (p : ℕ × List (Name × V)) → RiseFrom least (xs ++ ys) → slice_get xs i ≡ Some p → RiseFrom (p.0 + 1) ys
  rise_after [] ys least i p h at = cc
  rise_after (q ∷ xs) ys least zero p h at =
      let same : q ≡ p = cc in
      let less : p.0 + 1 ≤ q.0 + 1 = omega (arith, ap (λ (r : ℕ × List (Name × V)). r.0) same) in
      rise_more ys (p.0 + 1) (q.0 + 1) less (rise_back xs ys (q.0 + 1) h.1)
  rise_after (q ∷ xs) ys least (suc i) p h at = rise_after xs ys (q.0 + 1) i p h.1 at

  pub rise_group : (groups : Groups V) (least g : ℕ) → RiseFrom least (pages_in groups) → RiseFrom least (group_at groups g)
  rise_group [] least g h = tt
  rise_group (x ∷ groups) least zero h = rise_front x (pages_in groups) least h
  rise_group (x ∷ groups) least (suc g) h = rise_group groups least g (rise_back x (pages_in groups) least h)

  pub firsts_rise : (groups : Groups V) (least : ℕ) → RiseFrom least (pages_in groups) → AreFilled groups → RiseFrom least (firsts groups)
  firsts_rise [] least h filled = tt
  firsts_rise ([] ∷ groups) least h filled = absurd (omega (arith, filled.0))
  firsts_rise ((p ∷ x) ∷ groups) least h filled = (h.0, firsts_rise groups (p.0 + 1) (rise_back x (pages_in groups) (p.0 + 1) h.1) filled.1)

  -- ---- the first page of a group
  pub filled_at : (groups : Groups V) (g : ℕ) (x : Pages V) → AreFilled groups → Some x ≡ slice_get groups g → 0 < length x
  filled_at [] g x filled at = cc
  filled_at (y ∷ groups) zero x filled at = let same : x ≡ y = cc in omega (arith, filled.0, ap (λ (l : Pages V). length l) same)
  filled_at (y ∷ groups) (suc g) x filled at = filled_at groups g x filled.1 at

  head_at : (x : Pages V) (p d : ℕ × List (Name × V)) → slice_get x 0 ≡ Some p → slice_index_or x 0 d ≡ p
  head_at [] p d at = cc
  head_at (q ∷ x) p d at = cc

  pub first_there : (groups : Groups V) (g n : ℕ) (x : Pages V) → Some x ≡ slice_get groups g → IsPlace x n (Some 0) → IsPlace (firsts groups) n (Some g)
  first_there [] g n x at there = cc
  first_there (y ∷ groups) zero n x at there =
      let same : x ≡ y = cc in
      (there.0, ap (λ (q : ℕ × List (Name × V)). Some q) (head_at y (n, there.0) (0, []) (ap (λ (l : Pages V). slice_get l 0) (sym same) ∙ there.1)))
  first_there (y ∷ groups) (suc g) n x at there = first_there groups g n x at there

  first_get : (groups : Groups V) (g : ℕ) (p : ℕ × List (Name × V)) → slice_get (group_at groups g) 0 ≡ Some p → slice_get (firsts groups) g ≡ Some p
  first_get [] g p at = cc
  first_get (x ∷ groups) zero p at = ap (λ (q : ℕ × List (Name × V)). Some q) (head_at x p (0, []) at)
  first_get (x ∷ groups) (suc g) p at = first_get groups g p at

  -- ---- a number that no group has
  pub none_under : (pages : Pages V) (n least : ℕ) → n < least → RiseFrom least pages → lookup (nat_eq n) pages ≡ None
  none_under [] n least lt h = refl
  none_under (p ∷ pages) n least lt h = rw (ne_eqb n p.0 (λ e. omega (arith, lt, h.0, e))) (none_under pages n (p.0 + 1) (omega (arith, lt, h.0)) h.1)

  all_none : (groups : Groups V) (n : ℕ) → ((k : ℕ) → lookup (nat_eq n) (group_at groups k) ≡ None) → lookup (nat_eq n) (pages_in groups) ≡ None
  all_none [] n h = refl
  all_none (x ∷ groups) n h = found_back (nat_eq n) x (pages_in groups) (h 0) ∙ all_none groups n (λ k. h (suc k))

  below_later : (groups : Groups V) (least k g i : ℕ) (p q : ℕ × List (Name × V)) → RiseFrom least (pages_in groups) → k < g → slice_get (group_at groups k) i ≡ Some p → slice_get (group_at groups g) 0 ≡ Some q → p.0 < q.0
  below_later [] least k g i p q h lt at later = cc
  below_later (x ∷ groups) least k zero i p q h lt at later = absurd (omega (arith, lt))
  below_later (x ∷ groups) least zero (suc g) i p q h lt at later =
      let less : p.0 + 1 ≤ q.0 = least_at (group_at groups g) (p.0 + 1) 0 q (rise_group groups (p.0 + 1) g (rise_after x (pages_in groups) least i p h at)) later in
      omega (arith, less)
  below_later (x ∷ groups) least (suc k) (suc g) i p q h lt at later = below_later groups least k g i p q (rise_back x (pages_in groups) least h) (omega (arith, lt)) at later

  -- groups that begin behind the number
  above : (groups : Groups V) (n k : ℕ) → RiseFrom 0 (pages_in groups) → ((q : ℕ × List (Name × V)) → slice_get (firsts groups) k ≡ Some q → n + 1 ≤ q.0) → lookup (nat_eq n) (group_at groups k) ≡ None
  above groups n k h behind = by (group_at groups k) (rise_group groups 0 k h) (λ q at. behind q (first_get groups k q at))
    where
      by : (x : Pages V) → RiseFrom 0 x → ((q : ℕ × List (Name × V)) → slice_get x 0 ≡ Some q → n + 1 ≤ q.0) → lookup (nat_eq n) x ≡ None
      by [] rise le = refl
      by (p ∷ x) rise le = let less : n + 1 ≤ p.0 = le p refl in none_under (p ∷ x) n (n + 1) (omega arith) (less, rise.1)

  pub none_above : (groups : Groups V) (n : ℕ) → RiseFrom 0 (pages_in groups) → StandsFrom (firsts groups) (n + 1) 0 → lookup (nat_eq n) (pages_in groups) ≡ None
  none_above groups n h stands = all_none groups n (λ k. above groups n k h (λ q at. stands.2 k q at (omega arith)))

  -- the group in which the number would stand does not have it
  pub none_else : (groups : Groups V) (n g : ℕ) → RiseFrom 0 (pages_in groups) → StandsFrom (firsts groups) (n + 1) (g + 1) → (q : ℕ × List (Name × V)) → slice_get (group_at groups g) 0 ≡ Some q
      → lookup (nat_eq n) (group_at groups g) ≡ None → lookup (nat_eq n) (pages_in groups) ≡ None
  none_else groups n g h stands q first none =
      let least : q.0 < n + 1 = stands.1 g q (first_get groups g q first) (omega arith) in
      all_none groups n (λ k. elim (cases_lt k g) [
        | inl lt ↦ none_by (group_at groups k) n (λ i p at e. omega (arith, e, least, below_later groups 0 k g i p q h lt at first))
        | inr le ↦ elim (cases_eq k g) [
          | inl e ↦ ap (λ (m : ℕ). lookup (nat_eq n) (group_at groups m)) e ∙ none
          | inr apart ↦ above groups n k h (λ p at. stands.2 k p at (omega (arith, le, apart)))
        ]
      ])

  pub firsts_length : (groups : Groups V) → length (firsts groups) ≡ length groups
  firsts_length [] = refl
  firsts_length (x ∷ groups) = omega (arith, firsts_length groups)

  first_past : (groups : Groups V) (k : ℕ) (q : ℕ × List (Name × V)) → length groups ≤ k → slice_get (firsts groups) k ≢ Some q
  first_past [] k q le at = cc
  first_past (x ∷ groups) zero q le at = omega (arith, le)
  first_past (x ∷ groups) (suc k) q le at = first_past groups k q (omega (arith, le)) at

  pub none_from : (groups : Groups V) (n high : ℕ) → high ≡ length groups → AreFrom (firsts groups) n high
  none_from groups n high is k q at le = absurd (first_past groups k q (omega (arith, is, le)) at)

  within : (groups : Groups V) (g : ℕ) (x : Pages V) → Some x ≡ slice_get groups g → g < length groups
  within [] g x at = cc
  within (y ∷ groups) zero x at = omega arith
  within (y ∷ groups) (suc g) x at = omega (arith, within groups g x at)

  pub get_within : (groups : Groups V) (g : ℕ) → None ≡ slice_get groups g → length groups ≤ g
  get_within [] g none = omega arith
  get_within (y ∷ groups) zero none = cc
  get_within (y ∷ groups) (suc g) none = omega (arith, get_within groups g none)

  pub group_rises : (groups : Groups V) (g : ℕ) (x : Pages V) → RiseFrom 0 (pages_in groups) → Some x ≡ slice_get groups g → RiseFrom 0 x
  group_rises groups g x h at = subst (λ (l : Pages V). RiseFrom 0 l) (sym (some_there [] groups g x at)) (rise_group groups 0 g h)

  pub spot_some : (groups : Groups V) (g n i : ℕ) (x : Pages V) → Some x ≡ slice_get groups g → IsPlace x n (Some i) → (g < length groups) × IsPlace (group_at groups g) n (Some i)
  spot_some groups g n i x at there = (within groups g x at, subst (λ (l : Pages V). IsPlace l n (Some i)) (some_there [] groups g x at) there)

  pub spot_none : (groups : Groups V) (g n upto : ℕ) (x : Pages V) → RiseFrom 0 (pages_in groups) → AreFilled groups → StandsFrom (firsts groups) (n + 1) upto → upto ≡ g + 1
      → Some x ≡ slice_get groups g → lookup (nat_eq n) x ≡ None → lookup (nat_eq n) (pages_in groups) ≡ None
  spot_none groups g n upto x h filled stands is at none = by x (filled_at groups g x filled at) (some_there [] groups g x at) none
    where
      by : (y : Pages V) → 0 < length y → y ≡ group_at groups g → lookup (nat_eq n) y ≡ None → lookup (nat_eq n) (pages_in groups) ≡ None
      by [] some same none = absurd (omega (arith, some))
      by (q ∷ y) some same none =
          none_else groups n g h (subst (λ (m : ℕ). StandsFrom (firsts groups) (n + 1) m) is stands) q (ap (λ (l : Pages V). slice_get l 0) (sym same))
          (ap (λ (l : Pages V). lookup (nat_eq n) l) (sym same) ∙ none)

  -- ---- a group that has the number
  found_least : (groups : Groups V) (n g i l : ℕ) → IsPlace (group_at groups g) n (Some i) → RiseFrom l (pages_in groups) → l ≤ n
  found_least groups n g i l there h = least_at (group_at groups g) l i (n, there.0) (rise_group groups l g h) there.1

  none_before : (xs ys : Pages V) (least n : ℕ) → RiseFrom least (xs ++ ys) → ((l : ℕ) → RiseFrom l ys → l ≤ n) → lookup (nat_eq n) xs ≡ None
  none_before [] ys least n h later = refl
  none_before (p ∷ xs) ys least n h later =
      let less : p.0 + 1 ≤ n = later (p.0 + 1) (rise_back xs ys (p.0 + 1) h.1) in
      rw (ne_eqb n p.0 (λ e. omega (arith, e, less))) (none_before xs ys (p.0 + 1) n h.1 later)

  some_is : (o : Option (List (Name × V))) (ps : List (Name × V)) → o ≡ Some ps → IsSome o
  some_is None ps e = cc
  some_is (Some qs) ps e = refl

  has : (x : Pages V) (least n i : ℕ) → RiseFrom least x → (there : IsPlace x n (Some i)) → lookup (nat_eq n) x ≡ Some there.0
  has x least n i h there = lookup_at x least n i there.0 h there.1

  pub lookup_in : (groups : Groups V) (least n g i : ℕ) → RiseFrom least (pages_in groups) → IsPlace (group_at groups g) n (Some i) → lookup (nat_eq n) (group_at groups g) ≡ lookup (nat_eq n) (pages_in groups)
  lookup_in [] least n g i h there = refl
  lookup_in (x ∷ groups) least n zero i h there =
      let here : lookup (nat_eq n) x ≡ Some there.0 = has x least n i (rise_front x (pages_in groups) least h) there in
      here ∙ sym (found_front (nat_eq n) x (pages_in groups) there.0 here)
  lookup_in (x ∷ groups) least n (suc g) i h there =
      lookup_in groups least n g i (rise_back x (pages_in groups) least h) there
      ∙ sym (found_back (nat_eq n) x (pages_in groups) (none_before x (pages_in groups) least n h (λ l rise. found_least groups n g i l there rise)))

  pub page_in : (groups : Groups V) (n g i : ℕ) → RiseFrom 0 (pages_in groups) → IsPlace (group_at groups g) n (Some i) → page_of (group_at groups g) n ≡ page_of (pages_in groups) n
  page_in groups n g i h there = ap (λ o. unwrap_or o []) (lookup_in groups 0 n g i h there)

  -- a group that was taken out of its place
  pub taken : (groups : Groups V) (n g i : ℕ) (x : Pages V) → RiseFrom 0 (pages_in groups) → IsPlace (group_at groups g) n (Some i) → x ≡ group_at groups g
      → RiseFrom 0 x × IsPlace x n (Some i) × (page_of x n ≡ page_of (pages_in groups) n)
  taken groups n g i x h there was = (
    subst (λ (l : Pages V). RiseFrom 0 l) (sym was) (rise_group groups 0 g h),
    subst (λ (l : Pages V). IsPlace l n (Some i)) (sym was) there,
    ap (λ (l : Pages V). page_of l n) was ∙ page_in groups n g i h there,
  )

  pub no_spot : (pages : Pages V) (n : ℕ) → lookup (nat_eq n) pages ≡ None → ¬ (IsSome (lookup (nat_eq n) pages))
  no_spot pages n none = by (lookup (nat_eq n) pages) none
    where
      by : (o : Option (List (Name × V))) → o ≡ None → ¬ (IsSome o)
      by None e h = cc
      by (Some ps) e h = cc

  -- ---- its pages after an edit
  set_both : (x y : Pages V) (n : ℕ) (qs : List (Name × V)) → IsSome (lookup (nat_eq n) x) → set_page x n qs ++ y ≡ set_page (x ++ y) n qs
  set_both x y n [] some = sym (removed_front (nat_eq n) x y some)
  set_both x y n (q ∷ qs) some = sym (set_front (nat_eq n) x y (q ∷ qs) some)

  set_later : (x y : Pages V) (n : ℕ) (qs : List (Name × V)) → lookup (nat_eq n) x ≡ None → x ++ set_page y n qs ≡ set_page (x ++ y) n qs
  set_later x y n [] none = sym (removed_back (nat_eq n) x y none)
  set_later x y n (q ∷ qs) none = sym (set_back (nat_eq n) x y (q ∷ qs) none)

  set_in : (groups : Groups V) (least n g i : ℕ) (qs : List (Name × V)) → RiseFrom least (pages_in groups) → g < length groups → IsPlace (group_at groups g) n (Some i)
      → pages_in (slice_set groups g (set_page (group_at groups g) n qs)) ≡ set_page (pages_in groups) n qs
  set_in [] least n g i qs h lt there = absurd (omega (arith, lt))
  set_in (x ∷ groups) least n zero i qs h lt there =
      let here : lookup (nat_eq n) x ≡ Some there.0 = has x least n i (rise_front x (pages_in groups) least h) there in
      set_both x (pages_in groups) n qs (some_is (lookup (nat_eq n) x) there.0 here)
  set_in (x ∷ groups) least n (suc g) i qs h lt there =
      ap (λ (l : Pages V). x ++ l) (set_in groups least n g i qs (rise_back x (pages_in groups) least h) (omega (arith, lt)) there)
      ∙ set_later x (pages_in groups) n qs (none_before x (pages_in groups) least n h (λ l rise. found_least groups n g i l there rise))

  -- a group that is emptied is dropped
  removed_in : (groups : Groups V) (g : ℕ) → g < length groups → pages_in (remove groups g) ≡ pages_in (slice_set groups g [])
  removed_in [] g lt = absurd (omega (arith, lt))
  removed_in (x ∷ groups) zero lt = refl
  removed_in (x ∷ groups) (suc g) lt = ap (λ (l : Pages V). x ++ l) (removed_in groups g (omega (arith, lt)))

  put_in : (groups : Groups V) (g : ℕ) (x : Pages V) → g < length groups → pages_in (group_put groups g x) ≡ pages_in (slice_set groups g x)
  put_in groups g [] lt = removed_in groups g lt
  put_in groups g (p ∷ x) lt = refl

  filled_removed : (groups : Groups V) (g : ℕ) → AreFilled groups → AreFilled (remove groups g)
  filled_removed [] zero h = tt
  filled_removed [] (suc g) h = tt
  filled_removed (x ∷ groups) zero h = h.1
  filled_removed (x ∷ groups) (suc g) h = (h.0, filled_removed groups g h.1)

  filled_set : (groups : Groups V) (g : ℕ) (x : Pages V) → 0 < length x → AreFilled groups → AreFilled (slice_set groups g x)
  filled_set [] g x some h = tt
  filled_set (y ∷ groups) zero x some h = (some, h.1)
  filled_set (y ∷ groups) (suc g) x some h = (h.0, filled_set groups g x some h.1)

  filled_put : (groups : Groups V) (g : ℕ) (x : Pages V) → AreFilled groups → AreFilled (group_put groups g x)
  filled_put groups g [] h = filled_removed groups g h
  filled_put groups g (p ∷ x) h = filled_set groups g (p ∷ x) (omega arith) h

  -- what stands where a group is put makes no difference
  removed_over : (groups : Groups V) (g : ℕ) (x : Pages V) → remove (slice_set groups g x) g ≡ remove groups g
  removed_over [] g x = refl
  removed_over (y ∷ groups) zero x = refl
  removed_over (y ∷ groups) (suc g) x = ap (λ (l : Groups V). y ∷ l) (removed_over groups g x)

  put_over : (mid groups : Groups V) (g : ℕ) (x : Pages V) → ((r : Pages V) → slice_set mid g r ≡ slice_set groups g r) → group_put mid g x ≡ group_put groups g x
  put_over mid groups g [] hole = sym (removed_over mid g []) ∙ ap (λ (l : Groups V). remove l g) (hole []) ∙ removed_over groups g []
  put_over mid groups g (p ∷ x) hole = hole (p ∷ x)

  pub put_none : (groups : Groups V) (g : ℕ) (x : Pages V) → length x ≡ 0 → remove groups g ≡ group_put groups g x
  put_none groups g [] is = refl
  put_none groups g (p ∷ x) is = absurd (omega (arith, is))

  pub put_some : (groups : Groups V) (g : ℕ) (x : Pages V) → length x ≢ 0 → slice_set groups g x ≡ group_put groups g x
  put_some groups g [] some = absurd (some refl)
  put_some groups g (p ∷ x) some = refl

  -- ---- a group that was taken out of its place, and put back with other pairs under a number
  pub edited : (groups mid new : Groups V) (n g i : ℕ) (x y : Pages V) (qs : List (Name × V)) → RiseFrom 0 (pages_in groups) → AreFilled groups → g < length groups → IsPlace (group_at groups g) n (Some i)
      → x ≡ group_at groups g → ((r : Pages V) → slice_set mid g r ≡ slice_set groups g r) → y ≡ set_page x n qs → new ≡ group_put mid g y → (pages_in new ≡ set_page (pages_in groups) n qs) × AreFilled new
  edited groups mid new n g i x y qs h filled lt there was hole now put =
      let is : new ≡ group_put groups g (set_page (group_at groups g) n qs) = put ∙ put_over mid groups g y hole ∙ ap (λ (l : Pages V). group_put groups g l) (now ∙ ap (λ (l : Pages V). set_page l n qs) was) in (
        ap (λ (l : Groups V). pages_in l) is ∙ put_in groups g (set_page (group_at groups g) n qs) lt ∙ set_in groups 0 n g i qs h lt there,
        subst (λ (l : Groups V). AreFilled l) (sym is) (filled_put groups g (set_page (group_at groups g) n qs) filled),
      )

-- ---- a place among all pages or pairs
module _ {A : Type 0} where
  get_front : (es fs : List A) (i : ℕ) → i < length es → slice_get (es ++ fs) i ≡ slice_get es i
  get_front [] fs i lt = absurd (omega (arith, lt))
  get_front (e ∷ es) fs zero lt = refl
  get_front (e ∷ es) fs (suc i) lt = get_front es fs i (omega (arith, lt))

  get_back : (es fs : List A) (i k : ℕ) → i ≡ length es + k → slice_get (es ++ fs) i ≡ slice_get fs k
  get_back [] fs i k is = ap (λ m. slice_get fs m) (omega (arith, is))
  get_back (e ∷ es) fs zero k is = absurd (omega (arith, is))
  get_back (e ∷ es) fs (suc i) k is = get_back es fs i k (omega (arith, is))

module _ {V : Type 0} where
  drop_in : (groups : Groups V) (i : ℕ) → pages_in (drop i groups) ≡ group_at groups i ++ pages_in (drop (suc i) groups)
  drop_in [] zero = refl
  drop_in [] (suc i) = refl
  drop_in (x ∷ groups) zero = refl
  drop_in (x ∷ groups) (suc i) = drop_in groups i

  pub pages_beyond : (groups : Groups V) (i : ℕ) → length groups ≤ i → (group_at groups i ≡ []) × (pages_in (drop i groups) ≡ [])
  pages_beyond [] zero le = (refl, refl)
  pages_beyond [] (suc i) le = (refl, refl)
  pages_beyond (x ∷ groups) zero le = absurd (omega (arith, le))
  pages_beyond (x ∷ groups) (suc i) le = pages_beyond groups i (omega (arith, le))

  pub pairs_append : (xs ys : Pages V) → pairs_of (xs ++ ys) ≡ pairs_of xs ++ pairs_of ys
  pairs_append [] ys = refl
  pairs_append (p ∷ xs) ys = ap (λ (l : List (Name × V)). p.1 ++ l) (pairs_append xs ys) ∙ sym (append_assoc p.1 (pairs_of xs) (pairs_of ys))

  drop_pairs_in : (groups : Groups V) (i : ℕ) → pairs_of (pages_in (drop i groups)) ≡ pairs_of (group_at groups i) ++ pairs_of (pages_in (drop (suc i) groups))
  drop_pairs_in groups i = ap (λ (l : Pages V). pairs_of l) (drop_in groups i) ∙ pairs_append (group_at groups i) (pages_in (drop (suc i) groups))

  pub pair_here : (groups : Groups V) (i rest : ℕ) → rest < length (pairs_of (group_at groups i)) → slice_get (pairs_of (pages_in (drop i groups))) rest ≡ slice_get (pairs_of (group_at groups i)) rest
  pair_here groups i rest lt = ap (λ l. slice_get l rest) (drop_pairs_in groups i) ∙ get_front (pairs_of (group_at groups i)) (pairs_of (pages_in (drop (suc i) groups))) rest lt

  pub pair_later : (groups : Groups V) (i j rest left : ℕ) → j ≡ suc i → rest ≡ length (pairs_of (group_at groups i)) + left
      → slice_get (pairs_of (pages_in (drop i groups))) rest ≡ slice_get (pairs_of (pages_in (drop j groups))) left
  pair_later groups i j rest left next is =
      ap (λ l. slice_get l rest) (drop_pairs_in groups i) ∙ get_back (pairs_of (group_at groups i)) (pairs_of (pages_in (drop (suc i) groups))) rest left is
      ∙ ap (λ m. slice_get (pairs_of (pages_in (drop m groups))) left) (sym next)

  pub front_pair : (xs ys all : Pages V) (i : ℕ) → xs ++ ys ≡ all → i < length (pairs_of xs) → slice_get (pairs_of xs) i ≡ slice_get (pairs_of all) i
  front_pair xs ys all i is lt = sym (ap (λ (l : Pages V). slice_get (pairs_of l) i) (sym is) ∙ ap (λ l. slice_get l i) (pairs_append xs ys) ∙ get_front (pairs_of xs) (pairs_of ys) i lt)

  pub back_pair : (xs ys all : Pages V) (i k : ℕ) → xs ++ ys ≡ all → i ≡ length (pairs_of xs) + k → slice_get (pairs_of ys) k ≡ slice_get (pairs_of all) i
  back_pair xs ys all i k is at = sym (ap (λ (l : Pages V). slice_get (pairs_of l) i) (sym is) ∙ ap (λ l. slice_get l i) (pairs_append xs ys) ∙ get_back (pairs_of xs) (pairs_of ys) i k at)

  -- how many pairs stand before some pages, told by looking for a place past the last pair
  pub before_is : (xs ys : Pages V) (count page rest : ℕ) → count ≡ length (pairs_of (xs ++ ys)) → (page < length ys → count < length (pairs_of ys)) → (length ys ≤ page → count ≡ length (pairs_of ys) + rest) → rest ≡ length (pairs_of xs)
  before_is xs ys count page rest is here past =
      let sum : length (pairs_of (xs ++ ys)) ≡ length (pairs_of xs) + length (pairs_of ys) = ap (λ l. length l) (pairs_append xs ys) ∙ length-append (pairs_of xs) (pairs_of ys) in
      elim (cases_lt page (length ys)) [
        | inl lt ↦ absurd (omega (arith, here lt, is, sum))
        | inr le ↦ omega (arith, past le, is, sum)
      ]

  pub group_there : (groups : Groups V) (g : ℕ) (x : Pages V) → Some x ≡ slice_get groups g → x ≡ group_at groups g
  group_there groups g x at = some_there [] groups g x at

  pub group_past : (groups : Groups V) (g : ℕ) → None ≡ slice_get groups g → [] ≡ group_at groups g
  group_past groups g none = none_there [] groups g none

-- ---- a pair more at the end
module _ {V : Type 0} where
  pub pages_push : (groups : Groups V) (x : Pages V) → pages_in (groups ++ x ∷ []) ≡ pages_in groups ++ x
  pages_push [] x = append-nil x
  pages_push (y ∷ groups) x = ap (λ (l : Pages V). y ++ l) (pages_push groups x) ∙ sym (append_assoc y (pages_in groups) x)

  pub one_pushed : (groups new : Groups V) (x : Pages V) → new ≡ groups ++ x ∷ [] → pages_in new ≡ pages_in groups ++ x
  one_pushed groups new x is = ap (λ (l : Groups V). pages_in l) is ∙ pages_push groups x

  pub one_closed : (groups new : Groups V) (x z : Pages V) (p : ℕ × List (Name × V)) → new ≡ groups ++ x ∷ [] → z ≡ x ++ p ∷ [] → pages_in new ++ p ∷ [] ≡ pages_in groups ++ z
  one_closed groups new x z p is all =
      ap (λ (l : Pages V). l ++ p ∷ []) (one_pushed groups new x is) ∙ append_assoc (pages_in groups) x (p ∷ []) ∙ ap (λ (l : Pages V). pages_in groups ++ l) (sym all)

  pub filled_more : (groups new : Groups V) (x : Pages V) → new ≡ groups ++ x ∷ [] → 0 < length x → AreFilled groups → AreFilled new
  filled_more groups new x is some h = subst (λ (l : Groups V). AreFilled l) (sym is) (by groups h)
    where
      by : (l : Groups V) → AreFilled l → AreFilled (l ++ x ∷ [])
      by [] h = (some, tt)
      by (y ∷ l) h = (h.0, by l h.1)

  pub none_open : (x y : Pages V) → length y ≡ 0 → x ≡ x ++ y
  none_open x [] is = sym (append-nil x)
  none_open x (p ∷ y) is = absurd (omega (arith, is))

  -- the last group and those before it, or none where there is none
  abbrev pub IsCut : Groups V → Groups V → Pages V → Type 0
  IsCut old mid x = (old ≡ mid ++ x ∷ []) ⊎ ((old ≡ []) × (mid ≡ []) × (x ≡ []))

  pub cut_pages : (old mid : Groups V) (x : Pages V) → IsCut old mid x → pages_in old ≡ pages_in mid ++ x
  cut_pages old mid x cut = elim cut [
    | inl is ↦ one_pushed mid old x is
    | inr none ↦ ap (λ (l : Groups V). pages_in l) none.0 ∙ sym (λ j. pages_in (none.1 j) ++ none.2 j)
  ]

  pub absent_behind : (xs x all : Pages V) (test : Name → Bool) → xs ++ x ≡ all → lookup test (pairs_of all) ≡ None → lookup test (pairs_of x) ≡ None
  absent_behind xs x all test is none =
      (lookup_front test (pairs_of xs) (pairs_of x)
      (ap (λ l. lookup test l) (sym (ap (λ (l : Pages V). pairs_of l) (sym is) ∙ pairs_append xs x)) ∙ none)).1

  filled_front : (mid : Groups V) (x : Pages V) → AreFilled (mid ++ x ∷ []) → AreFilled mid
  filled_front [] x h = tt
  filled_front (y ∷ mid) x h = (h.0, filled_front mid x h.1)

  filled_last : (mid : Groups V) (x : Pages V) → AreFilled (mid ++ x ∷ []) → 0 < length x
  filled_last [] x h = h.0
  filled_last (y ∷ mid) x h = filled_last mid x h.1

  pub filled_cut : (old mid : Groups V) (x : Pages V) → IsCut old mid x → AreFilled old → AreFilled mid
  filled_cut old mid x cut h = elim cut [
    | inl is ↦ filled_front mid x (subst (λ (l : Groups V). AreFilled l) is h)
    | inr none ↦ subst (λ (l : Groups V). AreFilled l) (sym none.1) tt
  ]

  pushed_front : (xs ys : Pages V) (a : Name) (v : V) → 0 < length ys → xs ++ pushed ys a v ≡ pushed (xs ++ ys) a v
  pushed_front [] ys a v some = refl
  pushed_front (p ∷ []) [] a v some = absurd (omega (arith, some))
  pushed_front (p ∷ []) (q ∷ ys) a v some = refl
  pushed_front (p ∷ r ∷ xs) ys a v some = ap (λ (l : Pages V). p ∷ l) (pushed_front (r ∷ xs) ys a v some)

  -- the last group is there, where one is
  pub cut_some : (old mid : Groups V) (x : Pages V) → IsCut old mid x → AreFilled old → (mid ≡ []) ⊎ (0 < length x)
  cut_some old mid x cut h = elim cut [
    | inl is ↦ inr (filled_last mid x (subst (λ (l : Groups V). AreFilled l) is h))
    | inr none ↦ inl none.1
  ]

  pub pushed_behind : (groups : Groups V) (x : Pages V) (a : Name) (v : V) → (groups ≡ []) ⊎ (0 < length x) → pages_in groups ++ pushed x a v ≡ pushed (pages_in groups ++ x) a v
  pushed_behind groups x a v some = elim some [
    | inl none ↦ subst (λ (l : Groups V). pages_in l ++ pushed x a v ≡ pushed (pages_in l ++ x) a v) (sym none) refl
    | inr there ↦ pushed_front (pages_in groups) x a v there
  ]

  pub pushed_some : (pages : Pages V) (a : Name) (v : V) → 0 < length (pushed pages a v)
  pushed_some [] a v = omega arith
  pushed_some (p ∷ []) a v = by (nat_lt (length p.1) most_pairs) refl
    where
      by : (t : Bool) → nat_lt (length p.1) most_pairs ≡ t → 0 < length (pushed (p ∷ []) a v)
      by true e = rw e (omega arith)
      by false e = rw e (omega arith)
  pushed_some (p ∷ q ∷ pages) a v = omega arith

  pub last_in : (xs ys : Pages V) → 0 < length ys → last_number (xs ++ ys) ≡ last_number ys
  last_in [] ys some = refl
  last_in (p ∷ []) [] some = absurd (omega (arith, some))
  last_in (p ∷ []) (q ∷ ys) some = refl
  last_in (p ∷ r ∷ xs) ys some = last_in (r ∷ xs) ys some

  -- a pair more behind all pages, of which the last ones were taken
  pub pushed_list : (all : Pages V) (mid : Groups V) (x y new : Pages V) (a : Name) (v : V) → pages_in mid ++ x ≡ all → (mid ≡ []) ⊎ (0 < length x) → y ≡ pushed x a v → new ≡ pages_in mid ++ y
      → (new ≡ pushed all a v) × (last_number y ≡ last_number new)
  pushed_list all mid x y new a v is some put now = (
    now ∙ ap (λ (l : Pages V). pages_in mid ++ l) put ∙ pushed_behind mid x a v some ∙ ap (λ (l : Pages V). pushed l a v) is,
    sym (ap (λ (l : Pages V). last_number l) now ∙ last_in (pages_in mid) y (omega (arith, pushed_some x a v, ap (λ (l : Pages V). length l) put))),
  )
