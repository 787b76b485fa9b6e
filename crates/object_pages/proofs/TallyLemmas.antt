use Rattle.std.proofs.Common.{◌≡◌, ◌≢◌, inl, inr, ◌<◌, ◌+◌, ◌^◌, ◌∙◌, ℕ, zero, suc, Bool, true, false, cond, nat_eq, List, [], ◌∷◌, ◌++◌, length, take, remove, refl, ap, sym, subst, arith, Option, None, Some, IsSome, IfSome, IfNone}
use Rattle.std.specs.Prelude.{slice_get, slice_set, slice_index_or, unwrap_or}
use Rattle.std.specs.Cmp.{nat_eq_equiv}
use Rattle.std.specs.Map.{lookup, keys_of, set_value}
use Rattle.std.specs.List.{IsDistinct, AllByRecursion, list_any}
use Rattle.std.proofs.lemmas.Map.{keys-set_value, lookup-set_value, lookup-remove_entry}
use Rattle.std.proofs.lemmas.Map.Keys.{IsDistinct-head, IsDistinct-tail, IsDistinct-cons, IsDistinct-push}
use Rattle.name_core.specs.declared.name.Name.{Name}
use Rattle.name_core.specs.Same.{same_name}
use Rattle.shared_pages.specs.Buckets.{Shelves, value_of, Gives}
use Rattle.shared_pages.specs.Named.{IsFirst}
use Rattle.shared_pages.proofs.BucketLemmas.{first_removed, first_value}
use Rattle.shared_pages.proofs.NameLemmas.{name_tells}
use Rattle.object_pages.proofs.PageLemmas.{number_tells}
use Rattle.object_pages.specs.Tallies.{count_on, tally_of, leaves_on}

abbrev pub Counts : Type 0
Counts = List (ℕ × ℕ)

-- ---- the counts of one name
pub no_counts : (t : Counts) → length t ≡ 0 → t ≡ []
no_counts [] none = refl
no_counts (c ∷ t) none = absurd (omega (arith, none))

pub no_place : (t : Counts) (i : ℕ) → slice_get t i ≡ None → i < length t → ⊥
no_place [] i none lt = omega (arith, lt)
no_place (c ∷ t) zero none lt = let wrong : ◌≡◌ {A = Option (ℕ × ℕ)} (Some c) None = none in cc
no_place (c ∷ t) (suc i) none lt = no_place t i none (omega (arith, lt))

-- ---- one page alone
pub one_alone : (t : Counts) (first : Option (ℕ × ℕ)) → length t ≡ 1 → first ≡ slice_get t 0 → IfSome first (λ c. t ≡ c ∷ [])
one_alone [] first one is = absurd (omega (arith, one))
one_alone (c ∷ []) first one is = rw is refl
one_alone (c ∷ d ∷ t) first one is = absurd (omega (arith, one))

pub one_is_there : (t : Counts) (first : Option (ℕ × ℕ)) → length t ≡ 1 → first ≡ slice_get t 0 → IfNone first (length t ≢ 1)
one_is_there [] first one is = absurd (omega (arith, one))
one_is_there (c ∷ t) first one is = rw is tt

pub one_distinct : (page leaves : ℕ) → IsDistinct nat_eq (keys_of ((page, leaves) ∷ []))
unfolding IsDistinct
one_distinct page leaves = (tt, tt)

-- ---- where a page stands
apart_at : (m : ℕ) (t : Counts) (i : ℕ) (e : ℕ × ℕ) → AllByRecursion (λ k. nat_eq m k ≡ false) (keys_of t) → i < length t → nat_eq m (slice_index_or t i e).0 ≡ false
apart_at m [] i e h lt = absurd (omega (arith, lt))
apart_at m (c ∷ t) zero e h lt = h.0
apart_at m (c ∷ t) (suc i) e h lt = apart_at m t i e h.1 (omega (arith, lt))

-- no page stands twice, so a place where one stands is its first
pub distinct_first : (t : Counts) (i page : ℕ) (e : ℕ × ℕ) → IsDistinct nat_eq (keys_of t) → i < length t → page ≡ (slice_index_or t i e).0 → IsFirst (nat_eq page) t i
distinct_first [] i page e distinct lt is = absurd (omega (arith, lt))
distinct_first (c ∷ t) zero page e distinct lt is = elim (number_tells page c.0) [ inl s ↦ s.0 | inr s ↦ absurd (s.1 is) ]
distinct_first (c ∷ t) (suc i) page e distinct lt is =
    let below : i < length t = omega (arith, lt) in
    let apart = apart_at c.0 t i e (IsDistinct-head nat_eq c.0 (keys_of t) distinct) below in (
      elim (number_tells page c.0) [
        | inl s ↦ absurd (elim (number_tells c.0 (slice_index_or t i e).0) [
          | inl r ↦ (let wrong : true ≡ false = sym r.0 ∙ apart in cc)
          | inr r ↦ r.1 (sym s.1 ∙ is)
        ])
        | inr s ↦ s.0
      ],
      distinct_first t i page e (IsDistinct-tail nat_eq c.0 (keys_of t) distinct) below is,
    )

-- ---- a page given another count
choice : (b : Bool) (v w : Option ℕ) → unwrap_or (cond b v w) 0 ≡ cond b (unwrap_or v 0) (unwrap_or w 0)
choice true v w = refl
choice false v w = refl

there : (t : Counts) (i page : ℕ) → IsFirst (nat_eq page) t i → IsSome (lookup (nat_eq page) t)
there [] i page h = absurd h
there (c ∷ t) zero page h = rw h refl
there (c ∷ t) (suc i) page h = rw h.0 (there t i page h.1)

set_in : (t : Counts) (i page v : ℕ) → IsFirst (nat_eq page) t i → slice_set t i (page, v) ≡ set_value (nat_eq page) t v
set_in [] i page v h = absurd h
set_in ((k, w) ∷ t) zero page v h = elim (number_tells page k) [ inl s ↦ rw s.0 (ap (λ (n : ℕ). (n, v) ∷ t) s.1) | inr s ↦ (let wrong : true ≡ false = sym h ∙ s.0 in cc) ]
set_in ((k, w) ∷ t) (suc i) page v h = rw h.0 (ap (λ (l : Counts). (k, w) ∷ l) (set_in t i page v h.1))

pub found_count : (t : Counts) (i page : ℕ) (e : ℕ × ℕ) → IsFirst (nat_eq page) t i → e ≡ slice_index_or t i e → e.1 ≡ count_on t page
found_count t i page e h at = ap (λ (o : Option ℕ). unwrap_or o 0) (first_value (nat_eq page) t i e h at)

pub none_counted : (t : Counts) (page : ℕ) → lookup (nat_eq page) t ≡ None → count_on t page ≡ 0
none_counted t page none = ap (λ (o : Option ℕ). unwrap_or o 0) none

pub count_set : (t : Counts) (i page v : ℕ) → IsFirst (nat_eq page) t i → (n : ℕ) → count_on (slice_set t i (page, v)) n ≡ cond (nat_eq page n) v (count_on t n)
count_set t i page v h n =
    ap (λ (l : Counts). count_on l n) (set_in t i page v h)
    ∙ ap (λ (o : Option ℕ). unwrap_or o 0) (lookup-set_value nat_eq_equiv (nat_eq page) (nat_eq_equiv.congr page) n v t (there t i page h))
    ∙ choice (nat_eq page n) (Some v) (lookup (nat_eq n) t)

pub distinct_set : (t : Counts) (i page v : ℕ) → IsFirst (nat_eq page) t i → IsDistinct nat_eq (keys_of t) → IsDistinct nat_eq (keys_of (slice_set t i (page, v)))
distinct_set t i page v h distinct =
    subst (λ (l : List ℕ). IsDistinct nat_eq l) (sym (ap (λ (l : Counts). keys_of l) (set_in t i page v h) ∙ keys-set_value (nat_eq page) t v)) distinct

-- ---- a page more
none_any : (t : Counts) (page : ℕ) → lookup (nat_eq page) t ≡ None → list_any (nat_eq page) (keys_of t) ≡ false
none_any [] page none = refl
none_any ((k, w) ∷ t) page none =
    elim (number_tells page k) [
      | inl s ↦ let wrong : ◌≡◌ {A = Option ℕ} (Some w) None = rw s.0 at none in cc
      | inr s ↦ rw s.0 (none_any t page (rw s.0 at none))
    ]

keys_pushed : (t : Counts) (page v : ℕ) → keys_of (t ++ (page, v) ∷ []) ≡ keys_of t ++ page ∷ []
keys_pushed [] page v = refl
keys_pushed (c ∷ t) page v = ap (λ (l : List ℕ). c.0 ∷ l) (keys_pushed t page v)

pub count_pushed : (t : Counts) (page v : ℕ) → lookup (nat_eq page) t ≡ None → (n : ℕ) → count_on (t ++ (page, v) ∷ []) n ≡ cond (nat_eq page n) v (count_on t n)
count_pushed [] page v none n =
    elim (number_tells page n) [
      | inl s ↦ elim (number_tells n page) [ inl r ↦ rw (s.0, r.0) refl | inr r ↦ absurd (r.1 (sym s.1)) ]
      | inr s ↦ elim (number_tells n page) [ inl r ↦ absurd (s.1 (sym r.1)) | inr r ↦ rw (s.0, r.0) refl ]
    ]
count_pushed ((k, w) ∷ t) page v none n =
    elim (number_tells page k) [
      | inl s ↦ let wrong : ◌≡◌ {A = Option ℕ} (Some w) None = rw s.0 at none in cc
      | inr s ↦ elim (number_tells n k) [
        | inl r ↦ elim (number_tells page n) [ inl q ↦ absurd (s.1 (q.1 ∙ r.1)) | inr q ↦ rw (r.0, q.0) refl ]
        | inr r ↦ rw r.0 (count_pushed t page v (rw s.0 at none) n)
      ]
    ]

pub distinct_pushed : (t : Counts) (page v : ℕ) → lookup (nat_eq page) t ≡ None → IsDistinct nat_eq (keys_of t) → IsDistinct nat_eq (keys_of (t ++ (page, v) ∷ []))
distinct_pushed t page v none distinct =
    subst (λ (l : List ℕ). IsDistinct nat_eq l) (sym (keys_pushed t page v)) (IsDistinct-push nat_eq_equiv (keys_of t) page distinct (none_any t page none))

-- ---- a page less
pub count_removed : (t : Counts) (i page : ℕ) → IsFirst (nat_eq page) t i → IsDistinct nat_eq (keys_of t) → (n : ℕ) → count_on (remove t i) n ≡ cond (nat_eq page n) 0 (count_on t n)
count_removed t i page h distinct n =
    ap (λ (l : Counts). count_on l n) (first_removed (nat_eq page) t i h)
    ∙ ap (λ (o : Option ℕ). unwrap_or o 0) (lookup-remove_entry nat_eq_equiv (nat_eq page) (nat_eq_equiv.congr page) n t distinct)
    ∙ choice (nat_eq page n) None (lookup (nat_eq n) t)

apart_removed : (m : ℕ) (t : Counts) (i : ℕ) → AllByRecursion (λ k. nat_eq m k ≡ false) (keys_of t) → AllByRecursion (λ k. nat_eq m k ≡ false) (keys_of (remove t i))
apart_removed m [] zero h = h
apart_removed m [] (suc i) h = h
apart_removed m (c ∷ t) zero h = h.1
apart_removed m (c ∷ t) (suc i) h = (h.0, apart_removed m t i h.1)

pub distinct_removed : (t : Counts) (i : ℕ) → IsDistinct nat_eq (keys_of t) → IsDistinct nat_eq (keys_of (remove t i))
distinct_removed [] zero h = h
distinct_removed [] (suc i) h = h
distinct_removed (c ∷ t) zero h = IsDistinct-tail nat_eq c.0 (keys_of t) h
distinct_removed (c ∷ t) (suc i) h =
    IsDistinct-cons nat_eq c.0 (keys_of (remove t i)) (apart_removed c.0 t i (IsDistinct-head nat_eq c.0 (keys_of t) h)) (distinct_removed t i (IsDistinct-tail nat_eq c.0 (keys_of t) h))

-- ---- the sum and the rest
pub added_at : (old new : ℕ → ℕ) (page v leaves : ℕ) → ((n : ℕ) → new n ≡ cond (nat_eq page n) v (old n)) → v ≡ old page + leaves → (n : ℕ) → new n ≡ old n + cond (nat_eq page n) leaves 0
added_at old new page v leaves h is n =
    elim (number_tells page n) [
      | inl s ↦ let now : new n ≡ v = h n ∙ ap (λ b. cond b v (old n)) s.0 in rw s.0 (omega (arith, now, is, ap old s.1))
      | inr s ↦ let now : new n ≡ old n = h n ∙ ap (λ b. cond b v (old n)) s.0 in rw s.0 (omega (arith, now))
    ]

pub taken_at : (old new : ℕ → ℕ) (page v leaves : ℕ) → ((n : ℕ) → new n ≡ cond (nat_eq page n) v (old n)) → v + leaves ≡ old page → (n : ℕ) → new n + cond (nat_eq page n) leaves 0 ≡ old n
taken_at old new page v leaves h is n =
    elim (number_tells page n) [
      | inl s ↦ let now : new n ≡ v = h n ∙ ap (λ b. cond b v (old n)) s.0 in rw s.0 (omega (arith, now, is, ap old s.1))
      | inr s ↦ let now : new n ≡ old n = h n ∙ ap (λ b. cond b v (old n)) s.0 in rw s.0 (omega (arith, now))
    ]

-- ---- a name given other counts
given_choice : (b : Bool) (v w : Option Counts) → unwrap_or (cond b v w) [] ≡ cond b (unwrap_or v []) (unwrap_or w [])
given_choice true v w = refl
given_choice false v w = refl

tally_given : (old new : Shelves Counts) (a : Name) (v : Option Counts) (t : Counts) → unwrap_or v [] ≡ t → Gives old a v new → (x : Name) → tally_of new x ≡ cond (same_name a x) t (tally_of old x)
tally_given old new a v t is gives x =
    ap (λ w. unwrap_or w []) (gives x) ∙ given_choice (same_name a x) v (value_of old x) ∙ ap (λ w. cond (same_name a x) w (tally_of old x)) is

pub leaves_given : (held old new : Shelves Counts) (a : Name) (v : Option Counts) (t : Counts) → unwrap_or v [] ≡ t → held ≡ old → Gives held a v new
    → (x : Name) (n : ℕ) → leaves_on new x n ≡ cond (same_name a x) (count_on t n) (leaves_on old x n)
leaves_given held old new a v t is same given x n =
    let gives : Gives old a v new = subst (λ (s : Shelves Counts). Gives s a v new) same given in
    elim (name_tells a x) [
      | inl s ↦ let e : tally_of new x ≡ t = tally_given old new a v t is gives x ∙ ap (λ b. cond b t (tally_of old x)) s.0 in rw s.0 (ap (λ l. count_on l n) e)
      | inr s ↦ let e : tally_of new x ≡ tally_of old x = tally_given old new a v t is gives x ∙ ap (λ b. cond b t (tally_of old x)) s.0 in rw s.0 (ap (λ l. count_on l n) e)
    ]

-- ---- the first entries of the counts of a name
same_pair : (m w page v : ℕ) → ◌≡◌ {A = Option (ℕ × ℕ)} (Some (m, w)) (Some (page, v)) → (m ≡ page) × (w ≡ v)
same_pair m w page v e = (ap (λ (o : Option (ℕ × ℕ)). (unwrap_or o (0, 0)).0) e, ap (λ (o : Option (ℕ × ℕ)). (unwrap_or o (0, 0)).1) e)

key_apart : (m : ℕ) (t : Counts) (i page v : ℕ) → AllByRecursion (λ k. nat_eq m k ≡ false) (keys_of t) → slice_get t i ≡ Some (page, v) → m ≢ page
key_apart m [] i page v h at = λ e. (let wrong : ◌≡◌ {A = Option (ℕ × ℕ)} None (Some (page, v)) = at in cc)
key_apart m ((k, w) ∷ t) zero page v h at = λ e. elim (number_tells m k) [ inl s ↦ (let wrong : true ≡ false = sym s.0 ∙ h.0 in cc) | inr s ↦ s.1 (e ∙ sym (same_pair k w page v at).0) ]
key_apart m ((k, w) ∷ t) (suc i) page v h at = key_apart m t i page v h.1 at

pub first_none : (t : Counts) (i page v : ℕ) → IsDistinct nat_eq (keys_of t) → slice_get t i ≡ Some (page, v) → count_on (take i t) page ≡ 0
first_none [] i page v h at = let wrong : ◌≡◌ {A = Option (ℕ × ℕ)} None (Some (page, v)) = at in cc
first_none ((m, w) ∷ t) zero page v h at = refl
first_none ((m, w) ∷ t) (suc i) page v h at =
    elim (number_tells page m) [
      | inl s ↦ absurd (key_apart m t i page v (IsDistinct-head nat_eq m (keys_of t) h) at (sym s.1))
      | inr s ↦ rw s.0 (first_none t i page v (IsDistinct-tail nat_eq m (keys_of t) h) at)
    ]

pub count_at : (t : Counts) (i page v : ℕ) → IsDistinct nat_eq (keys_of t) → slice_get t i ≡ Some (page, v) → count_on t page ≡ v
count_at [] i page v h at = let wrong : ◌≡◌ {A = Option (ℕ × ℕ)} None (Some (page, v)) = at in cc
count_at ((m, w) ∷ t) zero page v h at =
    let is = same_pair m w page v at in
    elim (number_tells page m) [ inl s ↦ rw s.0 is.1 | inr s ↦ absurd (s.1 (sym is.0)) ]
count_at ((m, w) ∷ t) (suc i) page v h at =
    elim (number_tells page m) [
      | inl s ↦ absurd (key_apart m t i page v (IsDistinct-head nat_eq m (keys_of t) h) at (sym s.1))
      | inr s ↦ rw s.0 (count_at t i page v (IsDistinct-tail nat_eq m (keys_of t) h) at)
    ]

pub first_more : (t : Counts) (i page v : ℕ) → IsDistinct nat_eq (keys_of t) → slice_get t i ≡ Some (page, v)
    → (n : ℕ) → count_on (take (suc i) t) n ≡ count_on (take i t) n + cond (nat_eq page n) v 0
first_more [] i page v h at n = let wrong : ◌≡◌ {A = Option (ℕ × ℕ)} None (Some (page, v)) = at in cc
first_more ((m, w) ∷ t) zero page v h at n =
    let same : m ≡ page = (same_pair m w page v at).0 in
    let count : w ≡ v = (same_pair m w page v at).1 in
    elim (number_tells page n) [
      | inl s ↦ elim (number_tells n m) [ inl r ↦ rw (s.0, r.0) (omega (arith, count)) | inr r ↦ absurd (r.1 (sym s.1 ∙ sym same)) ]
      | inr s ↦ elim (number_tells n m) [ inl r ↦ absurd (s.1 (sym same ∙ sym r.1)) | inr r ↦ rw (s.0, r.0) ]
    ]
first_more ((m, w) ∷ t) (suc i) page v h at n =
    let beside : m ≢ page = key_apart m t i page v (IsDistinct-head nat_eq m (keys_of t) h) at in
    elim (number_tells n m) [
      | inl r ↦ elim (number_tells page n) [ inl s ↦ absurd (beside (sym r.1 ∙ sym s.1)) | inr s ↦ rw (r.0, s.0) (omega arith) ]
      | inr r ↦ rw r.0 (first_more t i page v (IsDistinct-tail nat_eq m (keys_of t) h) at n)
    ]

-- ---- a tally joined to another
pub joined_room : (t : Counts) (i page v : ℕ) (joined self : ℕ → ℕ) → IsDistinct nat_eq (keys_of t) → slice_get t i ≡ Some (page, v)
    → ((n : ℕ) → joined n ≡ self n + count_on (take i t) n) → ((n : ℕ) → self n + count_on t n < 2 ^ 64) → joined page + v < 2 ^ 64
joined_room t i page v joined self h at so room = omega (arith, so page, room page, first_none t i page v h at, count_at t i page v h at)

pub joined_more : (t : Counts) (i page v : ℕ) (joined self new : ℕ → ℕ) → IsDistinct nat_eq (keys_of t) → slice_get t i ≡ Some (page, v)
    → ((n : ℕ) → joined n ≡ self n + count_on (take i t) n) → ((n : ℕ) → new n ≡ joined n + cond (nat_eq page n) v 0) → (n : ℕ) → new n ≡ self n + count_on (take (i + 1) t) n
joined_more t i page v joined self new h at so adds n =
    let next : i + 1 ≡ suc i = omega arith in
    omega (arith, so n, adds n, ap (λ k. count_on (take k t) n) next, first_more t i page v h at n)
