use Rattle.std.proofs.Common.{[], ◌≡◌, ◌⊎◌, inl, inr, ◌<◌, ◌≤◌, ◌+◌, ◌∙◌, ℕ, zero, suc, true, List, ◌∷◌, ◌++◌, take, length, refl, ap, sym, subst, arith, Option, None, Some}
use Rattle.std.specs.Prelude.{slice_get, nat_eq, unwrap_or}
use Rattle.std.proofs.lemmas.Bool.{cases_eq}
use Rattle.std.specs.Option.{option_map}
use Rattle.std.specs.List.{Contains, IsDistinct}
use Rattle.std.specs.Map.{keys_of}
use Rattle.name_core.specs.declared.name.Name.{Name}
use Rattle.comb_tree.specs.Changes.{is_among}
use Rattle.object_set.specs.Objects.{Parts, member_names}
use Rattle.shared_pages.specs.Pages.{pairs_of, page_of}
use Rattle.shared_pages.proofs.NameLemmas.{name_tells}
use Rattle.object_pages.specs.Entries.{Entries, Refers, HoldsUsers}
use Rattle.object_pages.specs.Changes.{references_of}
use Rattle.object_pages.specs.Members.{times}
use Rattle.object_pages.specs.Tallies.{Pages, count_on, AreReferences}
use Rattle.object_pages.proofs.EntryLemmas.{take_one_more}
use Rattle.object_pages.proofs.PageLemmas.{number_tells, users_by_page}
use Rattle.object_pages.proofs.ReferenceLemmas.{free_by_count, none_named}

-- ---- lists that hold the users of a name
pub users_more : (es : Entries) (a : Name) (few more : List Name) → HoldsUsers es a few → ((x : Name) → is_among few x ≡ true → is_among more x ≡ true) → HoldsUsers es a more
users_more es a few more h within x c = within x (h x c)

pub users_none : (es : Entries) (a : Name) (users : List Name) → references_of es a ≡ 0 → HoldsUsers es a users
users_none es a users h x c = absurd (free_by_count es a h x c)

-- an object that does not name a
pub not_user : (names : List Name) (a x : Name) (users : List Name) (n : ℕ) → n ≡ times names a → ¬ (0 < n) → Contains names a → is_among users x ≡ true
not_user names a x users n is none c = absurd (none_named names a (omega (arith, is, none)) c)

-- one pair more
refers_push : (es : Entries) (k : Name) (o : Parts) (x a : Name) → Refers (es ++ (k, o) ∷ []) x a → Refers es x a ⊎ ((x ≡ k) × Contains (member_names o.body) a)
refers_push [] k o x a c = elim (name_tells x k) [ inl t ↦ inr (t.1, rw t.0 at c) | inr t ↦ inl (rw t.0 at c) ]
refers_push ((j, p) ∷ es) k o x a c =
    elim (name_tells x j) [
      | inl t ↦ let here : Contains (member_names p.body) a = rw t.0 at c in rw t.0 (inl here)
      | inr t ↦ let later : Refers (es ++ (k, o) ∷ []) x a = rw t.0 at c in rw t.0 (refers_push es k o x a later)
    ]

pub users_next : (es : Entries) (i : ℕ) (k : Name) (o : Parts) (a : Name) (users : List Name) → slice_get es i ≡ Some (k, o) → HoldsUsers (take i es) a users → (Contains (member_names o.body) a → is_among users k ≡ true)
    → HoldsUsers (take (i + 1) es) a users
users_next es i k o a users is before here x c =
    let next : i + 1 ≡ suc i = omega arith in
    let whole : take (i + 1) es ≡ take i es ++ (k, o) ∷ [] = ap (λ n. take n es) next ∙ take_one_more es i (k, o) is in
    elim (refers_push (take i es) k o x a (subst (λ (l : Entries). Refers l x a) whole c)) [
      | inl r ↦ before x r
      | inr r ↦ ap (is_among users) r.0 ∙ here r.1
    ]

-- ---- page by page, by the counts that are kept
number_at : (counts : List (ℕ × ℕ)) (n : ℕ) → (count_on counts n ≡ 0) ⊎ ((i : ℕ) × (i < length counts) × (option_map (λ c. c.0) (slice_get counts i) ≡ Some n))
number_at [] n = inl refl
number_at ((m, v) ∷ counts) n =
    elim (number_tells n m) [
      | inl t ↦ inr (0, omega arith, ap Some (sym t.1))
      | inr t ↦ elim (number_at counts n) [ inl none ↦ inl (rw t.0 none) | inr r ↦ inr (suc r.0, omega (arith, r.1), r.2) ]
    ]

pub users_counted : (pages : Pages) (a : Name) (counts : List (ℕ × ℕ)) (users : List Name) → IsDistinct nat_eq (keys_of pages) → AreReferences pages a counts
    → ((i n : ℕ) → i < length counts → option_map (λ c. c.0) (slice_get counts i) ≡ Some n → HoldsUsers (page_of pages n) a users) → HoldsUsers (pairs_of pages) a users
users_counted pages a counts users distinct are each = users_by_page pages a users distinct one
  where
    one : (n : ℕ) → HoldsUsers (page_of pages n) a users
    one n = elim (number_at counts n) [ inl none ↦ users_none (page_of pages n) a users (sym (are n) ∙ none) | inr r ↦ each r.0 n r.1 r.2 ]

pub past_end : {A : Type 0} (xs : List A) (i : ℕ) → slice_get xs i ≡ None → length xs ≤ i
past_end [] i h = omega arith
past_end (x ∷ xs) zero h = cc
past_end (x ∷ xs) (suc i) h = omega (arith, past_end xs i h)

-- the number at a place
abbrev pub NumberAt : List (ℕ × ℕ) → ℕ → ℕ → Type 0
NumberAt counts i n = option_map (λ c. c.0) (slice_get counts i) ≡ Some n

pub numbers_step : (pages : Pages) (a : Name) (counts : List (ℕ × ℕ)) (p m : ℕ) (old new : List Name) → ((i n : ℕ) → i < p → NumberAt counts i n → HoldsUsers (page_of pages n) a old) → Some m ≡ option_map (λ c. c.0) (slice_get counts p)
    → HoldsUsers (page_of pages m) a new → ((x : Name) → is_among old x ≡ true → is_among new x ≡ true) → (i n : ℕ) → i < p + 1 → NumberAt counts i n → HoldsUsers (page_of pages n) a new
numbers_step pages a counts p m old new before is here within i n lt at =
    elim (cases_eq i p) [
      | inl e ↦
          let same : Some m ≡ Some n = is ∙ ap (λ j. option_map (λ c. c.0) (slice_get counts j)) (sym e) ∙ at in
          let number : m ≡ n = cc in
          subst (λ k. HoldsUsers (page_of pages k) a new) number here
      | inr apart ↦ users_more (page_of pages n) a old new (before i n (omega (arith, lt, apart)) at) within
    ]

pub no_number : (counts : List (ℕ × ℕ)) (p : ℕ) → None ≡ option_map (λ c. c.0) (slice_get counts p) → slice_get counts p ≡ None
no_number counts p h = by (slice_get counts p) h
  where
    by : (o : Option (ℕ × ℕ)) → None ≡ option_map (λ c. c.0) o → o ≡ None
    by None e = refl
    by (Some c) e = cc

pub users_untold : (pages : Pages) (a : Name) (counts : Option (List (ℕ × ℕ))) (users : List Name) → IsDistinct nat_eq (keys_of pages) → AreReferences pages a (unwrap_or counts []) → None ≡ counts → HoldsUsers (pairs_of pages) a users
users_untold pages a counts users distinct are none =
    users_counted pages a [] users distinct (subst (λ (o : Option (List (ℕ × ℕ))). AreReferences pages a (unwrap_or o [])) (sym none) are) (λ i n lt. absurd (omega (arith, lt)))
