use Rattle.std.proofs.Common.{◌≡◌, ◌≢◌, ◌⊎◌, ◌<◌, ◌∙◌, ◌++◌, ◌∷◌, [], ◌+◌, ℕ, Bool, zero, suc, true, false, true≢false, cond, length, List, Option, ap, add-one, arith, subst, sym, refl, inl, inr, Some, None, IsSome, take, drop}
use Rattle.std.specs.Prelude.{slice_get, nat_eq, unwrap_or}
use Rattle.std.specs.List.{AllByRecursion, IsDistinct}
use Rattle.std.specs.Map.{lookup, keys_of}
use Rattle.std.proofs.lemmas.Map.Keys.{IsDistinct-head, IsDistinct-tail}
use Rattle.indexmap.specs.IndexMap.{insert_entry}
use Rattle.name_core.specs.declared.name.Name.{Name}
use Rattle.name_core.specs.Same.{same_name}
use Rattle.object_set.specs.Objects.{Parts}
use Rattle.object_set.specs.Renaming.{new_name, renamed_object}
use Rattle.object_pages.specs.Entries.{Entries, object_of}
use Rattle.object_pages.specs.Changes.{appended, renamed_all}
use Rattle.object_pages.specs.Tallies.{Pages, count_on, AreReferences, RenamesPages}
use Rattle.shared_pages.specs.Pages.{pairs_of, page_of}
use Rattle.shared_pages.proofs.NameLemmas.{name_tells}
use Rattle.object_pages.proofs.EntryLemmas.{pair_at, take_one_more, renamed_all-push, next_absent}
use Rattle.object_pages.proofs.PageLemmas.{number_tells}
use Rattle.object_pages.proofs.PageEditLemmas.{renamed_still}
use Rattle.object_pages.proofs.PageNameLemmas.{page_alone}

-- ---- pairs that are renamed one by one
-- a name that is not there is inserted at the end
inserted_end : (es : Entries) (a : Name) (o : Parts) → object_of es a ≡ None → insert_entry same_name es a o ≡ appended es a o
inserted_end [] a o h = refl
inserted_end ((k, p) ∷ es) a o h =
    elim (name_tells a k) [
      | inl t ↦ let wrong : Some p ≡ None = rw t.0 at h in cc
      | inr t ↦ rw t.0 (ap (λ (l : Entries). (k, p) ∷ l) (inserted_end es a o (rw t.0 at h)))
    ]

pub inserted_next : (es : Entries) (i : ℕ) (k : Name) (o : Parts) (a b : Name) → slice_get es i ≡ Some (k, o) → IsDistinct same_name (keys_of es) → object_of es b ≡ None
    → insert_entry same_name (renamed_all (take i es) a b) (new_name a b k) (renamed_object a b o) ≡ renamed_all (take (i + 1) es) a b
inserted_next es i k o a b at distinct absent =
    let split : es ≡ take i es ++ (k, o) ∷ drop (suc i) es = pair_at es i (k, o) at in
    let D : Entries → Type 0 = λ l. IsDistinct same_name (keys_of l) in
    let N : Entries → Type 0 = λ l. object_of l b ≡ None in
    let none : object_of (renamed_all (take i es) a b) (new_name a b k) ≡ None = next_absent (take i es) k o (drop (suc i) es) a b (subst D split distinct) (subst N split absent) in
    let whole : renamed_all (take (i + 1) es) a b ≡ appended (renamed_all (take i es) a b) (new_name a b k) (renamed_object a b o) =
    rw add-one (ap (λ (l : Entries). renamed_all l a b) (take_one_more es i (k, o) at) ∙ renamed_all-push (take i es) a b k o) in
    inserted_end (renamed_all (take i es) a b) (new_name a b k) (renamed_object a b o) none ∙ sym whole

-- ---- pages that are renamed one by one
abbrev Counts : Type 0
Counts = List (ℕ × ℕ)

-- the pairs of a page after all pages with leaves are renamed, but the own one
abbrev pub user_page : Name → Name → ℕ → Counts → Pages → ℕ → Entries
user_page a b own counts pages n = cond (nat_eq own n) (page_of pages n) (cond (nat_eq (count_on counts n) 0) (page_of pages n) (renamed_all (page_of pages n) a b))

abbrev pub AreRenamed : Name → Name → ℕ → Counts → Pages → Pages → Type 0
AreRenamed a b own counts old new = (n : ℕ) → page_of new n ≡ user_page a b own counts old n

-- the counts up to a place, and with it
count_first : (m w : ℕ) (es : Counts) (n : ℕ) → m ≡ n → count_on ((m, w) ∷ es) n ≡ w
count_first m w es n e = elim (number_tells n m) [ inl t ↦ rw t.0 refl | inr t ↦ absurd (t.1 (sym e)) ]

count_later : (m w : ℕ) (es : Counts) (n : ℕ) → n ≢ m → count_on ((m, w) ∷ es) n ≡ count_on es n
count_later m w es n apart = elim (number_tells n m) [ inl t ↦ absurd (apart t.1) | inr t ↦ rw t.0 refl ]

next_other : (es : Counts) (i m v n : ℕ) → slice_get es i ≡ Some (m, v) → n ≢ m → count_on (take (suc i) es) n ≡ count_on (take i es) n
next_other [] i m v n at apart = cc
next_other ((k, w) ∷ es) zero m v n at apart = let pair : (k, w) ≡ (m, v) = cc in let same : k ≡ m = ap (λ (p : ℕ × ℕ). p.0) pair in count_later k w [] n (λ e. apart (e ∙ same))
next_other ((k, w) ∷ es) (suc i) m v n at apart = elim (number_tells n k) [ inl t ↦ rw t.0 refl | inr t ↦ rw t.0 (next_other es i m v n at apart) ]

next_here : (es : Counts) (i m v : ℕ) → slice_get es i ≡ Some (m, v) → count_on (take (suc i) es) m ≡ count_on es m
next_here [] i m v at = cc
next_here ((k, w) ∷ es) zero m v at = let pair : (k, w) ≡ (m, v) = cc in let same : k ≡ m = ap (λ (p : ℕ × ℕ). p.0) pair in count_first k w [] m same ∙ sym (count_first k w es m same)
next_here ((k, w) ∷ es) (suc i) m v at = elim (number_tells m k) [ inl t ↦ rw t.0 refl | inr t ↦ rw t.0 (next_here es i m v at) ]

key_apart : (k : ℕ) (es : Counts) (i m v : ℕ) → AllByRecursion (λ j. nat_eq k j ≡ false) (keys_of es) → slice_get es i ≡ Some (m, v) → m ≢ k
key_apart k [] i m v h at = cc
key_apart k ((j, w) ∷ es) zero m v h at = let pair : (j, w) ≡ (m, v) = cc in let same : j ≡ m = ap (λ (p : ℕ × ℕ). p.0) pair in elim (number_tells k j) [ inl t ↦ absurd (true≢false (sym t.0 ∙ h.0)) | inr t ↦ λ e. t.1 (sym e ∙ sym same) ]
key_apart k ((j, w) ∷ es) (suc i) m v h at = key_apart k es i m v h.1 at

fresh : (es : Counts) (i m v : ℕ) → IsDistinct nat_eq (keys_of es) → slice_get es i ≡ Some (m, v) → count_on (take i es) m ≡ 0
fresh [] i m v h at = cc
fresh ((k, w) ∷ es) zero m v h at = refl
fresh ((k, w) ∷ es) (suc i) m v h at =
    count_later k w (take i es) m (key_apart k es i m v (IsDistinct-head nat_eq k (keys_of es) h) at) ∙ fresh es i m v (IsDistinct-tail nat_eq k (keys_of es) h) at

-- the pages after one more place
same_by : (a b : Name) (own : ℕ) (xs ys : Counts) (pages : Pages) (n : ℕ) → (own ≡ n) ⊎ (count_on xs n ≡ count_on ys n) → user_page a b own xs pages n ≡ user_page a b own ys pages n
same_by a b own xs ys pages n (inl e) = elim (number_tells own n) [ inl t ↦ rw t.0 refl | inr t ↦ absurd (t.1 e) ]
same_by a b own xs ys pages n (inr e) = ap (λ (k : ℕ). cond (nat_eq own n) (page_of pages n) (cond (nat_eq k 0) (page_of pages n) (renamed_all (page_of pages n) a b))) e

pub passed_next : (a b : Name) (own : ℕ) (counts : Counts) (i m v : ℕ) (old now : Pages) → slice_get counts i ≡ Some (m, v) → IsDistinct nat_eq (keys_of counts) → (m ≡ own) ⊎ (count_on counts m ≡ 0)
    → AreRenamed a b own (take i counts) old now → AreRenamed a b own (take (i + 1) counts) old now
passed_next a b own counts i m v old now at distinct free h n = rw add-one (h n ∙ same_by a b own (take i counts) (take (suc i) counts) old n (by (number_tells n m)))
  where
    here : n ≡ m → (m ≡ own) ⊎ (count_on counts m ≡ 0) → (own ≡ n) ⊎ (count_on (take i counts) n ≡ count_on (take (suc i) counts) n)
    here e (inl f) = inl (sym (e ∙ f))
    here e (inr f) = inr (ap (count_on (take i counts)) e ∙ fresh counts i m v distinct at ∙ sym f ∙ sym (next_here counts i m v at) ∙ ap (count_on (take (suc i) counts)) (sym e))

    by : ((nat_eq n m ≡ true) × (n ≡ m)) ⊎ ((nat_eq n m ≡ false) × (n ≢ m)) → (own ≡ n) ⊎ (count_on (take i counts) n ≡ count_on (take (suc i) counts) n)
    by (inl t) = here t.1 free
    by (inr t) = inr (sym (next_other counts i m v n at t.1))

-- a page that was not met yet is as it was
pub not_met : (a b : Name) (own : ℕ) (counts : Counts) (i m v : ℕ) (old now : Pages) → slice_get counts i ≡ Some (m, v) → IsDistinct nat_eq (keys_of counts)
    → AreRenamed a b own (take i counts) old now → page_of now m ≡ page_of old m
not_met a b own counts i m v old now at distinct h =
    h m ∙ ap (λ (k : ℕ). cond (nat_eq own m) (page_of old m) (cond (nat_eq k 0) (page_of old m) (renamed_all (page_of old m) a b))) (fresh counts i m v distinct at) ∙ both (nat_eq own m)
  where
    both : (t : Bool) → cond t (page_of old m) (page_of old m) ≡ page_of old m
    both true = refl
    both false = refl

pub renamed_next : (a b : Name) (own : ℕ) (counts : Counts) (i m v : ℕ) (old now new : Pages) → slice_get counts i ≡ Some (m, v) → IsDistinct nat_eq (keys_of counts) → m ≢ own → 0 < count_on counts m
    → AreRenamed a b own (take i counts) old now → ((n : ℕ) → page_of new n ≡ cond (nat_eq m n) (renamed_all (page_of now m) a b) (page_of now n)) → AreRenamed a b own (take (i + 1) counts) old new
renamed_next a b own counts i m v old now new at distinct apart some h made n = rw add-one (made n ∙ by (number_tells m n))
  where
    here : user_page a b own (take (suc i) counts) old m ≡ renamed_all (page_of old m) a b
    here = elim (number_tells own m) [
      | inl t ↦ absurd (apart (sym t.1))
      | inr t ↦ elim (number_tells (count_on (take (suc i) counts) m) 0) [ inl s ↦ absurd (omega (arith, some, s.1, next_here counts i m v at)) | inr s ↦ rw (t.0, s.0) refl ]
    ]

    by : ((nat_eq m n ≡ true) × (m ≡ n)) ⊎ ((nat_eq m n ≡ false) × (m ≢ n)) → cond (nat_eq m n) (renamed_all (page_of now m) a b) (page_of now n) ≡ user_page a b own (take (suc i) counts) old n
    by (inl t) =
        ap (λ c. cond c (renamed_all (page_of now m) a b) (page_of now n)) t.0
        ∙ ap (λ (es : Entries). renamed_all es a b) (not_met a b own counts i m v old now at distinct h)
        ∙ sym here
        ∙ ap (user_page a b own (take (suc i) counts) old) t.1
    by (inr t) =
        ap (λ c. cond c (renamed_all (page_of now m) a b) (page_of now n)) t.0
        ∙ h n
        ∙ same_by a b own (take i counts) (take (suc i) counts) old n (inr (sym (next_other counts i m v n at (λ e. t.1 (sym e)))))

-- ---- a page that has a pair
pub page_there : (pages : Pages) (n : ℕ) → 0 < length (page_of pages n) → IsSome (lookup (nat_eq n) pages)
page_there pages n some = by (lookup (nat_eq n) pages) some
  where
    by : (o : Option Entries) → 0 < length (unwrap_or o []) → IsSome o
    by None lt = absurd (omega (arith, lt))
    by (Some es) lt = refl

-- ---- all pages
pub beside : (own n : ℕ) (here there : Entries) → own ≢ n → cond (nat_eq own n) here there ≡ there
beside own n here there apart = elim (number_tells own n) [ inl t ↦ absurd (apart t.1) | inr t ↦ rw t.0 refl ]

alone : (pages : Pages) (a : Name) (own n : ℕ) → IsDistinct same_name (keys_of (pairs_of pages)) → IsSome (object_of (page_of pages own) a) → own ≢ n → object_of (page_of pages n) a ≡ None
alone pages a own n distinct there apart = by (object_of (page_of pages own) a) refl there
  where
    by : (o : Option Parts) → object_of (page_of pages own) a ≡ o → IsSome o → object_of (page_of pages n) a ≡ None
    by None e some = cc
    by (Some o) e some = page_alone pages a own n o distinct e (λ same. apart (sym same))

-- the own page is renamed, then those with leaves, and there is nothing to rename on the others
pub all_renamed : (pages begun renamed : Pages) (own : ℕ) (counts : Counts) (a b : Name) → IsDistinct same_name (keys_of (pairs_of pages)) → IsSome (object_of (page_of pages own) a) → AreReferences pages a counts
    → ((n : ℕ) → page_of begun n ≡ cond (nat_eq own n) (renamed_all (page_of pages own) a b) (page_of pages n)) → AreRenamed a b own counts begun renamed → RenamesPages a b pages renamed
all_renamed pages begun renamed own counts a b distinct there are first rest n = rest n ∙ by (number_tells own n)
  where
    other : own ≢ n → nat_eq own n ≡ false → user_page a b own counts begun n ≡ renamed_all (page_of pages n) a b
    other apart past =
        let same : page_of begun n ≡ page_of pages n = first n ∙ beside own n (renamed_all (page_of pages own) a b) (page_of pages n) apart in
        elim (number_tells (count_on counts n) 0) [
          | inl s ↦ rw (past, s.0) (same ∙ sym (renamed_still (page_of pages n) a b (sym (are n) ∙ s.1) (alone pages a own n distinct there apart)))
          | inr s ↦ rw (past, s.0) (ap (λ (es : Entries). renamed_all es a b) same)
        ]

    by : ((nat_eq own n ≡ true) × (own ≡ n)) ⊎ ((nat_eq own n ≡ false) × (own ≢ n)) → user_page a b own counts begun n ≡ renamed_all (page_of pages n) a b
    by (inl t) = rw t.0 (first n ∙ ap (λ c. cond c (renamed_all (page_of pages own) a b) (page_of pages n)) t.0 ∙ ap (λ (k : ℕ). renamed_all (page_of pages k) a b) t.1)
    by (inr t) = other t.1 t.0
