use Rattle.std.proofs.Common.{[], ◌≡◌, ◌≢◌, inl, inr, ◌∙◌, ℕ, ◌∷◌, ◌++◌, refl, ap, sym, subst, Option, None, Some}
use Rattle.std.specs.List.{IsDistinct}
use Rattle.std.specs.Map.{keys_of}
use Rattle.std.proofs.lemmas.Map.Keys.{IsDistinct-head, IsDistinct-tail}
use Rattle.name_core.specs.declared.name.Name.{Name}
use Rattle.name_core.specs.Same.{same_name}
use Rattle.object_set.specs.Objects.{Parts}
use Rattle.object_pages.specs.Entries.{Entries, object_of}
use Rattle.object_pages.specs.Tallies.{Pages}
use Rattle.shared_pages.specs.Pages.{pairs_of, page_of}
use Rattle.shared_pages.proofs.NameLemmas.{name_tells}
use Rattle.object_pages.proofs.EntryLemmas.{none_left}
use Rattle.object_pages.proofs.PageLemmas.{number_tells, page_here, page_past, pairs_cons}

-- ---- two lists, one after the other
look_back : (xs ys : Entries) (x : Name) → object_of xs x ≡ None → object_of (xs ++ ys) x ≡ object_of ys x
look_back [] ys x h = refl
look_back ((k, o) ∷ xs) ys x h =
    elim (name_tells x k) [
      | inl t ↦ let wrong : Some o ≡ None = rw t.0 at h in cc
      | inr t ↦ rw t.0 (look_back xs ys x (rw t.0 at h))
    ]

look_front : (xs ys : Entries) (x : Name) (o : Parts) → object_of xs x ≡ Some o → object_of (xs ++ ys) x ≡ Some o
look_front [] ys x o h = cc
look_front ((k, p) ∷ xs) ys x o h = elim (name_tells x k) [ inl t ↦ rw t.0 (rw t.0 at h) | inr t ↦ rw t.0 (look_front xs ys x o (rw t.0 at h)) ]

pub distinct_back : (xs ys : Entries) → IsDistinct same_name (keys_of (xs ++ ys)) → IsDistinct same_name (keys_of ys)
distinct_back [] ys h = h
distinct_back ((k, o) ∷ xs) ys h = distinct_back xs ys (IsDistinct-tail same_name k (keys_of (xs ++ ys)) h)

none_back : (xs ys : Entries) (x : Name) → object_of (xs ++ ys) x ≡ None → object_of ys x ≡ None
none_back [] ys x h = h
none_back ((k, o) ∷ xs) ys x h =
    elim (name_tells x k) [
      | inl t ↦ let wrong : Some o ≡ None = rw t.0 at h in cc
      | inr t ↦ none_back xs ys x (rw t.0 at h)
    ]

-- a name of the first list is not in the second
pub apart_back : (xs ys : Entries) (x : Name) (o : Parts) → IsDistinct same_name (keys_of (xs ++ ys)) → object_of xs x ≡ Some o → object_of ys x ≡ None
apart_back [] ys x o h there = cc
apart_back ((k, p) ∷ xs) ys x o h there =
    elim (name_tells x k) [
      | inl t ↦ ap (object_of ys) t.1 ∙ none_back xs ys k (none_left k (xs ++ ys) (IsDistinct-head same_name k (keys_of (xs ++ ys)) h))
      | inr t ↦ apart_back xs ys x o (IsDistinct-tail same_name k (keys_of (xs ++ ys)) h) (rw t.0 at there)
    ]

-- and a name of the second is not in the first
apart_front : (xs ys : Entries) (x : Name) (o : Parts) → IsDistinct same_name (keys_of (xs ++ ys)) → object_of ys x ≡ Some o → object_of xs x ≡ None
apart_front xs ys x o h there = front (object_of xs x) refl
  where
    front : (p : Option Parts) → object_of xs x ≡ p → object_of xs x ≡ None
    front None e = e
    front (Some p) e = let wrong : Some o ≡ None = sym there ∙ apart_back xs ys x p h e in cc

-- ---- the page of a name
-- a name that is not in the list is on no page
pub page_none : (pages : Pages) (x : Name) (n : ℕ) → object_of (pairs_of pages) x ≡ None → object_of (page_of pages n) x ≡ None
page_none [] x n h = refl
page_none ((m, es) ∷ pages) x n h =
    let whole : object_of (es ++ pairs_of pages) x ≡ None = ap (λ (l : Entries). object_of l x) (sym (pairs_cons m es pages)) ∙ h in
    elim (number_tells n m) [
      | inl t ↦ ap (λ (l : Entries). object_of l x) (ap (page_of ((m, es) ∷ pages)) t.1 ∙ page_here m es pages) ∙ front (object_of es x) refl whole
      | inr t ↦ ap (λ (l : Entries). object_of l x) (page_past m es pages n t.1) ∙ page_none pages x n (none_back es (pairs_of pages) x whole)
    ]
  where
    front : (o : Option Parts) → object_of es x ≡ o → object_of (es ++ pairs_of pages) x ≡ None → object_of es x ≡ None
    front None e whole = e
    front (Some o) e whole = let wrong : Some o ≡ None = sym (look_front es (pairs_of pages) x o e) ∙ whole in cc

-- the object on a page is that of the list
pub look_page : (pages : Pages) (x : Name) (n : ℕ) (o : Parts) → IsDistinct same_name (keys_of (pairs_of pages)) → object_of (page_of pages n) x ≡ Some o → object_of (pairs_of pages) x ≡ Some o
look_page [] x n o h there = cc
look_page ((m, es) ∷ pages) x n o h there =
    let all : IsDistinct same_name (keys_of (es ++ pairs_of pages)) = subst (λ (l : Entries). IsDistinct same_name (keys_of l)) (pairs_cons m es pages) h in
    ap (λ (l : Entries). object_of l x) (pairs_cons m es pages)
    ∙ elim (number_tells n m) [
      | inl t ↦ look_front es (pairs_of pages) x o (sym (ap (λ (l : Entries). object_of l x) (ap (page_of ((m, es) ∷ pages)) t.1 ∙ page_here m es pages)) ∙ there)
      | inr t ↦ let rest : object_of (pairs_of pages) x ≡ Some o = look_page pages x n o (distinct_back es (pairs_of pages) all) (sym (ap (λ (l : Entries). object_of l x) (page_past m es pages n t.1)) ∙ there) in
          look_back es (pairs_of pages) x (apart_front es (pairs_of pages) x o all rest) ∙ rest
    ]

-- and the name is on no other page
pub page_alone : (pages : Pages) (x : Name) (n k : ℕ) (o : Parts) → IsDistinct same_name (keys_of (pairs_of pages)) → object_of (page_of pages n) x ≡ Some o → k ≢ n → object_of (page_of pages k) x ≡ None
page_alone [] x n k o h there apart = refl
page_alone ((m, es) ∷ pages) x n k o h there apart =
    let all : IsDistinct same_name (keys_of (es ++ pairs_of pages)) = subst (λ (l : Entries). IsDistinct same_name (keys_of l)) (pairs_cons m es pages) h in
    elim (number_tells n m) [
      | inl t ↦ let here : object_of es x ≡ Some o = sym (ap (λ (l : Entries). object_of l x) (ap (page_of ((m, es) ∷ pages)) t.1 ∙ page_here m es pages)) ∙ there in
          ap (λ (l : Entries). object_of l x) (page_past m es pages k (λ e. apart (e ∙ sym t.1))) ∙ page_none pages x k (apart_back es (pairs_of pages) x o all here)
      | inr t ↦ let rest : object_of (page_of pages n) x ≡ Some o = sym (ap (λ (l : Entries). object_of l x) (page_past m es pages n t.1)) ∙ there in
          elim (number_tells k m) [
            | inl s ↦ ap (λ (l : Entries). object_of l x) (ap (page_of ((m, es) ∷ pages)) s.1 ∙ page_here m es pages) ∙ apart_front es (pairs_of pages) x o all (look_page pages x n o (distinct_back es (pairs_of pages) all) rest)
            | inr s ↦ ap (λ (l : Entries). object_of l x) (page_past m es pages k s.1) ∙ page_alone pages x n k o (distinct_back es (pairs_of pages) all) rest apart
          ]
    ]
