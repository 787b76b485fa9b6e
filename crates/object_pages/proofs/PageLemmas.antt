use Rattle.std.proofs.Common.{[], ◌≡◌, ◌≢◌, ◌⊎◌, inl, inr, ◌+◌, ◌∙◌, ℕ, true, false, List, ◌∷◌, ◌++◌, refl, ap, sym, subst, arith, Option, None, Some, IsSome}
use Rattle.std.specs.Prelude.{nat_eq}
use Rattle.std.specs.List.{Contains, AllByRecursion, IsDistinct, sum_by}
use Rattle.std.specs.Map.{keys_of}
use Rattle.std.proofs.lemmas.Bool.Decides.{eqb_tells}
use Rattle.std.proofs.lemmas.List.Sums.{sum_by-append, sum_by-cons}
use Rattle.std.proofs.lemmas.Map.Keys.{IsDistinct-head, IsDistinct-tail}
use Rattle.name_core.specs.declared.name.Name.{Name}
use Rattle.object_set.specs.Objects.{Parts, member_names}
use Rattle.object_pages.specs.Entries.{Entries, members_of, object_of, Refers, HoldsUsers}
use Rattle.object_pages.specs.Changes.{appended, replaced, removed, references_of}
use Rattle.object_pages.specs.Members.{times}
use Rattle.object_pages.specs.Tallies.{Pages}
use Rattle.shared_pages.specs.Pages.{pairs_of, page_of}
use Rattle.shared_pages.proofs.NameLemmas.{name_tells}
use Rattle.object_pages.proofs.EntryLemmas.{replace_there}
use Rattle.object_pages.proofs.ReferenceLemmas.{references_apart, apart_replaced}

-- ---- pages by number
pub number_tells : (n m : ℕ) → ((nat_eq n m ≡ true) × (n ≡ m)) ⊎ ((nat_eq n m ≡ false) × (n ≢ m))
number_tells n m = eqb_tells n m

pub page_here : (n : ℕ) (es : Entries) (pages : Pages) → page_of ((n, es) ∷ pages) n ≡ es
page_here n es pages = elim (number_tells n n) [ inl t ↦ rw t.0 | inr t ↦ absurd (t.1 refl) ]

pub page_past : (m : ℕ) (es : Entries) (pages : Pages) (n : ℕ) → n ≢ m → page_of ((m, es) ∷ pages) n ≡ page_of pages n
page_past m es pages n apart = elim (number_tells n m) [ inl t ↦ absurd (apart t.1) | inr t ↦ rw t.0 ]

pub no_page : (n : ℕ) (pages : Pages) → AllByRecursion (λ m. nat_eq n m ≡ false) (keys_of pages) → page_of pages n ≡ []
no_page n [] h = refl
no_page n ((m, es) ∷ pages) h = rw h.0 (no_page n pages h.1)

pub pairs_cons : (n : ℕ) (es : Entries) (pages : Pages) → pairs_of ((n, es) ∷ pages) ≡ es ++ pairs_of pages
pairs_cons n es pages = refl

-- ---- the references
pub references_append : (xs ys : Entries) (a : Name) → references_of (xs ++ ys) a ≡ references_of xs a + references_of ys a
references_append xs ys a = sum_by-append (λ (e : Name × Parts). times (members_of (Some e.1)) a) xs ys

-- a name's references are those within each page, together
pub references_pages : (pages : Pages) (a : Name) → references_of (pairs_of pages) a ≡ sum_by (λ p. references_of p.1 a) pages
references_pages [] a = refl
references_pages ((n, es) ∷ pages) a =
    ap (λ (l : Entries). references_of l a) (pairs_cons n es pages)
    ∙ references_append es (pairs_of pages) a
    ∙ ap (λ k. references_of es a + k) (references_pages pages a)
    ∙ sym (sum_by-cons (λ (p : ℕ × Entries). references_of p.1 a) (n, es) pages)

-- what an edit of a page does to those within it; `references_apart` says it of `removed`, and `moved` of `renamed_all`
pub references_appended : (es : Entries) (a : Name) (o : Parts) (x : Name) → references_of (appended es a o) x ≡ references_of es x + times (member_names o.body) x
references_appended es a o x = omega (arith, references_append es ((a, o) ∷ []) x)

pub references_replaced : (es : Entries) (a : Name) (o : Parts) (x : Name) → IsSome (object_of es a) → references_of (replaced es a o) x + times (members_of (object_of es a)) x ≡ references_of es x + times (member_names o.body) x
references_replaced es a o x there =
    let rest : references_of (removed (replaced es a o) a) x ≡ references_of (removed es a) x = ap (λ (l : Entries). references_of l x) (apart_replaced es a o) in
    let own : times (members_of (object_of (replaced es a o) a)) x ≡ times (member_names o.body) x = ap (λ (p : Option Parts). times (members_of p) x) (replace_there es a o there) in
    omega (arith, references_apart es a x, references_apart (replaced es a o) a x, rest, own)

-- ---- the page of a name
pub look_append : (xs ys : Entries) (x : Name) → (object_of (xs ++ ys) x ≡ object_of xs x) ⊎ ((object_of xs x ≡ None) × (object_of (xs ++ ys) x ≡ object_of ys x))
look_append [] ys x = inr (refl, refl)
look_append ((k, o) ∷ xs) ys x = elim (name_tells x k) [ inl t ↦ inl (rw t.0) | inr t ↦ rw t.0 (look_append xs ys x) ]

-- an object that is there is there on some page, as it is
pub on_page : (P : Option Parts → Type 0) → ¬ (P None) → (pages : Pages) (x : Name) → IsDistinct nat_eq (keys_of pages) → P (object_of (pairs_of pages) x) → (n : ℕ) × P (object_of (page_of pages n) x)
on_page P not_none [] x distinct h = absurd (not_none h)
on_page P not_none ((m, es) ∷ pages) x distinct h =
    let whole : P (object_of (es ++ pairs_of pages) x) = subst (λ (l : Entries). P (object_of l x)) (pairs_cons m es pages) h in
    elim (look_append es (pairs_of pages) x) [
      | inl e ↦ (m, subst (λ (l : Entries). P (object_of l x)) (sym (page_here m es pages)) (subst P e whole))
      | inr e ↦ later (on_page P not_none pages x (IsDistinct-tail nat_eq m (keys_of pages) distinct) (subst P e.1 whole))
    ]
  where
    apart : (n : ℕ) → P (object_of (page_of pages n) x) → n ≢ m
    apart n there same =
        not_none (subst (λ (l : Entries). P (object_of l x)) (ap (page_of pages) same ∙ no_page m pages (IsDistinct-head nat_eq m (keys_of pages) distinct)) there)

    later : (n : ℕ) × P (object_of (page_of pages n) x) → (n : ℕ) × P (object_of (page_of ((m, es) ∷ pages) n) x)
    later r = (r.0, subst (λ (l : Entries). P (object_of l x)) (sym (page_past m es pages r.0 (apart r.0 r.1))) r.1)

pub refers_on_page : (pages : Pages) (x a : Name) → IsDistinct nat_eq (keys_of pages) → Refers (pairs_of pages) x a → (n : ℕ) × Refers (page_of pages n) x a
refers_on_page pages x a distinct h = on_page (λ p. Contains (members_of p) a) (λ c. absurd (omega (arith, c.1))) pages x distinct h

-- the names that refer to a, page by page
pub users_by_page : (pages : Pages) (a : Name) (users : List Name) → IsDistinct nat_eq (keys_of pages) → ((n : ℕ) → HoldsUsers (page_of pages n) a users) → HoldsUsers (pairs_of pages) a users
users_by_page pages a users distinct h x c = let r = refers_on_page pages x a distinct c in h r.0 x r.1
