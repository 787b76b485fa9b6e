use Rattle.std.proofs.Common.{◌≡◌, inl, inr, ◌+◌, ◌∙◌, ℕ, true, false, cond, List, [], ◌∷◌, ◌++◌, map, refl, ap, sym, subst, arith, None, Some}
use Rattle.std.specs.Ordering.{nat_cmp}
use Rattle.std.specs.List.Sorted.{IsStrictlySortedBy}
use Rattle.std.specs.Map.{keys_of}
use Rattle.std.proofs.lemmas.List.{map-append}
use Rattle.std.proofs.lemmas.List.Sums.{sum_by-cons}
use Rattle.name_core.specs.declared.name.Name.{Name}
use Rattle.name_core.specs.Same.{same_name}
use Rattle.tree_forms.specs.Trees.{Tree, Leaf, Join, leaves, map_leaves}
use Rattle.comb_tree.specs.Nodes.{Member}
use Rattle.comb_tree.specs.Changes.{is_among, renamed}
use Rattle.object_set.specs.Objects.{Parts, member_names}
use Rattle.object_set.specs.Renaming.{new_name, renamed_body, renamed_object}
use Rattle.object_set.specs.declared.object.Body.{Body}
use Rattle.object_set.specs.declared.object.Body.TheVariants.{Solid, Comb}
use Rattle.object_pages.specs.Entries.{Entries, members_of, object_of}
use Rattle.object_pages.specs.Changes.{renamed_all, references_of}
use Rattle.object_pages.specs.Members.{times}
use Rattle.object_pages.specs.Tallies.{Pages, RenamesPages}
use Rattle.shared_pages.specs.Pages.{pairs_of, page_of}
use Rattle.shared_pages.proofs.NameLemmas.{name_tells}
use Rattle.object_pages.proofs.EntryLemmas.{absent_head, new_away}
use Rattle.object_pages.proofs.NamesLemmas.{not_in_append}
use Rattle.object_pages.proofs.PageLemmas.{number_tells, pairs_cons}
use Rattle.object_pages.proofs.PagesLemmas.{pairs_determined}

-- ---- an object without the name stays as it is under a renaming
times_none : (names : List Name) (a : Name) → times names a ≡ 0 → is_among names a ≡ false
times_none [] a h = refl
times_none (x ∷ names) a h =
    let parts : cond (same_name x a) 1 0 + times names a ≡ 0 = sym (sum_by-cons (λ n. cond (same_name n a) 1 0) x names) ∙ h in
    elim (name_tells x a) [
      | inl t ↦ let one : cond {A = ℕ} (same_name x a) 1 0 ≡ 1 = ap (λ b. cond {A = ℕ} b 1 0) t.0 in absurd (omega (arith, one, parts))
      | inr t ↦ elim (name_tells a x) [ inl s ↦ absurd (t.1 (sym s.1)) | inr s ↦ rw s.0 (times_none names a (omega (arith, parts))) ]
    ]

leaf_still : (a b : Name) (m : Member) → is_among (m.name ∷ []) a ≡ false → renamed a b m ≡ m
leaf_still a b m free = elim (name_tells m.name a) [
  | inl t ↦ elim (name_tells a m.name) [ inl s ↦ let wrong : true ≡ false = rw s.0 at free in cc | inr s ↦ absurd (s.1 (sym t.1)) ]
  | inr t ↦ ap (λ c. cond c (record m { name = b }) m) t.0
]

tree_still : (a b : Name) (t : Tree Member) → is_among (map (λ m. m.name) (leaves t)) a ≡ false → map_leaves (renamed a b) t ≡ t
tree_still a b (Leaf m) free = ap (λ (x : Member). Leaf x) (leaf_still a b m free)
tree_still a b (Join op l r) free =
    let parts = not_in_append (map (λ m. m.name) (leaves l)) (map (λ m. m.name) (leaves r)) a (ap (λ (ns : List Name). is_among ns a) (sym (map-append (λ m. m.name) (leaves l) (leaves r))) ∙ free) in
    ap (λ (x : Tree Member). Join op x (map_leaves (renamed a b) r)) (tree_still a b l parts.0) ∙ ap (λ (x : Tree Member). Join op l x) (tree_still a b r parts.1)

body_still : (a b : Name) (o : Body) → is_among (member_names o) a ≡ false → renamed_body a b o ≡ o
body_still a b (Solid s) free = refl
body_still a b (Comb attr None) free = refl
body_still a b (Comb attr (Some t)) free = ap (λ (x : Tree Member). Comb attr (Some x)) (tree_still a b t free)

pub object_still : (a b : Name) (o : Parts) → times (member_names o.body) a ≡ 0 → renamed_object a b o ≡ o
object_still a b o free = ap (λ (x : Body). let p : Parts = record o { body = x } in p) (body_still a b o.body (times_none (member_names o.body) a free))

-- so does a page that neither has the name nor refers to it
pub renamed_still : (es : Entries) (a b : Name) → references_of es a ≡ 0 → object_of es a ≡ None → renamed_all es a b ≡ es
renamed_still [] a b free none = refl
renamed_still ((k, o) ∷ es) a b free none =
    let rest = absent_head a k o es none in
    let parts : times (member_names o.body) a + references_of es a ≡ 0 = sym (sum_by-cons (λ (e : Name × Parts). times (members_of (Some e.1)) a) (k, o) es) ∙ free in
    ap (λ (n : Name). (n, renamed_object a b o) ∷ renamed_all es a b) (new_away a b k rest.0)
    ∙ ap (λ (p : Parts). (k, p) ∷ renamed_all es a b) (object_still a b o (omega (arith, parts)))
    ∙ ap (λ (l : Entries). (k, o) ∷ l) (renamed_still es a b (omega (arith, parts)) rest.1)

-- an edit of all pages, each for itself
pub edited_keys : (edit : Entries → Entries) (pages : Pages) → keys_of (map (λ p. (p.0, edit p.1)) pages) ≡ keys_of pages
edited_keys edit [] = refl
edited_keys edit ((n, es) ∷ pages) = ap (λ (l : List ℕ). n ∷ l) (edited_keys edit pages)

pub edited_page : (edit : Entries → Entries) → edit [] ≡ [] → (pages : Pages) (n : ℕ) → page_of (map (λ p. (p.0, edit p.1)) pages) n ≡ edit (page_of pages n)
edited_page edit none [] n = sym none
edited_page edit none ((m, es) ∷ pages) n = elim (number_tells n m) [ inl t ↦ rw t.0 | inr t ↦ rw t.0 (edited_page edit none pages n) ]

edited_pairs : (edit : Entries → Entries) → edit [] ≡ [] → ((xs ys : Entries) → edit (xs ++ ys) ≡ edit xs ++ edit ys) → (pages : Pages) → pairs_of (map (λ p. (p.0, edit p.1)) pages) ≡ edit (pairs_of pages)
edited_pairs edit none join [] = sym none
edited_pairs edit none join ((n, es) ∷ pages) =
    pairs_cons n (edit es) (map (λ p. (p.0, edit p.1)) pages)
    ∙ ap (λ (l : Entries). edit es ++ l) (edited_pairs edit none join pages)
    ∙ sym (join es (pairs_of pages))
    ∙ ap edit (sym (pairs_cons n es pages))

-- pages that each became what the edit makes of them are together what it makes of all
edited_whole : (edit : Entries → Entries) → edit [] ≡ [] → ((xs ys : Entries) → edit (xs ++ ys) ≡ edit xs ++ edit ys) → (old new : Pages)
    → IsStrictlySortedBy nat_cmp (keys_of old) → IsStrictlySortedBy nat_cmp (keys_of new) → ((n : ℕ) → page_of new n ≡ edit (page_of old n)) → pairs_of new ≡ edit (pairs_of old)
edited_whole edit none join old new rises after h =
    pairs_determined new (map (λ p. (p.0, edit p.1)) old) after (subst (λ (l : List ℕ). IsStrictlySortedBy nat_cmp l) (sym (edited_keys edit old)) rises) (λ n. h n ∙ sym (edited_page edit none old n))
    ∙ edited_pairs edit none join old

-- pages that are each renamed are renamed together
pub pages_renamed : (old new : Pages) (a b : Name) → IsStrictlySortedBy nat_cmp (keys_of old) → IsStrictlySortedBy nat_cmp (keys_of new) → RenamesPages a b old new → pairs_of new ≡ renamed_all (pairs_of old) a b
pages_renamed old new a b rises after h =
    edited_whole (λ es. renamed_all es a b) refl (map-append (λ (e : Name × Parts). (new_name a b e.0, renamed_object a b e.1))) old new rises after h
