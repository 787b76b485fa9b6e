use Rattle.std.proofs.Common.{◌≡◌, ◌≢◌, ◌<◌, ◌∙◌, ℕ, List, [], ◌∷◌, length, ap, arith, Some, IsSome}
use Rattle.std.specs.Prelude.{slice_set, slice_index_or}
use Rattle.std.specs.Map.{lookup, set_value, remove_entry}
use Rattle.std.proofs.lemmas.Map.{length-set_value}
use Rattle.indexmap.specs.IndexMap.{insert_entry}
use Rattle.name_core.specs.declared.name.Name.{Name}
use Rattle.name_core.specs.Same.{same_name}
use Rattle.shared_pages.specs.Pages.{Pages, page_of, set_page, put_at, RiseFrom, IsPlace}
use Rattle.shared_pages.proofs.DistinctPages.{inserted_there}
use Rattle.shared_pages.proofs.PageLemmas.{page_there, put_some, put_there, put_again}

-- ---- a page that was taken out of its place, and put back with another value of a name, or without the name
module _ {V : Type 0} where
  pub some_pairs : (es : List (Name × V)) (a : Name) → IsSome (lookup (same_name a) es) → 0 < length es
  some_pairs [] a h = cc
  some_pairs (e ∷ es) a h = omega arith

  pub set_name : (pages mid new : Pages V) (n i : ℕ) (a : Name) (v : V) (p q : ℕ × List (Name × V)) → RiseFrom 0 pages → IsPlace pages n (Some i) → IsSome (lookup (same_name a) (page_of pages n))
      → p ≡ slice_index_or pages i (0, []) → ((r : ℕ × List (Name × V)) → slice_set mid i r ≡ slice_set pages i r) → q ≡ (p.0, insert_entry same_name p.1 a v) → new ≡ slice_set mid i q
      → new ≡ set_page pages n (set_value (same_name a) (page_of pages n) v)
  set_name pages mid new n i a v p q h there on was hole now put =
      let page : p ≡ (n, page_of pages n) = was ∙ page_there pages n i (0, []) h there in
      let next : q ≡ (n, set_value (same_name a) (page_of pages n) v) =
      now ∙ ap (λ (r : ℕ × List (Name × V)). (r.0, insert_entry same_name r.1 a v)) page ∙ ap (λ (l : List (Name × V)). (n, l)) (inserted_there (page_of pages n) a v on) in
      let some : length (set_value (same_name a) (page_of pages n) v) ≢ 0 = λ e. omega (arith, e, length-set_value (same_name a) (page_of pages n) v, some_pairs (page_of pages n) a on) in
      put ∙ hole q ∙ ap (λ r. slice_set pages i r) next
      ∙ put_some pages n i (set_value (same_name a) (page_of pages n) v) some ∙ put_there pages n i (set_value (same_name a) (page_of pages n) v) h there

  pub drop_name : (pages mid new : Pages V) (n i : ℕ) (a : Name) (p : ℕ × List (Name × V)) (qs : List (Name × V)) → RiseFrom 0 pages → IsPlace pages n (Some i)
      → p ≡ slice_index_or pages i (0, []) → ((r : ℕ × List (Name × V)) → slice_set mid i r ≡ slice_set pages i r) → qs ≡ remove_entry (same_name a) p.1 → new ≡ put_at mid i n qs
      → new ≡ set_page pages n (remove_entry (same_name a) (page_of pages n))
  drop_name pages mid new n i a p qs h there was hole now put =
      let page : p ≡ (n, page_of pages n) = was ∙ page_there pages n i (0, []) h there in
      let next : qs ≡ remove_entry (same_name a) (page_of pages n) = now ∙ ap (λ (r : ℕ × List (Name × V)). remove_entry (same_name a) r.1) page in
      put ∙ put_again mid pages n i qs hole ∙ put_there pages n i qs h there ∙ ap (λ l. set_page pages n l) next
