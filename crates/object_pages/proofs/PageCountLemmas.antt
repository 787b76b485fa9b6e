use Rattle.std.proofs.Common.{[], ◌≡◌, ◌≢◌, inl, inr, ◌+◌, ◌∙◌, ℕ, false, List, ◌∷◌, map, sum, refl, ap, sym, subst, arith}
use Rattle.std.specs.Prelude.{nat_eq}
use Rattle.std.specs.List.{AllByRecursion, IsDistinct, sum_by}
use Rattle.std.specs.Map.{keys_of, values_of, remove_entry}
use Rattle.std.proofs.lemmas.List.Sums.{sum-map, sum_by-cons}
use Rattle.std.proofs.lemmas.Map.Keys.{IsDistinct-head, IsDistinct-tail}
use Rattle.name_core.specs.declared.name.Name.{Name}
use Rattle.object_pages.specs.Entries.{Entries}
use Rattle.object_pages.specs.Changes.{references_of}
use Rattle.object_pages.specs.Tallies.{Pages, count_on, AreReferences}
use Rattle.shared_pages.specs.Pages.{pairs_of, page_of}
use Rattle.object_pages.proofs.PageLemmas.{number_tells, references_pages}

-- ---- counts by number
abbrev Counts : Type 0
Counts = List (ℕ × ℕ)

abbrev total : Counts → ℕ
total counts = sum_by (λ e. e.1) counts

total_cons : (n v : ℕ) (es : Counts) → total ((n, v) ∷ es) ≡ v + total es
total_cons n v es = sum_by-cons (λ (e : ℕ × ℕ). e.1) (n, v) es

count_here : (n v : ℕ) (es : Counts) → count_on ((n, v) ∷ es) n ≡ v
count_here n v es = elim (number_tells n n) [ inl t ↦ rw t.0 | inr t ↦ absurd (t.1 refl) ]

count_past : (n v : ℕ) (es : Counts) (m : ℕ) → m ≢ n → count_on ((n, v) ∷ es) m ≡ count_on es m
count_past n v es m apart = elim (number_tells m n) [ inl t ↦ absurd (apart t.1) | inr t ↦ rw t.0 ]

no_count : (n : ℕ) (es : Counts) → AllByRecursion (λ m. nat_eq n m ≡ false) (keys_of es) → count_on es n ≡ 0
no_count n [] h = refl
no_count n ((m, v) ∷ es) h = rw h.0 (no_count n es h.1)

-- without the number n
total_apart : (es : Counts) (n : ℕ) → total es ≡ count_on es n + total (remove_entry (nat_eq n) es)
total_apart [] n = refl
total_apart ((m, v) ∷ es) n =
    elim (number_tells n m) [
      | inl t ↦ rw t.0 (total_cons m v es)
      | inr t ↦ rw t.0 (omega (arith, total_cons m v es, total_cons m v (remove_entry (nat_eq n) es), total_apart es n))
    ]

gone_at : (es : Counts) (n : ℕ) → IsDistinct nat_eq (keys_of es) → count_on (remove_entry (nat_eq n) es) n ≡ 0
gone_at [] n h = refl
gone_at ((m, v) ∷ es) n h =
    elim (number_tells n m) [
      | inl t ↦ rw t.0 (ap (count_on es) t.1 ∙ no_count m es (IsDistinct-head nat_eq m (keys_of es) h))
      | inr t ↦ rw (t.0, t.0) (gone_at es n (IsDistinct-tail nat_eq m (keys_of es) h))
    ]

gone_beside : (es : Counts) (n k : ℕ) → k ≢ n → count_on (remove_entry (nat_eq n) es) k ≡ count_on es k
gone_beside [] n k apart = refl
gone_beside ((m, v) ∷ es) n k apart =
    elim (number_tells n m) [
      | inl t ↦ rw t.0 (sym (count_past m v es k (λ e. apart (e ∙ sym t.1))))
      | inr t ↦ elim (number_tells k m) [ inl s ↦ rw (t.0, s.0) | inr s ↦ rw (t.0, s.0) (gone_beside es n k apart) ]
    ]

keys_gone : (k n : ℕ) (es : Counts) → AllByRecursion (λ m. nat_eq k m ≡ false) (keys_of es) → AllByRecursion (λ m. nat_eq k m ≡ false) (keys_of (remove_entry (nat_eq n) es))
keys_gone k n [] h = tt
keys_gone k n ((m, v) ∷ es) h = elim (number_tells n m) [ inl t ↦ rw t.0 h.1 | inr t ↦ rw t.0 (h.0, keys_gone k n es h.1) ]

distinct_gone : (n : ℕ) (es : Counts) → IsDistinct nat_eq (keys_of es) → IsDistinct nat_eq (keys_of (remove_entry (nat_eq n) es))
unfolding IsDistinct
distinct_gone n [] h = tt
distinct_gone n ((m, v) ∷ es) h = elim (number_tells n m) [ inl t ↦ rw t.0 h.1 | inr t ↦ rw t.0 (keys_gone m n es h.0, distinct_gone n es h.1) ]

-- ---- lists that give each number the same count have the same sum
nothing : (ys : Counts) → IsDistinct nat_eq (keys_of ys) → ((n : ℕ) → count_on ys n ≡ 0) → total ys ≡ 0
nothing [] distinct h = refl
nothing ((m, v) ∷ ys) distinct h =
    omega (arith, total_cons m v ys, sym (count_here m v ys) ∙ h m, nothing ys (IsDistinct-tail nat_eq m (keys_of ys) distinct) rest)
  where
    rest : (n : ℕ) → count_on ys n ≡ 0
    rest n = elim (number_tells n m) [ inl t ↦ ap (count_on ys) t.1 ∙ no_count m ys (IsDistinct-head nat_eq m (keys_of ys) distinct) | inr t ↦ sym (count_past m v ys n t.1) ∙ h n ]

same_totals : (xs ys : Counts) → IsDistinct nat_eq (keys_of xs) → IsDistinct nat_eq (keys_of ys) → ((n : ℕ) → count_on xs n ≡ count_on ys n) → total xs ≡ total ys
same_totals [] ys dx dy h = sym (nothing ys dy (λ n. sym (h n)))
same_totals ((m, v) ∷ xs) ys dx dy h =
    omega (arith, total_cons m v xs, total_apart ys m, sym (count_here m v xs) ∙ h m, same_totals xs (remove_entry (nat_eq m) ys) (IsDistinct-tail nat_eq m (keys_of xs) dx) (distinct_gone m ys dy) rest)
  where
    rest : (n : ℕ) → count_on xs n ≡ count_on (remove_entry (nat_eq m) ys) n
    rest n = elim (number_tells n m) [
      | inl t ↦ ap (count_on xs) t.1 ∙ no_count m xs (IsDistinct-head nat_eq m (keys_of xs) dx) ∙ sym (gone_at ys m dy) ∙ ap (count_on (remove_entry (nat_eq m) ys)) (sym t.1)
      | inr t ↦ sym (count_past m v xs n t.1) ∙ h n ∙ sym (gone_beside ys m n t.1)
    ]

-- ---- the references to a name, counted page by page
abbrev page_counts : Pages → Name → Counts
page_counts pages a = map (λ p. (p.0, references_of p.1 a)) pages

page_keys : (pages : Pages) (a : Name) → keys_of (page_counts pages a) ≡ keys_of pages
page_keys [] a = refl
page_keys ((n, es) ∷ pages) a = ap (λ (l : List ℕ). n ∷ l) (page_keys pages a)

page_total : (pages : Pages) (a : Name) → total (page_counts pages a) ≡ sum_by (λ p. references_of p.1 a) pages
page_total [] a = refl
page_total ((n, es) ∷ pages) a =
    total_cons n (references_of es a) (page_counts pages a) ∙ ap (λ k. references_of es a + k) (page_total pages a) ∙ sym (sum_by-cons (λ (p : ℕ × Entries). references_of p.1 a) (n, es) pages)

page_count : (pages : Pages) (a : Name) (n : ℕ) → count_on (page_counts pages a) n ≡ references_of (page_of pages n) a
page_count [] a n = refl
page_count ((m, es) ∷ pages) a n = elim (number_tells n m) [ inl t ↦ rw t.0 | inr t ↦ rw t.0 (page_count pages a n) ]

-- their sum is that of the list
pub references_counted : (pages : Pages) (a : Name) (counts : List (ℕ × ℕ)) → IsDistinct nat_eq (keys_of pages) → IsDistinct nat_eq (keys_of counts) → AreReferences pages a counts
    → sum (values_of counts) ≡ references_of (pairs_of pages) a
references_counted pages a counts distinct apart are =
    sum-map (λ (e : ℕ × ℕ). e.1) counts
    ∙ same_totals counts (page_counts pages a) apart (subst (λ (l : List ℕ). IsDistinct nat_eq l) (sym (page_keys pages a)) distinct) (λ n. are n ∙ sym (page_count pages a n))
    ∙ page_total pages a
    ∙ sym (references_pages pages a)
