use Rattle.std.proofs.Common.{[], ◌≡◌, ◌≢◌, inl, inr, ◌<◌, ◌≤◌, ◌+◌, ◌∙◌, ℕ, false, true≢false, cond, List, ◌∷◌, length, refl, ap, sym, subst, arith, Option, None, Some, IsSome}
use Rattle.std.specs.Prelude.{nat_eq, unwrap_or}
use Rattle.std.specs.Option.{option_map}
use Rattle.std.specs.List.{IsDistinct, AllByRecursion, sum}
use Rattle.std.specs.Map.{lookup, keys_of, values_of}
use Rattle.std.proofs.lemmas.List.Sums.{count_by-le-length}
use Rattle.std.proofs.lemmas.Map.{keys-set_value}
use Rattle.std.proofs.lemmas.Map.Keys.{IsDistinct-from_apart, IsDistinct-cons, IsDistinct-head, IsDistinct-tail}
use Rattle.name_core.specs.declared.name.Name.{Name}
use Rattle.name_core.specs.Same.{same_name}
use Rattle.object_set.specs.Objects.{Parts, member_names}
use Rattle.object_set.specs.Renaming.{new_name, renamed_object}
use Rattle.shared_pages.specs.Buckets.{Shelves, value_of, Gives}
use Rattle.shared_pages.specs.Pages.{pairs_of, page_of}
use Rattle.shared_pages.proofs.NameLemmas.{name_tells}
use Rattle.shared_pages.proofs.DistinctPages.{page_value}
use Rattle.object_pages.specs.Entries.{Entries, object_of, members_of, most_objects, AreFew}
use Rattle.object_pages.specs.Changes.{appended, replaced, removed, renamed_all, references_of}
use Rattle.object_pages.specs.Keeping.{StandsOn, ArePlaces, AreCounted, IsListed}
use Rattle.object_pages.specs.Members.{times}
use Rattle.object_pages.specs.Tallies.{Pages, count_on, leaves_on, AreReferences, Exchanges, MovesCounts, ChangesPage, RenamesPages}
use Rattle.object_pages.proofs.EntryLemmas.{other, absent_head, renamed_apart, push_here, push_other, length-replaced, none_left, length-removed, length-renamed_all, rename_gone}
use Rattle.object_pages.proofs.EntryLemmas.{rename_kept as rename_others}
use Rattle.object_pages.proofs.PageCountLemmas.{references_counted}
use Rattle.object_pages.proofs.PageLemmas.{number_tells, references_append, references_appended, references_replaced}
use Rattle.object_pages.proofs.PageNameLemmas.{page_none}
use Rattle.object_pages.proofs.ReferenceLemmas.{references_few, references_there, references_apart, few_appended, few_replaced, few_removed, few_renamed, moved}

-- ---- the page of a name
-- the page whose number is kept for a name has it
pub stands_there : (pages : Pages) (a : Name) (place : Option ℕ) (n : ℕ) → StandsOn pages a place → Some n ≡ place → IsSome (object_of (page_of pages n) a)
stands_there pages a place n stands is = subst (λ p. StandsOn pages a p) (sym is) stands

none_some : {P : Type 0} (o : Option Parts) → o ≡ None → IsSome o → P
none_some None e h = cc
none_some (Some p) e h = cc

-- a name that is there has one
pub has_place : (pages : Pages) (a : Name) (place : Option ℕ) → StandsOn pages a place → IsSome (object_of (pairs_of pages) a) → IsSome place
has_place pages a (Some n) stands there = refl
has_place pages a None stands there = none_some (object_of (pairs_of pages) a) stands there

-- the object of a name on its page is that of the list
pub page_object : (pages : Pages) (a : Name) (place : Option ℕ) (n : ℕ) (es : Entries) → IsDistinct same_name (keys_of (pairs_of pages)) → StandsOn pages a place → Some n ≡ place → Some es ≡ lookup (nat_eq n) pages
    → object_of es a ≡ object_of (pairs_of pages) a
page_object pages a place n es distinct stands is at =
    let page : es ≡ page_of pages n = ap (λ (l : Option Entries). unwrap_or l []) at in
    ap (λ (l : Entries). object_of l a) page ∙ sym (page_value pages n a distinct (stands_there pages a place n stands is))

-- ---- no objects
none_stand : (a : Name) (place : Option ℕ) → place ≡ None → StandsOn [] a place
none_stand a place is = subst (λ p. StandsOn [] a p) (sym is) refl

pub none_kept : (pages : Pages) (places : Shelves ℕ) (tallies : Shelves (List (ℕ × ℕ))) → pages ≡ [] → ((a : Name) → value_of places a ≡ None) → ((a : Name) → value_of tallies a ≡ None) → IsListed pages places tallies
none_kept pages places tallies empty at counts = subst (λ p. IsListed p places tallies) (sym empty) (record {
  distinct = IsDistinct-from_apart same_name [] (λ i j d apart lt. absurd (omega (arith, lt)));
  small = omega arith;
  few = tt;
  placed = λ a. none_stand a (value_of places a) (at a);
  counted = λ a n. ap (λ (o : Option (List (ℕ × ℕ))). count_on (unwrap_or o []) n) (counts a);
})

-- ---- the references to a name
pub references_small : (es : Entries) (a : Name) → length es ≤ most_objects → AreFew es → references_of es a < 18446744073709551616
references_small es a small few = omega (arith, small, references_few es a few)

pub sum_told : (pages : Pages) (a : Name) (counts : Option (List (ℕ × ℕ))) (tally : List (ℕ × ℕ)) → IsDistinct nat_eq (keys_of pages) → IsDistinct nat_eq (keys_of tally) → AreReferences pages a (unwrap_or counts []) → Some tally ≡ counts
    → sum (values_of tally) ≡ references_of (pairs_of pages) a
sum_told pages a counts tally distinct apart are is = references_counted pages a tally distinct apart (subst (λ (o : Option (List (ℕ × ℕ))). AreReferences pages a (unwrap_or o [])) (sym is) are)

pub sum_untold : (pages : Pages) (a : Name) (counts : Option (List (ℕ × ℕ))) → IsDistinct nat_eq (keys_of pages) → AreReferences pages a (unwrap_or counts []) → None ≡ counts → 0 ≡ references_of (pairs_of pages) a
sum_untold pages a counts distinct are none =
    references_counted pages a [] distinct (IsDistinct-from_apart nat_eq [] (λ i j d apart lt. absurd (omega (arith, lt)))) (subst (λ (o : Option (List (ℕ × ℕ))). AreReferences pages a (unwrap_or o [])) (sym none) are)

-- a page has no more than the list
pub page_within : (pages : Pages) (n : ℕ) (a : Name) → references_of (page_of pages n) a ≤ references_of (pairs_of pages) a
page_within [] n a = omega arith
page_within ((m, es) ∷ pages) n a =
    elim (number_tells n m) [
      | inl t ↦ rw t.0 (omega (arith, references_append es (pairs_of pages) a))
      | inr t ↦ rw t.0 (omega (arith, references_append es (pairs_of pages) a, page_within pages n a))
    ]

-- the leaves of an object on a page are counted there
pub members_there : (pages : Pages) (tallies : Shelves (List (ℕ × ℕ))) (n : ℕ) (a : Name) (o : Parts) (x : Name) → AreCounted pages tallies → object_of (page_of pages n) a ≡ Some o → times (member_names o.body) x ≤ leaves_on tallies x n
members_there pages tallies n a o x counted is = omega (arith, counted x n, references_there (page_of pages n) a o x is)

pub room_there : (pages : Pages) (tallies : Shelves (List (ℕ × ℕ))) (n : ℕ) (after : List Name) (x : Name) → AreCounted pages tallies → length (pairs_of pages) ≤ most_objects → AreFew (pairs_of pages) → length after ≤ 4096
    → leaves_on tallies x n + times after x < 18446744073709551616
room_there pages tallies n after x counted small few short =
    omega (arith, counted x n, page_within pages n x, references_few (pairs_of pages) x few, small, count_by-le-length (λ m. same_name m x) after, short)

pub room_both : (pages : Pages) (tallies : Shelves (List (ℕ × ℕ))) (n : ℕ) (x y : Name) → AreCounted pages tallies → length (pairs_of pages) ≤ most_objects → AreFew (pairs_of pages) → leaves_on tallies x n + leaves_on tallies y n < 18446744073709551616
room_both pages tallies n x y counted small few =
    omega (arith, counted x n, counted y n, page_within pages n x, page_within pages n y, references_few (pairs_of pages) x few, references_few (pairs_of pages) y few, small)

-- ---- an edit of one page
-- what holds of each page holds of each after it, where it does on that page
pub on_changed : (P : Entries → Type 0) (old new : Pages) (at : ℕ) (pairs : Entries) → ChangesPage at pairs old new → (P (page_of old at) → P pairs) → (n : ℕ) → P (page_of old n) → P (page_of new n)
on_changed P old new at pairs change here n h =
    elim (number_tells at n) [
      | inl t ↦ subst P (sym (change n ∙ ap (λ b. cond b pairs (page_of old n)) t.0)) (here (subst (λ k. P (page_of old k)) (sym t.1) h))
      | inr t ↦ subst P (sym (change n ∙ ap (λ b. cond b pairs (page_of old n)) t.0)) h
    ]

changed_here : (old new : Pages) (at : ℕ) (pairs : Entries) → ChangesPage at pairs old new → page_of new at ≡ pairs
changed_here old new at pairs change = elim (number_tells at at) [ inl t ↦ change at ∙ ap (λ b. cond b pairs (page_of old at)) t.0 | inr t ↦ absurd (t.1 refl) ]

-- a name keeps its page
still_stands : (old new : Pages) (x : Name) (was now : Option ℕ) → now ≡ was → ((n : ℕ) → IsSome (object_of (page_of old n) x) → IsSome (object_of (page_of new n) x)) → (object_of (pairs_of old) x ≡ None → object_of (pairs_of new) x ≡ None)
    → StandsOn old x was → StandsOn new x now
still_stands old new x (Some n) now same there none stands = subst (λ p. StandsOn new x p) (sym same) (there n stands)
still_stands old new x None now same there none stands = subst (λ p. StandsOn new x p) (sym same) (none stands)

-- the counts follow
exchanged : (old new : Pages) (at : ℕ) (pairs : Entries) (before after : List Name) (t u : Shelves (List (ℕ × ℕ))) → ChangesPage at pairs old new
    → ((x : Name) → references_of pairs x + times before x ≡ references_of (page_of old at) x + times after x) → AreCounted old t → Exchanges at before after t u → AreCounted new u
exchanged old new at pairs before after t u change moves counted exchange x n =
    elim (number_tells at n) [
      | inl e ↦
          let page : references_of (page_of new n) x ≡ references_of pairs x = ap (λ (l : Entries). references_of l x) (change n ∙ ap (λ b. cond b pairs (page_of old n)) e.0) in
          let was : references_of (page_of old at) x ≡ references_of (page_of old n) x = ap (λ k. references_of (page_of old k) x) e.1 in
          let less : cond {A = ℕ} (nat_eq at n) (times before x) 0 ≡ times before x = ap (λ b. cond {A = ℕ} b (times before x) 0) e.0 in
          let more : cond {A = ℕ} (nat_eq at n) (times after x) 0 ≡ times after x = ap (λ b. cond {A = ℕ} b (times after x) 0) e.0 in
          omega (arith, exchange x n, less, more, counted x n, moves x, page, was)
      | inr e ↦
          let page : references_of (page_of new n) x ≡ references_of (page_of old n) x = ap (λ (l : Entries). references_of l x) (change n ∙ ap (λ b. cond b pairs (page_of old n)) e.0) in
          let less : cond {A = ℕ} (nat_eq at n) (times before x) 0 ≡ 0 = ap (λ b. cond {A = ℕ} b (times before x) 0) e.0 in
          let more : cond {A = ℕ} (nat_eq at n) (times after x) 0 ≡ 0 = ap (λ b. cond {A = ℕ} b (times after x) 0) e.0 in
          omega (arith, exchange x n, less, more, counted x n, page)
    ]

-- ---- a pair more
keys_pushed : (k : Name) (es : Entries) (a : Name) (o : Parts) → AllByRecursion (λ y. same_name k y ≡ false) (keys_of es) → same_name k a ≡ false → AllByRecursion (λ y. same_name k y ≡ false) (keys_of (appended es a o))
keys_pushed k [] a o h last = (last, tt)
keys_pushed k ((l, p) ∷ es) a o h last = (h.0, keys_pushed k es a o h.1 last)

distinct_appended : (es : Entries) (a : Name) (o : Parts) → IsDistinct same_name (keys_of es) → object_of es a ≡ None → IsDistinct same_name (keys_of (appended es a o))
distinct_appended [] a o h absent = IsDistinct-cons same_name a [] tt h
distinct_appended ((k, p) ∷ es) a o h absent =
    let head = absent_head a k p es absent in
    IsDistinct-cons same_name k (keys_of (appended es a o)) (keys_pushed k es a o (IsDistinct-head same_name k (keys_of es) h) (other k a head.0)) (distinct_appended es a o (IsDistinct-tail same_name k (keys_of es) h) head.1)

length-appended : (es : Entries) (a : Name) (o : Parts) → length (appended es a o) ≡ length es + 1
length-appended [] a o = refl
length-appended (e ∷ es) a o = omega (arith, length-appended es a o)

some_pushed : (es : Entries) (a : Name) (o : Parts) (x : Name) → IsSome (object_of es x) → IsSome (object_of (appended es a o) x)
some_pushed [] a o x h = cc
some_pushed ((k, p) ∷ es) a o x h = elim (name_tells x k) [ inl t ↦ rw t.0 refl | inr t ↦ rw t.0 (some_pushed es a o x (rw t.0 at h)) ]

pub append_listed : (old new : Pages) (places places2 : Shelves ℕ) (t u : Shelves (List (ℕ × ℕ))) (at : ℕ) (a : Name) (o : Parts) → IsListed old places t
    → ((n : ℕ) → page_of new n ≡ cond (nat_eq at n) (appended (page_of old n) a o) (page_of old n)) → pairs_of new ≡ appended (pairs_of old) a o → object_of (pairs_of old) a ≡ None → length (pairs_of old) < most_objects
    → length (member_names o.body) ≤ 4096 → Gives places a (Some at) places2 → Exchanges at [] (member_names o.body) t u → IsListed new places2 u
append_listed old new places places2 t u at a o listed pages pairs absent room short gives exchange =
    record {
      distinct = subst (λ (l : Entries). IsDistinct same_name (keys_of l)) (sym pairs) (distinct_appended (pairs_of old) a o listed.distinct absent);
      small = omega (arith, ap (length {A = Name × Parts}) pairs, length-appended (pairs_of old) a o, room);
      few = subst (λ (l : Entries). AreFew l) (sym pairs) (few_appended (pairs_of old) a o short listed.few);
      placed = placed;
      counted = exchanged old new at (appended (page_of old at) a o) [] (member_names o.body) t u change (λ x. omega (arith, references_appended (page_of old at) a o x)) listed.counted exchange;
    }
  where
    change : ChangesPage at (appended (page_of old at) a o) old new
    change n = elim (number_tells at n) [
      | inl e ↦ pages n ∙ ap (λ k. cond (nat_eq at n) (appended (page_of old k) a o) (page_of old n)) (sym e.1)
      | inr e ↦ pages n ∙ ap (λ b. cond b (appended (page_of old n) a o) (page_of old n)) e.0 ∙ sym (ap (λ b. cond b (appended (page_of old at) a o) (page_of old n)) e.0)
    ]

    here : IsSome (object_of (page_of new at) a)
    here = subst (λ (l : Entries). IsSome (object_of l a)) (sym (changed_here old new at (appended (page_of old at) a o) change)) (subst (λ p. IsSome p) (sym (push_here (page_of old at) a o (page_none old a at absent))) refl)

    placed : ArePlaces new places2
    placed x = elim (name_tells a x) [
      | inl e ↦ subst (λ y. StandsOn new y (value_of places2 y)) e.1 (subst (λ p. StandsOn new a p) (sym (gives a ∙ ap (λ b. cond b (Some at) (value_of places a)) (elim (name_tells a a) [ inl s ↦ s.0 | inr s ↦ absurd (s.1 refl) ]))) here)
      | inr e ↦ still_stands old new x (value_of places x) (value_of places2 x) (gives x ∙ ap (λ b. cond b (Some at) (value_of places x)) e.0)
          (on_changed (λ l. IsSome (object_of l x)) old new at (appended (page_of old at) a o) change (some_pushed (page_of old at) a o x))
          (λ none. ap (λ (l : Entries). object_of l x) pairs ∙ push_other (pairs_of old) a o x (λ s. e.1 (sym s)) ∙ none) (listed.placed x)
    ]

-- what a page lends, in terms of the page itself
pub page_told : (pages : Pages) (n : ℕ) (a : Name) (es : Entries) (o : Parts) → Some es ≡ lookup (nat_eq n) pages → Some o ≡ object_of es a → object_of (page_of pages n) a ≡ Some o
page_told pages n a es o at is = ap (λ (l : Option Entries). object_of (unwrap_or l []) a) (sym at) ∙ sym is

-- ---- another object of a name
some_replaced : (es : Entries) (a : Name) (o : Parts) (x : Name) → IsSome (object_of es x) → IsSome (object_of (replaced es a o) x)
some_replaced [] a o x h = cc
some_replaced ((k, p) ∷ es) a o x h =
    elim (name_tells a k) [
      | inl t ↦ elim (name_tells x k) [ inl s ↦ rw (t.0, s.0) refl | inr s ↦ let later : IsSome (object_of es x) = rw s.0 at h in rw (t.0, s.0) later ]
      | inr t ↦ elim (name_tells x k) [ inl s ↦ rw (t.0, s.0) refl | inr s ↦ rw (t.0, s.0) (some_replaced es a o x (rw s.0 at h)) ]
    ]

none_replaced : (es : Entries) (a : Name) (o : Parts) (x : Name) → object_of es x ≡ None → object_of (replaced es a o) x ≡ None
none_replaced [] a o x h = refl
none_replaced ((k, p) ∷ es) a o x h =
    let head = absent_head x k p es h in
    elim (name_tells a k) [
      | inl t ↦ rw (t.0, other x k (λ e. head.0 (sym e))) head.1
      | inr t ↦ rw (t.0, other x k (λ e. head.0 (sym e))) (none_replaced es a o x head.1)
    ]

pub replace_listed : (old new : Pages) (places : Shelves ℕ) (t u : Shelves (List (ℕ × ℕ))) (at : ℕ) (a : Name) (o : Parts) → IsListed old places t → IsSome (object_of (page_of old at) a)
    → ChangesPage at (replaced (page_of old at) a o) old new → pairs_of new ≡ replaced (pairs_of old) a o → length (member_names o.body) ≤ 4096 → Exchanges at (members_of (object_of (page_of old at) a)) (member_names o.body) t u
    → IsListed new places u
replace_listed old new places t u at a o listed there change pairs short exchange =
    record {
      distinct = subst (λ (l : List Name). IsDistinct same_name l) (sym (ap (keys_of {K = Name} {X = Parts}) pairs ∙ keys-set_value (same_name a) (pairs_of old) o)) listed.distinct;
      small = omega (arith, ap (length {A = Name × Parts}) pairs, length-replaced (pairs_of old) a o, listed.small);
      few = subst (λ (l : Entries). AreFew l) (sym pairs) (few_replaced (pairs_of old) a o short listed.few);
      placed = λ x. still_stands old new x (value_of places x) (value_of places x) refl (on_changed (λ l. IsSome (object_of l x)) old new at (replaced (page_of old at) a o) change (some_replaced (page_of old at) a o x))
          (λ none. ap (λ (l : Entries). object_of l x) pairs ∙ none_replaced (pairs_of old) a o x none) (listed.placed x);
      counted = exchanged old new at (replaced (page_of old at) a o) (members_of (object_of (page_of old at) a)) (member_names o.body) t u change (λ x. references_replaced (page_of old at) a o x there) listed.counted exchange;
    }

-- ---- without a name
keys_removed : (k : Name) (es : Entries) (a : Name) → AllByRecursion (λ y. same_name k y ≡ false) (keys_of es) → AllByRecursion (λ y. same_name k y ≡ false) (keys_of (removed es a))
keys_removed k [] a h = tt
keys_removed k ((l, p) ∷ es) a h = elim (name_tells a l) [ inl t ↦ rw t.0 h.1 | inr t ↦ rw t.0 (h.0, keys_removed k es a h.1) ]

distinct_removed : (es : Entries) (a : Name) → IsDistinct same_name (keys_of es) → IsDistinct same_name (keys_of (removed es a))
distinct_removed [] a h = h
distinct_removed ((k, p) ∷ es) a h =
    let rest = IsDistinct-tail same_name k (keys_of es) h in
    elim (name_tells a k) [
      | inl t ↦ rw t.0 rest
      | inr t ↦ rw t.0 (IsDistinct-cons same_name k (keys_of (removed es a)) (keys_removed k es a (IsDistinct-head same_name k (keys_of es) h)) (distinct_removed es a rest))
    ]

removed_gone : (es : Entries) (a : Name) → IsDistinct same_name (keys_of es) → object_of (removed es a) a ≡ None
removed_gone [] a h = refl
removed_gone ((k, p) ∷ es) a h =
    elim (name_tells a k) [
      | inl t ↦ rw t.0 (ap (object_of es) t.1 ∙ none_left k es (IsDistinct-head same_name k (keys_of es) h))
      | inr t ↦ rw (t.0, t.0) (removed_gone es a (IsDistinct-tail same_name k (keys_of es) h))
    ]

removed_other : (es : Entries) (a x : Name) → x ≢ a → object_of (removed es a) x ≡ object_of es x
removed_other [] a x apart = refl
removed_other ((k, p) ∷ es) a x apart =
    elim (name_tells a k) [
      | inl t ↦ rw (t.0, other x k (λ e. apart (e ∙ sym t.1))) refl
      | inr t ↦ elim (name_tells x k) [ inl s ↦ rw (t.0, s.0) refl | inr s ↦ rw (t.0, s.0) (removed_other es a x apart) ]
    ]

pub remove_listed : (old new : Pages) (places places2 : Shelves ℕ) (t u : Shelves (List (ℕ × ℕ))) (at : ℕ) (a : Name) → IsListed old places t
    → ChangesPage at (removed (page_of old at) a) old new → pairs_of new ≡ removed (pairs_of old) a → Gives places a None places2 → Exchanges at (members_of (object_of (page_of old at) a)) [] t u → IsListed new places2 u
remove_listed old new places places2 t u at a listed change pairs gives exchange =
    record {
      distinct = subst (λ (l : Entries). IsDistinct same_name (keys_of l)) (sym pairs) (distinct_removed (pairs_of old) a listed.distinct);
      small = omega (arith, ap (length {A = Name × Parts}) pairs, length-removed (pairs_of old) a, listed.small);
      few = subst (λ (l : Entries). AreFew l) (sym pairs) (few_removed (pairs_of old) a listed.few);
      placed = placed;
      counted = exchanged old new at (removed (page_of old at) a) (members_of (object_of (page_of old at) a)) [] t u change (λ x. omega (arith, references_apart (page_of old at) a x)) listed.counted exchange;
    }
  where
    placed : ArePlaces new places2
    placed x = elim (name_tells a x) [
      | inl e ↦ subst (λ p. StandsOn new x p) (sym (gives x ∙ ap (λ b. cond b None (value_of places x)) e.0)) (ap (λ (l : Entries). object_of l x) pairs ∙ ap (object_of (removed (pairs_of old) a)) (sym e.1) ∙ removed_gone (pairs_of old) a listed.distinct)
      | inr e ↦
          let apart : x ≢ a = λ s. e.1 (sym s) in
          still_stands old new x (value_of places x) (value_of places2 x) (gives x ∙ ap (λ b. cond b None (value_of places x)) e.0)
          (on_changed (λ l. IsSome (object_of l x)) old new at (removed (page_of old at) a) change (λ h. subst (λ p. IsSome p) (sym (removed_other (page_of old at) a x apart)) h))
          (λ none. ap (λ (l : Entries). object_of l x) pairs ∙ removed_other (pairs_of old) a x apart ∙ none) (listed.placed x)
    ]

-- ---- another name
renamed_past : (es : Entries) (a b k : Name) → AllByRecursion (λ y. same_name k y ≡ false) (keys_of es) → k ≢ b → object_of es b ≡ None → AllByRecursion (λ y. same_name (new_name a b k) y ≡ false) (keys_of (renamed_all es a b))
renamed_past [] a b k h away absent = tt
renamed_past ((l, o) ∷ es) a b k h away absent =
    let head = absent_head b l o es absent in
    let apart : k ≢ l = λ e. elim (name_tells k l) [ inl p ↦ true≢false (sym p.0 ∙ h.0) | inr p ↦ p.1 e ] in
    (other (new_name a b k) (new_name a b l) (renamed_apart a b k l apart away head.0), renamed_past es a b k h.1 away head.1)

distinct_renamed : (es : Entries) (a b : Name) → IsDistinct same_name (keys_of es) → object_of es b ≡ None → IsDistinct same_name (keys_of (renamed_all es a b))
distinct_renamed [] a b h absent = h
distinct_renamed ((k, o) ∷ es) a b h absent =
    let head = absent_head b k o es absent in
    IsDistinct-cons same_name (new_name a b k) (keys_of (renamed_all es a b)) (renamed_past es a b k (IsDistinct-head same_name k (keys_of es) h) head.0 head.1) (distinct_renamed es a b (IsDistinct-tail same_name k (keys_of es) h) head.1)

renamed_there : (es : Entries) (a b : Name) → IsSome (object_of es a) → IsSome (object_of (renamed_all es a b) b)
renamed_there [] a b h = cc
renamed_there ((k, o) ∷ es) a b h =
    elim (name_tells k a) [
      | inl t ↦ elim (name_tells b b) [ inl s ↦ rw (t.0, s.0) refl | inr s ↦ absurd (s.1 refl) ]
      | inr t ↦ let later : IsSome (object_of es a) = rw (other a k (λ e. t.1 (sym e))) at h in
          elim (name_tells b k) [ inl s ↦ rw (t.0, s.0) refl | inr s ↦ rw (t.0, s.0) (renamed_there es a b later) ]
    ]

some_mapped : (a b : Name) (o : Option Parts) → IsSome o → IsSome (option_map (renamed_object a b) o)
some_mapped a b None h = cc
some_mapped a b (Some o) h = refl

pub there_apart : (es : Entries) (a b : Name) → IsSome (object_of es a) → object_of es b ≡ None → a ≢ b
there_apart es a b there absent e = none_some (object_of es a) (ap (object_of es) e ∙ absent) there

pub rename_listed : (old new : Pages) (places places1 places2 : Shelves ℕ) (t u : Shelves (List (ℕ × ℕ))) (at : ℕ) (a b : Name) → IsListed old places t → IsSome (object_of (page_of old at) a) → IsSome (object_of (pairs_of old) a)
    → object_of (pairs_of old) b ≡ None → RenamesPages a b old new → pairs_of new ≡ renamed_all (pairs_of old) a b → MovesCounts a b t u → Gives places a None places1 → Gives places1 b (Some at) places2 → IsListed new places2 u
rename_listed old new places places1 places2 t u at a b listed there there_all absent renames pairs moves gone put =
    record {
      distinct = subst (λ (l : Entries). IsDistinct same_name (keys_of l)) (sym pairs) (distinct_renamed (pairs_of old) a b listed.distinct absent);
      small = omega (arith, ap (length {A = Name × Parts}) pairs, length-renamed_all (pairs_of old) a b, listed.small);
      few = subst (λ (l : Entries). AreFew l) (sym pairs) (few_renamed (pairs_of old) a b listed.few);
      placed = placed;
      counted = counted;
    }
  where
    apart : a ≢ b
    apart = there_apart (pairs_of old) a b there_all absent

    here : IsSome (object_of (page_of new at) b)
    here = subst (λ (l : Entries). IsSome (object_of l b)) (sym (renames at)) (renamed_there (page_of old at) a b there)

    placed : ArePlaces new places2
    placed x = elim (name_tells b x) [
      | inl e ↦ subst (λ p. StandsOn new x p) (sym (put x ∙ ap (λ c. cond c (Some at) (value_of places1 x)) e.0)) (subst (λ y. IsSome (object_of (page_of new at) y)) e.1 here)
      | inr e ↦
          let beside : x ≢ b = λ s. e.1 (sym s) in
          let same : value_of places2 x ≡ value_of places1 x = put x ∙ ap (λ c. cond c (Some at) (value_of places1 x)) e.0 in
          elim (name_tells a x) [
            | inl s ↦ subst (λ p. StandsOn new x p) (sym (same ∙ gone x ∙ ap (λ c. cond c None (value_of places x)) s.0)) (ap (λ (l : Entries). object_of l x) pairs ∙ rename_gone (pairs_of old) a b x beside (sym s.1))
            | inr s ↦
                let away : x ≢ a = λ r. s.1 (sym r) in
                still_stands old new x (value_of places x) (value_of places2 x) (same ∙ gone x ∙ ap (λ c. cond c None (value_of places x)) s.0)
                (λ n h. subst (λ p. IsSome p) (sym (ap (λ (l : Entries). object_of l x) (renames n) ∙ rename_others (page_of old n) a b x beside away)) (some_mapped a b (object_of (page_of old n) x) h))
                (λ none. ap (λ (l : Entries). object_of l x) pairs ∙ rename_others (pairs_of old) a b x beside away ∙ ap (option_map (renamed_object a b)) none) (listed.placed x)
          ]
    ]

    counted : AreCounted new u
    counted x n =
        moves x n
        ∙ ap (λ k. cond (same_name b x) (k + leaves_on t a n) (cond (same_name a x) 0 (leaves_on t x n))) (listed.counted b n)
        ∙ ap (λ k. cond (same_name b x) (references_of (page_of old n) b + k) (cond (same_name a x) 0 (leaves_on t x n))) (listed.counted a n)
        ∙ ap (λ k. cond (same_name b x) (references_of (page_of old n) b + references_of (page_of old n) a) (cond (same_name a x) 0 k)) (listed.counted x n)
        ∙ sym (moved (page_of old n) a b apart x)
        ∙ ap (λ (l : Entries). references_of l x) (sym (renames n))
