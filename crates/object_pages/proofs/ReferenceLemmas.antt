use Rattle.object_pages.proofs.MemberLemmas.{times_cons}
use Rattle.std.proofs.Common.{[], ◌≡◌, ◌≢◌, ◌⊎◌, inl, inr, ◌≤◌, ◌+◌, ◌*◌, ◌∙◌, ℕ, zero, suc, cond, List, ◌∷◌, map, length, refl, ap, sym, arith, Option, None, Some}
use Rattle.std.specs.List.{Contains, count_by}
use Rattle.std.proofs.lemmas.List.{length-map}
use Rattle.std.proofs.lemmas.List.Sums.{sum_by-cons, count_by-le-length}
use Rattle.name_core.specs.declared.name.Name.{Name}
use Rattle.name_core.specs.Same.{same_name}
use Rattle.object_set.specs.Objects.{Parts, member_names}
use Rattle.object_set.specs.Renaming.{new_name, renamed_object}
use Rattle.object_set.proofs.Renamed.{names_after}
use Rattle.object_pages.specs.Entries.{Entries, members_of, object_of, Refers, AreFew}
use Rattle.object_pages.specs.Changes.{appended, replaced, removed, renamed_all, references_of}
use Rattle.object_pages.specs.Members.{times}
use Rattle.shared_pages.proofs.NameLemmas.{name_tells}

-- ---- the counts of a list, without the object of a name
pub references_apart : (es : Entries) (a x : Name) → references_of es x ≡ references_of (removed es a) x + times (members_of (object_of es a)) x
references_apart [] a x = refl
references_apart ((k, o) ∷ es) a x =
    let f : Name × Parts → ℕ = λ e. times (members_of (Some e.1)) x in
    elim (name_tells a k) [
      | inl t ↦ rw t.0 (omega (arith, sum_by-cons f (k, o) es))
      | inr t ↦ rw t.0 (omega (arith, sum_by-cons f (k, o) es, sum_by-cons f (k, o) (removed es a), references_apart es a x))
    ]

pub apart_missing : (es : Entries) (a : Name) → object_of es a ≡ None → removed es a ≡ es
apart_missing [] a h = refl
apart_missing ((k, p) ∷ es) a h =
    elim (name_tells a k) [
      | inl t ↦ let wrong : Some p ≡ None = rw t.0 at h in cc
      | inr t ↦ rw t.0 (ap (λ (l : Entries). (k, p) ∷ l) (apart_missing es a (rw t.0 at h)))
    ]

pub references_there : (es : Entries) (a : Name) (o : Parts) (x : Name) → object_of es a ≡ Some o → references_of es x ≡ references_of (removed es a) x + times (member_names o.body) x
references_there es a o x is = references_apart es a x ∙ ap (λ (p : Option Parts). references_of (removed es a) x + times (members_of p) x) is

pub apart_replaced : (es : Entries) (a : Name) (o : Parts) → removed (replaced es a o) a ≡ removed es a
apart_replaced [] a o = refl
apart_replaced ((k, p) ∷ es) a o = elim (name_tells a k) [ inl t ↦ rw (t.0, t.0) | inr t ↦ rw (t.0, t.0) (ap (λ (l : Entries). (k, p) ∷ l) (apart_replaced es a o)) ]

pub apart_appended : (es : Entries) (a : Name) (o : Parts) → object_of es a ≡ None → removed (appended es a o) a ≡ removed es a
apart_appended [] a o h = elim (name_tells a a) [ inl t ↦ rw t.0 | inr t ↦ absurd (t.1 refl) ]
apart_appended ((k, p) ∷ es) a o h =
    elim (name_tells a k) [
      | inl t ↦ let wrong : Some p ≡ None = rw t.0 at h in cc
      | inr t ↦ rw t.0 (ap (λ (l : Entries). (k, p) ∷ l) (apart_appended es a o (rw t.0 at h)))
    ]

-- ---- no count is large
pub references_few : (es : Entries) (a : Name) → AreFew es → references_of es a ≤ 4096 * length es
references_few [] a few = omega arith
references_few ((k, o) ∷ es) a few =
    omega (arith, sum_by-cons (λ (e : Name × Parts). times (members_of (Some e.1)) a) (k, o) es, count_by-le-length (λ n. same_name n a) (member_names o.body), few.0, references_few es a few.1)

pub few_appended : (es : Entries) (a : Name) (o : Parts) → length (member_names o.body) ≤ 4096 → AreFew es → AreFew (appended es a o)
few_appended [] a o here few = (here, tt)
few_appended (e ∷ es) a o here few = (few.0, few_appended es a o here few.1)

pub few_replaced : (es : Entries) (a : Name) (o : Parts) → length (member_names o.body) ≤ 4096 → AreFew es → AreFew (replaced es a o)
few_replaced [] a o here few = tt
few_replaced ((k, p) ∷ es) a o here few = elim (name_tells a k) [ inl t ↦ rw t.0 (here, few.1) | inr t ↦ rw t.0 (few.0, few_replaced es a o here few.1) ]

pub few_removed : (es : Entries) (a : Name) → AreFew es → AreFew (removed es a)
few_removed [] a few = tt
few_removed ((k, p) ∷ es) a few = elim (name_tells a k) [ inl t ↦ rw t.0 few.1 | inr t ↦ rw t.0 (few.0, few_removed es a few.1) ]

pub few_renamed : (es : Entries) (a b : Name) → AreFew es → AreFew (renamed_all es a b)
few_renamed [] a b few = tt
few_renamed ((k, o) ∷ es) a b few =
    let same : length (member_names (renamed_object a b o).body) ≡ length (member_names o.body) = ap (length {A = Name}) (names_after a b o.body) ∙ length-map (member_names o.body) (new_name a b) in
    (omega (arith, same, few.0), few_renamed es a b few.1)

-- ---- renaming
abbrev one : Name → Name → ℕ
one n x = cond (same_name n x) 1 0

one_yes : (n x : Name) → n ≡ x → one n x ≡ 1
one_yes n x e = elim (name_tells n x) [ inl t ↦ ap (λ b. cond {A = ℕ} b 1 0) t.0 | inr t ↦ absurd (t.1 e) ]

one_no : (n x : Name) → n ≢ x → one n x ≡ 0
one_no n x apart = elim (name_tells n x) [ inl t ↦ absurd (apart t.1) | inr t ↦ ap (λ b. cond {A = ℕ} b 1 0) t.0 ]

renamed_name : (a b x : Name) → ((x ≡ a) × (new_name a b x ≡ b)) ⊎ ((x ≢ a) × (new_name a b x ≡ x))
renamed_name a b x = elim (name_tells x a) [ inl t ↦ inl (t.1, ap (λ c. cond c b x) t.0) | inr t ↦ inr (t.1, ap (λ c. cond c b x) t.0) ]

renamed_cons : (a b x : Name) (names : List Name) (y : Name) → times (map (new_name a b) (x ∷ names)) y ≡ one (new_name a b x) y + times (map (new_name a b) names) y
renamed_cons a b x names y = times_cons (new_name a b x) (map (new_name a b) names) y

renamed_new : (names : List Name) (a b : Name) → a ≢ b → times (map (new_name a b) names) b ≡ times names b + times names a
renamed_new [] a b apart = refl
renamed_new (x ∷ names) a b apart =
    elim (renamed_name a b x) [
      | inl t ↦ omega (arith, renamed_cons a b x names b, one_yes (new_name a b x) b t.1, times_cons x names b, times_cons x names a, one_yes x a t.0, one_no x b (λ e. apart (sym t.0 ∙ e)), renamed_new names a b apart)
      | inr t ↦ let same : one (new_name a b x) b ≡ one x b = ap (λ n. one n b) t.1 in
          omega (arith, renamed_cons a b x names b, same, times_cons x names b, times_cons x names a, one_no x a t.0, renamed_new names a b apart)
    ]

renamed_old : (names : List Name) (a b : Name) → a ≢ b → times (map (new_name a b) names) a ≡ 0
renamed_old [] a b apart = refl
renamed_old (x ∷ names) a b apart =
    elim (renamed_name a b x) [
      | inl t ↦ omega (arith, renamed_cons a b x names a, one_no (new_name a b x) a (λ e. apart (sym e ∙ t.1)), renamed_old names a b apart)
      | inr t ↦ omega (arith, renamed_cons a b x names a, one_no (new_name a b x) a (λ e. t.0 (sym t.1 ∙ e)), renamed_old names a b apart)
    ]

renamed_other : (names : List Name) (a b y : Name) → y ≢ a → y ≢ b → times (map (new_name a b) names) y ≡ times names y
renamed_other [] a b y away beside = refl
renamed_other (x ∷ names) a b y away beside =
    elim (renamed_name a b x) [
      | inl t ↦ omega (arith, renamed_cons a b x names y, one_no (new_name a b x) y (λ e. beside (sym e ∙ t.1)), times_cons x names y, one_no x y (λ e. away (sym e ∙ t.0)), renamed_other names a b y away beside)
      | inr t ↦ let same : one (new_name a b x) y ≡ one x y = ap (λ n. one n y) t.1 in
          omega (arith, renamed_cons a b x names y, same, times_cons x names y, renamed_other names a b y away beside)
    ]

pub references_cons : (k : Name) (o : Parts) (es : Entries) (x : Name) → references_of ((k, o) ∷ es) x ≡ times (member_names o.body) x + references_of es x
references_cons k o es x = sum_by-cons (λ (e : Name × Parts). times (members_of (Some e.1)) x) (k, o) es

all_cons : (k : Name) (o : Parts) (es : Entries) (a b x : Name) → references_of (renamed_all ((k, o) ∷ es) a b) x ≡ times (map (new_name a b) (member_names o.body)) x + references_of (renamed_all es a b) x
all_cons k o es a b x =
    references_cons (new_name a b k) (renamed_object a b o) (renamed_all es a b) x
    ∙ ap (λ (l : List Name). times l x + references_of (renamed_all es a b) x) (names_after a b o.body)

moved_new : (es : Entries) (a b : Name) → a ≢ b → references_of (renamed_all es a b) b ≡ references_of es b + references_of es a
moved_new [] a b apart = refl
moved_new ((k, o) ∷ es) a b apart =
    omega (arith, all_cons k o es a b b, renamed_new (member_names o.body) a b apart, references_cons k o es b, references_cons k o es a, moved_new es a b apart)

moved_old : (es : Entries) (a b : Name) → a ≢ b → references_of (renamed_all es a b) a ≡ 0
moved_old [] a b apart = refl
moved_old ((k, o) ∷ es) a b apart = omega (arith, all_cons k o es a b a, renamed_old (member_names o.body) a b apart, moved_old es a b apart)

moved_other : (es : Entries) (a b x : Name) → x ≢ a → x ≢ b → references_of (renamed_all es a b) x ≡ references_of es x
moved_other [] a b x away beside = refl
moved_other ((k, o) ∷ es) a b x away beside =
    omega (arith, all_cons k o es a b x, renamed_other (member_names o.body) a b x away beside, references_cons k o es x, moved_other es a b x away beside)

pub moved : (es : Entries) (a b : Name) → a ≢ b → (x : Name) → references_of (renamed_all es a b) x ≡ cond (same_name b x) (references_of es b + references_of es a) (cond (same_name a x) 0 (references_of es x))
moved es a b apart x =
    elim (name_tells b x) [
      | inl t ↦ rw t.0 (ap (references_of (renamed_all es a b)) (sym t.1) ∙ moved_new es a b apart)
      | inr t ↦ elim (name_tells a x) [
        | inl s ↦ rw (t.0, s.0) (ap (references_of (renamed_all es a b)) (sym s.1) ∙ moved_old es a b apart)
        | inr s ↦ rw (t.0, s.0) (moved_other es a b x (λ e. s.1 (sym e)) (λ e. t.1 (sym e)))
      ]
    ]

-- ---- the test of the code
pub none_named : (xs : List Name) (a : Name) → count_by (λ n. same_name n a) xs ≡ 0 → ¬ (Contains xs a)
none_named [] a e c = absurd (omega (arith, c.1))
none_named (x ∷ xs) a e c =
    let parts : cond (same_name x a) 1 0 + count_by (λ n. same_name n a) xs ≡ 0 = sym (sum_by-cons (λ n. cond (same_name n a) 1 0) x xs) ∙ e in
    elim (name_tells x a) [
      | inl t ↦ let one : cond {A = ℕ} (same_name x a) 1 0 ≡ 1 = ap (λ b. cond {A = ℕ} b 1 0) t.0 in absurd (omega (arith, one, parts))
      | inr t ↦ none_later x xs a t.1 (none_named xs a (omega (arith, parts))) c
    ]
  where
    none_later : (x : Name) (xs : List Name) (a : Name) → x ≢ a → ¬ (Contains xs a) → ¬ (Contains (x ∷ xs) a)
    none_later x xs a apart none (zero, lt, is) = absurd (apart is)
    none_later x xs a apart none (suc i, lt, is) = absurd (none (i, omega arith, is))

pub free_by_count : (es : Entries) (a : Name) → references_of es a ≡ 0 → (b : Name) → ¬ (Refers es b a)
free_by_count [] a h b c = absurd (omega (arith, c.1))
free_by_count ((k, o) ∷ es) a h b c =
    let parts : count_by (λ n. same_name n a) (member_names o.body) + references_of es a ≡ 0 = sym (sum_by-cons (λ (e : Name × Parts). count_by (λ n. same_name n a) (members_of (Some e.1))) (k, o) es) ∙ h in
    elim (name_tells b k) [
      | inl t ↦ none_named (member_names o.body) a (omega (arith, parts)) (rw t.0 at c)
      | inr t ↦ free_by_count es a (omega (arith, parts)) b (rw t.0 at c)
    ]
