use Rattle.std.proofs.Common.{[], ◌≡◌, ◌≢◌, ◌⊎◌, inl, inr, ◌∙◌, Bool, true, false, List, ◌∷◌, ◌++◌, Option, None, Some, refl, ap, sym, subst}
use Rattle.std.specs.Prelude.{◌||◌}
use Rattle.std.specs.List.{AllByRecursion, IsDistinct, cons_option}
use Rattle.std.proofs.lemmas.List.Folds.{list_any-append}
use Rattle.std.proofs.lemmas.Map.Keys.{IsDistinct-cons}
use Rattle.name_core.specs.declared.name.Name.{Name}
use Rattle.name_core.specs.Same.{same_name}
use Rattle.comb_tree.specs.Changes.{is_among}
use Rattle.shared_pages.proofs.NameLemmas.{name_tells}
use Rattle.object_pages.specs.Members.{AreApart}

-- ---- names in a list
pub in_head : (a : Name) (names : List Name) → is_among (a ∷ names) a ≡ true
in_head a names = elim (name_tells a a) [ inl t ↦ rw t.0 | inr t ↦ absurd (t.1 refl) ]

pub in_tail : (a : Name) (names : List Name) (x : Name) → is_among names x ≡ true → is_among (a ∷ names) x ≡ true
in_tail a names x h = elim (name_tells x a) [ inl t ↦ rw t.0 | inr t ↦ rw t.0 h ]

pub not_in_cons : (a : Name) (names : List Name) (x : Name) → x ≢ a → is_among names x ≡ false → is_among (a ∷ names) x ≡ false
not_in_cons a names x apart h = elim (name_tells x a) [ inl t ↦ absurd (apart t.1) | inr t ↦ rw t.0 h ]

pub not_in_head : (a : Name) (names : List Name) (x : Name) → is_among (a ∷ names) x ≡ false → (x ≢ a) × (is_among names x ≡ false)
not_in_head a names x h = elim (name_tells x a) [ inl t ↦ let wrong : true ≡ false = rw t.0 at h in cc | inr t ↦ (t.1, rw t.0 at h) ]

or_false : (b c : Bool) → (b || c) ≡ false → (b ≡ false) × (c ≡ false)
or_false true c h = cc
or_false false c h = (refl, h)

pub not_in_append : (xs ys : List Name) (x : Name) → is_among (xs ++ ys) x ≡ false → (is_among xs x ≡ false) × (is_among ys x ≡ false)
not_in_append xs ys x h = or_false (is_among xs x) (is_among ys x) (sym (list_any-append (same_name x) xs ys) ∙ h)

pub not_in_push : (names : List Name) (a x : Name) → x ≢ a → is_among names x ≡ false → is_among (names ++ a ∷ []) x ≡ false
not_in_push names a x apart out = list_any-append (same_name x) names (a ∷ []) ∙ ap (λ b. b || is_among (a ∷ []) x) out ∙ not_in_cons a [] x apart refl

pub in_or_not : (names : List Name) (x : Name) → (is_among names x ≡ true) ⊎ (is_among names x ≡ false)
in_or_not names x = case (is_among names x) refl
  where
    case : (b : Bool) → is_among names x ≡ b → (is_among names x ≡ true) ⊎ (is_among names x ≡ false)
    case true e = inl e
    case false e = inr e

or_left : (b c : Bool) → b ≡ true → (b || c) ≡ true
or_left true c e = refl
or_left false c e = cc

or_right : (b c : Bool) → c ≡ true → (b || c) ≡ true
or_right true c e = refl
or_right false c e = e

pub in_left : (xs ys : List Name) (x : Name) → is_among xs x ≡ true → is_among (xs ++ ys) x ≡ true
in_left xs ys x h = list_any-append (same_name x) xs ys ∙ or_left (is_among xs x) (is_among ys x) h

pub in_right : (xs ys : List Name) (x : Name) → is_among ys x ≡ true → is_among (xs ++ ys) x ≡ true
in_right xs ys x h = list_any-append (same_name x) xs ys ∙ or_right (is_among xs x) (is_among ys x) h

-- ---- names of which none stands twice
none_like : (a : Name) (names : List Name) → is_among names a ≡ false → AllByRecursion (λ b. same_name a b ≡ false) names
none_like a [] out = tt
none_like a (b ∷ names) out = let parts : (same_name a b ≡ false) × (is_among names a ≡ false) = or_false (same_name a b) (is_among names a) out in (parts.0, none_like a names parts.1)

pub distinct_with : (a : Name) (names : List Name) → is_among names a ≡ false → IsDistinct same_name names → IsDistinct same_name (a ∷ names)
distinct_with a names out distinct = IsDistinct-cons same_name a names (none_like a names out) distinct

with_first : (first : Option Name) (rest : List Name) → AreApart first rest → IsDistinct same_name rest → IsDistinct same_name (cons_option first rest)
with_first None rest apart distinct = distinct
with_first (Some a) rest apart distinct = distinct_with a rest apart distinct

pub set_distinct : (first : Option Name) (rest names : List Name) → AreApart first rest → IsDistinct same_name rest → cons_option first rest ≡ names → IsDistinct same_name names
set_distinct first rest names apart distinct is = subst (λ (l : List Name). IsDistinct same_name l) is (with_first first rest apart distinct)

none_distinct : IsDistinct same_name []
unfolding IsDistinct
none_distinct = tt

pub no_first : (first : Option Name) (rest names : List Name) → first ≡ None → AreApart first rest → cons_option first rest ≡ names → IsDistinct same_name names
no_first first rest names none apart is =
    let empty : rest ≡ [] = rw none at apart in
    let same : names ≡ [] = sym is ∙ ap (λ f. cons_option f rest) none ∙ empty in
    subst (λ (l : List Name). IsDistinct same_name l) (sym same) none_distinct
