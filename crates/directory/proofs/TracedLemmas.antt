use Rattle.std.proofs.Common.{◌≡◌, ◌≢◌, ◌⊎◌, inl, inr, ◌∙◌, ℕ, zero, suc, true, List, [], ◌∷◌, length, refl, ap, sym, subst, arith, Option, None, Some, IfSome, true≢false}
use Rattle.std.specs.List.{Contains}
use Rattle.std.specs.Prelude.{slice_get}
use Rattle.name_core.specs.declared.name.Name.{Name}
use Rattle.directory.specs.Walks.{Entries, members_of, object_of, Refers, HasCycleThrough}
use Rattle.comb_tree.specs.Changes.{is_among}
use Rattle.directory.specs.Closed.{depth_step, relaxed, IsRelaxing}
use Rattle.directory.specs.Depths.{Leads, IsTraced, IsTracedIf, IsDue}
use Rattle.object_pages.proofs.EntryLemmas.{same_or_apart}
use Rattle.object_pages.proofs.NamesLemmas.{not_in_cons, in_head, in_or_not}
use Rattle.directory.proofs.ClosedLemmas.{relaxed_here, relaxed_away, step_apart}

-- ---- walks to the edited name
named_or_not : (xs : List Name) (a : Name) → Contains xs a ⊎ (¬ (Contains xs a))
named_or_not [] a = inr (λ c. omega (arith, c.1))
named_or_not (x ∷ xs) a =
    elim (same_or_apart x a) [
      | inl e ↦ inl (0, omega arith, e)
      | inr apart ↦ elim (named_or_not xs a) [ inl c ↦ inl (suc c.0, omega (arith, c.1), c.2) | inr none ↦ inr (λ c. later x xs a apart none c) ]
    ]
  where
    later : (x : Name) (xs : List Name) (a : Name) → x ≢ a → ¬ (Contains xs a) → ¬ (Contains (x ∷ xs) a)
    later x xs a apart none (zero, lt, is) = apart is
    later x xs a apart none (suc i, lt, is) = none (i, omega arith, is)

refers_or_not : (es : Entries) (x a : Name) → Refers es x a ⊎ (¬ (Refers es x a))
refers_or_not es x a = named_or_not (members_of (object_of es x)) a

leads_one : (es : Entries) (a e : Name) → Refers es a e → Leads es a e
leads_one es a e c = ([], (c, (tt, tt)))

leads_on : (es : Entries) (a b e : Name) → Refers es a b → Leads es b e → Leads es a e
leads_on es a b e c l = (b ∷ l.0, (c, l.1))

-- what refers to a name that leads to e, or is e, leads to it
leads_by : (es : Entries) (x a e : Name) → Refers es x a → Leads es a e ⊎ (a ≡ e) → Leads es x e
leads_by es x a e c (inl l) = leads_on es x a e c l
leads_by es x a e c (inr same) = leads_one es x e (subst (λ (y : Name). Refers es x y) same c)

-- ---- names that are not settled
still_among : (a : Name) (rest : List Name) (x : Name) → x ≢ a → is_among (a ∷ rest) x ≡ true → is_among rest x ≡ true
still_among a rest x apart inside = elim (in_or_not rest x) [ inl there ↦ there | inr out ↦ absurd (true≢false (sym inside ∙ not_in_cons a rest x apart out)) ]

pub traced_more : (es : Entries) (e : Name) (rest : List Name) (depths : Name → ℕ) → IsTraced es e [] depths → IsTraced es e rest depths
traced_more es e rest depths h x = elim (h x) [ inl is ↦ inl is | inr far ↦ elim far [ inl l ↦ inr (inl l) | inr own ↦ absurd (true≢false (sym own.1)) ] ]

-- the name that is looked at has the depth that is due
pub traced_same : (es : Entries) (e : Name) (depths : Name → ℕ) (a : Name) (depth : ℕ) (rest : List Name) → IsDue es depths a depth → depths a ≡ depth → IsTraced es e (a ∷ rest) depths → IsTraced es e rest depths
traced_same es e depths a depth rest due same h x =
    elim (h x) [
      | inl is ↦ inl is
      | inr far ↦ elim far [
        | inl l ↦ inr (inl l)
        | inr own ↦ elim (same_or_apart x a) [
          | inl at ↦ elim due [
            | inl is ↦ inl (ap depths at ∙ same ∙ is ∙ ap (depth_step es depths) (sym at))
            | inr deep ↦ inr (inl (subst (λ (y : Name). Leads es y e) (sym at) (subst (λ (y : Name). Leads es a y) (sym at ∙ own.0) deep.1)))
          ]
          | inr apart ↦ inr (inr (own.0, still_among a rest x apart own.1))
        ]
      ]
    ]

-- it gets another one
off_if : (es : Entries) (depths : Name → ℕ) (a : Name) (depth : ℕ) → IsDue es depths a depth → depth ≢ depths a → depths a ≢ depth_step es depths a
off_if es depths a depth (inl is) other closed = other (is ∙ sym closed)
off_if es depths a depth (inr deep) other closed = deep.2 closed

off_leads : (es : Entries) (e : Name) (depths : Name → ℕ) (a : Name) (rest : List Name) → IsTraced es e rest depths → depths a ≢ depth_step es depths a → Leads es a e ⊎ (a ≡ e)
off_leads es e depths a rest h off = elim (h a) [ inl is ↦ absurd (off is) | inr far ↦ elim far [ inl l ↦ inl l | inr own ↦ inr own.0 ] ]

cycle_leads : (es : Entries) (a e : Name) → HasCycleThrough es a → Leads es a e ⊎ (a ≡ e) → Leads es a e
cycle_leads es a e cycle (inl l) = l
cycle_leads es a e cycle (inr same) = subst (λ (y : Name). Leads es a y) same cycle

pub traced_set : (es : Entries) (e : Name) (depths others : Name → ℕ) (a : Name) (depth : ℕ) (rest : List Name) → IsDue es depths a depth → depth ≢ depths a → ((x : Name) → others x ≡ relaxed depths a depth x)
    → IsTraced es e (a ∷ rest) depths → IsTraced es e rest others
traced_set es e depths others a depth rest due other set h x =
    elim (refers_or_not es x a) [
      | inl c ↦ inr (inl (leads_by es x a e c reach))
      | inr free ↦ elim (same_or_apart x a) [
        | inl at ↦ elim due [
          | inl is ↦ inl (set x ∙ relaxed_here depths a depth x at ∙ is ∙ ap (depth_step es depths) (sym at) ∙ sym (step_apart es depths others a depth set x free))
          | inr deep ↦ inr (inl (subst (λ (y : Name). Leads es y e) (sym at) (cycle_leads es a e deep.1 reach)))
        ]
        | inr apart ↦ elim (h x) [
          | inl is ↦ inl (set x ∙ relaxed_away depths a depth x apart ∙ is ∙ sym (step_apart es depths others a depth set x free))
          | inr far ↦ elim far [ inl l ↦ inr (inl l) | inr own ↦ inr (inr (own.0, still_among a rest x apart own.1)) ]
        ]
      ]
    ]
  where
    reach : Leads es a e ⊎ (a ≡ e)
    reach = off_leads es e depths a (a ∷ rest) h (off_if es depths a depth due other)

-- ---- one name alone was edited
pub traced_first : (es : Entries) (depths : Name → ℕ) (e : Name) → IsRelaxing es depths (e ∷ []) [] → IsTraced es e (e ∷ []) depths
traced_first es depths e h x =
    elim (same_or_apart x e) [
      | inl at ↦ inr (inr (at, ap (is_among (e ∷ [])) at ∙ in_head e []))
      | inr apart ↦ inl (h.closed x (not_in_cons e [] x apart refl))
    ]

pub known_after : (es : Entries) (edited : Option Name) (names : List Name) (before after : Name → ℕ) → IfSome edited (λ e. names ≡ e ∷ []) → IsRelaxing es before names []
    → ((e : Name) → IsTraced es e names before → IsTraced es e [] after) → IsTracedIf es edited after
known_after es None names before after one h goes = tt
known_after es (Some e) names before after one h goes =
    goes e (subst (λ (l : List Name). IsTraced es e l before) (sym one) (traced_first es before e (subst (λ (l : List Name). IsRelaxing es before l []) one h)))

pub known_on : (es : Entries) (edited : Option Name) (names : List Name) (before after : Name → ℕ) → ((e : Name) → IsTraced es e names before → IsTraced es e [] after) → IsTracedIf es edited before → IsTracedIf es edited after
known_on es None names before after goes h = tt
known_on es (Some e) names before after goes h = goes e (traced_more es e names before h)

one_name : (names : List Name) (a : Name) → Some a ≡ slice_get names 0 → length names ≡ 1 → names ≡ a ∷ []
one_name [] a is one = absurd (omega (arith, one))
one_name (x ∷ []) a is one = let same : x ≡ a = cc in ap (λ (y : Name). y ∷ []) same
one_name (x ∷ y ∷ names) a is one = absurd (omega (arith, one))

pub one_name_if : (names : List Name) (first : Option Name) → first ≡ slice_get names 0 → length names ≡ 1 → IfSome first (λ e. names ≡ e ∷ [])
one_name_if names None is one = tt
one_name_if names (Some e) is one = one_name names e is one
