-- A table of spans by leaf, filled from what was woven.
use Rattle.std.proofs.Common.{◌≡◌, ◌<◌, ◌≤◌, ◌+◌, ◌-◌, ◌^◌, ℕ, zero, suc, List, [], ◌∷◌, ◌++◌, length, get_or, take, drop, replicate, Bool, true, false, ◌&&◌, ◌||◌, eqb, nat_le, nat_lt, All, AllPairs, ap, sym, ◌∙◌, subst, refl, inl, inr, arith}
use Rattle.std.proofs.lemmas.Bool.{cases_lt, cases_eq, and_right, le-ltb, eq-eqb, ne_eqb}
use Rattle.std.proofs.lemmas.List.{take_all, get_or_append_left, get_or-append_right, get_or_past, get_or_default, get_or_at, get_or-drop, length-append, length-replicate, length-drop, length_push}
use Rattle.std.proofs.lemmas.List.Elements.{All-push, All-append, All-replicate}
use Rattle.std.proofs.lemmas.List.Folds.{list_any_more}
use Rattle.bool_weave.specs.declared.span.Span.{Span}
use Rattle.bool_weave.specs.declared.woven.Woven.{Woven}
use Rattle.bool_weave.specs.Claims.{Interval, covers, spans}
use Rattle.bool_weave.specs.Tables.{reaches, no_span, at_leaf}

at_replicate : (n i : ℕ) (s : Span) → get_or (replicate n s) i s ≡ s
at_replicate zero i s = refl
at_replicate (suc n) zero s = refl
at_replicate (suc n) (suc i) s = at_replicate n i s

-- a table filled up without spans reads as before
read_filled : (table : List Span) (n i : ℕ) → get_or (table ++ replicate n no_span) i no_span ≡ get_or table i no_span
read_filled table n i =
    elim (cases_lt i (length table)) [
      | inl within ↦ get_or_append_left table (replicate n no_span) no_span i within
      | inr past ↦ get_or-append_right table (replicate n no_span) (length table) i no_span refl past ∙ at_replicate n (i - length table) no_span ∙ sym (get_or_past table i no_span past)
    ]

read_other : (table : List Span) (s : Span) (i : ℕ) → (i ≡ length table → ⊥) → get_or (table ++ s ∷ []) i no_span ≡ get_or table i no_span
read_other table s i apart =
    elim (cases_lt i (length table)) [
      | inl within ↦ get_or_append_left table (s ∷ []) no_span i within
      | inr past ↦
          let beyond : length (table ++ s ∷ []) ≤ i = elim (cases_lt (length table) i) [ inl lt ↦ omega (arith, lt, length_push table s) | inr le ↦ absurd (apart (omega (arith, le, past))) ] in
          get_or_past (table ++ s ∷ []) i no_span beyond ∙ sym (get_or_past table i no_span past)
    ]

pub reaches_none : (k : ℕ) → reaches no_span k ≡ false
reaches_none k = and_right (nat_le (2 ^ 64 - 1) k) (nat_lt k 0) (le-ltb k 0 (omega arith))

or_none : (x : Bool) → (x || false) ≡ x
or_none true = refl
or_none false = refl

module _ (table mid new : List Span) (woven : List Woven) (j first leaf : ℕ) (s : Span) (w d : Woven) where
  -- one more instance goes into the table
  pub leaves_more : (interval : Interval) (k : ℕ) → j < length woven → w ≡ get_or woven j d → leaf + first ≡ w.instance → length table ≤ leaf
      → mid ≡ take leaf table ++ replicate (leaf - length table) no_span → new ≡ mid ++ s ∷ [] → reaches s k ≡ covers w.seg interval
      → ((i : ℕ) → at_leaf table k i ≡ spans (take j woven) interval (first + i))
      → (i : ℕ) → at_leaf new k i ≡ spans (take (j + 1) woven) interval (first + i)
  leaves_more interval k within is number short filled pushed span before i =
      let whole : mid ≡ table ++ replicate (leaf - length table) no_span = filled ∙ ap (λ l. l ++ replicate (leaf - length table) no_span) (take_all leaf table short) in
      let long : length mid ≡ leaf = omega (arith, ap length whole, length-append table (replicate (leaf - length table) no_span), length-replicate (leaf - length table) no_span, short) in
      let more : spans (take (j + 1) woven) interval (first + i) ≡ (spans (take j woven) interval (first + i) || (eqb w.instance (first + i) && covers w.seg interval)) =
      list_any_more (λ v. eqb v.instance (first + i) && covers v.seg interval) woven j d within
      ∙ ap (λ v. spans (take j woven) interval (first + i) || (eqb v.instance (first + i) && covers v.seg interval)) (sym is) in
      elim (cases_eq i leaf) [
        | inl here ↦
            let old : spans (take j woven) interval (first + i) ≡ false =
            sym (before i) ∙ ap (λ x. reaches x k) (get_or_past table i no_span (omega (arith, here, short))) ∙ reaches_none k in
            let mine : eqb w.instance (first + i) ≡ true = eq-eqb w.instance (first + i) (omega (arith, here, number)) in
            ap (λ l. at_leaf l k i) pushed ∙ ap (λ x. reaches x k) (get_or_at mid s [] no_span i (omega (arith, long, here))) ∙ span
            ∙ sym (more ∙ ap (λ b. b || (eqb w.instance (first + i) && covers w.seg interval)) old ∙ ap (λ b. b && covers w.seg interval) mine)
        | inr apart ↦
            let other : eqb w.instance (first + i) ≡ false = ne_eqb w.instance (first + i) (λ e. apart (omega (arith, e, number))) in
            ap (λ l. at_leaf l k i) pushed ∙ ap (λ x. reaches x k) (read_other mid s i (λ e. apart (omega (arith, e, long))) ∙ ap (λ l. get_or l i no_span) whole ∙ read_filled table (leaf - length table) i)
            ∙ before i
            ∙ sym (more ∙ ap (λ b. spans (take j woven) interval (first + i) || (b && covers w.seg interval)) other ∙ or_none (spans (take j woven) interval (first + i)))
      ]

  pub bound_more : (bound : ℕ) → length table ≤ leaf → mid ≡ take leaf table ++ replicate (leaf - length table) no_span → new ≡ mid ++ s ∷ []
      → All (λ x. x.to ≤ bound) table → s.to ≤ bound → All (λ x. x.to ≤ bound) new
  bound_more bound short filled pushed all here =
      let whole : mid ≡ table ++ replicate (leaf - length table) no_span = filled ∙ ap (λ l. l ++ replicate (leaf - length table) no_span) (take_all leaf table short) in
      let middle : All (λ (x : Span). x.to ≤ bound) mid =
      subst (λ l. All (λ (x : Span). x.to ≤ bound) l) (sym whole) (All-append (λ (x : Span). x.to ≤ bound) table (replicate (leaf - length table) no_span) all (All-replicate (λ (x : Span). x.to ≤ bound) (leaf - length table) no_span (omega arith))) in
      subst (λ l. All (λ (x : Span). x.to ≤ bound) l) (sym pushed) (All-push (λ (x : Span). x.to ≤ bound) mid s middle here)

  pub behind_more : (len : ℕ) → AllPairs (λ v w. v.instance < w.instance) woven → j < length woven → w ≡ get_or woven j d → leaf + first ≡ w.instance → len ≡ leaf + 1
      → All (λ v. len + first ≤ v.instance) (drop (j + 1) woven)
  behind_more len rising within is number long k e lt =
      let inside : j + 1 + k < length woven = omega (arith, lt, length-drop (j + 1) woven) in
      let here : (get_or woven j e).instance ≡ w.instance = ap (λ (v : Woven). v.instance) (get_or_default woven j e d within ∙ sym is) in
      let up : (get_or woven j e).instance < (get_or woven (j + 1 + k) e).instance = rising j (j + 1 + k) e (omega arith) inside in
      subst (λ (v : Woven). len + first ≤ v.instance) (sym (get_or-drop (j + 1) woven k e)) (omega (arith, up, here, number, long))
