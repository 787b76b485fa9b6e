-- Winners, region by region, and the lowest candidate.
use Rattle.std.proofs.Common.{◌≡◌, ◌<◌, ◌≤◌, ◌+◌, ℕ, zero, suc, List, [], ◌∷◌, ◌++◌, length, get_or, take, drop, filter, replicate, Bool, true, cond, nat_le, AllPairs, Option, Some, None, ap, sym, ◌∙◌, subst, refl, inl, inr, arith}
use Rattle.std.specs.List.{position, position_from}
use Rattle.std.proofs.lemmas.Bool.{cases_Bool, le-leb, cond-true, cond-false}
use Rattle.std.proofs.lemmas.List.{take_more, length-take-le, drop_more, get_or-drop, get_or_default, length-drop}
use Rattle.std.proofs.lemmas.Iterator.Adapters.{position_from-zero}
use Rattle.bool_weave.specs.declared.woven.Woven.{Woven}
use Rattle.bool_weave.proofs.Sorted.{Has, contains_from_has}
use Rattle.bool_weave.proofs.Middles.{has_filtered}
use Rattle.overlap_list.specs.declared.region.RegionClaims.{RegionClaims}
use Rattle.overlap_list.specs.Winners.{or_else}
use Rattle.overlap_list.specs.Hits.{lower, lowest}
use Rattle.overlap_list.specs.Steps.{winner_at, is_claimed_by}

from_push : {X : Type 0} (t : X → Bool) (n : ℕ) (xs : List X) (y : X) → position_from t n (xs ++ y ∷ []) ≡ or_else (position_from t n xs) (cond (t y) (Some (n + length xs)) None)
from_push t n [] y = let e : n ≡ n + 0 = omega arith in ap (λ m. cond (t y) (Some m) None) e
from_push t n (x ∷ xs) y =
    elim (cases_Bool (t x)) [
      | inl passed ↦ cond-true (t x) (Some n) (position_from t (n + 1) (xs ++ y ∷ [])) passed
          ∙ sym (ap (λ o. or_else o (cond (t y) (Some (n + length (x ∷ xs))) None)) (cond-true (t x) (Some n) (position_from t (n + 1) xs) passed))
      | inr failed ↦
          let e : n + 1 + length xs ≡ n + length (x ∷ xs) = omega arith in
          cond-false (t x) (Some n) (position_from t (n + 1) (xs ++ y ∷ [])) failed ∙ from_push t (n + 1) xs y
          ∙ ap (λ m. or_else (position_from t (n + 1) xs) (cond (t y) (Some m) None)) e
          ∙ sym (ap (λ o. or_else o (cond (t y) (Some (n + length (x ∷ xs))) None)) (cond-false (t x) (Some n) (position_from t (n + 1) xs) failed))
    ]

-- the first place that passes, with one more element
pub position_more : {X : Type 0} (t : X → Bool) (xs : List X) (i : ℕ) (d : X) → i < length xs
    → position t (take (i + 1) xs) ≡ or_else (position t (take i xs)) (cond (t (get_or xs i d)) (Some i) None)
position_more t xs i d lt =
    let len : length (take i xs) ≡ i = length-take-le i xs (omega (arith, lt)) in
    ap (position t) (take_more xs i d lt) ∙ position_from-zero t (take i xs ++ get_or xs i d ∷ []) ∙ from_push t 0 (take i xs) (get_or xs i d)
    ∙ ap (λ o. or_else o (cond (t (get_or xs i d)) (Some (0 + length (take i xs))) None)) (sym (position_from-zero t (take i xs)))
    ∙ (let e : 0 + length (take i xs) ≡ i = omega (arith, len) in ap (λ m. or_else (position t (take i xs)) (cond (t (get_or xs i d)) (Some m) None)) e)

pub or_else_assoc : (a b c : Option ℕ) → or_else (or_else a b) c ≡ or_else a (or_else b c)
or_else_assoc None b c = refl
or_else_assoc (Some n) b c = refl

pub or_else_none : (a : Option ℕ) → or_else a None ≡ a
or_else_none None = refl
or_else_none (Some n) = refl

-- one more region takes what it claims
pub taken_more : (air : Bool) (k i : ℕ) (regions : List RegionClaims) (d : RegionClaims) (start before after : Option ℕ) → i < length regions
    → before ≡ or_else start (position (is_claimed_by air k) (take i regions)) → after ≡ or_else before (cond (is_claimed_by air k (get_or regions i d)) (Some i) None)
    → after ≡ or_else start (position (is_claimed_by air k) (take (i + 1) regions))
taken_more air k i regions d start before after lt e f =
    f ∙ ap (λ o. or_else o (cond (is_claimed_by air k (get_or regions i d)) (Some i) None)) e
    ∙ or_else_assoc start (position (is_claimed_by air k) (take i regions)) (cond (is_claimed_by air k (get_or regions i d)) (Some i) None)
    ∙ sym (ap (or_else start) (position_more (is_claimed_by air k) regions i d lt))

pub at_replicate : (n k : ℕ) → winner_at (replicate n None) k ≡ None
at_replicate zero k = refl
at_replicate (suc n) zero = refl
at_replicate (suc n) (suc k) = at_replicate n k

some_same : (w v : Woven) → ◌≡◌ {A = Option Woven} (Some w) (Some v) → w ≡ v
some_same w v e = cc e

none_some : (v : Woven) → ◌≡◌ {A = Option Woven} None (Some v) → ⊥
none_some v e = cc e

lower_from : (w v : Woven) (ws : List Woven) (o : Option Woven) → ((x : Woven) → o ≡ Some x → Has ws x) → lower w o ≡ Some v → Has (w ∷ ws) v
lower_from w v ws None h e = inl (some_same w v e)
lower_from w v ws (Some x) h e =
    elim (cases_Bool (nat_le w.instance x.instance)) [
      | inl less ↦ inl (some_same w v (sym (cond-true (nat_le w.instance x.instance) (Some w) (Some x) less) ∙ e))
      | inr more ↦ inr (subst (Has ws) (some_same x v (sym (cond-false (nat_le w.instance x.instance) (Some w) (Some x) more) ∙ e)) (h x refl))
    ]

pub lowest_from : (ws : List Woven) (v : Woven) → lowest ws ≡ Some v → Has ws v
lowest_from [] v e = absurd (none_some v e)
lowest_from (w ∷ ws) v e = lower_from w v ws (lowest ws) (λ x. lowest_from ws x) e

lower_first : (w : Woven) (o : Option Woven) → ((x : Woven) → o ≡ Some x → w.instance ≤ x.instance) → lower w o ≡ Some w
lower_first w None h = refl
lower_first w (Some x) h = cond-true (nat_le w.instance x.instance) (Some w) (Some x) (le-leb w.instance x.instance (h x refl))

-- of rising instances the first that passes is the lowest
pub first_is_lowest : (p : Woven → Bool) (woven : List Woven) (i : ℕ) (d : Woven) → AllPairs (λ v w. v.instance < w.instance) woven → i < length woven → p (get_or woven i d) ≡ true
    → lowest (filter p (drop i woven)) ≡ Some (get_or woven i d)
first_is_lowest p woven i d rising lt passed =
    ap (λ l. lowest (filter p l)) (drop_more woven i d lt)
    ∙ ap lowest (cond-true (p (get_or woven i d)) (get_or woven i d ∷ filter p (drop (i + 1) woven)) (filter p (drop (i + 1) woven)) passed)
    ∙ lower_first (get_or woven i d) (lowest (filter p (drop (i + 1) woven))) (λ x e.
    let c = contains_from_has (drop (i + 1) woven) x (has_filtered p (drop (i + 1) woven) x (lowest_from (filter p (drop (i + 1) woven)) x e)) in
    let inside : i + 1 + c.0 < length woven = omega (arith, c.1, length-drop (i + 1) woven) in
    let at : get_or woven (i + 1 + c.0) x ≡ x = sym (get_or-drop (i + 1) woven c.0 x) ∙ c.2 in
    let up : (get_or woven i x).instance < (get_or woven (i + 1 + c.0) x).instance = rising i (i + 1 + c.0) x (omega arith) inside in
    omega (arith, up, ap (λ (w : Woven). w.instance) at, ap (λ (w : Woven). w.instance) (get_or_default woven i d x lt)))
