-- Two lists of pairs made one.
use Rattle.std.proofs.Common.{◌≡◌, ◌<◌, ◌≤◌, ◌+◌, ◌-◌, ◌⊎◌, ℕ, zero, suc, List, [], ◌∷◌, ◌++◌, length, get_or, drop, Bool, true, false, cond, Option, Some, None, AllPairs, ap, sym, ◌∙◌, subst, refl, inl, inr, arith}
use Rattle.std.specs.List.{filter_map, cons_option}
use Rattle.std.proofs.lemmas.Bool.{cases_Bool, cond-true, cond-false}
use Rattle.std.proofs.lemmas.Bool.Decides.{nat_tests}
use Rattle.bool_weave.proofs.Sorted.{Has, has_at, contains_from_has}
use Rattle.overlap_list.specs.declared.overlap.CheckFault.{CheckFault}
use Rattle.overlap_list.specs.Overlaps.{IsTooMany}
use Rattle.overlap_list.proofs.Overlapping.{more_too_many}
use Rattle.overlap_list.proofs.Ordered.{Rises, has_chosen}
use Rattle.shot_core.specs.declared.pair.Pair.{Pair}
use Rattle.tile_shot.specs.Reports.{PlacePair}
use Rattle.tile_shot.specs.Merges.{HasLowerPair, comes_before, joined, merged_from, merged}

pub rises_from_pairs : {X : Type 0} (R : X → X → Type 0) (xs : List X) → AllPairs R xs → Rises R xs
rises_from_pairs R [] p = tt
rises_from_pairs R (x ∷ xs) p = (
  λ y h. let c = contains_from_has xs y h in subst (λ w. R x w) c.2 (p zero (suc c.0) y (omega arith) (omega (arith, c.1))),
  rises_from_pairs R xs (λ i j d lt within. p (suc i) (suc j) d (omega (arith, lt)) (omega (arith, within))),
)

pub lower_before : (a b : Pair) → HasLowerPair a b → comes_before a b ≡ true
lower_before a b h = grind (arith, nat_tests)

pub lower_not_after : (a b : Pair) → HasLowerPair a b → comes_before b a ≡ false
lower_not_after a b h = grind (arith, nat_tests)

pub same_not_before : (a b : Pair) → a.one ≡ b.one → a.two ≡ b.two → comes_before a b ≡ false
same_not_before a b one two = grind (arith, nat_tests)

pub merged_none : (xs : List Pair) → merged xs [] ≡ xs
merged_none [] = refl
merged_none (x ∷ xs) = refl

pub first_below : (x : Pair) (xs ys : List Pair) → ((y : Pair) → Has ys y → HasLowerPair x y) → merged (x ∷ xs) ys ≡ x ∷ merged xs ys
first_below x xs [] h = ap (λ l. x ∷ l) (sym (merged_none xs))
first_below x xs (y ∷ ys) h =
    cond-true (comes_before x y) (x ∷ merged xs (y ∷ ys)) (cond (comes_before y x) (y ∷ merged_from x xs (merged xs) ys) (joined x y ∷ merged xs ys)) (lower_before x y (h y (inl refl)))

pub second_below : (y : Pair) (xs ys : List Pair) → ((x : Pair) → Has xs x → HasLowerPair y x) → merged xs (y ∷ ys) ≡ y ∷ merged xs ys
second_below y [] ys h = refl
second_below y (x ∷ xs) ys h =
    let lower = h x (inl refl) in
    cond-false (comes_before x y) (x ∷ merged xs (y ∷ ys)) (cond (comes_before y x) (y ∷ merged_from x xs (merged xs) ys) (joined x y ∷ merged xs ys)) (lower_not_after y x lower)
    ∙ cond-true (comes_before y x) (y ∷ merged_from x xs (merged xs) ys) (joined x y ∷ merged xs ys) (lower_before y x lower)

pub both_first : (x y : Pair) (xs ys : List Pair) → comes_before x y ≡ false → comes_before y x ≡ false → merged (x ∷ xs) (y ∷ ys) ≡ joined x y ∷ merged xs ys
both_first x y xs ys one two =
    cond-false (comes_before x y) (x ∷ merged xs (y ∷ ys)) (cond (comes_before y x) (y ∷ merged_from x xs (merged xs) ys) (joined x y ∷ merged xs ys)) one
    ∙ cond-false (comes_before y x) (y ∷ merged_from x xs (merged xs) ys) (joined x y ∷ merged xs ys) two

-- what two lists say of one pair
abbrev pub combined : Option Pair → Option Pair → Option Pair
combined None b = b
combined (Some a) None = Some a
combined (Some a) (Some b) = Some (joined a b)

-- a pair of places has lower places
abbrev pub IsLower : PlacePair → PlacePair → Type 0
IsLower p q = (p.one < q.one) ⊎ ((p.one ≡ q.one) × (p.two < q.two))

-- a list of pairs made of pairs of places
module _ (f g : PlacePair → Option Pair) (f_keys : (p : PlacePair) (x : Pair) → f p ≡ Some x → (x.one ≡ p.one) × (x.two ≡ p.two)) (g_keys : (p : PlacePair) (x : Pair) → g p ≡ Some x → (x.one ≡ p.one) × (x.two ≡ p.two)) where
  lower_keys : (p q : PlacePair) (x y : Pair) → IsLower p q → (x.one ≡ p.one) × (x.two ≡ p.two) → (y.one ≡ q.one) × (y.two ≡ q.two) → HasLowerPair x y
  lower_keys p q x y (inl lt) k l = inl (omega (arith, lt, k.0, l.0))
  lower_keys p q x y (inr h) k l = inr (omega (arith, h.0, k.0, l.0), omega (arith, h.1, k.1, l.1))

  step : (p : PlacePair) (ps : List PlacePair) (a b : Option Pair) → f p ≡ a → g p ≡ b → ((q : PlacePair) → Has ps q → IsLower p q)
      → merged (filter_map f ps) (filter_map g ps) ≡ filter_map (λ q. combined (f q) (g q)) ps
      → merged (cons_option a (filter_map f ps)) (cons_option b (filter_map g ps)) ≡ cons_option (combined a b) (filter_map (λ q. combined (f q) (g q)) ps)
  step p ps None None e d above rest = rest
  step p ps (Some x) None e d above rest =
      first_below x (filter_map f ps) (filter_map g ps) (λ y h. let c = has_chosen g ps y h in lower_keys p c.0 x y (above c.0 c.1) (f_keys p x e) (g_keys c.0 y c.2))
      ∙ ap (λ l. x ∷ l) rest
  step p ps None (Some y) e d above rest =
      second_below y (filter_map f ps) (filter_map g ps) (λ x h. let c = has_chosen f ps x h in lower_keys p c.0 y x (above c.0 c.1) (g_keys p y d) (f_keys c.0 x c.2))
      ∙ ap (λ l. y ∷ l) rest
  step p ps (Some x) (Some y) e d above rest =
      let k = f_keys p x e in
      let l = g_keys p y d in
      both_first x y (filter_map f ps) (filter_map g ps) (same_not_before x y (k.0 ∙ sym l.0) (k.1 ∙ sym l.1)) (same_not_before y x (l.0 ∙ sym k.0) (l.1 ∙ sym k.1))
      ∙ ap (λ l. joined x y ∷ l) rest

  pub merged_maps : (ps : List PlacePair) → Rises IsLower ps → merged (filter_map f ps) (filter_map g ps) ≡ filter_map (λ p. combined (f p) (g p)) ps
  merged_maps [] r = refl
  merged_maps (p ∷ ps) r = step p ps (f p) (g p) refl refl r.0 (merged_maps ps r.1)

-- the list made of two has no fewer pairs than either
from_first : (x : Pair) (xs : List Pair) (rest : List Pair → List Pair) (ys : List Pair) → ((zs : List Pair) → length xs ≤ length (rest zs)) → suc (length xs) ≤ length (merged_from x xs rest ys)
from_first x xs rest [] h = omega arith
from_first x xs rest (y ∷ ys) h =
    elim (cases_Bool (comes_before x y)) [
      | inl lower ↦ subst (λ (l : List Pair). suc (length xs) ≤ length l) (sym (cond-true (comes_before x y) (x ∷ rest (y ∷ ys)) _ lower)) (omega (arith, h (y ∷ ys)))
      | inr not ↦ subst (λ (l : List Pair). suc (length xs) ≤ length l) (sym (cond-false (comes_before x y) (x ∷ rest (y ∷ ys)) (cond (comes_before y x) (y ∷ merged_from x xs rest ys) (joined x y ∷ rest ys)) not)) (
          elim (cases_Bool (comes_before y x)) [
            | inl lower ↦ subst (λ (l : List Pair). suc (length xs) ≤ length l) (sym (cond-true (comes_before y x) (y ∷ merged_from x xs rest ys) (joined x y ∷ rest ys) lower)) (omega (arith, from_first x xs rest ys h))
            | inr same ↦ subst (λ (l : List Pair). suc (length xs) ≤ length l) (sym (cond-false (comes_before y x) (y ∷ merged_from x xs rest ys) (joined x y ∷ rest ys) same)) (omega (arith, h ys))
          ])
    ]

pub no_fewer_than_first : (xs ys : List Pair) → length xs ≤ length (merged xs ys)
no_fewer_than_first [] ys = omega arith
no_fewer_than_first (x ∷ xs) ys = from_first x xs (merged xs) ys (no_fewer_than_first xs)

from_second : (x : Pair) (xs : List Pair) (rest : List Pair → List Pair) (ys : List Pair) → ((zs : List Pair) → length zs ≤ length (rest zs)) → length ys ≤ length (merged_from x xs rest ys)
from_second x xs rest [] h = omega arith
from_second x xs rest (y ∷ ys) h =
    elim (cases_Bool (comes_before x y)) [
      | inl lower ↦ subst (λ (l : List Pair). suc (length ys) ≤ length l) (sym (cond-true (comes_before x y) (x ∷ rest (y ∷ ys)) _ lower)) (omega (arith, h (y ∷ ys)))
      | inr not ↦ subst (λ (l : List Pair). suc (length ys) ≤ length l) (sym (cond-false (comes_before x y) (x ∷ rest (y ∷ ys)) (cond (comes_before y x) (y ∷ merged_from x xs rest ys) (joined x y ∷ rest ys)) not)) (
          elim (cases_Bool (comes_before y x)) [
            | inl lower ↦ subst (λ (l : List Pair). suc (length ys) ≤ length l) (sym (cond-true (comes_before y x) (y ∷ merged_from x xs rest ys) (joined x y ∷ rest ys) lower)) (omega (arith, from_second x xs rest ys h))
            | inr same ↦ subst (λ (l : List Pair). suc (length ys) ≤ length l) (sym (cond-false (comes_before y x) (y ∷ merged_from x xs rest ys) (joined x y ∷ rest ys) same)) (omega (arith, h ys))
          ])
    ]

pub no_fewer_than_second : (xs ys : List Pair) → length ys ≤ length (merged xs ys)
no_fewer_than_second [] ys = omega arith
no_fewer_than_second (x ∷ xs) ys = from_second x xs (merged xs) ys (no_fewer_than_second xs)

-- where all of the second list comes behind the first, it is put there
lower_chain : (a b c : Pair) → HasLowerPair a b → comes_before b c ≡ true → comes_before a c ≡ true
lower_chain a b c h e = grind (arith, nat_tests)

behind : (xs : List Pair) (y : Pair) (ys : List Pair) (d : Pair) → 0 < length xs → comes_before (get_or xs (length xs - 1) d) y ≡ true → Rises HasLowerPair xs → merged xs (y ∷ ys) ≡ xs ++ y ∷ ys
behind [] y ys d some e r = absurd (omega (arith, some))
behind (x ∷ []) y ys d some e r = cond-true (comes_before x y) (x ∷ y ∷ ys) (cond (comes_before y x) (y ∷ merged_from x [] (merged []) ys) (joined x y ∷ ys)) e
behind (x ∷ z ∷ xs) y ys d some e r =
    let at : length (x ∷ z ∷ xs) - 1 ≡ suc (length xs) = omega arith in
    let at' : length (z ∷ xs) - 1 ≡ length xs = omega arith in
    let last : comes_before (get_or (z ∷ xs) (length xs) d) y ≡ true = subst (λ n. comes_before (get_or (x ∷ z ∷ xs) n d) y ≡ true) at e in
    let before : comes_before x y ≡ true = lower_chain x (get_or (z ∷ xs) (length xs) d) y (r.0 (get_or (z ∷ xs) (length xs) d) (has_at (z ∷ xs) (get_or (z ∷ xs) (length xs) d) d (length xs) (omega arith) refl)) last in
    cond-true (comes_before x y) (x ∷ merged (z ∷ xs) (y ∷ ys)) (cond (comes_before y x) (y ∷ merged_from x (z ∷ xs) (merged (z ∷ xs)) ys) (joined x y ∷ merged (z ∷ xs) ys)) before
    ∙ ap (λ l. x ∷ l) (behind (z ∷ xs) y ys d (omega arith) (subst (λ n. comes_before (get_or (z ∷ xs) n d) y ≡ true) (sym at') last) r.1)

append_none : (xs : List Pair) → xs ++ [] ≡ xs
append_none [] = refl
append_none (x ∷ xs) = ap (λ l. x ∷ l) (append_none xs)

pub behind_none : (xs ys : List Pair) → length ys ≡ 0 → merged xs ys ≡ xs ++ ys
behind_none xs [] e = merged_none xs ∙ sym (append_none xs)
behind_none xs (y ∷ ys) e = absurd (omega (arith, e))

pub before_none : (xs ys : List Pair) → length xs ≡ 0 → merged xs ys ≡ xs ++ ys
before_none [] ys e = refl
before_none (x ∷ xs) ys e = absurd (omega (arith, e))

pub put_behind : (xs ys : List Pair) (d e : Pair) (b : Bool) → AllPairs HasLowerPair xs → b ≡ comes_before (get_or xs (length xs - 1) d) (get_or ys 0 e) → b ≡ true → merged xs ys ≡ xs ++ ys
put_behind [] ys d e b p is so = refl
put_behind (x ∷ xs) [] d e b p is so = sym (append_none (x ∷ xs))
put_behind (x ∷ xs) (y ∷ ys) d e b p is so = behind (x ∷ xs) y ys d (omega arith) (sym is ∙ so) (rises_from_pairs HasLowerPair (x ∷ xs) p)

drop_all : {X : Type 0} (xs : List X) (i : ℕ) → length xs ≤ i → drop i xs ≡ []
drop_all [] zero le = refl
drop_all [] (suc i) le = refl
drop_all (x ∷ xs) zero le = absurd (omega (arith, le))
drop_all (x ∷ xs) (suc i) le = drop_all xs i (omega (arith, le))

-- where one of the lists has ended the rest of both follows
pub rest_of_both : (xs ys : List Pair) (i j : ℕ) → (length xs ≤ i) ⊎ (length ys ≤ j) → merged (drop i xs) (drop j ys) ≡ drop i xs ++ drop j ys
rest_of_both xs ys i j (inl e) = let none = drop_all xs i e in ap (λ l. merged l (drop j ys)) none ∙ ap (λ l. l ++ drop j ys) (sym none)
rest_of_both xs ys i j (inr e) =
    let none = drop_all ys j e in
    ap (λ l. merged (drop i xs) l) none ∙ merged_none (drop i xs) ∙ sym (append_none (drop i xs)) ∙ ap (λ l. drop i xs ++ l) (sym none)

pub length_both : (xs ys : List Pair) → length (xs ++ ys) ≡ length xs + length ys
length_both [] ys = omega arith
length_both (x ∷ xs) ys = omega (arith, length_both xs ys)

module _ (whole all xs ys : List Pair) (old : List Pair) (is : whole ≡ all ++ old) (opened : old ≡ xs ++ ys) where
  pub rest_is : (new : List Pair) → new ≡ all ++ (xs ++ ys) → new ≡ whole
  rest_is new grown = grown ∙ ap (λ l. all ++ l) (sym opened) ∙ sym is

  pub rest_too_many : (fault : CheckFault) → IsTooMany (length all + (length xs + length ys)) fault → IsTooMany (length whole) fault
  rest_too_many fault h =
      more_too_many (length all + (length xs + length ys)) (length whole) fault (omega (arith, ap length (is ∙ ap (λ l. all ++ l) opened), length_both all (xs ++ ys), length_both xs ys)) h
