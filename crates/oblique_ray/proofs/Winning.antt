-- The region that wins at a place: of those whose trees hold there one without air, and then the first.
use Rattle.std.proofs.Common.{◌≡◌, ◌↔◌, ◌⊎◌, ◌<◌, ℕ, List, length, get_or, Bool, true, false, ◌&&◌, not, cond, nat_lt, Option, Some, None, refl, ap, sym, ◌∙◌, inl, inr, arith}
use Rattle.std.specs.List.{position, position_or_len}
use Rattle.std.proofs.lemmas.Bool.{cases_lt, and_parts, and_from, lt-ltb, le-ltb, true≢false}
use Rattle.std.proofs.lemmas.List.Sums.{position_or_len_is, fails_before_first}
use Rattle.std.proofs.lemmas.List.Quantifiers.{position-Some}
use Rattle.overlap_list.specs.Winners.{or_else}

some_at : {X : Type 0} (p : X → Bool) (xs : List X) (n : ℕ) (d : X) → n < length xs → p (get_or xs n d) ≡ true → ((k : ℕ) → k < n → p (get_or xs k d) ≡ false) → position p xs ≡ Some n
some_at p xs n d lt is before =
    ap (λ (m : ℕ). cond (nat_lt m (length xs)) (Some m) None) (position_or_len_is p xs n d (omega (arith, lt)) before (λ within. is))
    ∙ ap (λ (b : Bool). cond b (Some n) None) (lt-ltb n (length xs) lt)

none_at : {X : Type 0} (p : X → Bool) (xs : List X) (d : X) → ((k : ℕ) → k < length xs → p (get_or xs k d) ≡ false) → position p xs ≡ None
none_at p xs d fails =
    ap (λ (m : ℕ). cond (nat_lt m (length xs)) (Some m) None) (position_or_len_is p xs (length xs) d (omega arith) fails (λ within. absurd (omega (arith, within))))
    ∙ ap (λ (b : Bool). cond b (Some (length xs)) None) (le-ltb (length xs) (length xs) (omega arith))

none_here : {X : Type 0} (p : X → Bool) (xs : List X) (d : X) → position p xs ≡ None → (k : ℕ) → k < length xs → p (get_or xs k d) ≡ false
none_here p xs d none k lt = elim (cases_lt (position_or_len p xs) (length xs)) [
  | inl within ↦ absurd (let e : Some (position_or_len p xs) ≡ None = sym (ap (λ (b : Bool). cond b (Some (position_or_len p xs)) None) (lt-ltb (position_or_len p xs) (length xs) within)) ∙ none in cc)
  | inr past ↦ fails_before_first p xs k d (omega (arith, lt, past))
]

-- what wins, by numbers
pub record IsFirstOf {X : Type 0} (air holds : X → Bool) (xs : List X) (d : X) (n : ℕ) : Type 0 where
  pub within : n < length xs
  pub held : holds (get_or xs n d) ≡ true
  pub first : (k : ℕ) → k < length xs → (air (get_or xs k d) ≡ false) × (air (get_or xs n d) ≡ true) ⊎ ((air (get_or xs k d) ≡ air (get_or xs n d)) × (k < n)) → holds (get_or xs k d) ≡ false

module _ {X : Type 0} (air holds : X → Bool) (xs : List X) (d : X) where
  abbrev solid : X → Bool
  solid x = not (air x) && holds x

  abbrev airy : X → Bool
  airy x = air x && holds x

  abbrev winner : Option ℕ
  winner = or_else (position solid xs) (position airy xs)

  not_held : (b h : Bool) → (b && h) ≡ false → b ≡ true → h ≡ false
  not_held true h e is = e
  not_held false h e is = absurd (true≢false (sym is))

  turned_true : (b : Bool) → not b ≡ true → b ≡ false
  turned_true true e = absurd (true≢false (sym e))
  turned_true false e = refl

  turned_false : (b : Bool) → b ≡ false → not b ≡ true
  turned_false true e = absurd (true≢false e)
  turned_false false e = refl

  by_solid : (n : ℕ) → position solid xs ≡ Some n → IsFirstOf air holds xs d n
  by_solid n e =
      let at = position-Some solid xs n d e in
      let both = and_parts (not (air (get_or xs n d))) (holds (get_or xs n d)) at.1 in
      let no_air : air (get_or xs n d) ≡ false = turned_true (air (get_or xs n d)) both.0 in
      record {
        within = at.0;
        held = both.1;
        first = λ k lt wins. elim wins [
          | inl worse ↦ absurd (true≢false (sym worse.1 ∙ no_air))
          | inr alike ↦ not_held (not (air (get_or xs k d))) (holds (get_or xs k d)) (at.2 k alike.1) (turned_false (air (get_or xs k d)) (alike.0 ∙ no_air))
        ];
      }

  by_air : (n : ℕ) → position solid xs ≡ None → position airy xs ≡ Some n → IsFirstOf air holds xs d n
  by_air n none e =
      let at = position-Some airy xs n d e in
      let both = and_parts (air (get_or xs n d)) (holds (get_or xs n d)) at.1 in
      record {
        within = at.0;
        held = both.1;
        first = λ k lt wins. elim wins [
          | inl better ↦ not_held (not (air (get_or xs k d))) (holds (get_or xs k d)) (none_here solid xs d none k lt) (turned_false (air (get_or xs k d)) better.0)
          | inr alike ↦ not_held (air (get_or xs k d)) (holds (get_or xs k d)) (at.2 k alike.1) (alike.0 ∙ both.0)
        ];
      }

  first_by : (n : ℕ) (one two : Option ℕ) → position solid xs ≡ one → position airy xs ≡ two → or_else one two ≡ Some n → IsFirstOf air holds xs d n
  first_by n (Some m) two e f is = by_solid n (e ∙ is)
  first_by n None two e f is = by_air n e (f ∙ is)

  -- a test that fails where it must not be so
  fails_both : (b h : Bool) → (b ≡ true → h ≡ true → ⊥) → (b && h) ≡ false
  fails_both true true none = absurd (none refl refl)
  fails_both true false none = refl
  fails_both false h none = refl

  from_first : (n : ℕ) (b : Bool) → air (get_or xs n d) ≡ b → IsFirstOf air holds xs d n → winner ≡ Some n
  from_first n false e h =
      let here : solid (get_or xs n d) ≡ true = and_from (not (air (get_or xs n d))) (holds (get_or xs n d)) (turned_false (air (get_or xs n d)) e) h.held in
      ap (λ (one : Option ℕ). or_else one (position airy xs)) (some_at solid xs n d h.within here (λ k lt.
      fails_both (not (air (get_or xs k d))) (holds (get_or xs k d)) (λ no_air held.
      true≢false (sym held ∙ h.first k (omega (arith, lt, h.within)) (inr (turned_true (air (get_or xs k d)) no_air ∙ sym e, lt))))))
  from_first n true e h =
      let here : airy (get_or xs n d) ≡ true = and_from (air (get_or xs n d)) (holds (get_or xs n d)) e h.held in
      ap (λ (one : Option ℕ). or_else one (position airy xs)) (none_at solid xs d (λ k lt.
      fails_both (not (air (get_or xs k d))) (holds (get_or xs k d)) (λ no_air held. true≢false (sym held ∙ h.first k lt (inl (turned_true (air (get_or xs k d)) no_air, e))))))
      ∙ some_at airy xs n d h.within here (λ k lt. fails_both (air (get_or xs k d)) (holds (get_or xs k d)) (λ is held. true≢false (sym held ∙ h.first k (omega (arith, lt, h.within)) (inr (is ∙ sym e, lt)))))

  pub winner_first : (n : ℕ) → (winner ≡ Some n) ↔ IsFirstOf air holds xs d n
  winner_first n = (first_by n (position solid xs) (position airy xs) refl refl, from_first n (air (get_or xs n d)) refl)
