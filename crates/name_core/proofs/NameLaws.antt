-- What reads as a name is one, and the other way round.
use Rattle.std.proofs.Common.{◌≡◌, ◌↔◌, ◌≤◌, ℕ, Bool, true, false, not, cond, ◌==◌, nat_lt, All, IsOk, Err, Option, Some, None, List, length, drop, slice_index, position, get_or, arith, refl, ap, sym, ◌∙◌, subst, ne_eqb}
use Rattle.std.specs.List.{position_or_len}
use Rattle.std.proofs.lemmas.Bool.{not-false, eqb-false, ltb-false, le-ltb}
use Rattle.std.proofs.lemmas.List.Sums.{fails_before_first, position_or_len_is}
use Rattle.name_core.specs.NameText.{IsName, is_first_byte, is_next_byte, after_first, first_bad, read_with, read_name}
use Rattle.name_core.specs.declared.name.NameFault.TheVariants.{Empty, Long}

ok_parts : (a b : Bool) (place : Option ℕ) (bytes : List ℕ) → IsOk (cond a (Err Empty) (cond b (Err Long) (read_with place bytes))) → (a ≡ false) × (b ≡ false) × (place ≡ None)
ok_parts true b place bytes h = absurd (cc)
ok_parts false true place bytes h = absurd (cc)
ok_parts false false (Some i) bytes h = absurd (cc)
ok_parts false false None bytes h = (refl, refl, refl)

whole_parts : (a b : Bool) (place : Option ℕ) (bytes : List ℕ) → a ≡ false → b ≡ false → place ≡ None → IsOk (cond a (Err Empty) (cond b (Err Long) (read_with place bytes)))
whole_parts a b place bytes p q r = subst (λ x. IsOk (cond x (Err Empty) (cond b (Err Long) (read_with place bytes)))) (sym p) (subst (λ x. IsOk (cond x (Err Long) (read_with place bytes))) (sym q) (subst (λ x. IsOk (read_with x bytes)) (sym r) refl))

place_parts : (a : Bool) (place : Option ℕ) → cond a (after_first place) (Some 0) ≡ None → (a ≡ true) × (place ≡ None)
place_parts true None h = (refl, refl)
place_parts true (Some i) h = absurd (cc)
place_parts false place h = absurd (cc)

none_before : (t : Bool) (i : ℕ) → cond t (Some i) None ≡ None → t ≡ false
none_before true i h = absurd (cc)
none_before false i h = refl

-- no byte is bad where the first bad one has no place
none_bad : (p : ℕ → Bool) (xs : List ℕ) → position (λ x. not (p x)) xs ≡ None → All (λ b. p b ≡ true) xs
none_bad p xs h k d lt =
    let end : nat_lt (position_or_len (λ x. not (p x)) xs) (length xs) ≡ false = none_before _ _ h in
    let past : length xs ≤ position_or_len (λ x. not (p x)) xs = ltb-false _ _ end in
    not-false (p (get_or xs k d)) (fails_before_first (λ x. not (p x)) xs k d (omega (arith, past, lt)))

all_good : (p : ℕ → Bool) (xs : List ℕ) → All (λ b. p b ≡ true) xs → position (λ x. not (p x)) xs ≡ None
all_good p xs h =
    let end : position_or_len (λ x. not (p x)) xs ≡ length xs =
    position_or_len_is (λ x. not (p x)) xs (length xs) 0 (omega arith) (λ k lt. ap not (h k 0 lt)) (λ lt. absurd (omega (arith, lt))) in
    ap (λ n. cond (nat_lt n (length xs)) (Some n) None) end ∙ ap (λ t. cond t (Some (length xs)) None) (le-ltb (length xs) (length xs) (omega arith))

pub accepted : (bytes : List ℕ) → IsOk (read_name bytes) ↔ IsName bytes
accepted bytes =
    let rest : List ℕ = drop 1 bytes in
    let bad : Option ℕ = position (λ x. not (is_next_byte x)) rest in (
      λ ok.
          let parts = ok_parts (length bytes == 0) (nat_lt 64 (length bytes)) (first_bad bytes) bytes ok in
          let places = place_parts (is_first_byte (slice_index bytes 0)) bad parts.2 in
          record {
            some = omega (arith, eqb-false (length bytes) 0 parts.0);
            short = ltb-false 64 (length bytes) parts.1;
            first = places.0;
            rest = none_bad is_next_byte rest places.1;
          },
      λ name.
          whole_parts (length bytes == 0) (nat_lt 64 (length bytes)) (first_bad bytes) bytes
          (ne_eqb (length bytes) 0 (λ e. omega (arith, e, name.some)))
          (le-ltb 64 (length bytes) name.short)
          (ap (λ t. cond t (after_first bad) (Some 0)) name.first ∙ ap after_first (all_good is_next_byte rest name.rest)),
    )
