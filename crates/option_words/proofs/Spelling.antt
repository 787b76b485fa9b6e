-- What a word is, by what clap's lexer makes of it.
use Rattle.std.proofs.Common.{◌≡◌, ◌∙◌, ap, ap₂, refl, sym, true, false, true≢false, Bool, cond, ℕ, suc, ◌+◌, [], ◌∷◌, ◌++◌, append_assoc, length, take, drop, Option, Some, None, codes, arith}
use Rattle.std.specs.Prelude.{bytes_eq, slice_get, ◌||◌, ◌==◌, option_and_then, not}
use Rattle.std.specs.List.{before_first, after_first, position_or_len}
use Rattle.std.specs.Str.{chars}
use Rattle.std.proofs.lemmas.Bool.Decides.{nat_tests}
use Rattle.std.proofs.lemmas.Slice.Eq.{bytes_eq-Decides}
use Rattle.std.proofs.lemmas.List.{take-append-drop}
use Rattle.clap.specs.Words.{Text}
use Rattle.clap.specs.Lexer.{has_byte, long_of, long_of_rest, name_and_value, short_of, short_of_rest, strip_byte}
use Rattle.option_words.specs.Grammar.{as_option, begins_with, begins_with_dash, either_of, name_of, option_of}
use Rattle.option_words.specs.declared.options.Key.{Key}
use Rattle.option_words.specs.declared.options.Key.TheVariants.{Load, Demo, Replay, Workers}
use Rattle.option_words.proofs.ClapSteps.{id_of, attached}
use Rattle.option_words.proofs.WordKinds.{IsLoose, IsUnknown, unknown_long, unknown_short, loose_flags, loose_plain}

strip_is : (c : ℕ) (word rest : Text) → strip_byte c word ≡ Some rest → word ≡ c ∷ rest
strip_is c [] rest e = cc
strip_is c (x ∷ xs) rest e = by (x == c) refl e
  where
    by : (b : Bool) → (x == c) ≡ b → cond b (Some xs) None ≡ Some rest → x ∷ xs ≡ c ∷ rest
    by true is e = let same : x ≡ c = grind (arith, nat_tests) in cc
    by false is e = cc

-- a name, and behind `=` a value where there is one
abbrev pub spelled : Text → Option Text → Text
spelled name None = name
spelled name (Some value) = name ++ 61 ∷ value

abbrev is_equals : ℕ → Bool
is_equals x = x == 61

cut_spelled : (text : Text) → text ≡ spelled (before_first is_equals text) (cond (has_byte 61 text) (Some (after_first is_equals text)) None)
cut_spelled [] = refl
cut_spelled (x ∷ xs) = by (x == 61) refl (cut_spelled xs)
  where
    places : (n : ℕ) → 1 + n ≡ suc n
    places n = omega arith

    more : (n : ℕ) (b : Bool) → xs ≡ spelled (take n xs) (cond b (Some (drop (n + 1) xs)) None) → x ∷ xs ≡ spelled (take (1 + n) (x ∷ xs)) (cond b (Some (drop (1 + n + 1) (x ∷ xs))) None)
    more n true e = let next : suc n + 1 ≡ suc (n + 1) = omega arith in rw (places n, next) (ap (λ l. x ∷ l) e)
    more n false e = rw (places n) (ap (λ l. x ∷ l) e)

    by : (b : Bool) → (x == 61) ≡ b → xs ≡ spelled (before_first is_equals xs) (cond (has_byte 61 xs) (Some (after_first is_equals xs)) None)
        → x ∷ xs ≡ spelled (take (cond (not b) (1 + position_or_len is_equals xs) 0) (x ∷ xs)) (cond (b || has_byte 61 xs) (Some (drop (cond (not b) (1 + position_or_len is_equals xs) 0 + 1) (x ∷ xs))) None)
    by true is e = let same : x ≡ 61 = grind (arith, nat_tests) in ap (λ n. n ∷ xs) same
    by false is e = more (position_or_len is_equals xs) (has_byte 61 xs) e

long_spelled : (word name : Text) (value : Option Text) → long_of word ≡ Some (name, value) → word ≡ 45 ∷ 45 ∷ spelled name value
long_spelled word name value e = one (strip_byte 45 word) refl e
  where
    cut : (text : Text) → long_of_rest text ≡ Some (name, value) → text ≡ spelled name value
    cut [] e = cc
    cut (x ∷ xs) e = let same : name_and_value (x ∷ xs) ≡ (name, value) = cc in cut_spelled (x ∷ xs) ∙ ap (λ (p : Text × Option Text). spelled p.0 p.1) same

    two : (rest : Text) → word ≡ 45 ∷ rest → (text : Option Text) → strip_byte 45 rest ≡ text → option_and_then long_of_rest text ≡ Some (name, value) → word ≡ 45 ∷ 45 ∷ spelled name value
    two rest at None is e = cc
    two rest at (Some text) is e = at ∙ ap (λ l. 45 ∷ l) (strip_is 45 rest text is ∙ ap (λ l. 45 ∷ l) (cut text e))

    one : (rest : Option Text) → strip_byte 45 word ≡ rest → option_and_then long_of_rest (option_and_then (strip_byte 45) rest) ≡ Some (name, value) → word ≡ 45 ∷ 45 ∷ spelled name value
    one None is e = cc
    one (Some rest) is e = two rest (strip_is 45 word rest is) (strip_byte 45 rest) refl e

long_dash : (word name : Text) (value : Option Text) → long_of word ≡ Some (name, value) → begins_with_dash word ≡ true
long_dash word name value e = ap begins_with_dash (long_spelled word name value e)

short_dash : (word flags : Text) → short_of word ≡ Some flags → begins_with_dash word ≡ true
short_dash word flags e = one (strip_byte 45 word) refl e
  where
    one : (rest : Option Text) → strip_byte 45 word ≡ rest → option_and_then short_of_rest rest ≡ Some flags → begins_with_dash word ≡ true
    one None is e = cc
    one (Some rest) is e = ap begins_with_dash (strip_is 45 word rest is)

long_of_name : (k : Key) → long_of (name_of k) ≡ Some (id_of k, None)
long_of_name Load = refl
long_of_name Demo = refl
long_of_name Replay = refl
long_of_name Workers = refl

long_of_attached : (k : Key) (value : Text) → long_of (attached k value) ≡ Some (id_of k, Some value)
long_of_attached Load value = refl
long_of_attached Demo value = refl
long_of_attached Replay value = refl
long_of_attached Workers value = refl

-- what is no long flag with an option's name is no option
no_long : (word : Text) (k : Key) → ((value : Option Text) → long_of word ≡ Some (id_of k, value) → ⊥) → as_option k word ≡ None
no_long word k other = by (bytes_eq word (name_of k)) refl (begins_with (name_of k ++ codes "=") word) refl
  where
    front : ℕ
    front = length (name_of k ++ codes "=")

    by : (a : Bool) → bytes_eq word (name_of k) ≡ a → (b : Bool) → begins_with (name_of k ++ codes "=") word ≡ b
        → cond {A = Option (Key × Option Text)} a (Some (k, None)) (cond {A = Option (Key × Option Text)} b (Some (k, Some (drop (length (name_of k) + 1) word))) None) ≡ None
    by true is b _ = absurd (other None (ap long_of ((bytes_eq-Decides word (name_of k)).0 is) ∙ long_of_name k))
    by false _ true is =
        let begins : take front word ≡ name_of k ++ codes "=" = (bytes_eq-Decides (take front word) (name_of k ++ codes "=")).0 is in
        let whole : word ≡ attached k (drop front word) = sym (take-append-drop front word) ∙ ap (λ l. l ++ drop front word) begins ∙ append_assoc (name_of k) (codes "=") (drop front word) in
        absurd (other (Some (drop front word)) (ap long_of whole ∙ long_of_attached k (drop front word)))
    by false _ false _ = refl

none_of : (word : Text) → ((k : Key) (value : Option Text) → long_of word ≡ Some (id_of k, value) → ⊥) → option_of word ≡ None
none_of word other = ap₂ either_of (no_long word Load (other Load)) (ap₂ either_of (no_long word Demo (other Demo)) (ap₂ either_of (no_long word Replay (other Replay)) (no_long word Workers (other Workers))))

-- a word is an option's name, its name and a value, a word that clap refuses, or one that it takes for a value
pub data IsWord (word : Text) : Type 0 where
  is_named : (k : Key) → word ≡ name_of k → IsWord word
  is_attached : (k : Key) (value : Text) → word ≡ attached k value → IsWord word
  is_unknown : IsUnknown word → option_of word ≡ None → begins_with_dash word ≡ true → IsWord word
  is_loose : IsLoose word → option_of word ≡ None → IsWord word

long_name : (k : Key) → 45 ∷ 45 ∷ id_of k ≡ name_of k
long_name Load = refl
long_name Demo = refl
long_name Replay = refl
long_name Workers = refl

pub classify : (word : Text) → bytes_eq word (codes "--") ≡ false → IsWord word
classify word other = on_long (long_of word) refl
  where
    spelled_out : (k : Key) (name : Text) → bytes_eq (id_of k) name ≡ true → (rest : Text) → 45 ∷ 45 ∷ (name ++ rest) ≡ name_of k ++ rest
    spelled_out k name same rest = ap (λ (n : Text). 45 ∷ 45 ∷ (n ++ rest)) (sym ((bytes_eq-Decides (id_of k) name).0 same)) ∙ ap (λ (n : Text). n ++ rest) (long_name k)

    not_key : (k : Key) (name : Text) (value : Option Text) → long_of word ≡ Some (name, value) → bytes_eq (id_of k) name ≡ false → (v : Option Text) → long_of word ≡ Some (id_of k, v) → ⊥
    not_key k name value is differs v at =
        let pair : (name, value) ≡ (id_of k, v) = cc in
        let same : id_of k ≡ name = sym (ap (λ (p : Text × Option Text). p.0) pair) in
        true≢false (sym ((bytes_eq-Decides (id_of k) name).1 same) ∙ differs)

    on_key : (k : Key) (name : Text) (value : Option Text) → long_of word ≡ Some (name, value) → bytes_eq (id_of k) name ≡ true → IsWord word
    on_key k name None is same = is_named k (long_spelled word name None is ∙ ap (λ (n : Text). 45 ∷ 45 ∷ n) (sym ((bytes_eq-Decides (id_of k) name).0 same)) ∙ long_name k)
    on_key k name (Some value) is same = is_attached k value (long_spelled word name (Some value) is ∙ spelled_out k name same (61 ∷ value))

    on_name : (name : Text) (value : Option Text) → long_of word ≡ Some (name, value) → (a : Bool) → bytes_eq (id_of Load) name ≡ a → (b : Bool) → bytes_eq (id_of Demo) name ≡ b
        → (c : Bool) → bytes_eq (id_of Replay) name ≡ c → (d : Bool) → bytes_eq (id_of Workers) name ≡ d → IsWord word
    on_name name value is true same b _ c _ d _ = on_key Load name value is same
    on_name name value is false _ true same c _ d _ = on_key Demo name value is same
    on_name name value is false _ false _ true same d _ = on_key Replay name value is same
    on_name name value is false _ false _ false _ true same = on_key Workers name value is same
    on_name name value is false no_load false no_demo false no_replay false no_workers =
        is_unknown (unknown_long word name value other is differ)
        (none_of word (λ k v at. not_key k name value is (differ k) v at))
        (long_dash word name value is)
      where
        differ : (k : Key) → bytes_eq (id_of k) name ≡ false
        differ Load = no_load
        differ Demo = no_demo
        differ Replay = no_replay
        differ Workers = no_workers

    no_option : long_of word ≡ None → option_of word ≡ None
    no_option none = none_of word (λ k v at. cc)

    on_first : long_of word ≡ None → (flags : Text) → short_of word ≡ Some flags → (first : Option ℕ) → slice_get (chars flags) 0 ≡ first → IsWord word
    on_first none flags is None at = is_loose (loose_flags word flags other none is at) (no_option none)
    on_first none flags is (Some x) at = is_unknown (unknown_short word flags x other none is at) (no_option none) (short_dash word flags is)

    on_short : long_of word ≡ None → (flags : Option Text) → short_of word ≡ flags → IsWord word
    on_short none None is = is_loose (loose_plain word other none is) (no_option none)
    on_short none (Some flags) is = on_first none flags is (slice_get (chars flags) 0) refl

    on_long : (p : Option (Text × Option Text)) → long_of word ≡ p → IsWord word
    on_long None is = on_short is (short_of word) refl
    on_long (Some (name, value)) is = on_name name value is (bytes_eq (id_of Load) name) refl (bytes_eq (id_of Demo) name) refl (bytes_eq (id_of Replay) name) refl (bytes_eq (id_of Workers) name) refl
