-- How the level changes at a token, and where a word ends.
use Rattle.std.proofs.Common.{◌≡◌, ◌≢◌, ℕ, ◌+◌, ◌-◌, ◌<◌, ◌≤◌, ◌++◌, ◌∷◌, [], List, length, take, get_or, cond, true, false, arith, Some, None, refl, ap, sym, ◌∙◌}
use Rattle.std.specs.Prelude.{count_by, filter_map, not, ◌==◌}
use Rattle.std.specs.List.{range_with_len}
use Rattle.std.proofs.lemmas.Bool.{eq-eqb, ne_eqb}
use Rattle.std.proofs.lemmas.List.Sums.{sum_by_more}
use Rattle.tcl_words.specs.TopWords.{is_open_kind, is_close_kind, opens, closes, level, IsBalanced, word_last, word_at, IsWordOf}
use Rattle.tcl_words.specs.declared.token.Token.{Token}
use Rattle.tcl_words.specs.declared.token.Word.{Word}
use Rattle.tcl_words.specs.declared.token.Kind.{Kind}
use Rattle.tcl_words.specs.declared.token.Kind.TheVariants.{Open, Close, Atom}
use Rattle.tcl_words.proofs.Places.{filter_to}
use Rattle.tcl_words.proofs.Ranges.{stop_later, stop_here}
use Rattle.tcl_words.proofs.LastWithin.{is_word}

-- how many groups are open before a token, told without a difference
abbrev pub IsLevel : List Token → ℕ → ℕ → Type 0
IsLevel ts i groups = groups + count_by closes (take i ts) ≡ count_by opens (take i ts)

pub level_start : (ts : List Token) (i : ℕ) → IsBalanced ts → level ts i ≡ 0 → IsLevel ts i 0
level_start ts i balanced out = omega (arith, balanced.0 i, out)

level_is : (ts : List Token) (i groups : ℕ) → IsLevel ts i groups → level ts i ≡ groups
level_is ts i groups is = omega (arith, is)

pub level_next : (ts : List Token) (i groups after : ℕ) (d : Token) → i < length ts → IsLevel ts i groups → after + cond (closes (get_or ts i d)) 1 0 ≡ groups + cond (opens (get_or ts i d)) 1 0 → IsLevel ts (i + 1) after
level_next ts i groups after d within was step = omega (arith, sum_by_more (λ x. cond (closes x) 1 0) ts i d within, sum_by_more (λ x. cond (opens x) 1 0) ts i d within)

closes_none : (kind : Kind) → is_close_kind kind ≡ true → is_open_kind kind ≡ false
closes_none Open is = cc
closes_none Close is = refl
closes_none Atom is = cc

-- a group that is closed was open
pub level_closes : (ts : List Token) (i groups : ℕ) (d : Token) → IsBalanced ts → i < length ts → IsLevel ts i groups → closes (get_or ts i d) ≡ true → 0 < groups
level_closes ts i groups d balanced within was is =
    omega (
      arith,
      balanced.0 (i + 1),
      sum_by_more (λ x. cond (closes x) 1 0) ts i d within,
      sum_by_more (λ x. cond (opens x) 1 0) ts i d within,
      ap {B = ℕ} (λ b. cond b 1 0) is,
      ap {B = ℕ} (λ b. cond b 1 0) (closes_none (get_or ts i d).kind is),
    )

pub last_at : (ts : List Token) (j groups : ℕ) → j < length ts → IsLevel ts (j + 1) groups → groups ≡ 0 → word_last ts j ≡ j
last_at ts j groups within is none = stop_here (λ j. not (level ts (j + 1) == 0)) (length ts) j within (ap not (eq-eqb (level ts (j + 1)) 0 (level_is ts (j + 1) groups is ∙ none)))

pub last_past : (ts : List Token) (j groups : ℕ) → j < length ts → IsLevel ts (j + 1) groups → groups ≢ 0 → word_last ts j ≡ word_last ts (j + 1)
last_past ts j groups within is some = stop_later (λ j. not (level ts (j + 1) == 0)) (length ts) j within (ap not (ne_eqb (level ts (j + 1)) 0 (λ e. some (sym (level_is ts (j + 1) groups is) ∙ e))))

abbrev pub word : ℕ → ℕ → Word
word f l = record { first = f; last = l }

abbrev pub word_from : List Token → ℕ → Word
word_from ts i = record { first = i; last = word_last ts i }

pub whole_word : (ts : List Token) (i : ℕ) → IsBalanced ts → i < length ts → level ts i ≡ 0 → IsWordOf ts (word_from ts i)
whole_word ts i balanced within out = is_word ts i balanced within (eq-eqb (level ts i) 0 out)

-- no word begins inside of another
no_inner : (ts : List Token) (i k : ℕ) → IsWordOf ts (word_from ts i) → i + 1 ≤ k → k < word_last ts i + 1 → word_at ts k ≡ None
no_inner ts i k is low high =
    let one : (k - 1) + 1 ≡ k = omega arith in
    ap (λ b. cond b (Some (word k (word_last ts k))) None) (ne_eqb (level ts k) 0 (λ e. is.open_till (k - 1) (omega arith) (omega arith) (ap (level ts) one ∙ e)))

pub next_words : (ts : List Token) (i : ℕ) (found : List Word) → IsBalanced ts → i < length ts → level ts i ≡ 0 → found ≡ filter_map (word_at ts) (range_with_len 0 i) → found ++ word_from ts i ∷ [] ≡ filter_map (word_at ts) (range_with_len 0 (word_last ts i + 1))
next_words ts i found balanced within out was =
    let is : IsWordOf ts (word_from ts i) = whole_word ts i balanced within out in
    ap (λ (ws : List Word). ws ++ word_from ts i ∷ []) was
    ∙ sym (filter_to (word_at ts) i (word_last ts i + 1) (Some (word_from ts i)) (omega (arith, is.ordered)) (ap (λ b. cond b (Some (word_from ts i)) None) (eq-eqb (level ts i) 0 out)) (λ k low high. no_inner ts i k is low high))
