-- How many levels are open in front of tokens that are balanced.
use Rattle.std.proofs.Common.{◌≡◌, ◌+◌, ◌-◌, ◌≤◌, ◌<◌, ℕ, zero, suc, cond, List, [], ◌∷◌, length, take, drop, refl, arith}
use Rattle.std.specs.Prelude.{count_by}
use Rattle.std.specs.List.{slice_range}
use Rattle.std.specs.Option.{option_map}
use Rattle.std.proofs.lemmas.List.Sums.{sum_by-cons}
use Rattle.tcl_words.specs.TopWords.{is_open_kind, is_close_kind, opens, closes, IsBalanced}
use Rattle.tcl_words.specs.declared.token.Token.{Token}
use Rattle.tcl_words.specs.declared.token.Kind.{Kind}
use Rattle.tcl_words.specs.declared.token.Kind.TheVariants as kinds
use Rattle.word_values.specs.Groups.{Words, End, with_token, levels_of, innermost, words_of_tokens}
use Rattle.word_values.specs.Reading.{given_nodes, start}
use Rattle.word_values.specs.Trees.{tree_in}
use Rattle.word_values.proofs.ReadingLaws.{means, begun_one}

-- so many groups are closed among the tokens that were opened before them
pub record Closes (g : ℕ) (ts : List Token) : Type 0 where
  pub within : (k : ℕ) → count_by closes (take k ts) ≤ g + count_by opens (take k ts)
  pub all : count_by closes ts ≡ g + count_by opens ts

abbrev behind : Kind → ℕ → ℕ
behind kinds.Atom g = g
behind kinds.Open g = g + 1
behind kinds.Close g = g - 1

some_open : (k : Kind) (g : ℕ) → cond (is_close_kind k) 1 0 + 0 ≤ g + (cond (is_open_kind k) 1 0 + 0) → k ≡ kinds.Close → 0 < g
some_open kinds.Close g h e = omega (arith, h)
some_open kinds.Atom g h e = absurd cc
some_open kinds.Open g h e = absurd cc

-- behind a token
within_by : (kind : Kind) (g a b : ℕ) → (kind ≡ kinds.Close → 0 < g) → cond (is_close_kind kind) 1 0 + a ≤ g + (cond (is_open_kind kind) 1 0 + b) → a ≤ behind kind g + b
within_by kinds.Atom g a b some h = omega (arith, h)
within_by kinds.Open g a b some h = omega (arith, h)
within_by kinds.Close g a b some h = omega (arith, h, some refl)

all_by : (kind : Kind) (g a b : ℕ) → (kind ≡ kinds.Close → 0 < g) → cond (is_close_kind kind) 1 0 + a ≡ g + (cond (is_open_kind kind) 1 0 + b) → a ≡ behind kind g + b
all_by kinds.Atom g a b some h = omega (arith, h)
all_by kinds.Open g a b some h = omega (arith, h)
all_by kinds.Close g a b some h = omega (arith, h, some refl)

more_closes : (t : Token) (ts : List Token) → count_by closes (t ∷ ts) ≡ cond (is_close_kind t.kind) 1 0 + count_by closes ts
more_closes t ts = sum_by-cons (λ x. cond (closes x) 1 0) t ts

more_opens : (t : Token) (ts : List Token) → count_by opens (t ∷ ts) ≡ cond (is_open_kind t.kind) 1 0 + count_by opens ts
more_opens t ts = sum_by-cons (λ x. cond (opens x) 1 0) t ts

within_first : (t : Token) (ts : List Token) (g k : ℕ) → Closes g (t ∷ ts)
    → cond (is_close_kind t.kind) 1 0 + count_by closes (take k ts) ≤ g + (cond (is_open_kind t.kind) 1 0 + count_by opens (take k ts))
within_first t ts g k h = let one = h.within (suc k) in omega (arith, one, more_closes t (take k ts), more_opens t (take k ts))

closes_some : (t : Token) (ts : List Token) (g : ℕ) → Closes g (t ∷ ts) → t.kind ≡ kinds.Close → 0 < g
closes_some t ts g h = some_open t.kind g (within_first t ts g 0 h)

closes_behind : (t : Token) (ts : List Token) (g : ℕ) → Closes g (t ∷ ts) → Closes (behind t.kind g) ts
closes_behind t ts g h = record {
  within = λ k. within_by t.kind g (count_by closes (take k ts)) (count_by opens (take k ts)) (closes_some t ts g h) (within_first t ts g k h);
  all = all_by t.kind g (count_by closes ts) (count_by opens ts) (closes_some t ts g h) (let whole = h.all in omega (arith, whole, more_closes t ts, more_opens t ts));
}

-- a token leaves one level more than groups are open
levels_by : (kind : Kind) (bytes : List ℕ) (levels : List Words) (g : ℕ) → (kind ≡ kinds.Close → 0 < g) → length levels ≡ behind kind g + 1 → length (with_token kind bytes levels) ≡ g + 1
levels_by kinds.Atom bytes [] g some h = absurd (omega (arith, h))
levels_by kinds.Atom bytes (w ∷ ws) g some h = h
levels_by kinds.Open bytes [] g some h = absurd (omega (arith, h))
levels_by kinds.Open bytes (w ∷ []) g some h = absurd (omega (arith, h))
levels_by kinds.Open bytes (w ∷ v ∷ ws) g some h = omega (arith, h)
levels_by kinds.Close bytes levels g some h = omega (arith, h, some refl)

level_count : (text : List ℕ) (ts : List Token) (g : ℕ) → Closes g ts → length (levels_of text ts) ≡ g + 1
level_count text [] g h = let none = h.all in omega (arith, none)
level_count text (t ∷ ts) g h = levels_by t.kind (slice_range text t.start t.end) (levels_of text ts) g (closes_some t ts g h) (level_count text ts (behind t.kind g) (closes_behind t ts g h))

balanced_closes : (ts : List Token) → IsBalanced ts → Closes 0 ts
balanced_closes ts h = record {
  within = λ k. let one = h.0 k in omega (arith, one);
  all = let one = h.1 in omega (arith, one);
}

some_from : (text : List ℕ) (ts : List Token) (g k : ℕ) → Closes g ts → 0 < length (levels_of text (drop k ts))
some_from text ts g zero h = let count = level_count text ts g h in omega (arith, count)
some_from text [] g (suc k) h = omega arith
some_from text (t ∷ ts) g (suc k) h = some_from text ts (behind t.kind g) k (closes_behind t ts g h)

-- some level is open in front of all tokens from a place on
pub some_level : (text : List ℕ) (ts : List Token) (k : ℕ) → IsBalanced ts → 0 < length (levels_of text (drop k ts))
some_level text ts k h = some_from text ts 0 k (balanced_closes ts h)

-- there are words where there are tokens
words_by : (kind : Kind) (bytes : List ℕ) (levels : List Words) (g : ℕ) → (kind ≡ kinds.Close → 0 < g) → g ≡ 0 → length levels ≡ behind kind g + 1 → ¬ (innermost (with_token kind bytes levels) ≡ End)
words_by kinds.Atom bytes [] g some none h = λ e. omega (arith, h)
words_by kinds.Atom bytes (w ∷ ws) g some none h = λ e. cc
words_by kinds.Open bytes [] g some none h = λ e. omega (arith, h)
words_by kinds.Open bytes (w ∷ []) g some none h = λ e. omega (arith, h, none)
words_by kinds.Open bytes (w ∷ v ∷ ws) g some none h = λ e. cc
words_by kinds.Close bytes levels g some none h = λ e. omega (arith, none, some refl)

words_there : (text : List ℕ) (t : Token) (ts : List Token) → Closes 0 (t ∷ ts) → ¬ (words_of_tokens text (t ∷ ts) ≡ End)
words_there text t ts h =
    words_by t.kind (slice_range text t.start t.end) (levels_of text ts) 0 (closes_some t ts 0 h) refl (level_count text ts (behind t.kind 0) (closes_behind t ts 0 h))

-- what is read in all, where nothing was read yet
pub begun : (text : List ℕ) (ts : List Token) → IsBalanced ts → 0 < length ts → means start (levels_of text ts) ≡ option_map given_nodes (tree_in (words_of_tokens text ts))
begun text [] h some = absurd (omega (arith, some))
begun text (t ∷ ts) h some = let closed = balanced_closes (t ∷ ts) h in begun_one (levels_of text (t ∷ ts)) (level_count text (t ∷ ts) 0 closed) (words_there text t ts closed)
