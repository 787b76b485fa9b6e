-- The tokens of a text stand in the order of their places.
use Rattle.std.proofs.Common.{◌≡◌, ℕ, zero, suc, ◌+◌, ◌<◌, ◌≤◌, List, [], ◌∷◌, length, drop, get_or, cond, Bool, true, false, arith, Option, Some, None, Ok, refl, subst}
use Rattle.std.specs.Prelude.{filter_map, not, ◌&&◌}
use Rattle.std.specs.List.{prefix_len, cons_option, range_with_len}
use Rattle.tcl_words.specs.Bytes.{is_open, is_close, is_atom, before}
use Rattle.tcl_words.specs.Faults.{word_fault}
use Rattle.tcl_words.specs.Tokens.{token, token_at, tokens_of}
use Rattle.tcl_words.specs.Reading.{words_of}
use Rattle.tcl_words.specs.TopWords.{StartsFrom}
use Rattle.tcl_words.specs.declared.token.Token.{Token}
use Rattle.tcl_words.specs.declared.token.Kind.TheVariants.{Open, Close, Atom}
use Rattle.tcl_words.proofs.RoundTrip.{reading_ok}

pub from_lower : (a b : ℕ) (ts : List Token) → a ≤ b → StartsFrom b ts → StartsFrom a ts
from_lower a b [] le starts = tt
from_lower a b (t ∷ ts) le starts = (omega (arith, starts.0), starts.1)

abbrev StartsAt : ℕ → Option Token → Type 0
StartsAt p None = Unit {0}
StartsAt p (Some t) = t.start ≡ p

starts_cons : (p : ℕ) (o : Option Token) (ts : List Token) → StartsAt p o → StartsFrom (p + 1) ts → StartsFrom p (cons_option o ts)
starts_cons p None ts here rest = from_lower p (p + 1) ts (omega arith) rest
starts_cons p (Some t) ts here rest = (omega (arith, here), from_lower (t.start + 1) (p + 1) ts (omega (arith, here)) rest)

starts_choice : (p r : ℕ) (o c a : Bool) → StartsAt p (cond o (Some (token Open p (p + 1))) (cond c (Some (token Close p (p + 1))) (cond a (Some (token Atom p (p + r))) None)))
starts_choice p r true c a = refl
starts_choice p r false true a = refl
starts_choice p r false false true = refl
starts_choice p r false false false = tt

starts_range : (text : List ℕ) (a n : ℕ) → StartsFrom a (filter_map (token_at text) (range_with_len a n))
starts_range text a zero = tt
starts_range text a (suc n) = starts_cons a (token_at text a) (filter_map (token_at text) (range_with_len (a + 1) n)) (starts_choice a (prefix_len is_atom (drop a text)) (is_open (get_or text a 0)) (is_close (get_or text a 0)) (is_atom (get_or text a 0) && not (is_atom (before text a)))) (starts_range text (a + 1) n)

pub read_order : (text : List ℕ) (tokens : List Token) → words_of text ≡ Ok tokens → StartsFrom 0 tokens
read_order text tokens read = subst (StartsFrom 0) (reading_ok (word_fault text) (tokens_of text) tokens read).1 (starts_range text 0 (length text))

pub starts_index : (a : ℕ) (ts : List Token) (j : ℕ) (d : Token) → StartsFrom a ts → j < length ts → a ≤ (get_or ts j d).start
starts_index a [] j d starts within = absurd (omega arith)
starts_index a (t ∷ ts) zero d starts within = starts.0
starts_index a (t ∷ ts) (suc j) d starts within = omega (arith, starts.0, starts_index (t.start + 1) ts j d starts.1 (omega arith))

-- a token starts before a later one
pub in_order : (a : ℕ) (ts : List Token) (i j : ℕ) (d : Token) → StartsFrom a ts → i < j → j < length ts → (get_or ts i d).start < (get_or ts j d).start
in_order a [] i j d starts before_ within = absurd (omega arith)
in_order a (t ∷ ts) i zero d starts before_ within = absurd (omega arith)
in_order a (t ∷ ts) zero (suc j) d starts before_ within = omega (arith, starts_index (t.start + 1) ts j d starts.1 (omega arith))
in_order a (t ∷ ts) (suc i) (suc j) d starts before_ within = in_order (t.start + 1) ts i j d starts.1 (omega arith) (omega arith)
