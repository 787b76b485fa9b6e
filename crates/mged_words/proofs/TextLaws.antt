-- Titles, and the attributes that are kept.
use Rattle.std.proofs.Common.{All, ◌≡◌, ◌≢◌, ◌≤◌, ◌+◌, ◌&&◌, ◌==◌, ◌∷◌, [], ℕ, Bool, true, false, not, cond, find, nat_le, List, length, map, Option, Some, None, Ok, Err, arith, ap, refl, ne_eqb}
use Rattle.std.specs.List.{list_all}
use Rattle.std.specs.Option.{option_map}
use Rattle.std.proofs.lemmas.Bool.{le-leb}
use Rattle.std.proofs.lemmas.List.{length-map}
use Rattle.std.proofs.lemmas.List.Elements.{All-head, All-tail}
use Rattle.tcl_words.specs.GroupText.{is_group_text}
use Rattle.tcl_words.specs.TopWords.{atom_of}
use Rattle.tcl_words.specs.declared.token.Token.{Token}
use Rattle.tcl_words.specs.declared.token.Word.{Word}
use Rattle.object_set.specs.TextValues.{IsTextValue}
use Rattle.object_set.specs.declared.kept.KeptAttr.{KeptAttr}
use Rattle.put_form.specs.Keeps.{is_text, kept_attr, has_form, is_named, unnamed_at, kept_or, kept_of}
use Rattle.put_form.specs.Pairs.{Pair, pair, pairs_of}
use Rattle.put_form.specs.declared.fault.PutFault.{PutFault}
use Rattle.put_form.specs.declared.fault.PutFault.TheVariants as faults

abbrev is_line_byte : ℕ → Bool
is_line_byte b = not (b == 10) && not (b == 13)

abbrev IsLineByte : ℕ → Type 0
IsLineByte b = is_line_byte b ≡ true

both : (a b : Bool) → a ≡ true → b ≡ true → (a && b) ≡ true
both a b p q = cc

line_byte : (b : ℕ) → b ≢ 10 → b ≢ 13 → IsLineByte b
line_byte b p q = both (not (b == 10)) (not (b == 13)) (ap not (ne_eqb b 10 p)) (ap not (ne_eqb b 13 q))

pass_all : (text : List ℕ) → All IsLineByte text → list_all is_line_byte text ≡ true
pass_all [] h = refl
pass_all (b ∷ bs) h = both (is_line_byte b) (list_all is_line_byte bs) (All-head IsLineByte b bs h) (pass_all bs (All-tail IsLineByte b bs h))

-- a text of a title
pub value_text : (text : List ℕ) → IsTextValue text → is_text text ≡ true
value_text text h =
    both (nat_le (length text) 1024 && list_all is_line_byte text) (is_group_text text)
    (both (nat_le (length text) 1024) (list_all is_line_byte text) (le-leb (length text) 1024 h.short) (pass_all text (λ i d lt. line_byte _ (h.one_line i d lt) (h.no_return i d lt))))
    h.group

-- as many attributes as pairs, at most as many as words
mapped : (o : Option (List Pair)) (p : Pair) (pairs : List Pair) → option_map (λ (more : List Pair). p ∷ more) o ≡ Some pairs → (rest : List Pair) × (o ≡ Some rest) × (pairs ≡ p ∷ rest)
mapped None p pairs h = absurd cc
mapped (Some rest) p pairs h = (rest, refl, cc)

few_pairs : (text : List ℕ) (tokens : List Token) (place : ℕ) (words : List Word) (pairs : List Pair) → pairs_of text tokens place words ≡ Some pairs → length pairs ≤ length words
few_pairs text tokens place [] pairs h = let same : [] ≡ pairs = cc in let len : length {A = Pair} [] ≡ length pairs = ap length same in omega (arith, len)
few_pairs text tokens place (key ∷ []) pairs h = absurd cc
few_pairs text tokens place (key ∷ value ∷ rest) pairs h =
    let cut = mapped (pairs_of text tokens (place + 2) rest) (pair (atom_of text tokens key) value (place + 1)) pairs h in
    let more = few_pairs text tokens (place + 2) rest cut.0 cut.1 in
    let len = ap length cut.2 in omega (arith, more, len)

kept_by : (t : Bool) (fault : Option PutFault) (found kept : List KeptAttr) → cond t (kept_or fault found) (Err faults.Attr) ≡ Ok kept → found ≡ kept
kept_by true None found kept h = cc
kept_by true (Some fault) found kept h = absurd cc
kept_by false fault found kept h = absurd cc

few_from : (text : List ℕ) (tokens : List Token) (words : List Word) (found : Option (List Pair)) (kept : List KeptAttr) → ((pairs : List Pair) → found ≡ Some pairs → length pairs ≤ length words)
    → kept_of text tokens found ≡ Ok kept → length kept ≤ length words
few_from text tokens words None kept few h = absurd cc
few_from text tokens words (Some pairs) kept few h =
    let same = kept_by (not (length pairs == 0) && list_all (has_form text tokens) pairs) (unnamed_at (find (λ (p : Pair). not (is_named p)) pairs)) (map (kept_attr text tokens) pairs) kept h in
    omega (arith, few pairs refl, ap length same, length-map pairs (kept_attr text tokens))

pub few_kept : (text : List ℕ) (tokens : List Token) (place : ℕ) (words : List Word) (kept : List KeptAttr) → kept_of text tokens (pairs_of text tokens place words) ≡ Ok kept → length kept ≤ length words
few_kept text tokens place words kept h = few_from text tokens words (pairs_of text tokens place words) kept (few_pairs text tokens place words) h
