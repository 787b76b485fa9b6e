-- Texts that are kept.
use Rattle.std.proofs.Common.{All, ◌≡◌, ◌≢◌, ◌↔◌, ◌&&◌, ◌==◌, ◌∙◌, ℕ, Bool, true, false, not, cond, find, nat_le, List, length, map, Option, Some, None, Result, Ok, Err, IfOk, IsTrue, ap, sym, refl, subst, ne_eqb}
use Rattle.std.specs.List.{list_all}
use Rattle.std.proofs.lemmas.Bool.{and_parts, leb-true, le-leb, eqb-false}
use Rattle.tcl_words.specs.GroupText.{is_group_text}
use Rattle.tcl_words.specs.declared.token.Token.{Token}
use Rattle.object_set.specs.TextValues.{IsTextValue}
use Rattle.object_set.specs.declared.kept.KeptAttr.{KeptAttr}
use Rattle.put_form.specs.Keeps.{is_text, kept_attr, has_form, is_named, unnamed_at, kept_or, kept_of, IsKeptRead}
use Rattle.put_form.specs.Pairs.{Pair}
use Rattle.put_form.specs.declared.fault.PutFault.{PutFault}
use Rattle.put_form.specs.declared.fault.PutFault.TheVariants as faults
use Rattle.put_form.proofs.ListLaws.{all_pass, pass_all, all_mapped, both, of_not, not_true}

abbrev is_line_byte : ℕ → Bool
is_line_byte b = not (b == 10) && not (b == 13)

byte_in_line : (b : ℕ) → is_line_byte b ≡ true → (b ≢ 10) × (b ≢ 13)
byte_in_line b h =
    let p = and_parts (not (b == 10)) (not (b == 13)) h in (eqb-false b 10 (of_not (b == 10) p.0), eqb-false b 13 (of_not (b == 13) p.1))

line_byte : (b : ℕ) → b ≢ 10 → b ≢ 13 → is_line_byte b ≡ true
line_byte b p q = both (not (b == 10)) (not (b == 13)) (ap not (ne_eqb b 10 p)) (ap not (ne_eqb b 13 q))

pub text_value : (text : List ℕ) → is_text text ≡ true → IsTextValue text
text_value text h =
    let p = and_parts (nat_le (length text) 1024 && list_all is_line_byte text) (is_group_text text) h in
    let q = and_parts (nat_le (length text) 1024) (list_all is_line_byte text) p.0 in
    let bytes = all_pass is_line_byte text q.1 in
    record {
      short = leb-true (length text) 1024 q.0;
      one_line = λ i d lt. (byte_in_line _ (bytes i d lt)).0;
      no_return = λ i d lt. (byte_in_line _ (bytes i d lt)).1;
      group = p.1;
    }

pub value_text : (text : List ℕ) → IsTextValue text → is_text text ≡ true
value_text text h =
    both (nat_le (length text) 1024 && list_all is_line_byte text) (is_group_text text)
    (both (nat_le (length text) 1024) (list_all is_line_byte text) (le-leb (length text) 1024 h.short) (pass_all is_line_byte text (λ i d lt. line_byte _ (h.one_line i d lt) (h.no_return i d lt))))
    h.group

pub text_same : (r : Bool) (text : List ℕ) → (IsTrue r ↔ IsTextValue text) → r ≡ is_text text
text_same true text h = sym (value_text text (h.0 refl))
text_same false text h = sym (not_true (is_text text) (λ e. let clash : IsTrue false = h.1 (text_value text e) in absurd cc))

values_of : (text : List ℕ) (tokens : List Token) (pairs : List Pair) → list_all (has_form text tokens) pairs ≡ true → All (λ (k : KeptAttr). IsTextValue k.value) (map (kept_attr text tokens) pairs)
values_of text tokens pairs h =
    let all = all_pass (has_form text tokens) pairs h in
    all_mapped (λ (k : KeptAttr). IsTextValue k.value) (kept_attr text tokens) pairs
    (λ i d lt. text_value _ (and_parts _ _ (all i d lt)).1)

kept_by : (text : List ℕ) (tokens : List Token) (pairs : List Pair) (kept : List KeptAttr) (t : Bool) (fault : Option PutFault) → t ≡ list_all (has_form text tokens) pairs
    → kept_or fault (map (kept_attr text tokens) pairs) ≡ Ok kept → t ≡ true → All (λ (k : KeptAttr). IsTextValue k.value) kept
kept_by text tokens pairs kept t None is h e =
    let same : map (kept_attr text tokens) pairs ≡ kept = cc in subst (All (λ (k : KeptAttr). IsTextValue k.value)) same (values_of text tokens pairs (sym is ∙ e))
kept_by text tokens pairs kept t (Some fault) is h e = absurd cc

kept_if : (a b : Bool) (x : Result (List KeptAttr) PutFault) (kept : List KeptAttr) → cond (a && b) x (Err faults.Attr) ≡ Ok kept → (b ≡ true) × (x ≡ Ok kept)
kept_if true true x kept h = (refl, h)
kept_if true false x kept h = absurd cc
kept_if false b x kept h = absurd cc

kept_values : (text : List ℕ) (tokens : List Token) (pairs : Option (List Pair)) (kept : List KeptAttr) → kept_of text tokens pairs ≡ Ok kept → All (λ (k : KeptAttr). IsTextValue k.value) kept
kept_values text tokens None kept h = absurd cc
kept_values text tokens (Some pairs) kept h =
    let fault : Option PutFault = unnamed_at (find (λ (p : Pair). not (is_named p)) pairs) in
    let e = kept_if (not (length pairs == 0)) (list_all (has_form text tokens) pairs) (kept_or fault (map (kept_attr text tokens) pairs)) kept h in
    kept_by text tokens pairs kept (list_all (has_form text tokens) pairs) fault refl e.1 e.0

pub read_texts : (r : Result (List KeptAttr) PutFault) (text : List ℕ) (tokens : List Token) (pairs : Option (List Pair)) → IsKeptRead r (kept_of text tokens pairs)
    → IfOk r (All (λ (k : KeptAttr). IsTextValue k.value))
read_texts (Ok kept) text tokens pairs h = kept_values text tokens pairs kept h
read_texts (Err fault) text tokens pairs h = tt
