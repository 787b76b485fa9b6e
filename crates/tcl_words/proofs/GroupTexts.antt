-- A text stands in one group where the first brace stays open up to the last.
use Rattle.std.proofs.Common.{◌≡◌, ◌≢◌, ℕ, zero, suc, ◌+◌, ◌-◌, ◌<◌, ◌≤◌, List, [], ◌∷◌, ◌++◌, length, take, drop, get_or, cond, Bool, true, false, arith, Option, Some, None, refl, ap, sym, ◌∙◌, subst, get_or-drop, drop-drop}
use Rattle.std.specs.Prelude.{count_by, filter_map, not, ◌&&◌, ◌||◌, ◌==◌, is_some, is_none}
use Rattle.std.specs.List.{take_while, cons_option, range_with_len}
use Rattle.std.proofs.lemmas.Bool.{eqb-true, eqb-false, eq-eqb, ne_eqb}
use Rattle.std.proofs.lemmas.List.{drop_all}
use Rattle.std.proofs.lemmas.List.Sums.{sum_by_more}
use Rattle.tcl_words.specs.Bytes.{is_open, is_close, is_atom}
use Rattle.tcl_words.specs.Faults.{fault_of, word_fault}
use Rattle.tcl_words.specs.Tokens.{token, tokens_of}
use Rattle.tcl_words.specs.Pieces.{piece, pieces}
use Rattle.tcl_words.specs.TopWords.{is_open_kind, is_close_kind, opens, closes, level, word_at, top_words}
use Rattle.tcl_words.specs.GroupText.{braced, is_group_text}
use Rattle.tcl_words.specs.declared.token.Token.{Token}
use Rattle.tcl_words.specs.declared.token.Word.{Word}
use Rattle.tcl_words.specs.declared.token.Kind.{Kind}
use Rattle.tcl_words.specs.declared.token.Kind.TheVariants.{Open, Close, Atom}
use Rattle.tcl_words.specs.declared.fault.WordFault.{WordFault}
use Rattle.tcl_words.proofs.Depths.{not_faulted}
use Rattle.tcl_words.proofs.Scan.{Piece, found, scan, scanned}
use Rattle.tcl_words.proofs.Fine.{Fine, next, IsFine, none_fine, fine_none, words_fine, fine_words}
use Rattle.tcl_words.proofs.Written.{GoodPiece, Good, after, fine_good}

-- how many pieces begin outside all groups, where so many are open at first
abbrev pub tops : ℕ → List Piece → ℕ
tops g [] = 0
tops g (p ∷ ps) = cond (g == 0) 1 0 + tops (after p.0 g) ps

zero_top : (g n : ℕ) → 0 < g → cond (g == 0) 1 0 + n ≡ n
zero_top g n some = omega (arith, ap {B = ℕ} (λ t. cond t 1 0) (ne_eqb g 0 (λ e. omega arith)))

tops_step : (g b : ℕ) (xs : List ℕ) (ps : List Piece) (o c a : Bool) → (o ≡ true → c ≡ false) → 0 < g
    → tops g (cons_option (cond o (Some (Open, b ∷ [])) (cond c (Some (Close, b ∷ [])) (cond a (Some (Atom, xs)) None))) ps) ≡ tops ((g + cond o 1 0) - cond c 1 0) ps
tops_step g b xs ps true true a apart some = let no : true ≡ false = apart refl in cc
tops_step g b xs ps true false a apart some = zero_top g (tops (g + 1) ps) some ∙ ap (λ (m : ℕ). tops m ps) (let e : g + 1 ≡ (g + 1) - 0 = omega arith in e)
tops_step g b xs ps false true a apart some = zero_top g (tops (g - 1) ps) some ∙ ap (λ (m : ℕ). tops m ps) (let e : g - 1 ≡ (g + 0) - 1 = omega arith in e)
tops_step g b xs ps false false true apart some = zero_top g (tops g ps) some ∙ ap (λ (m : ℕ). tops m ps) (let e : g ≡ (g + 0) - 0 = omega arith in e)
tops_step g b xs ps false false false apart some = ap (λ (m : ℕ). tops m ps) (let e : g ≡ (g + 0) - 0 = omega arith in e)

open_no_close : (b : ℕ) → is_open b ≡ true → is_close b ≡ false
open_no_close b is = ap is_close (eqb-true b 123 is)

-- inside a group no byte begins a word outside all groups
tops_next : (last g b : ℕ) (bs : List ℕ) (ps : List Piece) → 0 < g → tops g (cons_option (found last b bs) ps) ≡ tops (next g b) ps
tops_next last g b bs ps some = tops_step g b (take_while is_atom (b ∷ bs)) ps (is_open b) (is_close b) (is_atom b && not (is_atom last)) (open_no_close b) some

-- whether bytes have no fault and leave the one group open that they stand in
abbrev pub stays_open : ℕ → ℕ → List ℕ → Bool
stays_open last g [] = g == 1
stays_open last g (b ∷ bs) = cond (is_some (fault_of b last g 0)) false (cond (next g b == 0) false (stays_open b (next g b) bs))

both_false : (f z s : Bool) → cond f false (cond z false s) ≡ true → (f ≡ false) × (z ≡ false) × (s ≡ true)
both_false true z s e = cc
both_false false true s e = cc
both_false false false s e = (refl, refl, e)

closing : (last : ℕ) → IsFine last 1 (125 ∷ []) × (tops 1 (scan last (125 ∷ [])) ≡ 0)
closing last = ((record { good = refl; placed = refl; shallow = refl }, refl), refl)

-- then a `}` behind them ends a text without a fault, and nothing in it begins outside
stay_fine : (last g : ℕ) (bs : List ℕ) → stays_open last g bs ≡ true → 0 < g → IsFine last g (bs ++ (125 ∷ [])) × (tops g (scan last (bs ++ (125 ∷ []))) ≡ 0)
stay_fine last g [] e some = subst (λ (n : ℕ). IsFine last n (125 ∷ []) × (tops n (scan last (125 ∷ [])) ≡ 0)) (sym (eqb-true g 1 e)) (closing last)
stay_fine last g (b ∷ bs) e some =
    let p : (is_some (fault_of b last g 0) ≡ false) × ((next g b == 0) ≡ false) × (stays_open b (next g b) bs ≡ true) = both_false (is_some (fault_of b last g 0)) (next g b == 0) (stays_open b (next g b) bs) e in
    let inside : next g b ≢ 0 = eqb-false (next g b) 0 p.1 in
    let rest : IsFine b (next g b) (bs ++ (125 ∷ [])) × (tops (next g b) (scan b (bs ++ (125 ∷ []))) ≡ 0) = stay_fine b (next g b) bs p.2 (omega arith) in
    ((none_fine last g b 0 (not_faulted (fault_of b last g 0) p.0), rest.0), tops_next last g b (bs ++ (125 ∷ [])) (scan b (bs ++ (125 ∷ []))) some ∙ rest.1)

-- ---- a group that is closed too early

top_found : (b : ℕ) (xs : List ℕ) (ps : List Piece) (o c a : Bool) → (o || c || a) ≡ true → 0 < tops 0 (cons_option (cond o (Some (Open, b ∷ [])) (cond c (Some (Close, b ∷ [])) (cond a (Some (Atom, xs)) None))) ps)
top_found b xs ps true c a some = omega arith
top_found b xs ps false true a some = omega arith
top_found b xs ps false false true some = omega arith
top_found b xs ps false false false some = cc

none_found : (b : ℕ) (xs : List ℕ) (ps : List Piece) (o c a : Bool) → (o || c || a) ≡ false → cons_option (cond o (Some (Open, b ∷ [])) (cond c (Some (Close, b ∷ [])) (cond a (Some (Atom, xs)) None))) ps ≡ ps
none_found b xs ps true c a none = cc
none_found b xs ps false true a none = cc
none_found b xs ps false false true none = cc
none_found b xs ps false false false none = refl

none_of : (o c a l : Bool) → (o || c || (a && not l)) ≡ false → l ≡ false → (o ≡ false) × (c ≡ false) × (a ≡ false)
none_of true c a l e is = cc
none_of false true a l e is = cc
none_of false false true true e is = cc
none_of false false true false e is = cc
none_of false false false l e is = (refl, refl, refl)

plain_next : (g : ℕ) (o c : Bool) → o ≡ false → c ≡ false → (g + cond o 1 0) - cond c 1 0 ≡ g
plain_next g true c p q = cc
plain_next g false true p q = cc
plain_next g false false p q = omega arith

outside_head : (last b : ℕ) (bs : List ℕ) (t : Bool) → (is_open b || is_close b || (is_atom b && not (is_atom last))) ≡ t → is_atom last ≡ false → IsFine b (next 0 b) bs → (IsFine b 0 bs → is_atom b ≡ false → 0 < tops 0 (scan b bs)) → 0 < tops 0 (cons_option (found last b bs) (scan b bs))
outside_head last b bs true is no_atom fine later = top_found b (take_while is_atom (b ∷ bs)) (scan b bs) (is_open b) (is_close b) (is_atom b && not (is_atom last)) is
outside_head last b bs false is no_atom fine later =
    let none : (is_open b ≡ false) × (is_close b ≡ false) × (is_atom b ≡ false) = none_of (is_open b) (is_close b) (is_atom b) (is_atom last) is no_atom in
    let same : next 0 b ≡ 0 = plain_next 0 (is_open b) (is_close b) none.0 none.1 in
    subst (λ (ps : List Piece). 0 < tops 0 ps) (sym (none_found b (take_while is_atom (b ∷ bs)) (scan b bs) (is_open b) (is_close b) (is_atom b && not (is_atom last)) is)) (later (subst (λ (g : ℕ). IsFine b g bs) same fine) none.2)

-- outside all groups another word begins before the last `}`
outside_top : (last : ℕ) (bs : List ℕ) → is_atom last ≡ false → IsFine last 0 (bs ++ (125 ∷ [])) → 0 < tops 0 (scan last (bs ++ (125 ∷ [])))
outside_top last [] no_atom fine = let no : true ≡ false = fine.0.placed in cc
outside_top last (b ∷ bs) no_atom fine = outside_head last b (bs ++ (125 ∷ [])) (is_open b || is_close b || (is_atom b && not (is_atom last))) refl no_atom fine.1 (λ f a. outside_top b bs a f)

closes_out : (g b : ℕ) (c : Bool) → is_close b ≡ c → 0 < g → next g b ≡ 0 → is_atom b ≡ false
closes_out g b true is some out = ap is_atom (eqb-true b 125 is)
closes_out g b false is some out = absurd (omega (arith, out, ap {B = ℕ} (λ t. cond t 1 0) is))

not_both : (f z s : Bool) → f ≡ false → z ≡ false → cond f false (cond z false s) ≡ false → s ≡ false
not_both true z s p q e = cc
not_both false true s p q e = cc
not_both false false s p q e = e

early : (last g b : ℕ) (bs : List ℕ) (z : Bool) → (next g b == 0) ≡ z → stays_open last g (b ∷ bs) ≡ false → 0 < g → Fine last g b → IsFine b (next g b) (bs ++ (125 ∷ []))
    → (stays_open b (next g b) bs ≡ false → 0 < next g b → IsFine b (next g b) (bs ++ (125 ∷ [])) → 0 < tops (next g b) (scan b (bs ++ (125 ∷ [])))) → 0 < tops (next g b) (scan b (bs ++ (125 ∷ [])))
early last g b bs true is e some fine rest later =
    let out : next g b ≡ 0 = eqb-true (next g b) 0 is in
    subst (λ (n : ℕ). 0 < tops n (scan b (bs ++ (125 ∷ [])))) (sym out) (outside_top b bs (closes_out g b (is_close b) refl some out) (subst (λ (n : ℕ). IsFine b n (bs ++ (125 ∷ []))) out rest))
early last g b bs false is e some fine rest later =
    let inside : next g b ≢ 0 = eqb-false (next g b) 0 is in
    later (not_both (is_some (fault_of b last g 0)) (next g b == 0) (stays_open b (next g b) bs) (ap is_some (fine_none last g b 0 fine)) is e) (omega arith) rest

leaves : (last g : ℕ) (bs : List ℕ) → stays_open last g bs ≡ false → 0 < g → IsFine last g (bs ++ (125 ∷ [])) → 0 < tops g (scan last (bs ++ (125 ∷ [])))
leaves last g [] e some fine = let no : g ≢ 1 = eqb-false g 1 e in absurd (omega (arith, fine.1))
leaves last g (b ∷ bs) e some fine =
    subst (λ (n : ℕ). 0 < n) (sym (tops_next last g b (bs ++ (125 ∷ [])) (scan b (bs ++ (125 ∷ []))) some)) (early last g b bs (next g b == 0) refl e some fine.0 fine.1 (λ s n f. leaves b (next g b) bs s n f))

-- ---- the words outside all groups, counted

count_cons : (z : Bool) (w : Word) (ws : List Word) → length (cons_option (cond z (Some w) None) ws) ≡ cond z 1 0 + length ws
count_cons true w ws = omega arith
count_cons false w ws = omega arith

after_counts : (k : Kind) (bytes : List ℕ) (g a b : ℕ) → GoodPiece k bytes g → g + b ≡ a → after k g + (b + cond (is_close_kind k) 1 0) ≡ a + cond (is_open_kind k) 1 0
after_counts Open bytes g a b good is = omega arith
after_counts Close bytes g a b good is = omega (arith, good.1)
after_counts Atom bytes g a b good is = omega arith

first_token : (all : List Token) (i : ℕ) (t : Token) (ts : List Token) → drop i all ≡ t ∷ ts → get_or all i (token Open 0 0) ≡ t
first_token all i t ts is = ap (λ (m : ℕ). get_or all m (token Open 0 0)) (omega arith) ∙ sym (get_or-drop i all 0 (token Open 0 0)) ∙ ap (λ (xs : List Token). get_or xs 0 (token Open 0 0)) is

tops_are : (text : List ℕ) (all rest : List Token) (i g : ℕ) → drop i all ≡ rest → i + length rest ≡ length all → g + count_by closes (take i all) ≡ count_by opens (take i all) → Good g (pieces text rest) → length (filter_map (word_at all) (range_with_len i (length rest))) ≡ tops g (pieces text rest)
tops_are text all [] i g is len was good = refl
tops_are text all (t ∷ ts) i g is len was good =
    let here : get_or all i (token Open 0 0) ≡ t = first_token all i t ts is in
    let depth_ : level all i ≡ g = omega (arith, was) in
    let o : count_by opens (take (i + 1) all) ≡ count_by opens (take i all) + cond (is_open_kind t.kind) 1 0 = sum_by_more (λ x. cond (opens x) 1 0) all i (token Open 0 0) (omega arith) ∙ ap (λ (x : Token). count_by opens (take i all) + cond (opens x) 1 0) here in
    let c : count_by closes (take (i + 1) all) ≡ count_by closes (take i all) + cond (is_close_kind t.kind) 1 0 = sum_by_more (λ x. cond (closes x) 1 0) all i (token Open 0 0) (omega arith) ∙ ap (λ (x : Token). count_by closes (take i all) + cond (closes x) 1 0) here in
    let now : after t.kind g + (count_by closes (take i all) + cond (is_close_kind t.kind) 1 0) ≡ count_by opens (take i all) + cond (is_open_kind t.kind) 1 0 = after_counts t.kind (piece text t).1 g (count_by opens (take i all)) (count_by closes (take i all)) good.0 was in
    let rest : length (filter_map (word_at all) (range_with_len (i + 1) (length ts))) ≡ tops (after t.kind g) (pieces text ts) = tops_are text all ts (i + 1) (after t.kind g) (sym (drop-drop 1 i all) ∙ ap (drop 1) is) (omega arith) (omega (arith, now, o, c)) good.1 in
    count_cons (level all i == 0) _ (filter_map (word_at all) (range_with_len (i + 1) (length ts))) ∙ ap (λ (n : ℕ). cond (n == 0) 1 0 + length (filter_map (word_at all) (range_with_len (i + 1) (length ts)))) depth_ ∙ ap (λ (n : ℕ). cond (g == 0) 1 0 + n) rest

tops_text : (text : List ℕ) → word_fault text ≡ None → length (top_words (tokens_of text)) ≡ tops 0 (scan 32 text)
tops_text text none = tops_are text (tokens_of text) (tokens_of text) 0 0 refl (omega arith) refl (subst (Good 0) (sym (scanned text)) (fine_good 32 0 text (words_fine text none))) ∙ ap (tops 0) (scanned text)

first_brace : Fine 32 0 123
first_brace = record { good = refl; placed = refl; shallow = refl }

group_true : (value : List ℕ) → stays_open 123 1 value ≡ true → is_group_text value ≡ true
group_true value e =
    let all : IsFine 123 1 (value ++ (125 ∷ [])) × (tops 1 (scan 123 (value ++ (125 ∷ []))) ≡ 0) = stay_fine 123 1 value e (omega arith) in
    let none : word_fault (braced value) ≡ None = fine_words (braced value) (first_brace, all.0) in
    let one : length (top_words (tokens_of (braced value))) ≡ 1 = tops_text (braced value) none ∙ ap (λ (n : ℕ). 1 + n) all.1 in
    ap (λ o. is_none o && (length (top_words (tokens_of (braced value))) == 1)) none ∙ eq-eqb (length (top_words (tokens_of (braced value)))) 1 one

group_by : (value : List ℕ) (o : Option WordFault) → word_fault (braced value) ≡ o → stays_open 123 1 value ≡ false → is_group_text value ≡ false
group_by value (Some f) is e = ap (λ o. is_none o && (length (top_words (tokens_of (braced value))) == 1)) is
group_by value None is e =
    let fine : IsFine 32 0 (braced value) = words_fine (braced value) is in
    let more : 0 < tops 1 (scan 123 (value ++ (125 ∷ []))) = leaves 123 1 value e (omega arith) fine.1 in
    let two : length (top_words (tokens_of (braced value))) ≡ 1 + tops 1 (scan 123 (value ++ (125 ∷ []))) = tops_text (braced value) is in
    ap (λ o. is_none o && (length (top_words (tokens_of (braced value))) == 1)) is ∙ ne_eqb (length (top_words (tokens_of (braced value)))) 1 (λ same. omega (arith, same, two, more))

-- what the bytes do says whether the text is one group's
by_bytes : (value : List ℕ) (b : Bool) → stays_open 123 1 value ≡ b → b ≡ is_group_text value
by_bytes value true e = sym (group_true value e)
by_bytes value false e = sym (group_by value (word_fault (braced value)) refl e)

pub group_is : (value : List ℕ) → stays_open 123 1 value ≡ is_group_text value
group_is value = by_bytes value (stays_open 123 1 value) refl

-- ---- a loop over the bytes

drop_next : (xs : List ℕ) (i : ℕ) → i < length xs → drop i xs ≡ get_or xs i 0 ∷ drop (i + 1) xs
drop_next [] i within = absurd (omega arith)
drop_next (x ∷ xs) zero within = refl
drop_next (x ∷ xs) (suc i) within = drop_next xs i (omega arith) ∙ ap (λ (m : ℕ). get_or xs i 0 ∷ drop m (x ∷ xs)) (let e : suc (i + 1) ≡ suc i + 1 = omega arith in e)

pub bad_here : (value : List ℕ) (last g i : ℕ) → i < length value → is_some (fault_of (get_or value i 0) last g 0) ≡ true → stays_open last g (drop i value) ≡ false
bad_here value last g i within bad = ap (stays_open last g) (drop_next value i within) ∙ ap (λ t. cond t false (cond (next g (get_or value i 0) == 0) false (stays_open (get_or value i 0) (next g (get_or value i 0)) (drop (i + 1) value)))) bad

-- a byte without a fault
good_here : (value : List ℕ) (last g i h : ℕ) → i < length value → is_some (fault_of (get_or value i 0) last g 0) ≡ false → h + cond (is_close (get_or value i 0)) 1 0 ≡ g + cond (is_open (get_or value i 0)) 1 0
    → stays_open last g (drop i value) ≡ cond (h == 0) false (stays_open (get_or value i 0) h (drop (i + 1) value))
good_here value last g i h within good step =
    ap (stays_open last g) (drop_next value i within)
    ∙ ap (λ t. cond t false (cond (next g (get_or value i 0) == 0) false (stays_open (get_or value i 0) (next g (get_or value i 0)) (drop (i + 1) value)))) good
    ∙ ap (λ (n : ℕ). cond (n == 0) false (stays_open (get_or value i 0) n (drop (i + 1) value))) (let e : next g (get_or value i 0) ≡ h = omega (arith, step) in e)

pub out_here : (value : List ℕ) (last g i h : ℕ) → i < length value → is_some (fault_of (get_or value i 0) last g 0) ≡ false → h + cond (is_close (get_or value i 0)) 1 0 ≡ g + cond (is_open (get_or value i 0)) 1 0 → h ≡ 0 → stays_open last g (drop i value) ≡ false
out_here value last g i h within good step out = good_here value last g i h within good step ∙ ap (λ t. cond t false (stays_open (get_or value i 0) h (drop (i + 1) value))) (eq-eqb h 0 out)

pub on_here : (value : List ℕ) (last g i h : ℕ) → i < length value → is_some (fault_of (get_or value i 0) last g 0) ≡ false → h + cond (is_close (get_or value i 0)) 1 0 ≡ g + cond (is_open (get_or value i 0)) 1 0 → h ≢ 0 → stays_open last g (drop i value) ≡ stays_open (get_or value i 0) h (drop (i + 1) value)
on_here value last g i h within good step inside = good_here value last g i h within good step ∙ ap (λ t. cond t false (stays_open (get_or value i 0) h (drop (i + 1) value))) (ne_eqb h 0 inside)

pub end_here : (value : List ℕ) (last g i : ℕ) → length value ≤ i → stays_open last g (drop i value) ≡ (g == 1)
end_here value last g i end = ap (stays_open last g) (drop_all i value end)
