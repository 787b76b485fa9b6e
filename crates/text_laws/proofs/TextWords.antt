-- The words of a line that is written word by word, with one blank between two words.
use Rattle.std.proofs.Common.{◌≡◌, ◌≢◌, ◌<◌, ◌+◌, ◌-◌, ◌==◌, ◌++◌, ◌∷◌, ◌∙◌, [], ℕ, suc, Bool, true, false, cond, List, length, take, drop, Option, Some, None, Ok, arith, refl, ap, sym, subst, ne_eqb, append_assoc, length-append, drop-drop}
use Rattle.std.specs.Prelude.{not, filter_map, ◌&&◌, ◌||◌, is_some}
use Rattle.std.specs.List.{range_with_len, prefix_len, cons_option, AllByRecursion, slice_range}
use Rattle.std.specs.Option.{option_map}
use Rattle.std.proofs.lemmas.Bool.{eq-eqb, eqb-true, eqb-false}
use Rattle.tcl_words.specs.Bytes.{is_open, is_close, is_atom, before}
use Rattle.tcl_words.specs.Faults.{is_bad_at, fault_of, word_fault}
use Rattle.tcl_words.specs.GroupText.{is_group_text}
use Rattle.tcl_words.specs.Reading.{words_of, reading}
use Rattle.tcl_words.specs.Tokens.{token, token_at, run_end, tokens_of}
use Rattle.tcl_words.specs.TopWords.{top_words, nth, atom_of, raw_of}
use Rattle.tcl_words.specs.declared.token.Token.{Token}
use Rattle.tcl_words.specs.declared.token.Word.{Word}
use Rattle.tcl_words.specs.declared.token.Kind.TheVariants.{Open, Close, Atom}
use Rattle.tcl_words.proofs.Depths.{next_before, not_faulted}
use Rattle.tcl_words.proofs.Fine.{Fine, next, IsFine, none_fine, fine_words}
use Rattle.tcl_words.proofs.GroupTexts.{stays_open, group_is}
use Rattle.tcl_words.proofs.Scan.{head_of, tail_of}
use Rattle.tcl_words.proofs.Written.{AtomBytes, atom_not}
use Rattle.text_laws.proofs.TextSegments.{Stays, Segment, One, Many, tokens_in, IsSegment, all_tokens, word_of, words_from, first_token, split_range, seam, top_segments}

-- an atom, or a text between braces
pub data Spelled : Type 0 where
  Plain : List ℕ → Spelled
  Group : List ℕ → Spelled

abbrev pub spelled : Spelled → List ℕ
spelled (Plain a) = a
spelled (Group v) = 123 ∷ (v ++ 125 ∷ [])

abbrev pub after_blanks : List Spelled → List ℕ
after_blanks [] = []
after_blanks (w ∷ ws) = 32 ∷ (spelled w ++ after_blanks ws)

abbrev pub line_of : Spelled → List Spelled → List ℕ
line_of w ws = spelled w ++ after_blanks ws

abbrev pub IsSpelled : Spelled → Type 0
IsSpelled (Plain a) = (0 < length a) × AtomBytes 0 a
IsSpelled (Group v) = is_group_text v ≡ true

-- ---- the line has no fault

plain : (g : ℕ) (o c : Bool) → o ≡ false → c ≡ false → (g + cond o 1 0) - cond c 1 0 ≡ g
plain g true c p q = cc
plain g false true p q = cc
plain g false false p q = omega arith

next_plain : (g b : ℕ) → is_open b ≡ false → is_close b ≡ false → next g b ≡ g
next_plain g b = plain g (is_open b) (is_close b)

and_false : (b : Bool) → (b && false) ≡ false
and_false true = refl
and_false false = refl

extra_none : (c z o x a y : Bool) → c ≡ false → o ≡ false → y ≡ false → ((c && z) || (o && x) || (a && y)) ≡ false
extra_none true z o x a y p q r = cc
extra_none false z true x a y p q r = cc
extra_none false z false x a true p q r = cc
extra_none false z false x a false p q r = and_false a

atom_fine : (last g b : ℕ) → is_atom b ≡ true → is_bad_at b g ≡ false → is_close last ≡ false → Fine last g b
atom_fine last g b is good ok = record {
  good = good;
  placed = extra_none (is_close b) (g == 0) (is_open b) (is_atom last || is_close last) (is_atom b) (is_close last) (atom_not b is).1 (atom_not b is).0 ok;
  shallow = ap (λ x. x && (g == 4100)) (atom_not b is).0;
}

fine_run : (last : ℕ) (bs rest : List ℕ) → is_close last ≡ false → AtomBytes 0 bs → ((l : ℕ) → IsFine l 0 rest) → IsFine last 0 (bs ++ rest)
fine_run last [] rest ok atoms more = more last
fine_run last (b ∷ bs) rest ok atoms more = (
  atom_fine last 0 b atoms.0 atoms.1 ok,
  subst (λ (h : ℕ). IsFine b h (bs ++ rest)) (sym (next_plain 0 b (atom_not b atoms.0).0 (atom_not b atoms.0).1)) (fine_run b bs rest (atom_not b atoms.0).1 atoms.2 more),
)

both_false : (f z s : Bool) → cond f false (cond z false s) ≡ true → (f ≡ false) × (z ≡ false) × (s ≡ true)
both_false true z s e = cc
both_false false true s e = cc
both_false false false s e = (refl, refl, e)

fine_group : (last g : ℕ) (bs rest : List ℕ) → stays_open last g bs ≡ true → 0 < g → IsFine 125 0 rest → IsFine last g (bs ++ 125 ∷ rest)
fine_group last g [] rest e some more = subst (λ (n : ℕ). IsFine last n (125 ∷ rest)) (sym (eqb-true g 1 e)) (record { good = refl; placed = refl; shallow = refl }, more)
fine_group last g (b ∷ bs) rest e some more =
    let p : (is_some (fault_of b last g 0) ≡ false) × ((next g b == 0) ≡ false) × (stays_open b (next g b) bs ≡ true) = both_false (is_some (fault_of b last g 0)) (next g b == 0) (stays_open b (next g b) bs) e in
    let inside : next g b ≢ 0 = eqb-false (next g b) 0 p.1 in
    (none_fine last g b 0 (not_faulted (fault_of b last g 0) p.0), fine_group b (next g b) bs rest p.2 (omega arith) more)

fine_word : (w : Spelled) (rest : List ℕ) → IsSpelled w → ((l : ℕ) → IsFine l 0 rest) → IsFine 32 0 (spelled w ++ rest)
fine_word (Plain a) rest h more = fine_run 32 a rest refl h.1 more
fine_word (Group v) rest h more =
    subst (λ (xs : List ℕ). IsFine 32 0 (123 ∷ xs)) (sym (append_assoc v (125 ∷ []) rest)) (record { good = refl; placed = refl; shallow = refl }, fine_group 123 1 v rest (group_is v ∙ h) (omega arith) (more 125))

fine_blanks : (ws : List Spelled) → AllByRecursion IsSpelled ws → (l : ℕ) → IsFine l 0 (after_blanks ws)
fine_blanks [] h l = refl
fine_blanks (w ∷ ws) h l = (record { good = refl; placed = refl; shallow = refl }, fine_word w (after_blanks ws) h.0 (fine_blanks ws h.1))

line_fault : (w : Spelled) (ws : List Spelled) → IsSpelled w → AllByRecursion IsSpelled ws → word_fault (line_of w ws) ≡ None
line_fault w ws h hs = fine_words (line_of w ws) (fine_word w (after_blanks ws) h (fine_blanks ws hs))

-- ---- the tokens of the line, word by word

abbrev tokens_from : List ℕ → ℕ → ℕ → List Token
tokens_from text n k = filter_map (token_at text) (range_with_len n k)

abbrev token_as : Bool → Bool → Bool → ℕ → ℕ → Option Token
token_as o c a n e = cond o (Some (token Open n (n + 1))) (cond c (Some (token Close n (n + 1))) (cond a (Some (token Atom n e)) None))

token_here : (text : List ℕ) (n b : ℕ) (bs : List ℕ) → drop n text ≡ b ∷ bs → token_at text n ≡ token_as (is_open b) (is_close b) (is_atom b && not (is_atom (before text n))) n (run_end text n)
token_here text n b bs is = ap (λ (x : ℕ). token_as (is_open x) (is_close x) (is_atom x && not (is_atom (before text n))) n (run_end text n)) (head_of text n b bs is)

before_next : (text : List ℕ) (n b : ℕ) (bs : List ℕ) → drop n text ≡ b ∷ bs → before text (n + 1) ≡ b
before_next text n b bs is = sym (next_before text n) ∙ head_of text n b bs is

as_atom : (o c a l : Bool) (n e : ℕ) → o ≡ false → c ≡ false → a ≡ true → token_as o c (a && not l) n e ≡ cond l None (Some (token Atom n e))
as_atom true c a l n e p q r = cc
as_atom false true a l n e p q r = cc
as_atom false false false l n e p q r = cc
as_atom false false true true n e p q r = refl
as_atom false false true false n e p q r = refl

atom_here : (text : List ℕ) (n b : ℕ) (bs : List ℕ) (l : Bool) → drop n text ≡ b ∷ bs → is_atom b ≡ true → is_atom (before text n) ≡ l → token_at text n ≡ cond l None (Some (token Atom n (run_end text n)))
atom_here text n b bs l is a was =
    token_here text n b bs is ∙ as_atom (is_open b) (is_close b) (is_atom b) (is_atom (before text n)) n (run_end text n) (atom_not b a).0 (atom_not b a).1 a
    ∙ ap (λ (x : Bool). cond x None (Some (token Atom n (run_end text n)))) was

-- behind the first byte of an atom no token begins
run_tokens : (text bs rest : List ℕ) (n : ℕ) → drop n text ≡ bs ++ rest → is_atom (before text n) ≡ true → AtomBytes 0 bs → tokens_from text n (length bs) ≡ []
run_tokens text [] rest n is was atoms = refl
run_tokens text (b ∷ bs) rest n is was atoms =
    ap (λ (o : Option Token). cons_option o (tokens_from text (n + 1) (length bs))) (atom_here text n b (bs ++ rest) true is atoms.0 was)
    ∙ run_tokens text bs rest (n + 1) (tail_of text n b (bs ++ rest) is) (ap is_atom (before_next text n b (bs ++ rest) is) ∙ atoms.0) atoms.2

run_length : (bs rest : List ℕ) → AtomBytes 0 bs → prefix_len is_atom rest ≡ 0 → prefix_len is_atom (bs ++ rest) ≡ length bs
run_length [] rest atoms stops = stops
run_length (b ∷ bs) rest atoms stops = ap (λ (t : Bool). cond t (1 + prefix_len is_atom (bs ++ rest)) 0) atoms.0 ∙ ap (λ (n : ℕ). 1 + n) (run_length bs rest atoms.2 stops) ∙ (let e : 1 + length bs ≡ suc (length bs) = omega arith in e)

abbrev pub segment_at : List ℕ → ℕ → Spelled → Segment
segment_at text n (Plain a) = One (token Atom n (n + length a))
segment_at text n (Group v) = Many (token Open n (n + 1)) (tokens_from text (n + 1) (length v)) (token Close (n + 1 + length v) (n + 1 + length v + 1))

abbrev pub segments_at : List ℕ → ℕ → List Spelled → List Segment
segments_at text n [] = []
segments_at text n (w ∷ ws) = segment_at text (n + 1) w ∷ segments_at text (n + 1 + length (spelled w)) ws

word_tokens : (text : List ℕ) (w : Spelled) (rest : List ℕ) (n : ℕ) → drop n text ≡ spelled w ++ rest → prefix_len is_atom rest ≡ 0 → before text n ≡ 32 → IsSpelled w → tokens_from text n (length (spelled w)) ≡ tokens_in (segment_at text n w)
word_tokens text (Plain []) rest n is stops was h = absurd (omega (arith, h.0))
word_tokens text (Plain (b ∷ bs)) rest n is stops was h =
    ap (λ (o : Option Token). cons_option o (tokens_from text (n + 1) (length bs))) (atom_here text n b (bs ++ rest) false is h.1.0 (ap is_atom was))
    ∙ ap (λ (ts : List Token). token Atom n (run_end text n) ∷ ts) (run_tokens text bs rest (n + 1) (tail_of text n b (bs ++ rest) is) (ap is_atom (before_next text n b (bs ++ rest) is) ∙ h.1.0) h.1.2)
    ∙ ap (λ (m : ℕ). token Atom n (n + m) ∷ []) (ap (prefix_len is_atom) is ∙ run_length (b ∷ bs) rest h.1 stops)
word_tokens text (Group v) rest n is stops was h =
    let at : drop n text ≡ 123 ∷ (v ++ 125 ∷ rest) = is ∙ ap (λ (xs : List ℕ). 123 ∷ xs) (append_assoc v (125 ∷ []) rest) in
    let behind : drop (n + 1 + length v) text ≡ 125 ∷ rest = seam text v (125 ∷ rest) (n + 1) (tail_of text n 123 (v ++ 125 ∷ rest) at) in
    ap (λ (o : Option Token). cons_option o (tokens_from text (n + 1) (length (v ++ 125 ∷ [])))) (token_here text n 123 (v ++ 125 ∷ rest) at)
    ∙ ap (λ (k : ℕ). token Open n (n + 1) ∷ tokens_from text (n + 1) k) (length-append v (125 ∷ []))
    ∙ ap (λ (ts : List Token). token Open n (n + 1) ∷ ts) (split_range (token_at text) (n + 1) (length v) 1)
    ∙ ap (λ (o : Option Token). token Open n (n + 1) ∷ (tokens_from text (n + 1) (length v) ++ cons_option o [])) (token_here text (n + 1 + length v) 125 rest behind)

blanks_stop : (ws : List Spelled) → prefix_len is_atom (after_blanks ws) ≡ 0
blanks_stop [] = refl
blanks_stop (w ∷ ws) = refl

word_and_rest : (text : List ℕ) (w : Spelled) (ws : List Spelled) (n : ℕ) → drop n text ≡ spelled w ++ after_blanks ws → before text n ≡ 32 → IsSpelled w
    → tokens_from text (n + length (spelled w)) (length (after_blanks ws)) ≡ all_tokens (segments_at text (n + length (spelled w)) ws)
    → tokens_from text n (length (line_of w ws)) ≡ all_tokens (segment_at text n w ∷ segments_at text (n + length (spelled w)) ws)
word_and_rest text w ws n is was h more =
    ap (tokens_from text n) (length-append (spelled w) (after_blanks ws))
    ∙ split_range (token_at text) n (length (spelled w)) (length (after_blanks ws))
    ∙ ap (λ (ts : List Token). ts ++ tokens_from text (n + length (spelled w)) (length (after_blanks ws))) (word_tokens text w (after_blanks ws) n is (blanks_stop ws) was h)
    ∙ ap (λ (ts : List Token). tokens_in (segment_at text n w) ++ ts) more

blank_tokens : (text : List ℕ) (ws : List Spelled) (n : ℕ) → drop n text ≡ after_blanks ws → AllByRecursion IsSpelled ws → tokens_from text n (length (after_blanks ws)) ≡ all_tokens (segments_at text n ws)
blank_tokens text [] n is h = refl
blank_tokens text (w ∷ ws) n is h =
    let at : drop (n + 1) text ≡ spelled w ++ after_blanks ws = tail_of text n 32 (spelled w ++ after_blanks ws) is in
    ap (λ (o : Option Token). cons_option o (tokens_from text (n + 1) (length (spelled w ++ after_blanks ws)))) (token_here text n 32 (spelled w ++ after_blanks ws) is)
    ∙ word_and_rest text w ws (n + 1) at (before_next text n 32 (spelled w ++ after_blanks ws) is) h.0 (blank_tokens text ws (n + 1 + length (spelled w)) (seam text (spelled w) (after_blanks ws) (n + 1) at) h.1)

abbrev pub line_segments : Spelled → List Spelled → List Segment
line_segments w ws = segment_at (line_of w ws) 0 w ∷ segments_at (line_of w ws) (0 + length (spelled w)) ws

line_tokens : (w : Spelled) (ws : List Spelled) → IsSpelled w → AllByRecursion IsSpelled ws → tokens_of (line_of w ws) ≡ all_tokens (line_segments w ws)
line_tokens w ws h hs = word_and_rest (line_of w ws) w ws 0 refl refl h (blank_tokens (line_of w ws) ws (0 + length (spelled w)) (seam (line_of w ws) (spelled w) (after_blanks ws) 0 refl) hs)

-- ---- each word has its tokens

stays_step : (g n e : ℕ) (o c a : Bool) (ts : List Token) → (o ≡ true → c ≡ false) → 0 < (g + cond o 1 0) - cond c 1 0 → Stays ((g + cond o 1 0) - cond c 1 0) ts → Stays g (cons_option (token_as o c a n e) ts)
stays_step g n e true true a ts apart some more = let no : true ≡ false = apart refl in cc
stays_step g n e true false a ts apart some more = (omega arith, subst (λ (m : ℕ). Stays m ts) (let q : (g + 1) - 0 ≡ g + 1 = omega arith in q) more)
stays_step g n e false true a ts apart some more = let q : (g + 0) - 1 ≡ g - 1 = omega arith in (omega (arith, some), subst (λ (m : ℕ). Stays m ts) q more)
stays_step g n e false false true ts apart some more = let q : (g + 0) - 0 ≡ g = omega arith in (omega (arith, some), subst (λ (m : ℕ). Stays m ts) q more)
stays_step g n e false false false ts apart some more = let q : (g + 0) - 0 ≡ g = omega arith in subst (λ (m : ℕ). Stays m ts) q more

stays_tokens : (text bs rest : List ℕ) (n last g : ℕ) → drop n text ≡ bs ++ rest → before text n ≡ last → stays_open last g bs ≡ true → 0 < g → Stays g (tokens_from text n (length bs))
stays_tokens text [] rest n last g is was e some = eqb-true g 1 e
stays_tokens text (b ∷ bs) rest n last g is was e some =
    let p : (is_some (fault_of b last g 0) ≡ false) × ((next g b == 0) ≡ false) × (stays_open b (next g b) bs ≡ true) = both_false (is_some (fault_of b last g 0)) (next g b == 0) (stays_open b (next g b) bs) e in
    let inside : next g b ≢ 0 = eqb-false (next g b) 0 p.1 in
    subst (λ (o : Option Token). Stays g (cons_option o (tokens_from text (n + 1) (length bs)))) (sym (token_here text n b (bs ++ rest) is))
    (stays_step g n (run_end text n) (is_open b) (is_close b) (is_atom b && not (is_atom (before text n))) (tokens_from text (n + 1) (length bs)) (λ q. ap is_close (eqb-true b 123 q)) (omega arith)
    (stays_tokens text bs rest (n + 1) b (next g b) (tail_of text n b (bs ++ rest) is) (before_next text n b (bs ++ rest) is) p.2 (omega arith)))

word_segment : (text : List ℕ) (w : Spelled) (rest : List ℕ) (n : ℕ) → drop n text ≡ spelled w ++ rest → IsSpelled w → IsSegment (segment_at text n w)
word_segment text (Plain a) rest n is h = refl
word_segment text (Group v) rest n is h =
    let at : drop n text ≡ 123 ∷ (v ++ 125 ∷ rest) = is ∙ ap (λ (xs : List ℕ). 123 ∷ xs) (append_assoc v (125 ∷ []) rest) in
    (refl, refl, stays_tokens text v (125 ∷ rest) (n + 1) 123 1 (tail_of text n 123 (v ++ 125 ∷ rest) at) (before_next text n 123 (v ++ 125 ∷ rest) at) (group_is v ∙ h) (omega arith))

blank_segments : (text : List ℕ) (ws : List Spelled) (n : ℕ) → drop n text ≡ after_blanks ws → AllByRecursion IsSpelled ws → AllByRecursion IsSegment (segments_at text n ws)
blank_segments text [] n is h = tt
blank_segments text (w ∷ ws) n is h =
    let at : drop (n + 1) text ≡ spelled w ++ after_blanks ws = tail_of text n 32 (spelled w ++ after_blanks ws) is in
    (word_segment text w (after_blanks ws) (n + 1) at h.0, blank_segments text ws (n + 1 + length (spelled w)) (seam text (spelled w) (after_blanks ws) (n + 1) at) h.1)

-- ---- what each word is

-- a word that reads as what was written
abbrev pub IsRead : List ℕ → List Token → Word → Spelled → Type 0
IsRead text tokens word (Plain a) = (atom_of text tokens word ≡ Some a) × (raw_of text tokens word ≡ None)
IsRead text tokens word (Group v) = raw_of text tokens word ≡ Some v

abbrev pub AreRead : List ℕ → List Token → List Word → List Spelled → Type 0
AreRead text tokens [] [] = Unit {0}
AreRead text tokens [] (w ∷ ws) = ⊥
AreRead text tokens (x ∷ xs) [] = ⊥
AreRead text tokens (x ∷ xs) (w ∷ ws) = IsRead text tokens x w × AreRead text tokens xs ws

take_seam : (one rest : List ℕ) → take (length one) (one ++ rest) ≡ one
take_seam [] rest = refl
take_seam (b ∷ bs) rest = ap (λ (xs : List ℕ). b ∷ xs) (take_seam bs rest)

cut_out : (text one rest : List ℕ) (n : ℕ) → drop n text ≡ one ++ rest → slice_range text n (n + length one) ≡ one
cut_out text one rest n is = ap (λ (m : ℕ). take m (drop n text)) (let e : (n + length one) - n ≡ length one = omega arith in e) ∙ ap (take (length one)) is ∙ take_seam one rest

word_read : (text : List ℕ) (all more : List Token) (w : Spelled) (rest : List ℕ) (n i : ℕ) → drop n text ≡ spelled w ++ rest → drop i all ≡ tokens_in (segment_at text n w) ++ more → IsRead text all (word_of i (segment_at text n w)) w
word_read text all more (Plain a) rest n i is at =
    let here : nth all i ≡ token Atom n (n + length a) = first_token all i (token Atom n (n + length a)) more at in
    let same : (i == i) ≡ true = eq-eqb i i refl in (
      ap (λ (b : Bool). option_map (λ (t : Token). slice_range text t.start t.end) (cond b (Some (nth all i)) (cond (i == i + 2) (Some (nth all (i + 1))) None))) same
          ∙ ap (λ (t : Token). Some (slice_range text t.start t.end)) here ∙ ap (λ (xs : List ℕ). Some xs) (cut_out text a rest n is),
      ap (λ (b : Bool). cond b None (Some (slice_range text ((nth all i).start + 1) (nth all i).start))) same,
    )
word_read text all more (Group v) rest n i is at =
    let inner : List Token = tokens_from text (n + 1) (length v) in
    let open_ : Token = token Open n (n + 1) in
    let close_ : Token = token Close (n + 1 + length v) (n + 1 + length v + 1) in
    let at_all : drop i all ≡ open_ ∷ (inner ++ close_ ∷ more) = at ∙ ap (λ (ts : List Token). open_ ∷ ts) (append_assoc inner (close_ ∷ []) more) in
    let here : nth all i ≡ open_ = first_token all i open_ (inner ++ close_ ∷ more) at_all in
    let at_close : drop (i + 1 + length inner) all ≡ close_ ∷ more = seam all inner (close_ ∷ more) (i + 1) (sym (drop-drop 1 i all) ∙ ap (drop 1) at_all) in
    let last : i + 1 + length inner ≡ i + (length inner + 1) = omega arith in
    let there : nth all (i + (length inner + 1)) ≡ close_ = ap (nth all) (sym last) ∙ first_token all (i + 1 + length inner) close_ more at_close in
    let apart : (i == i + (length inner + 1)) ≡ false = ne_eqb i (i + (length inner + 1)) (λ e. omega (arith, e)) in
    let text_at : drop n text ≡ 123 ∷ (v ++ 125 ∷ rest) = is ∙ ap (λ (xs : List ℕ). 123 ∷ xs) (append_assoc v (125 ∷ []) rest) in
    ap (λ (b : Bool). cond b None (Some (slice_range text ((nth all i).start + 1) (nth all (i + (length inner + 1))).start))) apart
    ∙ ap (λ (t : Token). Some (slice_range text (t.start + 1) (nth all (i + (length inner + 1))).start)) here
    ∙ ap (λ (t : Token). Some (slice_range text (n + 1) t.start)) there
    ∙ ap (λ (xs : List ℕ). Some xs) (cut_out text v (125 ∷ rest) (n + 1) (tail_of text n 123 (v ++ 125 ∷ rest) text_at))

blank_read : (text : List ℕ) (all : List Token) (ws : List Spelled) (n i : ℕ) → drop n text ≡ after_blanks ws → drop i all ≡ all_tokens (segments_at text n ws) → AreRead text all (words_from i (segments_at text n ws)) ws
blank_read text all [] n i is at = tt
blank_read text all (w ∷ ws) n i is at =
    let next_at : drop (n + 1) text ≡ spelled w ++ after_blanks ws = tail_of text n 32 (spelled w ++ after_blanks ws) is in
    let behind : drop (n + 1 + length (spelled w)) text ≡ after_blanks ws = seam text (spelled w) (after_blanks ws) (n + 1) next_at in (
      word_read text all (all_tokens (segments_at text (n + 1 + length (spelled w)) ws)) w (after_blanks ws) (n + 1) i next_at at,
      blank_read text all ws (n + 1 + length (spelled w)) (i + length (tokens_in (segment_at text (n + 1) w))) behind (seam all (tokens_in (segment_at text (n + 1) w)) (all_tokens (segments_at text (n + 1 + length (spelled w)) ws)) i at),
    )

-- a line that reads word by word as it was written
pub record IsReadLine (text : List ℕ) (ws : List Spelled) : Type 0 where
  pub tokens : List Token
  pub words : words_of text ≡ Ok tokens
  pub read : AreRead text tokens (top_words tokens) ws

pub line_read : (w : Spelled) (ws : List Spelled) → IsSpelled w → AllByRecursion IsSpelled ws → IsReadLine (line_of w ws) (w ∷ ws)
line_read w ws h hs =
    let text : List ℕ = line_of w ws in
    let segments : List Segment = line_segments w ws in
    let all : List Token = all_tokens segments in
    let behind : drop (0 + length (spelled w)) text ≡ after_blanks ws = seam text (spelled w) (after_blanks ws) 0 refl in
    let good : AllByRecursion IsSegment segments = (word_segment text w (after_blanks ws) 0 refl h, blank_segments text ws (0 + length (spelled w)) behind hs) in
    let first : IsRead text all (word_of 0 (segment_at text 0 w)) w = word_read text all (all_tokens (segments_at text (0 + length (spelled w)) ws)) w (after_blanks ws) 0 0 refl refl in
    let rest : AreRead text all (words_from (0 + length (tokens_in (segment_at text 0 w))) (segments_at text (0 + length (spelled w)) ws)) ws =
    blank_read text all ws (0 + length (spelled w)) (0 + length (tokens_in (segment_at text 0 w))) behind (seam all (tokens_in (segment_at text 0 w)) (all_tokens (segments_at text (0 + length (spelled w)) ws)) 0 refl) in
    record {
      tokens = all;
      words = ap (λ f. reading f (tokens_of text)) (line_fault w ws h hs) ∙ ap (λ (ts : List Token). Ok ts) (line_tokens w ws h hs);
      read = subst (λ (xs : List Word). AreRead text all xs (w ∷ ws)) (sym (top_segments segments good)) (first, rest);
    }
