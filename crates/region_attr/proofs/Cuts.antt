-- How a text falls into pieces and words, the first one after the other.
use Rattle.std.proofs.Common.{◌≡◌, ℕ, zero, suc, ◌+◌, ◌<◌, ◌≤◌, ◌⊎◌, inl, inr, List, [], ◌∷◌, length, take, drop, get_or, cond, Bool, true, false, Option, Some, None, arith, refl, ap, sym, ◌∙◌, take_all, get_or-drop, length-drop, length-take}
use Rattle.std.specs.Prelude.{filter, not, nat_lt, ◌||◌}
use Rattle.std.specs.List.{prefix_len, list_any}
use Rattle.std.proofs.lemmas.Bool.{lt-ltb}
use Rattle.std.proofs.lemmas.List.{drop_all}
use Rattle.std.proofs.lemmas.List.Sums.{prefix_len_stops}
use Rattle.tcl_words.specs.Bytes.{is_blank}
use Rattle.region_attr.specs.Colours.{is_slash, onto_first, pieces, words, part, colour, colour_of_parts, len_before, trimmed, first_word, after_word, first_piece, after_piece}

abbrev pub tails : (ℕ → Bool) → List ℕ → List (List ℕ)
tails p [] = []
tails p (x ∷ xs) = pieces p xs

cut_head : (p : ℕ → Bool) (b : ℕ) (bs : List ℕ) (t : Bool) → pieces p bs ≡ take (len_before p bs) bs ∷ tails p (drop (len_before p bs) bs)
    → cond t ([] ∷ pieces p bs) (onto_first b (pieces p bs)) ≡ take (cond (not t) (1 + len_before p bs) 0) (b ∷ bs) ∷ tails p (drop (cond (not t) (1 + len_before p bs) 0) (b ∷ bs))
cut_head p b bs true rest = refl
cut_head p b bs false rest = ap (onto_first b) rest ∙ ap (λ (m : ℕ). take m (b ∷ bs) ∷ tails p (drop m (b ∷ bs))) (let e : suc (len_before p bs) ≡ 1 + len_before p bs = omega arith in e)

pub pieces_cut : (p : ℕ → Bool) (text : List ℕ) → pieces p text ≡ take (len_before p text) text ∷ tails p (drop (len_before p text) text)
pieces_cut p [] = refl
pieces_cut p (b ∷ bs) = cut_head p b bs (p b) (pieces_cut p bs)

tails_drop : (p : ℕ → Bool) (text : List ℕ) (n : ℕ) → n < length text → tails p (drop n text) ≡ pieces p (drop (n + 1) text)
tails_drop p [] n within = absurd (omega arith)
tails_drop p (x ∷ xs) zero within = refl
tails_drop p (x ∷ xs) (suc n) within = tails_drop p xs n (omega arith) ∙ ap (λ (m : ℕ). pieces p (drop m (x ∷ xs))) (let e : suc (n + 1) ≡ suc n + 1 = omega arith in e)

-- a text with nothing that parts it is one piece
pub one_piece : (p : ℕ → Bool) (text : List ℕ) → length text ≤ len_before p text → pieces p text ≡ text ∷ []
one_piece p text end = pieces_cut p text ∙ ap (λ (x : List ℕ). x ∷ tails p (drop (len_before p text) text)) (take_all (len_before p text) text end) ∙ ap (λ (r : List ℕ). text ∷ tails p r) (drop_all (len_before p text) text end)

pub more_pieces : (p : ℕ → Bool) (text : List ℕ) → len_before p text < length text → pieces p text ≡ take (len_before p text) text ∷ pieces p (drop (len_before p text + 1) text)
more_pieces p text within = pieces_cut p text ∙ ap (λ ps. take (len_before p text) text ∷ ps) (tails_drop p text (len_before p text) within)

clash : (b : Bool) → b ≡ true → b ≡ false → ⊥
clash b yes_ no_ = cc

-- whether some byte parts a text
head_parts : (p : ℕ → Bool) (b : ℕ) (bs : List ℕ) (t : Bool) → p b ≡ t → (p b || list_any p bs) ≡ true → (list_any p bs ≡ true → len_before p bs < length bs) → cond (not (p b)) (1 + len_before p bs) 0 < suc (length bs)
head_parts p b bs true is some later = omega (arith, ap (λ c. cond (not c) (1 + len_before p bs) 0) is)
head_parts p b bs false is some later = omega (arith, ap (λ c. cond (not c) (1 + len_before p bs) 0) is, later (sym (ap (λ c. c || list_any p bs) is) ∙ some))

pub parts_somewhere : (p : ℕ → Bool) (text : List ℕ) → list_any p text ≡ true → len_before p text < length text
parts_somewhere p [] some = cc
parts_somewhere p (b ∷ bs) some = head_parts p b bs (p b) refl some (parts_somewhere p bs)

head_keeps : (p : ℕ → Bool) (b : ℕ) (bs : List ℕ) (t : Bool) → p b ≡ t → (p b || list_any p bs) ≡ false → (list_any p bs ≡ false → length bs ≤ len_before p bs) → suc (length bs) ≤ cond (not (p b)) (1 + len_before p bs) 0
head_keeps p b bs true is none later = absurd (clash (p b || list_any p bs) (ap (λ c. c || list_any p bs) is) none)
head_keeps p b bs false is none later = omega (arith, ap (λ c. cond (not c) (1 + len_before p bs) 0) is, later (sym (ap (λ c. c || list_any p bs) is) ∙ none))

pub parts_nowhere : (p : ℕ → Bool) (text : List ℕ) → list_any p text ≡ false → length text ≤ len_before p text
parts_nowhere p [] none = omega arith
parts_nowhere p (b ∷ bs) none = head_keeps p b bs (p b) refl none (parts_nowhere p bs)

-- ---- colours between slashes

pub slash_none : (text : List ℕ) → length text ≤ len_before is_slash text → colour_of_parts (pieces is_slash text) ≡ None
slash_none text end = ap colour_of_parts (one_piece is_slash text end)

pub slash_one : (text rest : List ℕ) → rest ≡ after_piece text → len_before is_slash text < length text → length rest ≤ len_before is_slash rest → colour_of_parts (pieces is_slash text) ≡ None
slash_one text rest is some end = ap colour_of_parts (more_pieces is_slash text some ∙ ap (λ (r : List ℕ). first_piece text ∷ pieces is_slash r) (sym is) ∙ ap (λ ps. first_piece text ∷ ps) (one_piece is_slash rest end))

two_cut : (text rest last : List ℕ) → rest ≡ after_piece text → last ≡ after_piece rest → len_before is_slash text < length text → len_before is_slash rest < length rest → pieces is_slash text ≡ first_piece text ∷ (first_piece rest ∷ pieces is_slash last)
two_cut text rest last is_rest is_last some more =
    more_pieces is_slash text some
    ∙ ap (λ (r : List ℕ). first_piece text ∷ pieces is_slash r) (sym is_rest)
    ∙ ap (λ ps. first_piece text ∷ ps) (more_pieces is_slash rest more ∙ ap (λ (r : List ℕ). first_piece rest ∷ pieces is_slash r) (sym is_last))

pub slash_more : (text rest last : List ℕ) → rest ≡ after_piece text → last ≡ after_piece rest → len_before is_slash text < length text → len_before is_slash rest < length rest → list_any is_slash last ≡ true → colour_of_parts (pieces is_slash text) ≡ None
slash_more text rest last is_rest is_last some more any =
    ap colour_of_parts (two_cut text rest last is_rest is_last some more
    ∙ ap (λ ps. first_piece text ∷ (first_piece rest ∷ ps)) (more_pieces is_slash last (parts_somewhere is_slash last any) ∙ ap (λ ps. first_piece last ∷ ps) (pieces_cut is_slash (after_piece last))))

pub slash_three : (text red rest green last : List ℕ) → red ≡ first_piece text → rest ≡ after_piece text → green ≡ first_piece rest → last ≡ after_piece rest → len_before is_slash text < length text → len_before is_slash rest < length rest → list_any is_slash last ≡ false → colour_of_parts (pieces is_slash text) ≡ colour (part red) (part green) (part last)
slash_three text red rest green last is_red is_rest is_green is_last some more any =
    ap colour_of_parts (two_cut text rest last is_rest is_last some more ∙ ap (λ ps. first_piece text ∷ (first_piece rest ∷ ps)) (one_piece is_slash last (parts_nowhere is_slash last any)))
    ∙ ap (λ (r : List ℕ). colour (part r) (part (first_piece rest)) (part last)) (sym is_red)
    ∙ ap (λ (g : List ℕ). colour (part red) (part g) (part last)) (sym is_green)

-- ---- colours between blanks

abbrev pub has_byte : List ℕ → Bool
has_byte piece = nat_lt 0 (length piece)

empty : (xs : List ℕ) → length xs ≡ 0 → xs ≡ []
empty [] end = refl
empty (x ∷ xs) end = absurd (omega arith)

-- a blank at the front leaves the words as they are
pub words_blank : (b : ℕ) (bs : List ℕ) → is_blank b ≡ true → words (b ∷ bs) ≡ words bs
words_blank b bs is = ap (λ t. filter has_byte (cond t ([] ∷ pieces is_blank bs) (onto_first b (pieces is_blank bs)))) is

trim_head : (b : ℕ) (bs : List ℕ) (t : Bool) → is_blank b ≡ t → words bs ≡ words (trimmed bs) → words (b ∷ bs) ≡ words (drop (cond t (1 + prefix_len is_blank bs) 0) (b ∷ bs))
trim_head b bs true is rest = words_blank b bs is ∙ rest ∙ ap (λ (m : ℕ). words (drop m (b ∷ bs))) (let e : suc (prefix_len is_blank bs) ≡ 1 + prefix_len is_blank bs = omega arith in e)
trim_head b bs false is rest = refl

words_trimmed : (text : List ℕ) → words text ≡ words (trimmed text)
words_trimmed [] = refl
words_trimmed (b ∷ bs) = trim_head b bs (is_blank b) refl (words_trimmed bs)

-- the words of what follows a word
words_tails : (rest : List ℕ) → (0 < length rest → is_blank (get_or rest 0 0) ≡ true) → filter has_byte (tails is_blank rest) ≡ words rest
words_tails [] blank = refl
words_tails (x ∷ xs) blank = sym (words_blank x xs (blank (omega arith)))

pub keep_some : (piece : List ℕ) (ps : List (List ℕ)) → 0 < length piece → filter has_byte (piece ∷ ps) ≡ piece ∷ filter has_byte ps
keep_some piece ps some = ap (λ t. cond t (piece ∷ filter has_byte ps) (filter has_byte ps)) (lt-ltb 0 (length piece) some)

first_of : (text : List ℕ) (n : ℕ) → get_or (drop n text) 0 0 ≡ get_or text n 0
first_of text n = get_or-drop n text 0 0 ∙ ap (λ (m : ℕ). get_or text m 0) (omega arith)

not_false : (b : Bool) → not b ≡ false → b ≡ true
not_false true e = refl
not_false false e = cc

trimmed_first : (text : List ℕ) → 0 < length (trimmed text) → is_blank (get_or (trimmed text) 0 0) ≡ false
trimmed_first text some = ap is_blank (first_of text (prefix_len is_blank text)) ∙ prefix_len_stops is_blank text 0 (omega (arith, length-drop (prefix_len is_blank text) text))

pub blank_after : (t : List ℕ) → 0 < length (drop (len_before is_blank t) t) → is_blank (get_or (drop (len_before is_blank t) t) 0 0) ≡ true
blank_after t some = ap is_blank (first_of t (len_before is_blank t)) ∙ not_false (is_blank (get_or t (len_before is_blank t) 0)) (prefix_len_stops (λ b. not (is_blank b)) t 0 (omega (arith, length-drop (len_before is_blank t) t)))

word_some : (t : List ℕ) → 0 < length t → is_blank (get_or t 0 0) ≡ false → 0 < length (take (len_before is_blank t) t)
word_some [] some no_blank = absurd (omega arith)
word_some (b ∷ bs) some no_blank = omega (arith, length-take (len_before is_blank (b ∷ bs)) (b ∷ bs), ap (λ c. cond (not c) (1 + len_before is_blank bs) 0) no_blank)

words_first : (t : List ℕ) → 0 < length t → is_blank (get_or t 0 0) ≡ false → words t ≡ take (len_before is_blank t) t ∷ words (drop (len_before is_blank t) t)
words_first t some no_blank =
    ap (filter has_byte) (pieces_cut is_blank t)
    ∙ keep_some (take (len_before is_blank t) t) (tails is_blank (drop (len_before is_blank t) t)) (word_some t some no_blank)
    ∙ ap (λ ps. take (len_before is_blank t) t ∷ ps) (words_tails (drop (len_before is_blank t) t) (blank_after t))

front_at : (text t : List ℕ) → trimmed text ≡ t → ((first_word text ≡ []) × (words text ≡ [])) ⊎ (words text ≡ first_word text ∷ words (after_word text))
front_at text [] is = inl (ap (λ (t : List ℕ). take (len_before is_blank t) t) is, words_trimmed text ∙ ap words is)
front_at text (b ∷ bs) is = inr (words_trimmed text ∙ words_first (trimmed text) (omega (arith, ap length is)) (trimmed_first text (omega (arith, ap length is))))

-- a text has no word, or its first word stands first
pub front : (text w r : List ℕ) → w ≡ first_word text → r ≡ after_word text → ((w ≡ []) × (words text ≡ [])) ⊎ (words text ≡ w ∷ words r)
front text w r is_w is_r = elim (front_at text (trimmed text) refl) [
  | inl none ↦ inl (is_w ∙ none.0, none.1)
  | inr some ↦ inr (some ∙ ap (λ (x : List ℕ). x ∷ words (after_word text)) (sym is_w) ∙ ap (λ (x : List ℕ). w ∷ words x) (sym is_r))
]

pub no_words : (text : List ℕ) → length (trimmed text) ≡ 0 → words text ≡ []
no_words text end = words_trimmed text ∙ ap words (empty (trimmed text) end)

pub some_words : (text : List ℕ) → 0 < length (trimmed text) → words text ≡ first_word text ∷ words (after_word text)
some_words text some = words_trimmed text ∙ words_first (trimmed text) some (trimmed_first text some)

no_second : (a c : Option ℕ) → colour a None c ≡ None
no_second None c = refl
no_second (Some a) c = refl

pub no_third : (a b : Option ℕ) → colour a b None ≡ None
no_third None b = refl
no_third (Some a) None = refl
no_third (Some a) (Some b) = refl

pub three_words : (text w1 r1 w2 r2 w3 r3 : List ℕ) → w1 ≡ first_word text → r1 ≡ after_word text → w2 ≡ first_word r1 → r2 ≡ after_word r1 → w3 ≡ first_word r2 → r3 ≡ after_word r2 → length (trimmed r3) ≡ 0 → colour (part w1) (part w2) (part w3) ≡ colour_of_parts (words text)
three_words text w1 r1 w2 r2 w3 r3 is_w1 is_r1 is_w2 is_r2 is_w3 is_r3 end = elim (front text w1 r1 is_w1 is_r1) [
  | inl none ↦ ap (λ (w : List ℕ). colour (part w) (part w2) (part w3)) none.0 ∙ sym (ap colour_of_parts none.1)
  | inr one ↦ elim (front r1 w2 r2 is_w2 is_r2) [
    | inl none ↦ ap (λ (w : List ℕ). colour (part w1) (part w) (part w3)) none.0 ∙ no_second (part w1) (part w3) ∙ sym (ap colour_of_parts (one ∙ ap (λ ps. w1 ∷ ps) none.1))
    | inr two ↦ elim (front r2 w3 r3 is_w3 is_r3) [
      | inl none ↦ ap (λ (w : List ℕ). colour (part w1) (part w2) (part w)) none.0 ∙ no_third (part w1) (part w2) ∙ sym (ap colour_of_parts (one ∙ ap (λ ps. w1 ∷ ps) (two ∙ ap (λ ps. w2 ∷ ps) none.1)))
      | inr three ↦ sym (ap colour_of_parts (one ∙ ap (λ ps. w1 ∷ ps) (two ∙ ap (λ ps. w2 ∷ ps) (three ∙ ap (λ ps. w3 ∷ ps) (no_words r3 end)))))
    ]
  ]
]

pub more_words : (text w1 r1 w2 r2 w3 r3 : List ℕ) → w1 ≡ first_word text → r1 ≡ after_word text → w2 ≡ first_word r1 → r2 ≡ after_word r1 → w3 ≡ first_word r2 → r3 ≡ after_word r2 → 0 < length (trimmed r3) → colour_of_parts (words text) ≡ None
more_words text w1 r1 w2 r2 w3 r3 is_w1 is_r1 is_w2 is_r2 is_w3 is_r3 some = elim (front text w1 r1 is_w1 is_r1) [
  | inl none ↦ ap colour_of_parts none.1
  | inr one ↦ elim (front r1 w2 r2 is_w2 is_r2) [
    | inl none ↦ ap colour_of_parts (one ∙ ap (λ ps. w1 ∷ ps) none.1)
    | inr two ↦ elim (front r2 w3 r3 is_w3 is_r3) [
      | inl none ↦ ap colour_of_parts (one ∙ ap (λ ps. w1 ∷ ps) (two ∙ ap (λ ps. w2 ∷ ps) none.1))
      | inr three ↦ ap colour_of_parts (one ∙ ap (λ ps. w1 ∷ ps) (two ∙ ap (λ ps. w2 ∷ ps) (three ∙ ap (λ ps. w3 ∷ ps) (some_words r3 some))))
    ]
  ]
]
