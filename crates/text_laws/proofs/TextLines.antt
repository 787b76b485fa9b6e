-- The commands of a text of lines are the lines.
use Rattle.std.proofs.Common.{◌≡◌, ◌<◌, ◌≤◌, ◌+◌, ◌-◌, ◌==◌, ◌++◌, ◌∷◌, ◌∙◌, [], ℕ, zero, suc, Bool, true, false, cond, List, length, take, drop, get_or, Some, arith, refl, ap, sym, ne_eqb, append_assoc, length-append}
use Rattle.std.specs.Prelude.{◌&&◌, ◌||◌, count_by, find}
use Rattle.std.specs.List.{range_with_len, AllByRecursion}
use Rattle.std.proofs.lemmas.List.Sums.{sum_by-cons}
use Rattle.std.proofs.lemmas.Bool.{eq-eqb}
use Rattle.transcript.specs.Lines.{Lacks, text_of}
use Rattle.tcl_words.specs.Bytes.{is_open, is_close}
use Rattle.tcl_words.specs.Faults.{depth}
use Rattle.asc_form.specs.Commands.{Piece, piece, pieces_of, pieces_within, cut, end_of, ends_at, is_pound, first_byte, is_line_feed, line_after}

-- a line that is one command: it has no line feed, and closes each group that it opens
abbrev pub IsWholeLine : List ℕ → Type 0
IsWholeLine line = Lacks 10 line × (depth line (length line) ≡ 0)

-- the lines with their numbers, and an empty command behind the last line feed
abbrev pub numbered : ℕ → List (List ℕ) → List Piece
numbered number [] = piece number [] ∷ []
numbered number (line ∷ rest) = piece number line ∷ numbered (number + 1) rest

-- the first of the places of which something holds
find_at : (p : ℕ → Bool) (i n k : ℕ) → k < n → ((j : ℕ) → i ≤ j → j < i + k → p j ≡ false) → p (i + k) ≡ true → find p (range_with_len i n) ≡ Some (i + k)
find_at p i zero k lt none is = absurd (omega (arith, lt))
find_at p i (suc n) zero lt none is =
    let here : i ≡ i + 0 = omega arith in
    ap (λ (b : Bool). cond b (Some i) (find p (range_with_len (i + 1) n))) (ap p here ∙ is) ∙ ap (λ (m : ℕ). Some m) here
find_at p i (suc n) (suc k) lt none is =
    let one : (i + 1) + k ≡ i + suc k = omega arith in
    ap (λ (b : Bool). cond b (Some i) (find p (range_with_len (i + 1) n))) (none i (omega arith) (omega arith))
    ∙ find_at p (i + 1) n k (omega (arith, lt)) (λ j low high. none j (omega (arith, low)) (omega (arith, high))) (ap p one ∙ is)
    ∙ ap (λ (m : ℕ). Some m) one

no_feed : (line rest : List ℕ) (j : ℕ) → Lacks 10 line → j < length line → (get_or (line ++ rest) j 0 == 10) ≡ false
no_feed [] rest j lacks lt = absurd (omega (arith, lt))
no_feed (b ∷ bs) rest zero lacks lt = ne_eqb b 10 lacks.0
no_feed (b ∷ bs) rest (suc j) lacks lt = no_feed bs rest j lacks.1 (omega (arith, lt))

feed_there : (line rest : List ℕ) → get_or (line ++ 10 ∷ rest) (length line) 0 ≡ 10
feed_there [] rest = refl
feed_there (b ∷ bs) rest = feed_there bs rest

first_part : (line rest : List ℕ) → take (length line) (line ++ rest) ≡ line
first_part [] rest = refl
first_part (b ∷ bs) rest = ap (λ xs. b ∷ xs) (first_part bs rest)

last_part : (line rest : List ℕ) → drop (length line + 1) (line ++ 10 ∷ rest) ≡ rest
last_part [] rest = refl
last_part (b ∷ bs) rest = ap (λ (n : ℕ). drop n (b ∷ bs ++ 10 ∷ rest)) (let e : suc (length bs) + 1 ≡ suc (length bs + 1) = omega arith in e) ∙ last_part bs rest

no_feeds : (line : List ℕ) → Lacks 10 line → count_by is_line_feed line ≡ 0
no_feeds [] lacks = refl
no_feeds (b ∷ bs) lacks =
    omega (arith, sum_by-cons (λ x. cond (is_line_feed x) 1 0) b bs, ap (λ (t : Bool). cond {A = ℕ} t 1 0) (ne_eqb b 10 lacks.0), no_feeds bs lacks.1)

some_more : (line rest : List ℕ) → length line < length (line ++ 10 ∷ rest)
some_more line rest = omega (arith, length-append line (10 ∷ rest))

or_right : (a b : Bool) → b ≡ true → (a || b) ≡ true
or_right true b e = refl
or_right false b e = e

take_whole : (xs : List ℕ) → take (length xs) xs ≡ xs
take_whole [] = refl
take_whole (x ∷ xs) = ap (λ ys. x ∷ ys) (take_whole xs)

ends_behind : (line rest : List ℕ) → IsWholeLine line → ends_at (line ++ 10 ∷ rest) (length line) ≡ true
ends_behind line rest whole =
    let feed : (get_or (line ++ 10 ∷ rest) (length line) 0 == 10) ≡ true = ap (λ (n : ℕ). n == 10) (feed_there line rest) in
    let shut : (depth (line ++ 10 ∷ rest) (length line) == 0) ≡ true =
    ap (λ (xs : List ℕ). count_by is_open xs - count_by is_close xs == 0) (first_part line (10 ∷ rest) ∙ sym (take_whole line)) ∙ eq-eqb (depth line (length line)) 0 whole.1 in
    ap (λ (b : Bool). b && (is_pound (first_byte (take (length line) (line ++ 10 ∷ rest))) || depth (line ++ 10 ∷ rest) (length line) == 0)) feed
    ∙ or_right (is_pound (first_byte (take (length line) (line ++ 10 ∷ rest)))) (depth (line ++ 10 ∷ rest) (length line) == 0) shut

-- a line ends at its line feed
pub line_end : (line rest : List ℕ) → IsWholeLine line → end_of (line ++ 10 ∷ rest) ≡ Some (length line)
line_end line rest whole =
    let same : 0 + length line ≡ length line = omega arith in
    find_at (ends_at (line ++ 10 ∷ rest)) 0 (length (line ++ 10 ∷ rest)) (length line) (some_more line rest)
    (λ j low high. ap (λ (b : Bool). b && (is_pound (first_byte (take j (line ++ 10 ∷ rest))) || depth (line ++ 10 ∷ rest) j == 0)) (no_feed line (10 ∷ rest) j whole.0 (omega (arith, high))))
    (ap (ends_at (line ++ 10 ∷ rest)) same ∙ ends_behind line rest whole) ∙ ap (λ (n : ℕ). Some n) same

line_more : (line : List ℕ) (lines : List (List ℕ)) → text_of (line ∷ lines) ≡ line ++ 10 ∷ text_of lines
line_more line lines = append_assoc line (10 ∷ []) (text_of lines)

lines_within : (most number : ℕ) (lines : List (List ℕ)) → length lines < most → AllByRecursion IsWholeLine lines → pieces_within most number (text_of lines) ≡ numbered number lines
lines_within zero number lines lt whole = absurd (omega (arith, lt))
lines_within (suc most) number [] lt whole = refl
lines_within (suc most) number (line ∷ lines) lt whole =
    let rest : List ℕ = text_of lines in
    let feeds : number + 1 + count_by is_line_feed (take (length line) (line ++ 10 ∷ rest)) ≡ number + 1 =
    ap (λ (xs : List ℕ). number + 1 + count_by is_line_feed xs) (first_part line (10 ∷ rest)) ∙ ap (λ (n : ℕ). number + 1 + n) (no_feeds line whole.0.0) ∙ (let e : number + 1 + 0 ≡ number + 1 = omega arith in e) in
    ap (pieces_within (suc most) number) (line_more line lines)
    ∙ ap (cut (pieces_within most) number (line ++ 10 ∷ rest)) (line_end line rest whole.0)
    ∙ ap (λ (xs : List ℕ). piece number xs ∷ pieces_within most (line_after number (line ++ 10 ∷ rest) (length line)) (drop (length line + 1) (line ++ 10 ∷ rest))) (first_part line (10 ∷ rest))
    ∙ ap (λ (n : ℕ). piece number line ∷ pieces_within most n (drop (length line + 1) (line ++ 10 ∷ rest))) feeds
    ∙ ap (λ (xs : List ℕ). piece number line ∷ pieces_within most (number + 1) xs) (last_part line rest)
    ∙ ap (λ (ps : List Piece). piece number line ∷ ps) (lines_within most (number + 1) lines (omega (arith, lt)) whole.1)

lines_few : (lines : List (List ℕ)) → length lines ≤ length (text_of lines)
lines_few [] = omega arith
lines_few (line ∷ lines) = omega (arith, lines_few lines, ap (length {A = ℕ}) (line_more line lines), length-append line (10 ∷ text_of lines))

pub lines_are_pieces : (lines : List (List ℕ)) → AllByRecursion IsWholeLine lines → pieces_of (text_of lines) ≡ numbered 1 lines
lines_are_pieces lines whole = lines_within (length (text_of lines) + 1) 1 lines (omega (arith, lines_few lines)) whole
