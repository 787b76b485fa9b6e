-- What stands at a place, step by step.
use Rattle.std.proofs.Common.{◌≡◌, ℕ, zero, suc, ◌+◌, ◌-◌, ◌<◌, ◌≤◌, inl, inr, List, [], ◌++◌, length, take, drop, get_or, cond, Bool, true, false, arith, Option, Some, None, Ok, Err, refl, ap, sym, ◌∙◌, subst, get_or-drop, length-drop}
use Rattle.std.specs.Prelude.{count_by, filter_map, not, ◌&&◌, ◌||◌, ◌==◌}
use Rattle.std.specs.List.{prefix_len, cons_option, range_with_len}
use Rattle.std.proofs.lemmas.Bool.{eqb-true, and_left, and_right, eqb-false, cases_eq, cases_lt}
use Rattle.std.proofs.lemmas.List.Sums.{count_by_more_no, prefix_len_is}
use Rattle.tcl_words.specs.Bytes.{is_blank, is_open, is_close, is_atom, before}
use Rattle.tcl_words.specs.Faults.{fault_of, fault_at, word_fault, is_bad_at, is_extra, is_too_deep}
use Rattle.tcl_words.specs.Tokens.{token, token_at, run_end, tokens_of}
use Rattle.tcl_words.specs.Reading.{Gives, reading, words_of}
use Rattle.tcl_words.specs.ReadingSteps.{is_good, NoFaults, IsNextFault, Begins, IsAt, place_after, IsStep, IsBrace, AreRead, IsFaultOf}
use Rattle.tcl_words.specs.Cover.{AllBetween}
use Rattle.tcl_words.specs.declared.token.Token.{Token}
use Rattle.tcl_words.specs.declared.token.Kind.{Kind}
use Rattle.tcl_words.specs.declared.token.Kind.TheVariants.{Open, Close, Atom}
use Rattle.tcl_words.specs.declared.fault.WordFault.{WordFault}
use Rattle.tcl_words.specs.declared.fault.WordFault.TheVariants.{BadByte, Extra, TooDeep, Unclosed, Memory}
use Rattle.tcl_words.proofs.Depths.{next_depth, known_fault, next_before, faulted}
use Rattle.tcl_words.proofs.Places.{filter_to}
use Rattle.tcl_words.proofs.Fine.{none_fine, close_inside}
use Rattle.tcl_words.proofs.Written.{atom_not}
use Rattle.tcl_words.proofs.Covering.{no_token, inner_none}
use Rattle.tcl_words.proofs.Classes.{good_atom, good_none, bad_atom, good_fine}

-- ---- runs of bytes

-- a count stays over bytes that fail its test
count_stays : (p : ℕ → Bool) (text : List ℕ) (a d : ℕ) → a + d ≤ length text → ((k : ℕ) → a ≤ k → k < a + d → p (get_or text k 0) ≡ false) → count_by p (take (a + d) text) ≡ count_by p (take a text)
count_stays p text a zero within fails = ap (λ (n : ℕ). count_by p (take n text)) (let e : a + 0 ≡ a = omega arith in e)
count_stays p text a (suc d) within fails =
    ap (λ (n : ℕ). count_by p (take n text)) (let e : a + suc d ≡ (a + d) + 1 = omega arith in e)
    ∙ count_by_more_no p text (a + d) 0 (omega arith) (fails (a + d) (omega arith) (omega arith))
    ∙ count_stays p text a d (omega arith) (λ k low high. fails k low (omega arith))

count_over : (p : ℕ → Bool) (text : List ℕ) (a b : ℕ) → a ≤ b → b ≤ length text → ((k : ℕ) → a ≤ k → k < b → p (get_or text k 0) ≡ false) → count_by p (take b text) ≡ count_by p (take a text)
count_over p text a b le within fails =
    ap (λ (n : ℕ). count_by p (take n text)) (let e : b ≡ a + (b - a) = omega arith in e)
    ∙ count_stays p text a (b - a) (omega arith) (λ k low high. fails k low (omega arith))

-- inside of a run as many groups are open as before it
run_counted : (text : List ℕ) (a b g : ℕ) → a ≤ b → b ≤ length text → AllBetween is_atom text a b → g + count_by is_close (take a text) ≡ count_by is_open (take a text) → g + count_by is_close (take b text) ≡ count_by is_open (take b text)
run_counted text a b g le within run was =
    omega (
      arith,
      count_over is_open text a b le within (λ k low high. (atom_not (get_or text k 0) (run k low high)).0),
      count_over is_close text a b le within (λ k low high. (atom_not (get_or text k 0) (run k low high)).1),
    )

good_run : (text : List ℕ) (g a b : ℕ) → AllBetween (is_good g) text a b → AllBetween is_atom text a b
good_run text g a b run k low high = good_atom g (get_or text k 0) (run k low high)

-- no good byte of a run has a fault
last_open : (text : List ℕ) (g a b k : ℕ) → is_close (before text a) ≡ false → AllBetween (is_good g) text a b → a ≤ k → k < b → is_close (before text k) ≡ false
last_open text g a b k first run low high = elim (cases_eq a k) [
  | inl same ↦ subst (λ (m : ℕ). is_close (before text m) ≡ false) same first
  | inr other ↦
      let one : (k - 1) + 1 ≡ k = omega (arith, other) in
      ap is_close (ap (before text) (sym one) ∙ sym (next_before text (k - 1))) ∙ (atom_not (get_or text (k - 1) 0) (good_atom g (get_or text (k - 1) 0) (run (k - 1) (omega (arith, other)) (omega arith)))).1
]

run_fine : (text : List ℕ) (a b g : ℕ) → b ≤ length text → g + count_by is_close (take a text) ≡ count_by is_open (take a text) → is_close (before text a) ≡ false → AllBetween (is_good g) text a b → NoFaults text a b
run_fine text a b g within was first run k low high =
    sym (known_fault text k g (before text k) (run_counted text a k g low (omega arith) (λ j from to. good_run text g a b run j from (omega arith)) was) refl)
    ∙ good_none (get_or text k 0) (before text k) g k (run k low high) (last_open text g a b k first run low high)

-- ---- one step

fault_is : (text : List ℕ) (place groups last : ℕ) → IsAt text place groups last → fault_of (get_or text place 0) last groups place ≡ fault_at text place
fault_is text place groups last at = known_fault text place groups last at.counted at.after

no_atom_begins : (text : List ℕ) (place : ℕ) → is_atom (get_or text place 0) ≡ false → Begins text (place + 1)
no_atom_begins text place is within = and_left (is_atom (before text (place + 1))) (is_atom (get_or text (place + 1) 0)) (ap is_atom (sym (next_before text place)) ∙ is)

-- a byte of its own: a brace or a blank
one_step : (text : List ℕ) (place groups last : ℕ) (found : Option Token) → place < length text → IsAt text place groups last → is_atom (get_or text place 0) ≡ false → token_at text place ≡ found → place_after place found ≡ place + 1 → fault_of (get_or text place 0) last groups place ≡ None → IsStep text place found
one_step text place groups last found within at apart is next none = record {
  is = is;
  ahead = omega (arith, next);
  within = omega (arith, next);
  fine = λ k low high. ap (fault_at text) (let e : k ≡ place = omega (arith, next) in e) ∙ sym (fault_is text place groups last at) ∙ none;
  run = λ k low high. absurd (omega (arith, next));
  whole = λ more. absurd (omega (arith, next));
  begins = subst (Begins text) (sym next) (no_atom_begins text place apart);
}

open_no_atom : (b : ℕ) → is_open b ≡ true → is_atom b ≡ false
open_no_atom b is = ap is_atom (eqb-true b 123 is)

close_no_atom : (b : ℕ) → is_close b ≡ true → is_atom b ≡ false
close_no_atom b is = ap is_atom (eqb-true b 125 is)

abbrev tok_of : List ℕ → ℕ → ℕ → Option Token
tok_of text place b = cond (is_open b) (Some (token Open place (place + 1))) (cond (is_close b) (Some (token Close place (place + 1))) (cond (is_atom b && not (is_atom (before text place))) (Some (token Atom place (run_end text place))) None))

pub brace_step : (text : List ℕ) (place groups last : ℕ) (kind : Kind) → place < length text → IsAt text place groups last → IsBrace kind (get_or text place 0) → fault_of (get_or text place 0) last groups place ≡ None → IsStep text place (Some (token kind place (place + 1)))
brace_step text place groups last Open within at is none = one_step text place groups last _ within at (open_no_atom (get_or text place 0) is) (ap (tok_of text place) (eqb-true (get_or text place 0) 123 is)) refl none
brace_step text place groups last Close within at is none = one_step text place groups last _ within at (close_no_atom (get_or text place 0) is) (ap (tok_of text place) (eqb-true (get_or text place 0) 125 is)) refl none
brace_step text place groups last Atom within at is none = absurd is

blank_cases : (P : ℕ → Type 0) (b : ℕ) (w x y z : Bool) → (b == 32) ≡ w → (b == 9) ≡ x → (b == 13) ≡ y → (b == 10) ≡ z → (w || x || y || z) ≡ true → P 32 → P 9 → P 13 → P 10 → P b
blank_cases P b true x y z iw ix iy iz e p q r s = subst P (sym (eqb-true b 32 iw)) p
blank_cases P b false true y z iw ix iy iz e p q r s = subst P (sym (eqb-true b 9 ix)) q
blank_cases P b false false true z iw ix iy iz e p q r s = subst P (sym (eqb-true b 13 iy)) r
blank_cases P b false false false true iw ix iy iz e p q r s = subst P (sym (eqb-true b 10 iz)) s
blank_cases P b false false false false iw ix iy iz e p q r s = absurd (let no : false ≡ true = e in cc)

abbrev IsGap : ℕ → Type 0
IsGap b = (is_open b ≡ false) × (is_close b ≡ false) × (is_atom b ≡ false) × ((last g place : ℕ) → fault_of b last g place ≡ None)

gap_fine : (z : Bool) (place : ℕ) → cond (z && false) (Some (BadByte place)) None ≡ None
gap_fine true place = refl
gap_fine false place = refl

gap_none : (b : ℕ) → is_blank b ≡ true → IsGap b
gap_none b is = blank_cases IsGap b (b == 32) (b == 9) (b == 13) (b == 10) refl refl refl refl is (refl, refl, refl, λ last g place. gap_fine (g == 0) place) (refl, refl, refl, λ last g place. gap_fine (g == 0) place) (refl, refl, refl, λ last g place. gap_fine (g == 0) place) (refl, refl, refl, λ last g place. gap_fine (g == 0) place)

pub blank_step : (text : List ℕ) (place groups last : ℕ) → place < length text → IsAt text place groups last → is_blank (get_or text place 0) ≡ true → IsStep text place None
blank_step text place groups last within at is =
    let gap : IsGap (get_or text place 0) = gap_none (get_or text place 0) is in
    one_step text place groups last None within at gap.2 (no_token text place true true gap.0 gap.1 (and_left (is_atom (get_or text place 0)) (not (is_atom (before text place))) gap.2)) refl (gap.3 last groups place)

-- the run of an atom, which ends where no byte of it follows
run_ends : (text : List ℕ) (place end : ℕ) → place ≤ end → end ≤ length text → AllBetween is_atom text place end → (end < length text → is_atom (get_or text end 0) ≡ false) → run_end text place ≡ end
run_ends text place end low within run stop =
    let size : prefix_len is_atom (drop place text) ≡ end - place =
    prefix_len_is is_atom (drop place text) (end - place) 0 (omega (arith, length-drop place text))
    (λ k lt. ap is_atom (get_or-drop place text k 0) ∙ run (place + k) (omega arith) (omega arith))
    (λ lt. ap is_atom (get_or-drop place text (end - place) 0 ∙ ap (λ (m : ℕ). get_or text m 0) (let e : place + (end - place) ≡ end = omega arith in e)) ∙ stop (omega (arith, length-drop place text))) in
    omega (arith, size)

begins_here : (x y : Bool) → (x && y) ≡ false → y ≡ true → x ≡ false
begins_here true true e is = cc
begins_here true false e is = cc
begins_here false y e is = refl

pub atom_step : (text : List ℕ) (place groups last end : ℕ) → place < length text → IsAt text place groups last → is_atom (get_or text place 0) ≡ true → is_close last ≡ false → place < end → end ≤ length text → AllBetween (is_good groups) text place end → (end < length text → is_atom (get_or text end 0) ≡ false) → IsStep text place (Some (token Atom place end))
atom_step text place groups last end within at is first some to run stop =
    let not_before : is_atom (before text place) ≡ false = begins_here (is_atom (before text place)) (is_atom (get_or text place 0)) (at.begins within) is in
    record {
      is =
          ap (λ (b : Bool). cond b (Some (token Open place (place + 1))) (cond (is_close (get_or text place 0)) (Some (token Close place (place + 1))) (cond (is_atom (get_or text place 0) && not (is_atom (before text place))) (Some (token Atom place (run_end text place))) None))) (atom_not (get_or text place 0) is).0
          ∙ ap (λ (b : Bool). cond b (Some (token Close place (place + 1))) (cond (is_atom (get_or text place 0) && not (is_atom (before text place))) (Some (token Atom place (run_end text place))) None)) (atom_not (get_or text place 0) is).1
          ∙ ap (λ (b : Bool). cond (b && not (is_atom (before text place))) (Some (token Atom place (run_end text place))) None) is
          ∙ ap (λ (b : Bool). cond (not b) (Some (token Atom place (run_end text place))) None) not_before
          ∙ ap (λ (e : ℕ). Some (token Atom place e)) (run_ends text place end (omega arith) to (good_run text groups place end run) stop);
      ahead = some;
      within = to;
      fine = run_fine text place end groups to at.counted (ap is_close (sym at.after) ∙ first) run;
      run = λ k low high. good_run text groups place end run k (omega arith) high;
      whole = λ more. is;
      begins = λ lt. and_right (is_atom (before text end)) (is_atom (get_or text end 0)) (stop lt);
    }

-- ---- faults

none_below : (text : List ℕ) (a b : ℕ) → NoFaults text 0 a → NoFaults text a b → NoFaults text 0 b
none_below text a b low high k from to = elim (cases_lt k a) [ inl lt ↦ low k from lt | inr le ↦ high k le to ]

next_fault : (text : List ℕ) (place at : ℕ) (fault : WordFault) → at < length text → NoFaults text place at → fault_at text at ≡ Some fault → IsNextFault text place fault
next_fault text place at fault within fine is fine_before = sym (faulted text at (Some fault) within (λ k high. none_below text place at fine_before fine k (omega arith) high) (sym is) refl)

no_places : (text : List ℕ) (a : ℕ) → NoFaults text a a
no_places text a k low high = absurd (omega arith)

-- a fault at the place itself
pub fault_here : (text : List ℕ) (place groups last : ℕ) (fault : WordFault) → place < length text → IsAt text place groups last → fault_of (get_or text place 0) last groups place ≡ Some fault → IsNextFault text place fault
fault_here text place groups last fault within at is = next_fault text place place fault within (no_places text place) (sym (fault_is text place groups last at) ∙ is)

bad_byte : (b last g place : ℕ) → is_bad_at b g ≡ true → fault_of b last g place ≡ Some (BadByte place)
bad_byte b last g place bad = ap (λ (t : Bool). cond t (Some (BadByte place)) (cond (is_extra b last g) (Some (Extra place)) (cond (is_too_deep b g) (Some (TooDeep place)) None))) bad

extra_byte : (b last g place : ℕ) → is_bad_at b g ≡ false → is_extra b last g ≡ true → fault_of b last g place ≡ Some (Extra place)
extra_byte b last g place good extra =
    ap (λ (t : Bool). cond t (Some (BadByte place)) (cond (is_extra b last g) (Some (Extra place)) (cond (is_too_deep b g) (Some (TooDeep place)) None))) good
    ∙ ap (λ (t : Bool). cond t (Some (Extra place)) (cond (is_too_deep b g) (Some (TooDeep place)) None)) extra

third : (x y a c : Bool) → a ≡ true → c ≡ true → (x || y || (a && c)) ≡ true
third true y true true p q = refl
third false true true true p q = refl
third false false true true p q = refl
third x y false c p q = cc
third x y true false p q = cc

-- the first byte of an atom is bad
pub bad_first : (text : List ℕ) (place groups last : ℕ) → place < length text → IsAt text place groups last → is_atom (get_or text place 0) ≡ true → is_good groups (get_or text place 0) ≡ false → IsNextFault text place (BadByte place)
bad_first text place groups last within at is good = fault_here text place groups last (BadByte place) within at (bad_byte (get_or text place 0) last groups place (bad_atom groups (get_or text place 0) good is))

-- an atom follows the end of a group
pub extra_first : (text : List ℕ) (place groups last : ℕ) → place < length text → IsAt text place groups last → is_good groups (get_or text place 0) ≡ true → is_close last ≡ true → IsNextFault text place (Extra place)
extra_first text place groups last within at good closed =
    let b : ℕ = get_or text place 0 in
    fault_here text place groups last (Extra place) within at
    (extra_byte (get_or text place 0) last groups place (good_fine groups (get_or text place 0) good)
    (third (is_close (get_or text place 0) && groups == 0) (is_open (get_or text place 0) && (is_atom last || is_close last)) (is_atom (get_or text place 0)) (is_close last) (good_atom groups (get_or text place 0) good) closed))

-- a later byte of an atom is bad
pub bad_later : (text : List ℕ) (place end groups last : ℕ) → place ≤ end → end < length text → IsAt text place groups last → is_close last ≡ false → AllBetween (is_good groups) text place end → is_atom (get_or text end 0) ≡ true → is_good groups (get_or text end 0) ≡ false → IsNextFault text place (BadByte end)
bad_later text place end groups last le within at first run is good =
    next_fault text place end (BadByte end) within
    (run_fine text place end groups (omega arith) at.counted (ap is_close (sym at.after) ∙ first) run)
    (sym (known_fault text end groups (before text end) (run_counted text place end groups le (omega arith) (good_run text groups place end run) at.counted) refl)
    ∙ bad_byte (get_or text end 0) (before text end) groups end (bad_atom groups (get_or text end 0) good is))

-- ---- the loop

pub start_at : (text : List ℕ) → IsAt text 0 0 32
start_at text = record { few = omega arith; counted = refl; after = refl; begins = λ lt. refl }

-- a byte that opens a group leaves room, and one that closes a group finds one open
fine_at : (text : List ℕ) (place groups last : ℕ) (found : Option Token) → IsAt text place groups last → IsStep text place found → fault_of (get_or text place 0) last groups place ≡ None
fine_at text place groups last found at step = fault_is text place groups last at ∙ step.fine place (omega arith) step.ahead

pub opens_few : (text : List ℕ) (place groups last : ℕ) (found : Option Token) → IsAt text place groups last → IsStep text place found → is_open (get_or text place 0) ≡ true → groups < 4100
opens_few text place groups last found at step is =
    let fine = none_fine last groups (get_or text place 0) place (fine_at text place groups last found at step) in
    let other = eqb-false groups 4100 (ap (λ (b : Bool). b && groups == 4100) (sym is) ∙ fine.shallow) in
    elim (cases_lt groups 4100) [ inl lt ↦ lt | inr le ↦ absurd (other (omega (arith, le, at.few))) ]

pub closes_some : (text : List ℕ) (place groups last : ℕ) (found : Option Token) → IsAt text place groups last → IsStep text place found → is_close (get_or text place 0) ≡ true → 0 < groups
closes_some text place groups last found at step is = close_inside last groups (get_or text place 0) (none_fine last groups (get_or text place 0) place (fine_at text place groups last found at step)) is

next_at : (text : List ℕ) (place groups last after : ℕ) (found : Option Token) → place < length text → IsAt text place groups last → IsStep text place found → after ≤ 4100 → after + cond (is_close (get_or text place 0)) 1 0 ≡ groups + cond (is_open (get_or text place 0)) 1 0
    → IsAt text (place_after place found) after (get_or text (place_after place found - 1) 0)
next_at text place groups last after found within at step few counted = record {
  few = few;
  counted = run_counted text (place + 1) (place_after place found) after (omega (arith, step.ahead)) step.within step.run (next_depth text place groups after within at.counted counted);
  after =
      let one : (place_after place found - 1) + 1 ≡ place_after place found = omega (arith, step.ahead) in
      next_before text (place_after place found - 1) ∙ ap (before text) one;
  begins = step.begins;
}

inner_last : (text : List ℕ) (place k : ℕ) (found : Option Token) → IsStep text place found → place + 1 ≤ k → k < place_after place found → is_atom (get_or text (k - 1) 0) ≡ true
inner_last text place k found step low high = elim (cases_eq (k - 1) place) [
  | inl same ↦ subst (λ (m : ℕ). is_atom (get_or text m 0) ≡ true) (sym same) (step.whole (omega (arith, low, high, same)))
  | inr other ↦ step.run (k - 1) (omega (arith, low, other)) (omega (arith, high))
]

inner : (text : List ℕ) (place k : ℕ) (found : Option Token) → IsStep text place found → place + 1 ≤ k → k < place_after place found → token_at text k ≡ None
inner text place k found step low high =
    let one : (k - 1) + 1 ≡ k = omega arith in
    inner_none text k (step.run k low high) (ap is_atom (ap (before text) (sym one) ∙ sym (next_before text (k - 1))) ∙ inner_last text place k found step low high)

next_tokens : (text : List ℕ) (place : ℕ) (found : Option Token) (tokens : List Token) → IsStep text place found → tokens ≡ filter_map (token_at text) (range_with_len 0 place) → tokens ++ cons_option found [] ≡ filter_map (token_at text) (range_with_len 0 (place_after place found))
next_tokens text place found tokens step was = ap (λ (ts : List Token). ts ++ cons_option found []) was ∙ sym (filter_to (token_at text) place (place_after place found) found step.ahead step.is (λ k low high. inner text place k found step low high))

-- all that the loop knows behind a step
pub moved : (text : List ℕ) (place groups last after to : ℕ) (found : Option Token) → place < length text → IsAt text place groups last → NoFaults text 0 place → IsStep text place found → after ≤ 4100 → after + cond (is_close (get_or text place 0)) 1 0 ≡ groups + cond (is_open (get_or text place 0)) 1 0 → to ≡ place_after place found
    → (to ≤ length text) × IsAt text to after (get_or text (to - 1) 0) × NoFaults text 0 to
moved text place groups last after to found within at fine step few counted is = (
  omega (arith, step.within, is),
  subst (λ (m : ℕ). IsAt text m after (get_or text (m - 1) 0)) (sym is) (next_at text place groups last after found within at step few counted),
  subst (NoFaults text 0) (sym is) (none_below text place (place_after place found) fine step.fine),
)

pub tokens_to : (text : List ℕ) (place to : ℕ) (found : Option Token) (tokens : List Token) → IsStep text place found → tokens ≡ filter_map (token_at text) (range_with_len 0 place) → to ≡ place_after place found → tokens ++ cons_option found [] ≡ filter_map (token_at text) (range_with_len 0 to)
tokens_to text place to found tokens step was is = next_tokens text place found tokens step was ∙ ap (λ (m : ℕ). filter_map (token_at text) (range_with_len 0 m)) (sym is)

-- ---- what was read

pub fault_given : (text : List ℕ) (fault : WordFault) → word_fault text ≡ Some fault → IsFaultOf fault text
fault_given text (BadByte p) is = is
fault_given text (Extra p) is = is
fault_given text (TooDeep p) is = is
fault_given text Unclosed is = is
fault_given text Memory is = tt

pub gives_fault : (text : List ℕ) (fault : WordFault) → IsFaultOf fault text → Gives (Err fault) text
gives_fault text (BadByte p) is = ap (λ f. reading f (tokens_of text)) is
gives_fault text (Extra p) is = ap (λ f. reading f (tokens_of text)) is
gives_fault text (TooDeep p) is = ap (λ f. reading f (tokens_of text)) is
gives_fault text Unclosed is = ap (λ f. reading f (tokens_of text)) is
gives_fault text Memory is = tt

pub read_ok : (text : List ℕ) (found : List Token) → AreRead text found → words_of text ≡ Ok found
read_ok text found read = ap (λ f. reading f (tokens_of text)) read.0 ∙ ap Ok (sym read.1)
