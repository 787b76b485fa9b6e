-- Orders that merge the commands of a script, and the order that a text names.
use Rattle.std.proofs.Common.{unwrap_or, ◌≡◌, ◌≢◌, ◌⊎◌, ℕ, zero, suc, ◌<◌, ◌≤◌, ◌+◌, ◌-◌, ◌*◌, ◌==◌, ◌&&◌, Bool, true, false, cond, List, [], ◌∷◌, ◌++◌, All, Option, Some, None, option_map, option_and_then, map, flat_map, filter, length, take, drop, replicate, codes, bytes_eq, nat_eq, nat_le, append_assoc, append-nil, refl, ap, ap₂, sym, ◌∙◌, arith, ne_eqb, eq-eqb, eqb-true, le-leb, leb-true, inl, inr}
use Rattle.std.specs.Arc.{arc_value}
use Rattle.std.specs.Cmp.Lexicographic.{pointwise}
use Rattle.std.specs.List.{list_all}
use Rattle.std.proofs.lemmas.Bool.{and_parts, and_from, eqb-false, cond-true, cond-false, cases_lt, false≢true, true_from_ne_false, false_from_ne_true}
use Rattle.std.proofs.lemmas.Option.{none-some}
use Rattle.std.proofs.lemmas.List.{take_all, take-append-drop, length-take-le}
use Rattle.std.proofs.lemmas.List.Elements.{All-head, All-tail}
use Rattle.std.proofs.lemmas.Slice.Eq.{bytes_eq-Decides}
use Rattle.transcript.specs.Lines.{Lacks, lines_in, onto_line, text_of}
use Rattle.transcript.specs.Merge.{Entry, order_of, lane, IsMerge}
use Rattle.transcript.specs.Outcome.{run_shown}
use Rattle.session_run.specs.Replies.{core_rules, start_from}
use mathlib.Core.Path.{fun_ext}
use Rattle.transcript.specs.Reading.{before, digits_in, order_in, order_in_lines}
use Rattle.transcript.specs.Run.{Answer, any_refused, files_of, merged_script, run_of}
use Rattle.transcript.specs.Transcript.{order_line, session_lines, sessions, transcript, transcript_of}
use Rattle.transcript.proofs.LineLaws.{before_read}
use Rattle.transcript.proofs.MergeLaws.{order_is_merge}
use Rattle.mged_words.specs.Entries.{command_entry}
use Rattle.mged_words.specs.declared.command.ScriptCommand.{ScriptCommand}
use Rattle.script_run.specs.Orders.{order_named, named_order, is_session, times, has_each, is_merge, if_merge, order_for, HasOneOutcome}
use Rattle.script_run.specs.OrderSteps.{is_of, if_sessions, digits_named, has_next, next_in}

pub session_from : (n : ℕ) → 1 ≤ n → n ≤ 8 → is_session n ≡ true
session_from n low high = and_from (nat_le 1 n) (nat_le n 8) (le-leb 1 n low) (le-leb n 8 high)

pub session_is : (n : ℕ) → is_session n ≡ true → (1 ≤ n) × (n ≤ 8)
session_is n e = let both = and_parts (nat_le 1 n) (nat_le n 8) e in (leb-true 1 n both.0, leb-true n 8 both.1)

-- counting
abbrev eight : (ℕ → ℕ) → ℕ
eight f = f 1 + f 2 + f 3 + f 4 + f 5 + f 6 + f 7 + f 8

one_more : (digit : ℕ) (order : List ℕ) → is_session digit ≡ true → eight (times (digit ∷ order)) ≡ suc (eight (times order))
one_more zero order e = absurd (false≢true e)
one_more (suc zero) order e = omega arith
one_more (suc (suc zero)) order e = omega arith
one_more (suc (suc (suc zero))) order e = omega arith
one_more (suc (suc (suc (suc zero)))) order e = omega arith
one_more (suc (suc (suc (suc (suc zero))))) order e = omega arith
one_more (suc (suc (suc (suc (suc (suc zero)))))) order e = omega arith
one_more (suc (suc (suc (suc (suc (suc (suc zero))))))) order e = omega arith
one_more (suc (suc (suc (suc (suc (suc (suc (suc zero)))))))) order e = omega arith
one_more (suc (suc (suc (suc (suc (suc (suc (suc (suc n))))))))) order e = absurd (omega (arith, (session_is (suc (suc (suc (suc (suc (suc (suc (suc (suc n))))))))) e).1))

-- an order of the eight sessions is as long as their digits are often
all_counted : (order : List ℕ) → list_all is_session order ≡ true → length order ≡ eight (times order)
all_counted [] e = refl
all_counted (digit ∷ rest) e =
    let both = and_parts (is_session digit) (list_all is_session rest) e in ap suc (all_counted rest both.1) ∙ sym (one_more digit rest both.0)

times_step : (digit : ℕ) (order : List ℕ) (session : ℕ) → times (digit ∷ order) session ≡ cond (digit == session) (suc (times order session)) (times order session)
times_step digit order session = by_test (digit == session) digit (filter (λ d. d == session) order)
  where
    by_test : (t : Bool) (d : ℕ) (ds : List ℕ) → length (cond t (d ∷ ds) ds) ≡ cond t (suc (length ds)) (length ds)
    by_test true d ds = refl
    by_test false d ds = refl

times_same : (session : ℕ) (order : List ℕ) → times (session ∷ order) session ≡ suc (times order session)
times_same session order = times_step session order session ∙ cond-true (session == session) _ _ (eq-eqb session session refl)

times_other : (digit : ℕ) (order : List ℕ) (session : ℕ) → digit ≢ session → times (digit ∷ order) session ≡ times order session
times_other digit order session other = times_step digit order session ∙ cond-false (digit == session) _ _ (ne_eqb digit session other)

times_less : (digit : ℕ) (order : List ℕ) (session : ℕ) → times order session ≤ times (digit ∷ order) session
times_less digit order session = at_most (digit == session) digit (filter (λ d. d == session) order)
  where
    at_most : (t : Bool) (d : ℕ) (ds : List ℕ) → length ds ≤ length (cond t (d ∷ ds) ds)
    at_most true d ds = omega arith
    at_most false d ds = omega arith

-- a number that is no session's is not among them
none_of : (order : List ℕ) (session : ℕ) → list_all is_session order ≡ true → is_session session ≡ false → times order session ≡ 0
none_of [] session e out = refl
none_of (digit ∷ rest) session e out =
    let both = and_parts (is_session digit) (list_all is_session rest) e in
    let other : digit ≢ session = λ same. false≢true (sym out ∙ ap is_session (sym same) ∙ both.0) in
    times_other digit rest session other ∙ none_of rest session both.1 out

-- what holds of the eight sessions holds of each
each_of : (test : ℕ → Bool) → list_all test sessions ≡ true → (n : ℕ) → is_session n ≡ true → test n ≡ true
each_of test all zero e = absurd (false≢true e)
each_of test all (suc zero) e = (and_parts (test 1) _ all).0
each_of test all (suc (suc zero)) e = (and_parts (test 2) _ (and_parts (test 1) _ all).1).0
each_of test all (suc (suc (suc zero))) e = (and_parts (test 3) _ (and_parts (test 2) _ (and_parts (test 1) _ all).1).1).0
each_of test all (suc (suc (suc (suc zero)))) e = (and_parts (test 4) _ (and_parts (test 3) _ (and_parts (test 2) _ (and_parts (test 1) _ all).1).1).1).0
each_of test all (suc (suc (suc (suc (suc zero))))) e = (and_parts (test 5) _ (and_parts (test 4) _ (and_parts (test 3) _ (and_parts (test 2) _ (and_parts (test 1) _ all).1).1).1).1).0
each_of test all (suc (suc (suc (suc (suc (suc zero)))))) e = (and_parts (test 6) _ (and_parts (test 5) _ (and_parts (test 4) _ (and_parts (test 3) _ (and_parts (test 2) _ (and_parts (test 1) _ all).1).1).1).1).1).0
each_of test all (suc (suc (suc (suc (suc (suc (suc zero))))))) e = (and_parts (test 7) _ (and_parts (test 6) _ (and_parts (test 5) _ (and_parts (test 4) _ (and_parts (test 3) _ (and_parts (test 2) _ (and_parts (test 1) _ all).1).1).1).1).1).1).0
each_of test all (suc (suc (suc (suc (suc (suc (suc (suc zero)))))))) e =
    (and_parts (test 8) _ (and_parts (test 7) _ (and_parts (test 6) _ (and_parts (test 5) _ (and_parts (test 4) _ (and_parts (test 3) _ (and_parts (test 2) _ (and_parts (test 1) _ all).1).1).1).1).1).1).1).0
each_of test all (suc (suc (suc (suc (suc (suc (suc (suc (suc n))))))))) e = absurd (omega (arith, (session_is (suc (suc (suc (suc (suc (suc (suc (suc (suc n))))))))) e).1))

all_eight : (test : ℕ → Bool) → ((n : ℕ) → test n ≡ true) → (ns : List ℕ) → list_all test ns ≡ true
all_eight test each [] = refl
all_eight test each (n ∷ ns) = and_from (test n) (list_all test ns) (each n) (all_eight test each ns)

-- where no number but the eight sessions comes, each digit is one of them
only_sessions : (order : List ℕ) → ((n : ℕ) → is_session n ≡ false → times order n ≡ 0) → list_all is_session order ≡ true
only_sessions [] none = refl
only_sessions (digit ∷ rest) none =
    and_from (is_session digit) (list_all is_session rest)
    (true_from_ne_false (is_session digit) (λ out. omega (arith, times_same digit rest, none digit out)))
    (only_sessions rest (λ n out. omega (arith, times_less digit rest n, none n out)))

-- where no number but one comes, each digit is that one
only_one : (k : ℕ) (order : List ℕ) → ((n : ℕ) → n ≢ k → times order n ≡ 0) → order ≡ replicate (times order k) k
only_one k [] none = refl
only_one k (digit ∷ rest) none =
    let same : digit ≡ k = eqb-true digit k (true_from_ne_false (digit == k) (λ out. omega (arith, times_same digit rest, none digit (eqb-false digit k out)))) in
    let others = only_one k rest (λ n out. omega (arith, times_less digit rest n, none n out)) in
    ap₂ (λ (x : ℕ) (xs : List ℕ). x ∷ xs) same others ∙ sym (ap (λ n. replicate n k) (ap (λ d. times (d ∷ rest) k) same ∙ times_same k rest))

module _ {X : Type 0} where
  abbrev pub AreOfSessions : List (Entry X) → Type 0
  AreOfSessions entries = All (λ (e : Entry X). (1 ≤ e.session) × (e.session ≤ 8)) entries

  of_sessions : (entries : List (Entry X)) → AreOfSessions entries → list_all is_session (order_of entries) ≡ true
  of_sessions [] h = refl
  of_sessions (e ∷ rest) h =
      let here : (1 ≤ e.session) × (e.session ≤ 8) = All-head (λ (e : Entry X). (1 ≤ e.session) × (e.session ≤ 8)) e rest h in
      and_from (is_session e.session) (list_all is_session (order_of rest)) (session_from e.session here.0 here.1)
      (of_sessions rest (All-tail (λ (e : Entry X). (1 ≤ e.session) × (e.session ≤ 8)) e rest h))

  no_commands : (entries : List (Entry X)) → AreOfSessions entries → (k : ℕ) → is_session k ≡ false → length (lane entries k) ≡ 0
  no_commands entries h k out = sym (order_is_merge entries k) ∙ none_of (order_of entries) k (of_sessions entries h) out

  -- `is_merge` decides whether an order merges the commands of a script: where it is true, each session's digit comes as
  -- often as the session has commands, whatever the session
  pub merge_decided : (entries : List (Entry X)) → AreOfSessions entries → (order : List ℕ) → is_merge order (lane entries) ≡ true → IsMerge order (lane entries)
  merge_decided entries h order e k = by_session (is_session k) refl
    where
      by_session : (t : Bool) → is_session k ≡ t → times order k ≡ length (lane entries k)
      by_session true here =
          eqb-true (times order k) (length (lane entries k))
          (each_of (λ session. times order session == length (lane entries session)) (and_parts (list_all is_session order) _ e).1 k here)
      by_session false out = none_of order k (and_parts (list_all is_session order) _ e).0 out ∙ sym (no_commands entries h k out)

  -- and where an order merges the commands, `is_merge` is true
  pub merge_decided_back : (entries : List (Entry X)) → AreOfSessions entries → (order : List ℕ) → IsMerge order (lane entries) → is_merge order (lane entries) ≡ true
  merge_decided_back entries h order m =
      and_from (list_all is_session order) (list_all (λ session. times order session == length (lane entries session)) sessions)
      (only_sessions order (λ n out. m n ∙ no_commands entries h n out))
      (all_eight (λ session. times order session == length (lane entries session)) (λ n. eq-eqb _ _ (m n)) sessions)

  -- where all commands are of one session, the one order that merges them has its digit for each command
  pub merge_unique : (entries : List (Entry X)) (k : ℕ) → All (λ (e : Entry X). e.session ≡ k) entries → (order : List ℕ) → IsMerge order (lane entries) → order ≡ replicate (length entries) k
  merge_unique entries k own order m =
      only_one k order (λ n out. m n ∙ others entries own n out) ∙ ap (λ n. replicate n k) (m k ∙ all_own entries own)
    where
      others : (es : List (Entry X)) → All (λ (e : Entry X). e.session ≡ k) es → (n : ℕ) → n ≢ k → length (lane es n) ≡ 0
      others [] own n out = refl
      others (e ∷ rest) own n out =
          let here : e.session ≢ n = λ same. out (sym same ∙ All-head (λ (e : Entry X). e.session ≡ k) e rest own) in
          ap length (cond-false (e.session == n) _ _ (ne_eqb e.session n here)) ∙ others rest (All-tail (λ (e : Entry X). e.session ≡ k) e rest own) n out

      all_own : (es : List (Entry X)) → All (λ (e : Entry X). e.session ≡ k) es → length (lane es k) ≡ length es
      all_own [] own = refl
      all_own (e ∷ rest) own =
          ap length (cond-true (e.session == k) _ _ (eq-eqb e.session k (All-head (λ (e : Entry X). e.session ≡ k) e rest own)))
          ∙ ap suc (all_own rest (All-tail (λ (e : Entry X). e.session ≡ k) e rest own))

  -- an order that merges the commands has as many digits as there are commands
  pub merge_length : (entries : List (Entry X)) → AreOfSessions entries → (order : List ℕ) → is_merge order (lane entries) ≡ true → length order ≡ length entries
  merge_length entries h order e =
      let m = merge_decided entries h order e in
      let same : (k : ℕ) → times order k ≡ times (order_of entries) k = λ k. m k ∙ sym (order_is_merge entries k) in
      let both : eight (times order) ≡ eight (times (order_of entries)) = omega (arith, same 1, same 2, same 3, same 4, same 5, same 6, same 7, same 8) in
      all_counted order (and_parts (list_all is_session order) _ e).0 ∙ both ∙ sym (all_counted (order_of entries) (of_sessions entries h)) ∙ lengths entries
    where
      lengths : (es : List (Entry X)) → length (order_of es) ≡ length es
      lengths [] = refl
      lengths (e ∷ rest) = ap suc (lengths rest)

-- reading
line_length : (order : List ℕ) → length (order_line order) ≡ 5 + 2 * length order
line_length order = omega (arith, pairs order)
  where
    pairs : (o : List ℕ) → length (flat_map (λ (session : ℕ). 32 ∷ (48 + session) ∷ []) o) ≡ 2 * length o
    pairs [] = refl
    pairs (digit ∷ rest) = omega (arith, pairs rest)

same_text : (xs ys : List ℕ) → bytes_eq xs ys ≡ true → xs ≡ ys
same_text xs ys e = (bytes_eq-Decides xs ys).0 e

text_itself : (xs : List ℕ) → bytes_eq xs xs ≡ true
text_itself xs = (bytes_eq-Decides xs xs).1 refl

before_take : (c n : ℕ) (xs : List ℕ) → before c (take n xs) ≡ take n (before c xs)
before_take c zero xs = refl
before_take c (suc n) [] = refl
before_take c (suc n) (x ∷ xs) = by_test (x == c) (before_take c n xs)
  where
    by_test : (t : Bool) → before c (take n xs) ≡ take n (before c xs) → cond t [] (x ∷ before c (take n xs)) ≡ take (suc n) (cond t [] (x ∷ before c xs))
    by_test true h = refl
    by_test false h = ap (λ l. x ∷ l) h

-- a text begins with what stands before its first line feed
before_front : (text : List ℕ) → text ≡ before 10 text ++ drop (length (before 10 text)) text
before_front [] = refl
before_front (b ∷ bs) = by_test (b == 10) (before_front bs)
  where
    by_test : (t : Bool) → bs ≡ before 10 bs ++ drop (length (before 10 bs)) bs
        → b ∷ bs ≡ cond t [] (b ∷ before 10 bs) ++ drop (length (cond t [] (b ∷ before 10 bs))) (b ∷ bs)
    by_test true h = refl
    by_test false h = ap (λ l. b ∷ l) h

-- what stands before the first line feed of a text is told by a beginning that has one
before_held : (c : ℕ) (held rest : List ℕ) → length (before c held) < length held → before c (held ++ rest) ≡ before c held
before_held c [] rest shorter = absurd (omega (arith, shorter))
before_held c (b ∷ bs) rest shorter = by_test (b == c) shorter (before_held c bs rest)
  where
    by_test : (t : Bool) → length (cond t [] (b ∷ before c bs)) < suc (length bs) → (length (before c bs) < length bs → before c (bs ++ rest) ≡ before c bs)
        → cond t [] (b ∷ before c (bs ++ rest)) ≡ cond t [] (b ∷ before c bs)
    by_test true shorter further = refl
    by_test false shorter further = ap (λ l. b ∷ l) (further (omega (arith, shorter)))

abbrev first_of : List (List ℕ) → List ℕ
first_of [] = []
first_of (line ∷ rest) = line

order_in_first : (text : List ℕ) → order_in text ≡ digits_in (drop 5 (before 10 text))
order_in_first text = of_lines (lines_in text) ∙ ap (λ line. digits_in (drop 5 line)) (first_line_is text)
  where
    of_lines : (lines : List (List ℕ)) → order_in_lines lines ≡ digits_in (drop 5 (first_of lines))
    of_lines [] = refl
    of_lines (line ∷ rest) = refl

    onto : (b : ℕ) (lines : List (List ℕ)) → first_of (onto_line b lines) ≡ b ∷ first_of lines
    onto b [] = refl
    onto b (line ∷ rest) = refl

    by_test : (t : Bool) (b : ℕ) (lines : List (List ℕ)) (line : List ℕ) → first_of lines ≡ line → first_of (cond t ([] ∷ lines) (onto_line b lines)) ≡ cond t [] (b ∷ line)
    by_test true b lines line h = refl
    by_test false b lines line h = onto b lines ∙ ap (λ l. b ∷ l) h

    first_line_is : (t : List ℕ) → first_of (lines_in t) ≡ before 10 t
    first_line_is [] = refl
    first_line_is (b ∷ bs) = by_test (b == 10) b (lines_in bs) (before 10 bs) (first_line_is bs)

-- a text's order stands in its beginning, where that has a line feed
pub first_line : (held rest : List ℕ) → length (before 10 held) < length held → order_in (held ++ rest) ≡ order_in held
first_line held rest shorter =
    order_in_first (held ++ rest) ∙ ap (λ line. digits_in (drop 5 line)) (before_held 10 held rest shorter) ∙ sym (order_in_first held)

-- and so does the order that it names
pub first_line_named : (held rest : List ℕ) → length (before 10 held) < length held → named_order (held ++ rest) ≡ named_order held
first_line_named held rest shorter = ap order_named (before_held 10 held rest shorter)

pairs_back : (order : List ℕ) → digits_in (flat_map (λ (session : ℕ). 32 ∷ (48 + session) ∷ []) order) ≡ order
pairs_back [] = refl
pairs_back (s ∷ rest) = let e : (48 + s) - 48 ≡ s = omega arith in ap₂ (λ (x : ℕ) (xs : List ℕ). x ∷ xs) e (pairs_back rest)

line_lacks : (order : List ℕ) → Lacks 10 (order_line order)
line_lacks order = (λ e. omega (arith, e), (λ e. omega (arith, e), (λ e. omega (arith, e), (λ e. omega (arith, e), (λ e. omega (arith, e), pairs_lack order)))))
  where
    pairs_lack : (o : List ℕ) → Lacks 10 (flat_map (λ (session : ℕ). 32 ∷ (48 + session) ∷ []) o)
    pairs_lack [] = tt
    pairs_lack (s ∷ rest) = (λ e. omega (arith, e), (λ e. omega (arith, e), pairs_lack rest))

line_named : (order : List ℕ) → order_named (order_line order) ≡ Some order
line_named order =
    ap (λ (o : List ℕ). cond (bytes_eq (order_line o) (order_line order)) (Some o) None) (pairs_back order)
    ∙ cond-true (bytes_eq (order_line order) (order_line order)) _ _ (text_itself (order_line order))

-- the order line of an order, ended by a line feed, names the order, whatever follows
pub read_back : (order rest : List ℕ) → named_order (order_line order ++ 10 ∷ rest) ≡ Some order
read_back order rest = ap order_named (before_read 10 (order_line order) rest (line_lacks order)) ∙ line_named order

-- so a transcript names the order that it was written of
pub transcript_named : {F : Type 0} (order : List ℕ) (answers : ℕ → List (Answer F)) → named_order (transcript order answers) ≡ Some order
transcript_named order answers =
    let rest : List ℕ = text_of (flat_map (λ session. session_lines session 1 (answers session)) sessions) in
    ap named_order (append_assoc (order_line order) (10 ∷ []) rest) ∙ read_back order rest

module _ {X : Type 0} where
  -- a line of more bytes than the longest order line names no order that merges so few commands
  long_none : (entries : List (Entry X)) → AreOfSessions entries → length entries ≤ 65536 → (line : List ℕ) → 131078 ≤ length line → option_and_then (if_merge (lane entries)) (order_named line) ≡ None
  long_none entries h few line long = by_name (bytes_eq (order_line (digits_in (drop 5 line))) line) refl
    where
      by_name : (t : Bool) → bytes_eq (order_line (digits_in (drop 5 line))) line ≡ t
          → option_and_then (if_merge (lane entries)) (cond t (Some (digits_in (drop 5 line))) None) ≡ None
      by_name false e = refl
      by_name true e =
          let ds : List ℕ = digits_in (drop 5 line) in
          let more : 65536 < length ds = omega (arith, long, line_length ds, ap length (same_text (order_line ds) line e)) in
          cond-false (is_merge ds (lane entries)) _ _ (false_from_ne_true _ (λ m. omega (arith, merge_length entries h ds m, few, more)))

  -- Of a text its first 131,078 bytes tell whether it names an order that merges so few commands: a longer first line names none.
  pub cut_same : (entries : List (Entry X)) → AreOfSessions entries → length entries ≤ 65536 → (text : List ℕ) → order_for (take 131078 text) (lane entries) ≡ order_for text (lane entries)
  cut_same entries h few text = ap (λ line. option_and_then (if_merge (lane entries)) (order_named line)) (before_take 10 131078 text) ∙ by_length (cases_lt (length (before 10 text)) 131078)
    where
      by_length : (length (before 10 text) < 131078) ⊎ (131078 ≤ length (before 10 text))
          → option_and_then (if_merge (lane entries)) (order_named (take 131078 (before 10 text))) ≡ option_and_then (if_merge (lane entries)) (order_named (before 10 text))
      by_length (inl short) = ap (λ line. option_and_then (if_merge (lane entries)) (order_named line)) (take_all 131078 (before 10 text) (omega (arith, short)))
      by_length (inr long) = long_none entries h few (take 131078 (before 10 text)) (omega (arith, length-take-le 131078 (before 10 text) long)) ∙ sym (long_none entries h few (before 10 text) long)

-- the order of the eight sessions that a text after the word of an order line names
abbrev pub named_after : List ℕ → Option (List ℕ)
named_after text = option_and_then if_sessions (digits_named (before 10 text))

-- where two tests hold, and the first digit is a session's, that session comes first
named_first : (x y z : Bool) (digit : ℕ) (rest : List ℕ) → x ≡ true → y ≡ true → is_session digit ≡ true
    → option_and_then if_sessions (cond (x && (y && z)) (Some (digit ∷ rest)) None) ≡ option_map (λ (o : List ℕ). digit ∷ o) (option_and_then if_sessions (cond z (Some rest) None))
named_first false y z digit rest e f h = absurd (false≢true e)
named_first true false z digit rest e f h = absurd (false≢true f)
named_first true true false digit rest e f h = refl
named_first true true true digit rest e f h =
    ap (λ s. cond (s && list_all is_session rest) (Some (digit ∷ rest)) None) h ∙ by_rest (list_all is_session rest)
  where
    by_rest : (t : Bool) → cond t (Some (digit ∷ rest)) None ≡ option_map (λ (o : List ℕ). digit ∷ o) (cond t (Some rest) None)
    by_rest true = refl
    by_rest false = refl

-- where one of them does not hold, there is no order
named_none : (x y z : Bool) (digit : ℕ) (rest : List ℕ) → (x ≡ true → y ≡ true → is_session digit ≡ false) → option_and_then if_sessions (cond (x && (y && z)) (Some (digit ∷ rest)) None) ≡ None
named_none false y z digit rest h = refl
named_none true false z digit rest h = refl
named_none true true false digit rest h = refl
named_none true true true digit rest h = ap (λ s. cond (s && list_all is_session rest) (Some (digit ∷ rest)) None) (h refl refl)

has_parts : (b d : ℕ) (rest : List ℕ) → has_next (b ∷ d ∷ rest) ≡ true → (b ≡ 32) × (49 ≤ d) × (d ≤ 56)
has_parts b d rest e =
    let one = and_parts (nat_le 2 (length (b ∷ d ∷ rest))) _ e in
    let two = and_parts (b == 32) _ one.1 in
    let three = and_parts (nat_le 49 d) (nat_le d 56) two.1 in
    (eqb-true b 32 two.0, leb-true 49 d three.0, leb-true d 56 three.1)

has_from : (b d : ℕ) (rest : List ℕ) → b ≡ 32 → 49 ≤ d → d ≤ 56 → has_next (b ∷ d ∷ rest) ≡ true
has_from b d rest blank low high =
    and_from (nat_le 2 (length (b ∷ d ∷ rest))) _ (le-leb 2 _ (omega arith))
    (and_from (b == 32) _ (eq-eqb b 32 blank) (and_from (nat_le 49 d) (nat_le d 56) (le-leb 49 d low) (le-leb d 56 high)))

-- a text that begins with a blank and a session's digit names that session, and then what follows names
pub named_more : (text : List ℕ) (session : ℕ) → next_in text ≡ Some session → named_after text ≡ option_map (λ (o : List ℕ). session ∷ o) (named_after (drop 2 text))
named_more [] session e = absurd (none-some session e)
named_more (b ∷ []) session e = absurd (none-some session e)
named_more (b ∷ d ∷ rest) session e = by_next (has_next (b ∷ d ∷ rest)) refl e
  where
    at_digit : (49 ≤ d) × (d ≤ 56) → named_after (32 ∷ d ∷ rest) ≡ option_map (λ (o : List ℕ). (d - 48) ∷ o) (named_after rest)
    at_digit range =
        let back : 48 + (d - 48) ≡ d = omega (arith, range.0) in
        let no_end : (d == 10) ≡ false = ne_eqb d 10 (λ same. omega (arith, same, range.0)) in
        ap (λ t. option_and_then if_sessions (digits_named (32 ∷ cond t [] (d ∷ before 10 rest)))) no_end
        ∙ named_first true (nat_eq (48 + (d - 48)) d) (bytes_eq (flat_map (λ (session : ℕ). 32 ∷ (48 + session) ∷ []) (digits_in (before 10 rest))) (before 10 rest)) (d - 48) (digits_in (before 10 rest))
        refl (eq-eqb (48 + (d - 48)) d back) (session_from (d - 48) (omega (arith, range.0)) (omega (arith, range.0, range.1)))

    by_next : (t : Bool) → has_next (b ∷ d ∷ rest) ≡ t → cond t (Some (d - 48)) None ≡ Some session
        → named_after (b ∷ d ∷ rest) ≡ option_map (λ (o : List ℕ). session ∷ o) (named_after rest)
    by_next false h e = absurd (none-some session e)
    by_next true h e =
        let parts = has_parts b d rest h in
        ap (λ c. named_after (c ∷ d ∷ rest)) parts.0 ∙ at_digit (parts.1, parts.2) ∙ ap (λ k. option_map (λ (o : List ℕ). k ∷ o) (named_after rest)) (ap (λ o. unwrap_or o 0) e)

-- another text names no session where its line ends there, and else nothing
pub named_end : (text : List ℕ) → next_in text ≡ None → named_after text ≡ cond (length (before 10 text) == 0) (Some []) None
named_end [] e = refl
named_end (b ∷ []) e = by_test (b == 10)
  where
    by_test : (t : Bool) → option_and_then if_sessions (digits_named (cond t [] (b ∷ []))) ≡ cond (length (cond t [] (b ∷ [])) == 0) (Some []) None
    by_test true = refl
    by_test false = refl
named_end (b ∷ d ∷ rest) e = by_end (b == 10)
  where
    no_next : (t : Bool) → has_next (b ∷ d ∷ rest) ≡ t → cond t (Some (d - 48)) None ≡ None → has_next (b ∷ d ∷ rest) ≡ false
    no_next false h e = h
    no_next true h e = absurd (none-some (d - 48) (sym e))

    no_digit : nat_eq 32 b ≡ true → nat_eq (48 + (d - 48)) d ≡ true → is_session (d - 48) ≡ false
    no_digit blank back =
        false_from_ne_true (is_session (d - 48)) (λ h.
        let range = session_is (d - 48) h in
        let same : 48 + (d - 48) ≡ d = eqb-true (48 + (d - 48)) d back in
        false≢true (sym (no_next (has_next (b ∷ d ∷ rest)) refl e) ∙ has_from b d rest (sym (eqb-true 32 b blank)) (omega (arith, range.0, same)) (omega (arith, range.1, same))))

    by_digit : (t : Bool) → option_and_then if_sessions (digits_named (b ∷ cond t [] (d ∷ before 10 rest))) ≡ None
    by_digit true = refl
    by_digit false = named_none (nat_eq 32 b) (nat_eq (48 + (d - 48)) d) (bytes_eq (flat_map (λ (session : ℕ). 32 ∷ (48 + session) ∷ []) (digits_in (before 10 rest))) (before 10 rest)) (d - 48) (digits_in (before 10 rest)) no_digit

    by_end : (t : Bool) → option_and_then if_sessions (digits_named (cond t [] (b ∷ cond (d == 10) [] (d ∷ before 10 rest)))) ≡ cond (length (cond t [] (b ∷ cond (d == 10) [] (d ∷ before 10 rest))) == 0) (Some []) None
    by_end true = refl
    by_end false = by_digit (d == 10) ∙ sym (cond-false (suc (length (cond (d == 10) [] (d ∷ before 10 rest))) == 0) _ _ (ne_eqb _ 0 (λ e. omega (arith, e))))

-- the order that a text names is named by what stands after the word
pub named_word : (rest : List ℕ) → named_order (codes "order" ++ rest) ≡ digits_named (before 10 rest)
named_word rest = refl

-- a text without the word names none
pub named_wordless : (text : List ℕ) → ((rest : List ℕ) → text ≢ codes "order" ++ rest) → named_order text ≡ None
named_wordless text other = by_name (bytes_eq (order_line (digits_in (drop 5 (before 10 text)))) (before 10 text)) refl
  where
    by_name : (t : Bool) → bytes_eq (order_line (digits_in (drop 5 (before 10 text)))) (before 10 text) ≡ t
        → cond t (Some (digits_in (drop 5 (before 10 text)))) None ≡ None
    by_name false e = refl
    by_name true e =
        let pairs : List ℕ = flat_map (λ (session : ℕ). 32 ∷ (48 + session) ∷ []) (digits_in (drop 5 (before 10 text))) in
        let front : before 10 text ≡ codes "order" ++ pairs = sym (same_text _ _ e) in
        absurd (other (pairs ++ drop (length (before 10 text)) text) (before_front text ∙ ap (λ f. f ++ drop (length (before 10 text)) text) front))

-- one session more is read
pub next_read : (text rest old new more : List ℕ) (session : ℕ) → Some session ≡ next_in rest → new ≡ old ++ session ∷ [] → more ≡ drop 2 rest
    → option_map (λ (o : List ℕ). old ++ o) (named_after rest) ≡ named_after text → option_map (λ (o : List ℕ). new ++ o) (named_after more) ≡ named_after text
next_read text rest old new more session next pushed is so_far =
    ap₂ (λ (n m : List ℕ). option_map (λ (o : List ℕ). n ++ o) (named_after m)) pushed is
    ∙ by_rest (named_after (drop 2 rest)) ∙ ap (option_map (λ (o : List ℕ). old ++ o)) (sym (named_more rest session (sym next))) ∙ so_far
  where
    by_rest : (r : Option (List ℕ)) → option_map (λ (o : List ℕ). (old ++ session ∷ []) ++ o) r ≡ option_map (λ (o : List ℕ). old ++ o) (option_map (λ (o : List ℕ). session ∷ o) r)
    by_rest None = refl
    by_rest (Some o) = ap Some (append_assoc old (session ∷ []) o)

-- no session more is read
pub end_read : (text rest order : List ℕ) (ends : Bool) → next_in rest ≡ None → ends ≡ (length (before 10 rest) == 0)
    → option_map (λ (o : List ℕ). order ++ o) (named_after rest) ≡ named_after text → cond ends (Some order) None ≡ named_after text
end_read text rest order ends none is so_far = by_end ends ∙ ap (λ t. option_map (λ (o : List ℕ). order ++ o) (cond t (Some []) None)) is ∙ ap (option_map (λ (o : List ℕ). order ++ o)) (sym (named_end rest none)) ∙ so_far
  where
    by_end : (t : Bool) → cond t (Some order) None ≡ option_map (λ (o : List ℕ). order ++ o) (cond t (Some []) None)
    by_end true = ap Some (sym (append-nil order))
    by_end false = refl

-- the word of an order line is read
pub word_read : (text rest : List ℕ) → pointwise nat_eq (take 5 text) (codes "order") ≡ true → rest ≡ drop 5 text → option_and_then if_sessions (named_order text) ≡ named_after rest
word_read text rest same is =
    let front : take 5 text ≡ codes "order" = same_text (take 5 text) (codes "order") same in
    let whole : text ≡ codes "order" ++ rest = sym (take-append-drop 5 text) ∙ ap₂ (λ (xs ys : List ℕ). xs ++ ys) front (sym is) in
    ap (λ t. option_and_then if_sessions (named_order t)) whole

-- an order that is known to be of the eight sessions
sessions_found : (named : Option (List ℕ)) (order : List ℕ) → Some order ≡ option_and_then if_sessions named → list_all is_session order ≡ true
sessions_found None order e = absurd (none-some order (sym e))
sessions_found (Some o) order e = by_test (list_all is_session o) refl e
  where
    by_test : (t : Bool) → list_all is_session o ≡ t → Some order ≡ cond t (Some o) None → list_all is_session order ≡ true
    by_test true h e = ap (λ x. list_all is_session (unwrap_or x o)) e ∙ h
    by_test false h e = absurd (none-some order (sym e))

module _ {X : Type 0} where
  -- an order is known to be of the eight sessions, or names none that merges
  by_sessions : (lanes : ℕ → List X) (order : Option (List ℕ)) → option_and_then (if_merge lanes) order ≡ option_and_then (if_merge lanes) (option_and_then if_sessions order)
  by_sessions lanes None = refl
  by_sessions lanes (Some o) = by_test (list_all is_session o) refl
    where
      by_test : (t : Bool) → list_all is_session o ≡ t → if_merge lanes o ≡ option_and_then (if_merge lanes) (cond t (Some o) None)
      by_test true e = refl
      by_test false e = ap (λ t. cond (t && has_each o lanes) (Some o) None) e

  -- what is read of a text is the order that it names, where it merges the commands
  pub order_read : (entries : List (Entry X)) (text : List ℕ) (named : Option (List ℕ)) → named ≡ option_and_then if_sessions (named_order text)
      → order_for text (lane entries) ≡ option_and_then (if_merge (lane entries)) named
  order_read entries text named is = by_sessions (lane entries) (named_order text) ∙ ap (option_and_then (if_merge (lane entries))) (sym is)

  order_kept : (entries : List (Entry X)) (text order : List ℕ) (each : Bool) → Some order ≡ option_and_then if_sessions (named_order text) → each ≡ has_each order (lane entries)
      → is_merge order (lane entries) ≡ each
  order_kept entries text order each is has = ap (λ t. t && has_each order (lane entries)) (sessions_found (named_order text) order is) ∙ sym has

  -- the answer on an order that is read, by whether each session's digit comes as often as the session has commands
  pub order_answered : (entries : List (Entry X)) (text order : List ℕ) → Some order ≡ option_and_then if_sessions (named_order text) → (each : Bool) → each ≡ has_each order (lane entries)
      → order_for text (lane entries) ≡ cond each (Some order) None
  order_answered entries text order is each has =
      order_read entries text (Some order) is ∙ ap (λ t. cond t (Some order) None) (order_kept entries text order each is has)

  pub merge_answered : (entries : List (Entry X)) → AreOfSessions entries → (text order : List ℕ) → Some order ≡ option_and_then if_sessions (named_order text) → true ≡ has_each order (lane entries)
      → IsMerge order (lane entries)
  merge_answered entries h text order is has = merge_decided entries h order (order_kept entries text order true is has)

  -- an answer on the first 131,078 bytes of a text is that on the whole
  pub whole_answered : (entries : List (Entry X)) → AreOfSessions entries → length entries ≤ 65536 → (text : List ℕ) (order : Option (List ℕ)) → order_for text (lane entries) ≡ order
      → (whole : List ℕ) → text ≡ take 131078 whole → order_for whole (lane entries) ≡ order
  whole_answered entries h few text order is whole cut = sym (cut_same entries h few whole) ∙ ap (λ t. order_for t (lane entries)) (sym cut) ∙ is

-- the commands of a session, counted in the script
pub commands_of : (script : List ScriptCommand) (session : ℕ) → length (filter (is_of session) script) ≡ length (lane (map command_entry script) session)
commands_of [] session = refl
commands_of (c ∷ rest) session = by_test (c.session == session) (commands_of rest session)
  where
    by_test : (t : Bool) → length (filter (is_of session) rest) ≡ length (lane (map command_entry rest) session)
        → length (cond t (c ∷ filter (is_of session) rest) (filter (is_of session) rest)) ≡ length (cond t (arc_value c.command ∷ lane (map command_entry rest) session) (lane (map command_entry rest) session))
    by_test true h = ap suc h
    by_test false h = h

-- what is shown of a run is told by its order and its marks
pub one_outcome : HasOneOutcome
one_outcome start commands bytes bytes' files files' some some' one other orders marks =
    let shown : run_shown core_rules (start_from start) (lane commands) bytes ≡ run_shown core_rules (start_from start) (lane commands) bytes' =
    ap₂ (λ (order : List ℕ) (m : ℕ → List Bool). run_of core_rules (start_from start) (merged_script core_rules (lane commands) order m)) orders (fun_ext marks) in
    (one.text ∙ ap transcript_of shown ∙ sym other.text, one.files_put ∙ ap files_of shown ∙ sym other.files_put, one.refused ∙ ap any_refused shown ∙ sym other.refused)
