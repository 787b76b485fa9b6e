-- The definitions at worked examples, by computation.
use Rattle.std.specs.Prelude.{◌≡◌, ℕ, ◌+◌, ◌==◌, true, false, cond, [], ◌∷◌, codes, refl, None, Some, List, Bool}
use Rattle.std.specs.Fmt.{digits}
use Rattle.transcript.specs.Answers.{accepted, refused}
use Rattle.transcript.specs.Lines.{lines_in}
use Rattle.transcript.specs.Merge.{entry, lane, merged}
use Rattle.transcript.specs.Reading.{order_in, marks_in}
use Rattle.transcript.specs.Run.{Rules, Accepted, Refused, State, run_of, merged_script, any_refused}
use Rattle.transcript.specs.Transcript.{transcript, transcript_of}

-- a last piece that is not empty is a line too
pub lines_of_text : lines_in (codes "ab\n\nc") ≡ codes "ab" ∷ [] ∷ codes "c" ∷ []
lines_of_text = refl

pub lines_of_ended_text : lines_in (codes "ab\n") ≡ codes "ab" ∷ []
lines_of_ended_text = refl

pub lines_of_nothing : lines_in [] ≡ []
lines_of_nothing = refl

pub empty_transcript : transcript {F = Unit {0}} [] (λ session. []) ≡ codes "order\n"
empty_transcript = refl

-- one session
pub transcript_of_three : transcript (1 ∷ 1 ∷ 1 ∷ [])
    (λ session. cond (session == 1) (accepted 1 [] ∷ accepted 1 (codes "1 /h 0 5" ∷ []) ∷ refused 1 (codes "missing g") ∷ []) [])
    ≡ codes "order 1 1 1\n1.1 ok v1 0\n1.2 ok v1 1\n1 /h 0 5\n1.3 refused v1 missing g\n"
unfolding digits
transcript_of_three = refl

-- sessions come by number, and the order keeps the history
pub transcript_of_two_sessions : transcript_of (entry 2 (accepted 1 []) ∷ entry 1 (refused 1 (codes "syntax")) ∷ entry 2 (accepted 2 []) ∷ [])
    ≡ codes "order 2 1 2\n1.1 refused v1 syntax\n2.1 ok v1 0\n2.2 ok v2 0\n"
unfolding digits
transcript_of_two_sessions = refl

pub order_read_back : order_in (codes "order 1 2 1\n1.1 ok v1 0\n") ≡ 1 ∷ 2 ∷ 1 ∷ []
order_read_back = refl

pub no_order_read_back : order_in (codes "order\n") ≡ []
no_order_read_back = refl

-- the second line that reads as a header is a body line of the first command
pub marks_read_back : marks_in (codes "order 1 2 1\n1.1 ok v1 1\n1.2 refused v1 memory\n1.2 refused v1 memory\n2.1 refused v1 syntax\n") 1 ≡ false ∷ true ∷ []
marks_read_back = refl

pub marks_of_another_session : marks_in (codes "order 1 2 1\n1.1 ok v1 1\n1.2 refused v1 memory\n1.2 refused v1 memory\n2.1 refused v1 syntax\n") 2 ≡ false ∷ []
marks_of_another_session = refl

-- session 1 has the items 10 and 11, session 2 has 20
abbrev pub items : ℕ → List ℕ
items session = cond (session == 1) (10 ∷ 11 ∷ []) (cond (session == 2) (20 ∷ []) [])

pub merged_by_order : merged (1 ∷ 2 ∷ 1 ∷ []) items ≡ entry 1 10 ∷ entry 2 20 ∷ entry 1 11 ∷ []
merged_by_order = refl

pub merged_by_another_order : merged (2 ∷ 1 ∷ 1 ∷ []) items ≡ entry 2 20 ∷ entry 1 10 ∷ entry 1 11 ∷ []
merged_by_another_order = refl

pub lane_of_merged : lane {X = ℕ} (entry 1 10 ∷ entry 2 20 ∷ entry 1 11 ∷ []) 1 ≡ 10 ∷ 11 ∷ []
lane_of_merged = refl

-- A directory that is a number. The command 0 is refused; each other one is added to the number, and its body is
-- one line of one byte, the number before.
abbrev pub adding : Rules ℕ (Unit {0}) ℕ (Unit {0})
adding = record {
  edited = λ sum command. cond (command == 0) None (Some (sum + command));
  reply = λ sum own command. cond (command == 0) (Refused (codes "zero")) (Accepted ((sum ∷ []) ∷ []) None);
  kept = λ sum own command. tt;
  forgotten = λ own command. tt;
}

abbrev pub start : State ℕ (Unit {0})
start = record { book = record { directory = 0; version = 0 }; own = λ session. tt }

abbrev pub script : ℕ → List ℕ
script session = cond (session == 1) (3 ∷ 0 ∷ []) (cond (session == 2) (4 ∷ []) [])

abbrev pub no_marks : ℕ → List Bool
no_marks session = cond (session == 1) (false ∷ false ∷ []) (cond (session == 2) (false ∷ []) [])

-- the second session sees what the first has added, and a refused command leaves the version
pub run_of_a_merge : run_of adding start (merged_script adding script (1 ∷ 2 ∷ 1 ∷ []) no_marks)
    ≡ entry 1 (accepted 1 ((0 ∷ []) ∷ [])) ∷ entry 2 (accepted 2 ((3 ∷ []) ∷ [])) ∷ entry 1 (refused 2 (codes "zero")) ∷ []
run_of_a_merge = refl

pub run_of_another_merge : run_of adding start (merged_script adding script (2 ∷ 1 ∷ 1 ∷ []) no_marks)
    ≡ entry 2 (accepted 1 ((0 ∷ []) ∷ [])) ∷ entry 1 (accepted 2 ((4 ∷ []) ∷ [])) ∷ entry 1 (refused 2 (codes "zero")) ∷ []
run_of_another_merge = refl

-- a command that is marked changes nothing, and is answered `memory`
abbrev pub first_marked : ℕ → List Bool
first_marked session = cond (session == 1) (true ∷ false ∷ []) (cond (session == 2) (false ∷ []) [])

pub run_with_a_mark : run_of adding start (merged_script adding script (1 ∷ 2 ∷ 1 ∷ []) first_marked)
    ≡ entry 1 (refused 0 (codes "memory")) ∷ entry 2 (accepted 1 ((0 ∷ []) ∷ [])) ∷ entry 1 (refused 1 (codes "zero")) ∷ []
run_with_a_mark = refl

pub refused_among : any_refused (run_of adding start (merged_script adding script (1 ∷ 2 ∷ 1 ∷ []) no_marks)) ≡ true
refused_among = refl
