-- The transcript of a run: the order, and then each session's answers.
use Rattle.std.specs.Prelude.{ℕ, ◌+◌, List, [], ◌∷◌, ◌++◌, flat_map, length, codes, decimal}
use Rattle.transcript.specs.Lines.{text_of}
use Rattle.transcript.specs.Merge.{Entry, order_of, lane}
use Rattle.transcript.specs.Run.{Answer, Reply, Accepted, Refused}

-- a header line is `K.N ok vV L` or `K.N refused vV REFUSAL`
abbrev pub header_start : ℕ → ℕ → List ℕ
header_start session number = (48 + session) ∷ 46 ∷ decimal number

abbrev pub outcome : {F : Type 0} → Reply F → List ℕ
outcome (Accepted lines file) = codes "ok"
outcome (Refused text) = codes "refused"

abbrev pub header_end : {F : Type 0} → Reply F → List ℕ
header_end (Accepted lines file) = decimal (length lines)
header_end (Refused text) = text

abbrev pub header : {F : Type 0} → ℕ → ℕ → Answer F → List ℕ
header session number a = header_start session number ++ 32 ∷ (outcome a.reply ++ 32 ∷ (118 ∷ decimal a.version ++ 32 ∷ header_end a.reply))

abbrev pub body_of : {F : Type 0} → Reply F → List (List ℕ)
body_of (Accepted lines file) = lines
body_of (Refused text) = []

-- an answer: its header line, which counts the body lines that follow
abbrev pub answer_lines : {F : Type 0} → ℕ → ℕ → Answer F → List (List ℕ)
answer_lines session number a = header session number a ∷ body_of a.reply

-- the answers of a session, from its command of that number on
abbrev pub session_lines : {F : Type 0} → ℕ → ℕ → List (Answer F) → List (List ℕ)
session_lines session number [] = []
session_lines session number (a ∷ rest) = answer_lines session number a ++ session_lines session (number + 1) rest

-- `order`, and each command's session in the order of the history
abbrev pub order_line : List ℕ → List ℕ
order_line order = codes "order" ++ flat_map (λ session. 32 ∷ (48 + session) ∷ []) order

abbrev pub sessions : List ℕ
sessions = 1 ∷ 2 ∷ 3 ∷ 4 ∷ 5 ∷ 6 ∷ 7 ∷ 8 ∷ []

abbrev pub transcript_lines : {F : Type 0} → List ℕ → (ℕ → List (Answer F)) → List (List ℕ)
transcript_lines order answers = order_line order ∷ flat_map (λ session. session_lines session 1 (answers session)) sessions

-- the text of an order and of each session's answers
abbrev pub transcript : {F : Type 0} → List ℕ → (ℕ → List (Answer F)) → List ℕ
transcript order answers = text_of (transcript_lines order answers)

-- the text of a run
abbrev pub transcript_of : {F : Type 0} → List (Entry (Answer F)) → List ℕ
transcript_of run = transcript (order_of run) (lane run)
