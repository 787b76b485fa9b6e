-- The order that a text names, and whether it merges the lists of the sessions.
use Rattle.std.specs.Prelude.{◌≡◌, ◌<◌, ℕ, ◌++◌, ◌==◌, ◌&&◌, All, Bool, cond, List, Option, Some, None, option_and_then, length, filter, drop, replicate, bytes_eq, nat_le}
use Rattle.std.specs.List.{list_all}
use Rattle.transcript.specs.Merge.{Entry, IsMerge, lane}
use Rattle.transcript.specs.Reading.{before, digits_in, marks_in, order_in}
use Rattle.transcript.specs.Outcome.{IsOutcome}
use Rattle.transcript.specs.Run.{Answer}
use Rattle.transcript.specs.Transcript.{order_line, sessions, transcript}
use Rattle.outside_core.specs.declared.traits.File.{File}
use Rattle.command_set.specs.declared.command.Command.{Command}
use Rattle.directory.specs.Listing.{Listing}
use Rattle.session_run.specs.Replies.{core_rules, start_from}

-- the order that a line names, where the line is the order line of it, to the letter
abbrev pub order_named : List ℕ → Option (List ℕ)
order_named line = cond (bytes_eq (order_line (digits_in (drop 5 line))) line) (Some (digits_in (drop 5 line))) None

-- the order that a text names, by what stands before its first line feed
abbrev pub named_order : List ℕ → Option (List ℕ)
named_order text = order_named (before 10 text)

-- the digit is that of one of the eight sessions
abbrev pub is_session : ℕ → Bool
is_session digit = nat_le 1 digit && nat_le digit 8

-- how often a session's digit comes
abbrev pub times : List ℕ → ℕ → ℕ
times order session = length (filter (λ digit. digit == session) order)

-- each session's digit comes as often as the session has items
abbrev pub has_each : {X : Type 0} → List ℕ → (ℕ → List X) → Bool
has_each order lanes = list_all (λ session. times order session == length (lanes session)) sessions

-- each digit is that of one of the eight sessions, and comes as often as its session has items
abbrev pub is_merge : {X : Type 0} → List ℕ → (ℕ → List X) → Bool
is_merge order lanes = list_all is_session order && has_each order lanes

-- the order, where it merges the lists of the sessions
abbrev pub if_merge : {X : Type 0} → (ℕ → List X) → List ℕ → Option (List ℕ)
if_merge lanes order = cond (is_merge order lanes) (Some order) None

-- the order that a text names, where it merges the lists of the sessions
abbrev pub order_for : {X : Type 0} → List ℕ → (ℕ → List X) → Option (List ℕ)
order_for text lanes = option_and_then (if_merge lanes) (named_order text)

-- the most bytes that are read of an order file
abbrev pub most_ordered : ℕ
most_ordered = 131078

-- a transcript names the order that it was written of
abbrev pub NamesItself : Type 0
NamesItself = (order : List ℕ) (answers : ℕ → List (Answer File)) → named_order (transcript order answers) ≡ Some order

-- where a beginning of a text holds its first line, it has the order of the text
abbrev pub FirstLineTells : Type 0
FirstLineTells = (held rest : List ℕ) → length (before 10 held) < length held → order_in (held ++ rest) ≡ order_in held

-- runs of one script from one directory, with one order and the same commands answered for want of memory, are the same
abbrev pub HasOneOutcome : Type 0
HasOneOutcome =
    (start : Listing) (commands : List (Entry Command)) (bytes bytes' : List ℕ) (files files' : List File) (some some' : Bool)
    → IsOutcome core_rules (start_from start) (lane commands) bytes files some → IsOutcome core_rules (start_from start) (lane commands) bytes' files' some'
    → order_in bytes ≡ order_in bytes' → ((session : ℕ) → marks_in bytes session ≡ marks_in bytes' session)
    → (bytes ≡ bytes') × (files ≡ files') × (some ≡ some')

-- commands of one session alone have one order
abbrev pub HasOneOrder : Type 0
HasOneOrder = (k : ℕ) (commands : List (Entry Command)) (order : List ℕ) → All (λ (e : Entry Command). e.session ≡ k) commands → IsMerge order (lane commands) → order ≡ replicate (length commands) k
