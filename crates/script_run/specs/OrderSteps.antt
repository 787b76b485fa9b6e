-- How an order line is read, step by step, in the words of the code.
use Rattle.std.specs.Prelude.{ℕ, ◌+◌, ◌-◌, ◌==◌, ◌&&◌, Bool, cond, List, [], ◌∷◌, Option, Some, None, length, flat_map, bytes_eq, nat_le, slice_index}
use Rattle.std.specs.List.{list_all}
use Rattle.transcript.specs.Reading.{digits_in}
use Rattle.mged_words.specs.declared.command.ScriptCommand.{ScriptCommand}
use Rattle.script_run.specs.Orders.{is_session}

-- the order that blanks and digits name, as they stand after the word of an order line
abbrev pub digits_named : List ℕ → Option (List ℕ)
digits_named rest = cond (bytes_eq (flat_map (λ session. 32 ∷ (48 + session) ∷ []) (digits_in rest)) rest) (Some (digits_in rest)) None

-- the order, where each digit is that of one of the eight sessions
abbrev pub if_sessions : List ℕ → Option (List ℕ)
if_sessions order = cond (list_all is_session order) (Some order) None

-- a text begins with a blank and the digit of one of the eight sessions
abbrev pub has_next : List ℕ → Bool
has_next rest = nat_le 2 (length rest) && (slice_index rest 0 == 32 && (nat_le 49 (slice_index rest 1) && nat_le (slice_index rest 1) 56))

-- the session of which a text begins with the digit, after a blank
abbrev pub next_in : List ℕ → Option ℕ
next_in rest = cond (has_next rest) (Some (slice_index rest 1 - 48)) None

-- the command is one of this session
abbrev pub is_of : ℕ → ScriptCommand → Bool
is_of session c = c.session == session
