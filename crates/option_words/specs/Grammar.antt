-- The words after the program's name: options with a value each, in any order, each at most once. A file and a demo
-- exclude each other; the order of a run and the number of workers go with either of them, with one another and alone.
use Rattle.std.specs.Prelude.{ℕ, Bool, true, false, not, ◌&&◌, ◌==◌, ◌+◌, nat_le, List, [], ◌∷◌, ◌++◌, length, take, drop, Option, None, Some, is_ok, codes, bytes_eq, slice_index_or, if◌then◌else◌}
use Rattle.std.specs.List.{list_any}
use Rattle.std.specs.Option.{option_and_then, option_map}
use Rattle.name_core.specs.NameText.{read_name}
use Rattle.option_words.specs.Numbers.{number_of}
use Rattle.option_words.specs.declared.options.Key.{Key}
use Rattle.option_words.specs.declared.options.Key.TheVariants.{Load, Demo, Replay, Workers}
use Rattle.option_words.specs.declared.options.Model.{Model}
use Rattle.option_words.specs.declared.options.Model.TheVariants.{Empty, OfFile, OfDemo}
use Rattle.option_words.specs.declared.options.Options.{Options}

-- an option and the text of its value
pub record Given : Type 0 where
  pub key : Key
  pub value : List ℕ

abbrev pub given : Key → List ℕ → Given
given key value = record { key = key; value = value }

abbrev pub begins_with : List ℕ → List ℕ → Bool
begins_with start word = bytes_eq (take (length start) word) start

abbrev pub name_of : Key → List ℕ
name_of Load = codes "--load"
name_of Demo = codes "--demo"
name_of Replay = codes "--replay"
name_of Workers = codes "--workers"

-- whether a word is this option: its name alone, so that the next word is its value, or its name, `=` and its value
abbrev pub as_option : Key → List ℕ → Option (Key × Option (List ℕ))
as_option key word =
    if bytes_eq word (name_of key) then Some (key, None)
    else (if begins_with (name_of key ++ codes "=") word then Some (key, Some (drop (length (name_of key) + 1) word)) else None)

-- the first of two options that a word is
abbrev pub either_of : Option (Key × Option (List ℕ)) → Option (Key × Option (List ℕ)) → Option (Key × Option (List ℕ))
either_of None other = other
either_of (Some found) other = Some found

-- which option a word is
abbrev pub option_of : List ℕ → Option (Key × Option (List ℕ))
option_of word = either_of (as_option Load word) (either_of (as_option Demo word) (either_of (as_option Replay word) (as_option Workers word)))

-- a value in a word of its own does not begin with `-`
abbrev pub begins_with_dash : List ℕ → Bool
begins_with_dash word = slice_index_or word 0 32 == 45

abbrev pub with_given : Given → Option (List Given) → Option (List Given)
with_given g rest = option_map (λ others. g ∷ others) rest

abbrev pub begun : (Option Key → Option (List Given)) → Option (Key × Option (List ℕ)) → Option (List Given)
begun others None = None
begun others (Some (key, None)) = others (Some key)
begun others (Some (key, Some value)) = with_given (given key value) (others None)

abbrev pub next_given : (Option Key → Option (List Given)) → List ℕ → Option Key → Option (List Given)
next_given others word None = begun others (option_of word)
next_given others word (Some key) = if begins_with_dash word then None else with_given (given key word) (others None)

-- the options of words, where an option that was named alone waits for its value; none where a word is no option
abbrev pub given_from : List (List ℕ) → Option Key → Option (List Given)
given_from [] None = Some []
given_from [] (Some key) = None
given_from (word ∷ rest) waiting = next_given (given_from rest) word waiting

abbrev pub is_same : Key → Key → Bool
is_same Load Load = true
is_same Demo Demo = true
is_same Replay Replay = true
is_same Workers Workers = true
is_same _ _ = false

-- whether an option is among those that are given
abbrev pub is_among : Key → List Given → Bool
is_among key options = list_any (λ (other : Given). is_same key other.key) options

abbrev pub are_distinct : List Given → Bool
are_distinct [] = true
are_distinct (g ∷ rest) = not (is_among g.key rest) && are_distinct rest

-- the value of an option, where it is given
abbrev pub value_of : Key → List Given → Option (List ℕ)
value_of key [] = None
value_of key (g ∷ rest) = if is_same key g.key then Some g.value else value_of key rest

-- a text as a name, none where it is not one
abbrev pub name_asked : List ℕ → Option (List ℕ)
name_asked name = if is_ok (read_name name) then Some name else None

-- the model of the file of this name
abbrev pub file_asked : List ℕ → Option Model
file_asked name = option_map OfFile (name_asked name)

-- the model that this number makes
abbrev pub demo_asked : List ℕ → Option Model
demo_asked number = option_map OfDemo (number_of number)

-- the model by the values of `--load` and `--demo`, of which at most one is given
abbrev pub asked_with : Option (List ℕ) → Option (List ℕ) → Option Model
asked_with None None = Some Empty
asked_with (Some name) None = file_asked name
asked_with None (Some number) = demo_asked number
asked_with (Some name) (Some number) = None

-- the file that names the order of the run by the value of `--replay`, where one is given; none where this is no name
abbrev pub replay_asked : Option (List ℕ) → Option (Option (List ℕ))
replay_asked None = Some None
replay_asked (Some name) = option_map (λ n. Some n) (name_asked name)

-- how many workers there are where the words do not say
abbrev pub usual_workers : ℕ
usual_workers = 4

-- how many workers there may be: 1 to 16
abbrev pub allowed_workers : ℕ → Option ℕ
allowed_workers count = if nat_le 1 count && nat_le count 16 then Some count else None

-- how many workers by the value of `--workers`, where it is given; none where this is no number from 1 to 16
abbrev pub workers_asked : Option (List ℕ) → Option ℕ
workers_asked None = Some usual_workers
workers_asked (Some count) = option_and_then allowed_workers (number_of count)

-- a model, the file that names the order of the run and how many workers, none where one of them cannot be asked for
abbrev pub options_for : Option Model → Option (Option (List ℕ)) → Option ℕ → Option Options
options_for None replay workers = None
options_for (Some model) None workers = None
options_for (Some model) (Some replay) None = None
options_for (Some model) (Some replay) (Some workers) = Some (record { model = model; replay = replay; workers = workers })

-- what the given options ask for
abbrev pub asked_by : List Given → Option Options
asked_by options = options_for (asked_with (value_of Load options) (value_of Demo options)) (replay_asked (value_of Replay options)) (workers_asked (value_of Workers options))

abbrev pub if_distinct : Option (List Given) → Option Options
if_distinct None = None
if_distinct (Some options) = if are_distinct options then asked_by options else None

-- what words ask for, none where they are not in this grammar
abbrev pub asked_of : List (List ℕ) → Option Options
asked_of words = if_distinct (given_from words None)
