-- What a call read, and what its run wrote.
use Rattle.std.specs.Prelude.{◌≡◌, ℕ, Bool, true, false, List, Option, None, Some, IfSome}
use Rattle.std.specs.Io.KnownBytes.{Appends, Consumes, IsAtEnd, Keeps}
use Rattle.outside_core.specs.declared.traits.File.{File}
use Rattle.transcript.specs.Merge.{Entry, lane}
use Rattle.transcript.specs.Outcome.{IsOutcome}
use Rattle.transcript.specs.Reading.{order_in}
use Rattle.command_set.specs.declared.command.Command.{Command}
use Rattle.directory.specs.Listing.{Listing}
use Rattle.session_run.specs.Replies.{core_rules, start_from}
use Rattle.mged_top.specs.Courses.{Runs, course_of, has_own_script}
use Rattle.mged_top.specs.Outside.{Outside, IsQuiet, HasGrown}

-- the files are those of the shelf, first and later, and the script is what the source had left, where they are told
pub record AreTold (before : Outside) (files later : List File) (script : List ℕ) : Type 0 where
  pub files_told : IfSome before.files (λ told. files ≡ told)
  pub later_told : IfSome before.files (λ told. later ≡ told)
  pub script_told : IfSome before.left (λ told. script ≡ told)

-- the source gave this script, to its end; where the words ask for a model that comes with a script, it is as it was
abbrev pub IsSourceRead : Bool → Option (List ℕ) → Option (List ℕ) → List ℕ → Type 0
IsSourceRead true left left' script = Keeps left left'
IsSourceRead false left left' script = Consumes left left' script × IsAtEnd left'

-- The words, the files and the script come to this directory at the start, to these commands, and to this order where the
-- words ask for one.
pub record AreInputs (words : List (List ℕ)) (before after : Outside) (start : Listing) (commands : List (Entry Command)) (order : Option (List ℕ)) : Type 0 where
  pub files : List File
  pub later : List File
  pub script : List ℕ
  pub told : AreTold before files later script
  pub course : course_of words files later script ≡ Runs start commands order
  pub source : IsSourceRead (has_own_script words) before.left after.left script

-- the first line prints the order that is asked for
abbrev pub IsInOrder : Option (List ℕ) → List ℕ → Type 0
IsInOrder None bytes = Unit {0}
IsInOrder (Some order) bytes = order_in bytes ≡ order

-- The bytes and files are those of the plain evaluator on the inputs, merged by the order that the first line prints.
pub record Ran (words : List (List ℕ)) (before after : Outside) (bytes : List ℕ) (files : List File) (some_refused : Bool) : Type 0 where
  pub start : Listing
  pub commands : List (Entry Command)
  pub order : Option (List ℕ)
  pub inputs : AreInputs words before after start commands order
  pub outcome : IsOutcome core_rules (start_from start) (lane commands) bytes files some_refused
  pub in_order : IsInOrder order bytes

-- the run is written whole: the sink has grown by its bytes, and the shelf by its files
pub record IsWritten (words : List (List ℕ)) (before after : Outside) (some_refused : Bool) : Type 0 where
  pub bytes : List ℕ
  pub files : List File
  pub ran : Ran words before after bytes files some_refused
  pub written : Appends before.held after.held bytes
  pub grown : HasGrown before.files after.files before.puts after.puts files
  pub quiet : IsQuiet before after
