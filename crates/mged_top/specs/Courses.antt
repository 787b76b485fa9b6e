-- What a call comes to by its words, the shelf's files and the script, where no call on the outside fails and there is
-- memory. The words are looked at first, then the load file, then the script, then the order file; the first that is
-- refused ends the call. How many workers the words ask for is no part of it. A demo has a model and a script of its own.
-- A load file is looked for among `files`, and an order file, which is read after it, among `later`: these are the same,
-- where the shelf tells its files.
use Rattle.std.specs.Prelude.{ℕ, Bool, nat_le, List, Option, None, Some, is_some, Result, Ok, Err, length, if◌then◌else◌}
use Rattle.std.specs.Option.{option_and_then}
use Rattle.name_core.specs.declared.name.Name.{Name}
use Rattle.outside_core.specs.Files.{bytes_in}
use Rattle.outside_core.specs.declared.traits.File.{File}
use Rattle.transcript.specs.Merge.{Entry, lane}
use Rattle.command_set.specs.declared.command.Command.{Command}
use Rattle.directory.specs.Listing.{Listing}
use Rattle.option_words.specs.Grammar.{asked_of}
use Rattle.option_words.specs.declared.options.Model.{Model}
use Rattle.option_words.specs.declared.options.Model.TheVariants.{Empty, OfFile, OfDemo}
use Rattle.option_words.specs.declared.options.Options.{Options}
use Rattle.asc_form.specs.Reading.{directory_of}
use Rattle.asc_form.specs.declared.fault.AscFault.{AscFault}
use Rattle.asc_form.specs.declared.fault.AscFault.TheVariants as asc
use Rattle.mged_words.specs.Scripts.{script_of}
use Rattle.mged_words.specs.declared.script.ScriptFlaw.{ScriptFlaw}
use Rattle.scene_make.specs.Demo.{demo, demo_script}
use Rattle.session_run.specs.Replies.{no_objects}
use Rattle.script_run.specs.Orders.{order_for}
use Rattle.mged_top.specs.declared.status.LoadFault.{LoadFault}
use Rattle.mged_top.specs.declared.status.LoadFault.TheVariants.{NoFile, Size, At}
use Rattle.mged_top.specs.declared.status.ReplayFault.{ReplayFault}
use Rattle.mged_top.specs.declared.status.ReplayFault.TheVariants as replay
use Rattle.mged_top.specs.declared.status.Status.{Status}
use Rattle.mged_top.specs.declared.status.Status.TheVariants.{Usage, LoadRefused, ScriptRefused, ReplayRefused}

-- the call is refused with a status, or the commands of the script are run from a directory, in an order that is asked for
-- or in any
pub data Course : Type 0 where
  Stops : Status → Course
  Runs : Listing → List (Entry Command) → Option (List ℕ) → Course

-- the most bytes of a load file
abbrev pub most_loaded : ℕ
most_loaded = 16777216

-- the directory of a model's text; want of memory is no reading of a text, and does not come here
abbrev pub model_of : Result Listing AscFault → Result Listing LoadFault
model_of (Ok d) = Ok d
model_of (Err (asc.At line kind)) = Err (At line kind)
model_of (Err AscFault.Memory) = Err Size

-- the directory of the text of a file
abbrev pub model_in : List ℕ → Result Listing LoadFault
model_in text = if nat_le (length text) most_loaded then model_of (directory_of text) else Err Size

-- the directory of the file of that name
abbrev pub loaded_from : Name → Option (List ℕ) → Result Listing LoadFault
loaded_from name None = Err (NoFile name)
loaded_from name (Some text) = model_in text

-- the directory at the start: the empty one where no model is asked for, that of a file, or that of a number
abbrev pub loaded : Model → List File → Result Listing LoadFault
loaded Empty files = Ok no_objects
loaded (OfFile name) files = loaded_from name (bytes_in files name)
loaded (OfDemo number) files = Ok (demo number)

-- the script that a model comes with
abbrev pub own_script : Model → Option (List ℕ)
own_script Empty = None
own_script (OfFile name) = None
own_script (OfDemo number) = Some demo_script

-- the script that is run: the model's own, or else what there is to be read
abbrev pub script_run : Option (List ℕ) → List ℕ → List ℕ
script_run None script = script
script_run (Some own) script = own

abbrev pub if_merges : Option (List ℕ) → Result (Option (List ℕ)) ReplayFault
if_merges None = Err replay.Order
if_merges (Some order) = Ok (Some order)

-- the order that the file of that name gives the commands
abbrev pub ordered_from : Name → Option (List ℕ) → List (Entry Command) → Result (Option (List ℕ)) ReplayFault
ordered_from name None commands = Err (replay.NoFile name)
ordered_from name (Some text) commands = if_merges (order_for text (lane commands))

-- the order that is asked for by the name of a file, or none where no file is named
abbrev pub ordered : Option Name → List File → List (Entry Command) → Result (Option (List ℕ)) ReplayFault
ordered None later commands = Ok None
ordered (Some name) later commands = ordered_from name (bytes_in later name) commands

abbrev pub course_in : Listing → List (Entry Command) → Result (Option (List ℕ)) ReplayFault → Course
course_in start commands (Err fault) = Stops (ReplayRefused fault)
course_in start commands (Ok order) = Runs start commands order

abbrev pub course_from : Option Name → List File → Listing → Result (List (Entry Command)) ScriptFlaw → Course
course_from asked later start (Err flaw) = Stops (ScriptRefused flaw)
course_from asked later start (Ok commands) = course_in start commands (ordered asked later commands)

abbrev pub course_with : Option Name → List File → Result Listing LoadFault → List ℕ → Course
course_with asked later (Err fault) script = Stops (LoadRefused fault)
course_with asked later (Ok start) script = course_from asked later start (script_of script)

abbrev pub course_asked : Option Options → List File → List File → List ℕ → Course
course_asked None files later script = Stops Usage
course_asked (Some options) files later script = course_with options.replay later (loaded options.model files) (script_run (own_script options.model) script)

abbrev pub course_of : List (List ℕ) → List File → List File → List ℕ → Course
course_of words files later script = course_asked (asked_of words) files later script

-- the words ask for a model that comes with a script, so that none is read
abbrev pub has_own_script : List (List ℕ) → Bool
has_own_script words = is_some (option_and_then (λ options. own_script options.model) (asked_of words))

-- the words ask for an order
abbrev pub has_replay : List (List ℕ) → Bool
has_replay words = is_some (option_and_then (λ options. options.replay) (asked_of words))
