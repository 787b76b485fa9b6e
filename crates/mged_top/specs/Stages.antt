-- What each stage of a call gives to the next one, in the words of the code.
use Rattle.std.specs.Prelude.{◌≡◌, ◌<◌, ◌⊎◌, ℕ, Bool, true, false, zero, suc, List, [], ◌++◌, Option, IfSome, Some, None, Result, Ok, Err, drop, get_or, length, map, is_some, take}
use Rattle.std.specs.Io.KnownBytes.{Appends, Consumes, IsAtEnd, Keeps}
use Rattle.option_words.specs.declared.options.Model.{Model}
use Rattle.outside_core.specs.Faults.{Rose}
use Rattle.outside_core.specs.Told.{Stays}
use Rattle.outside_core.specs.Transfers.{IsCutShort}
use Rattle.outside_core.specs.declared.traits.File.{File}
use Rattle.outside_core.specs.declared.traits.ShelfFault.{ShelfFault}
use Rattle.name_core.specs.declared.name.Name.{Name}
use Rattle.transcript.specs.Merge.{Entry, lane, merged}
use Rattle.transcript.specs.Run.{files_of}
use Rattle.command_set.specs.declared.command.Command.{Command}
use Rattle.directory.specs.Listing.{Listing}
use Rattle.mged_words.specs.Scripts.{script_of}
use Rattle.mged_words.specs.Entries.{command_entry}
use Rattle.mged_words.specs.declared.command.ScriptCommand.{ScriptCommand}
use Rattle.session_run.specs.Answers.{core_answer}
use Rattle.session_run.specs.declared.answer.Answer.{Answer}
use Rattle.script_run.specs.Orders.{order_for}
pub use Rattle.script_run.specs.Runs.{IsRun, files_among}
use Rattle.mged_top.specs.Courses.{loaded, model_in, ordered, own_script, script_run}
use Rattle.mged_top.specs.Outcomes.{IsSourceRead}
use Rattle.mged_top.specs.Outside.{Outside, HasGrown, AreCutShort}
use Rattle.mged_top.specs.Calls.{is_of_file}
use Rattle.mged_top.specs.declared.load.LoadStop.{LoadStop}
use Rattle.mged_top.specs.declared.load.LoadStop.TheVariants as load
use Rattle.mged_top.specs.declared.load.Start.{Start}
use Rattle.mged_top.specs.declared.order.OrderStop.{OrderStop}
use Rattle.mged_top.specs.declared.order.OrderStop.TheVariants as order
use Rattle.mged_top.specs.declared.read.ScriptStop.{ScriptStop}
use Rattle.mged_top.specs.declared.read.ScriptStop.TheVariants as script
use Rattle.mged_top.specs.declared.status.LoadFault.{LoadFault}
use Rattle.mged_top.specs.declared.status.ReplayFault.{ReplayFault}
use Rattle.mged_top.specs.declared.status.ReplayFault.TheVariants as replay
use Rattle.mged_top.specs.declared.status.Status.{Status}
use Rattle.mged_top.specs.declared.status.Status.TheVariants.{Done, SomeRefused, Usage, LoadRefused, ScriptRefused, ReadFault, WriteFault, Memory, ReplayRefused}
use Rattle.mged_words.specs.declared.script.ScriptFlaw.{ScriptFlaw}

-- the statuses of stages that ended the call
abbrev pub load_status : LoadStop → Status
load_status (load.Refused fault) = LoadRefused fault
load_status load.Failed = ReadFault
load_status LoadStop.Memory = Memory

abbrev pub script_status : ScriptStop → Status
script_status (script.Refused flaw) = ScriptRefused flaw
script_status script.Failed = ReadFault
script_status ScriptStop.Memory = Memory

abbrev pub order_status : OrderStop → Status
order_status (order.Refused fault) = ReplayRefused fault
order_status order.Failed = ReadFault
order_status OrderStop.Memory = Memory

abbrev pub run_status : Bool → Status
run_status false = Done
run_status true = SomeRefused

-- what a text is as a load file
abbrev pub IsModel : Result Listing LoadStop → List ℕ → Type 0
IsModel (Ok d) text = model_in text ≡ Ok d
IsModel (Err (load.Refused fault)) text = model_in text ≡ Err fault
IsModel (Err load.Failed) text = ⊥
IsModel (Err LoadStop.Memory) text = Unit {0}

-- files that are those of the shelf, where it tells them, from which the start comes to this
pub record CanLoad (told : Option (List File)) (model : Model) (start : Result Listing LoadFault) : Type 0 where
  pub files : List File
  pub as_told : IfSome told (λ known. files ≡ known)
  pub gives : loaded model files ≡ start

-- what a call begins with whose script is still to be read
abbrev pub without_script : Result Listing LoadStop → Result Start LoadStop
without_script (Ok d) = Ok (record { directory = d; script = None })
without_script (Err stop) = Err stop

abbrev pub IsLoad : Result Start LoadStop → Model → Option (List File) → Type 0
IsLoad (Ok start) model told = CanLoad told model (Ok start.directory) × (start.script ≡ own_script model)
IsLoad (Err (load.Refused fault)) model told = CanLoad told model (Err fault)
IsLoad (Err load.Failed) model told = is_of_file model ≡ true
IsLoad (Err LoadStop.Memory) model told = Unit {0}

-- a script that is what the source had left, where it tells it, and reads as this
pub record CanRead (told : Option (List ℕ)) (read : Result (List (Entry Command)) ScriptFlaw) : Type 0 where
  pub script : List ℕ
  pub as_told : IfSome told (λ known. script ≡ known)
  pub gives : script_of script ≡ read

-- a script that was read whole, and reads as these commands
pub record WasRead (left left' : Option (List ℕ)) (commands : List (Entry Command)) : Type 0 where
  pub script : List ℕ
  pub as_told : IfSome left (λ known. script ≡ known)
  pub gives : script_of script ≡ Ok commands
  pub taken : Consumes left left' script
  pub end : IsAtEnd left'

abbrev pub IsRead : Result (List ScriptCommand) ScriptStop → Option (List ℕ) → Option (List ℕ) → Type 0
IsRead (Ok commands) left left' = WasRead left left' (map command_entry commands)
IsRead (Err (script.Refused flaw)) left left' = CanRead left (Err flaw)
IsRead (Err script.Failed) left left' = Unit {0}
IsRead (Err ScriptStop.Memory) left left' = Unit {0}

-- what a text is as a script
abbrev pub IsTextRead : Result (List ScriptCommand) ScriptStop → List ℕ → Type 0
IsTextRead (Ok commands) text = script_of text ≡ Ok (map command_entry commands)
IsTextRead (Err (script.Refused flaw)) text = script_of text ≡ Err flaw
IsTextRead (Err script.Failed) text = ⊥
IsTextRead (Err ScriptStop.Memory) text = Unit {0}

-- the same of the script that the model comes with, where it has one; then the source is as it was
abbrev pub IsReadBy : Result (List ScriptCommand) ScriptStop → Option (List ℕ) → Option (List ℕ) → Option (List ℕ) → Type 0
IsReadBy result None left left' = IsRead result left left'
IsReadBy result (Some own) left left' = IsTextRead result own × Keeps left left'

-- What a call has read before its run: files, those of the shelf where it tells them, from which the directory comes, and a
-- script that was read to its end, or the model's own, which reads as these commands.
pub record HasRead (model : Model) (told : Option (List File)) (left left' : Option (List ℕ)) (start : Listing) (commands : List (Entry Command)) : Type 0 where
  pub files : List File
  pub files_told : IfSome told (λ known. files ≡ known)
  pub script : List ℕ
  pub script_told : IfSome left (λ known. script ≡ known)
  pub loads : loaded model files ≡ Ok start
  pub reads : script_of (script_run (own_script model) script) ≡ Ok commands
  pub source : IsSourceRead (is_some (own_script model)) left left' script

-- files that are those of the shelf, where it tells them, among which the file of that name gives the commands this order
pub record CanOrder (told : Option (List File)) (name : Name) (commands : List (Entry Command)) (due : Result (Option (List ℕ)) ReplayFault) : Type 0 where
  pub later : List File
  pub as_told : IfSome told (λ known. later ≡ known)
  pub gives : ordered (Some name) later commands ≡ due

abbrev pub IsOrderStop : OrderStop → Option (List File) → Name → List (Entry Command) → Type 0
IsOrderStop (order.Refused fault) told name commands = CanOrder told name commands (Err fault)
IsOrderStop order.Failed told name commands = Unit {0}
IsOrderStop OrderStop.Memory told name commands = Unit {0}

-- why the first bytes of a text give no order
abbrev pub IsTextStop : OrderStop → List ℕ → List (Entry Command) → Type 0
IsTextStop (order.Refused fault) text commands = (fault ≡ replay.Order) × ((whole : List ℕ) → text ≡ take 131078 whole → order_for whole (lane commands) ≡ None)
IsTextStop order.Failed text commands = ⊥
IsTextStop OrderStop.Memory text commands = Unit {0}

-- the answers that are left, where so many of each session's are taken
abbrev pub left_at : List ℕ → List (List Answer) → ℕ → List Answer
left_at taken lists zero = []
left_at taken lists (suc n) = drop (get_or taken n 0) (get_or lists n [])

-- the files of what is left of the order, where so many of each session's answers are taken
abbrev pub files_left : List ℕ → List ℕ → List (List Answer) → List File
files_left order taken lists = files_of (merged order (λ session. map core_answer (left_at taken lists session)))

-- files of which some are put, and these are left
pub record ArePut (files files' puts puts' : Option (List File)) (all rest : List File) : Type 0 where
  pub done : List File
  pub grown : HasGrown files files' puts puts' done
  pub whole : all ≡ done ++ rest

-- the same, unless the put of the first of them failed
abbrev pub ArePutBy : Result (Unit {0}) ShelfFault → Option (List File) → Option (List File) → Option (List File) → Option (List File) → List File → List File → Type 0
ArePutBy (Ok done) files files' puts puts' all rest = ArePut files files' puts puts' all rest
ArePutBy (Err fault) files files' puts puts' all rest = Stays files files' × Stays puts puts' × (0 < length all)

-- the bytes are written, and the files are put
pub record IsWhole (bytes : List ℕ) (files : List File) (before after : Outside) : Type 0 where
  pub written : Appends before.held after.held bytes
  pub grown : HasGrown before.files after.files before.puts after.puts files
  pub writes : after.writes ≡ before.writes
  pub calls : after.calls ≡ before.calls

-- a write to the sink failed
pub record IsTextShort (bytes : List ℕ) (before after : Outside) : Type 0 where
  pub cut_short : IsCutShort before.held after.held bytes
  pub files_stay : Stays before.files after.files
  pub puts_stay : Stays before.puts after.puts
  pub rose : Rose before.writes after.writes
  pub calls : after.calls ≡ before.calls

-- the bytes are written, and not all files are put
pub record AreFilesShort (bytes : List ℕ) (files : List File) (before after : Outside) : Type 0 where
  pub written : Appends before.held after.held bytes
  pub cut_short : AreCutShort before.files after.files before.puts after.puts files
  pub writes : after.writes ≡ before.writes

-- what writing a run with these bytes and files did
abbrev pub Writes : Status → List ℕ → List File → Bool → Outside → Outside → Type 0
Writes Done bytes files some_refused before after = IsWhole bytes files before after × (some_refused ≡ false)
Writes SomeRefused bytes files some_refused before after = IsWhole bytes files before after × (some_refused ≡ true)
Writes Usage bytes files some_refused before after = ⊥
Writes (LoadRefused fault) bytes files some_refused before after = ⊥
Writes (ScriptRefused flaw) bytes files some_refused before after = ⊥
Writes ReadFault bytes files some_refused before after = ⊥
Writes WriteFault bytes files some_refused before after = IsTextShort bytes before after ⊎ (AreFilesShort bytes files before after × Rose before.calls after.calls)
Writes Memory bytes files some_refused before after = AreFilesShort bytes files before after × (after.calls ≡ before.calls)
Writes (ReplayRefused fault) bytes files some_refused before after = ⊥
