-- What each status says of a call, and which status comes.
use Rattle.std.specs.Prelude.{◌≡◌, ◌⊎◌, ◌<◌, ◌++◌, ℕ, Bool, length, true, false, List, [], None, Some, is_some, IfSome, Ok}
use Rattle.std.specs.Option.{option_map_or}
use Rattle.std.specs.Io.KnownBytes.{Appends, Keeps}
use Rattle.outside_core.specs.Faults.{Rose}
use Rattle.outside_core.specs.Told.{Stays}
use Rattle.outside_core.specs.Transfers.{IsCutShort}
use Rattle.outside_core.specs.declared.traits.File.{File}
use Rattle.transcript.specs.Merge.{Entry}
use Rattle.transcript.specs.Reading.{order_in, before as up_to}
use Rattle.command_set.specs.declared.command.Command.{Command}
use Rattle.directory.specs.Listing.{Listing}
use Rattle.option_words.specs.Grammar.{asked_of}
use Rattle.option_words.specs.declared.options.Model.{Model}
use Rattle.option_words.specs.declared.options.Model.TheVariants.{Empty, OfFile, OfDemo}
use Rattle.option_words.specs.declared.options.Options.{Options}
use Rattle.mged_top.specs.Courses.{Course, Stops, Runs, course_of, course_with, has_own_script, loaded, own_script, script_run}
use Rattle.mged_top.specs.Outcomes.{AreTold, IsSourceRead, Ran, IsWritten}
use Rattle.mged_top.specs.Outside.{Outside, IsQuiet, IsFaultless, IsUnwritten, AreCutShort}
use Rattle.mged_top.specs.declared.status.Status.{Status}
use Rattle.mged_top.specs.declared.status.Status.TheVariants.{Done, SomeRefused, Usage, LoadRefused, ScriptRefused, ReadFault, WriteFault, Memory, ReplayRefused}

-- the words, the load file, the script or the order file is refused with this status; nothing is written
pub record IsRefused (words : List (List ℕ)) (before after : Outside) (status : Status) : Type 0 where
  pub files : List File
  pub later : List File
  pub script : List ℕ
  pub told : AreTold before files later script
  pub course : course_of words files later script ≡ Stops status
  pub unwritten : IsUnwritten before after
  pub quiet : IsQuiet before after

abbrev pub is_of_file : Model → Bool
is_of_file Empty = false
is_of_file (OfFile name) = true
is_of_file (OfDemo number) = false

-- the words ask for a load file
abbrev pub AskForFile : List (List ℕ) → Type 0
AskForFile words = option_map_or (λ options. is_of_file options.model) (asked_of words) false ≡ true

-- a read of the source failed; the words are in the grammar, the load file, where they ask for one, has a directory, and
-- they ask for no model that comes with a script
pub record IsSourceFault (words : List (List ℕ)) (before after : Outside) : Type 0 where
  pub asked : Options
  pub understood : asked_of words ≡ Some asked
  pub unscripted : has_own_script words ≡ false
  pub files : List File
  pub told : IfSome before.files (λ known. files ≡ known)
  pub start : Listing
  pub loads : loaded asked.model files ≡ Ok start
  pub rose : Rose before.reads after.reads
  pub calls : after.calls ≡ before.calls

-- the read of a load file failed, and the source is not read
pub record IsLoadingFault (words : List (List ℕ)) (before after : Outside) : Type 0 where
  pub asked : AskForFile words
  pub unread : Keeps before.left after.left
  pub rose : Rose before.calls after.calls
  pub reads : after.reads ≡ before.reads

-- the read of an order file failed; the words ask for one, and the load file and the script are read and good
pub record IsReplayFault (words : List (List ℕ)) (before after : Outside) : Type 0 where
  pub asked : Options
  pub understood : asked_of words ≡ Some asked
  pub replays : is_some asked.replay ≡ true
  pub files : List File
  pub later : List File
  pub script : List ℕ
  pub told : AreTold before files later script
  pub start : Listing
  pub commands : List (Entry Command)
  pub passed : course_with None [] (loaded asked.model files) (script_run (own_script asked.model) script) ≡ Runs start commands None
  pub source : IsSourceRead (has_own_script words) before.left after.left script
  pub rose : Rose before.calls after.calls
  pub reads : after.reads ≡ before.reads

-- a read failed; nothing is written
pub record IsReadFault (words : List (List ℕ)) (before after : Outside) : Type 0 where
  pub cause : IsSourceFault words before after ⊎ (IsLoadingFault words before after ⊎ IsReplayFault words before after)
  pub writes : after.writes ≡ before.writes
  pub unwritten : IsUnwritten before after

-- the bytes hold a line feed
abbrev pub HasFirstLine : List ℕ → Type 0
HasFirstLine bytes = length (up_to 10 bytes) < length bytes

-- a write to the sink failed: it has grown by first bytes of the run's, not by all, and no file is put; where they hold the
-- first line, it prints the order of the run
pub record IsTextCut (words : List (List ℕ)) (before after : Outside) : Type 0 where
  pub bytes : List ℕ
  pub files : List File
  pub some_refused : Bool
  pub ran : Ran words before after bytes files some_refused
  pub cut_short : IsCutShort before.held after.held bytes
  pub first_line : (front rest : List ℕ) → bytes ≡ front ++ rest → HasFirstLine front → order_in front ≡ order_in bytes
  pub files_stay : Stays before.files after.files
  pub puts_stay : Stays before.puts after.puts
  pub rose : Rose before.writes after.writes
  pub reads : after.reads ≡ before.reads
  pub calls : after.calls ≡ before.calls

-- the sink has grown by the run's bytes, and the shelf by first files of the run, not by all
pub record AreFilesCut (words : List (List ℕ)) (before after : Outside) : Type 0 where
  pub bytes : List ℕ
  pub files : List File
  pub some_refused : Bool
  pub ran : Ran words before after bytes files some_refused
  pub written : Appends before.held after.held bytes
  pub cut_short : AreCutShort before.files after.files before.puts after.puts files
  pub reads : after.reads ≡ before.reads
  pub writes : after.writes ≡ before.writes

-- a write failed: one to the sink, or the put of a file
abbrev pub IsWriteFault : List (List ℕ) → Outside → Outside → Type 0
IsWriteFault words before after = IsTextCut words before after ⊎ (AreFilesCut words before after × Rose before.calls after.calls)

-- there was no memory: before anything was written, or for the put of a file
abbrev pub IsWantOfMemory : List (List ℕ) → Outside → Outside → Type 0
IsWantOfMemory words before after = IsQuiet before after × (IsUnwritten before after ⊎ AreFilesCut words before after)

-- what each status says
abbrev pub Explains : Status → List (List ℕ) → Outside → Outside → Type 0
Explains Done words before after = IsWritten words before after false
Explains SomeRefused words before after = IsWritten words before after true
Explains Usage words before after = IsRefused words before after Usage
Explains (LoadRefused fault) words before after = IsRefused words before after (LoadRefused fault)
Explains (ScriptRefused flaw) words before after = IsRefused words before after (ScriptRefused flaw)
Explains ReadFault words before after = IsReadFault words before after
Explains WriteFault words before after = IsWriteFault words before after
Explains Memory words before after = IsWantOfMemory words before after
Explains (ReplayRefused fault) words before after = IsRefused words before after (ReplayRefused fault)

-- the statuses of a run that is read and written whole
abbrev pub IsRunStatus : Status → Type 0
IsRunStatus Done = Unit {0}
IsRunStatus SomeRefused = Unit {0}
IsRunStatus Usage = ⊥
IsRunStatus (LoadRefused fault) = ⊥
IsRunStatus (ScriptRefused flaw) = ⊥
IsRunStatus ReadFault = ⊥
IsRunStatus WriteFault = ⊥
IsRunStatus Memory = ⊥
IsRunStatus (ReplayRefused fault) = ⊥

-- the status that a course comes to, where all is read and written
abbrev pub ComesTo : Course → Status → Type 0
ComesTo (Stops due) status = status ≡ due
ComesTo (Runs start commands order) status = IsRunStatus status

-- where the files and the script are told and no call failed, the status is that of their course, or there was no memory
abbrev pub IsComplete : Status → List (List ℕ) → Outside → Outside → Type 0
IsComplete status words before after =
    (files : List File) (script : List ℕ) → before.files ≡ Some files → before.left ≡ Some script → IsFaultless before after
    → (status ≡ Memory) ⊎ ComesTo (course_of words files files script) status

-- the call ends before the script is asked for
abbrev pub IsBeforeScript : Status → Type 0
IsBeforeScript Done = ⊥
IsBeforeScript SomeRefused = ⊥
IsBeforeScript Usage = Unit {0}
IsBeforeScript (LoadRefused fault) = Unit {0}
IsBeforeScript (ScriptRefused flaw) = ⊥
IsBeforeScript ReadFault = ⊥
IsBeforeScript WriteFault = ⊥
IsBeforeScript Memory = ⊥
IsBeforeScript (ReplayRefused fault) = ⊥

-- the call ends before commands are run
abbrev pub IsBeforeRun : Status → Type 0
IsBeforeRun Done = ⊥
IsBeforeRun SomeRefused = ⊥
IsBeforeRun Usage = Unit {0}
IsBeforeRun (LoadRefused fault) = Unit {0}
IsBeforeRun (ScriptRefused flaw) = Unit {0}
IsBeforeRun ReadFault = Unit {0}
IsBeforeRun WriteFault = ⊥
IsBeforeRun Memory = ⊥
IsBeforeRun (ReplayRefused fault) = Unit {0}
