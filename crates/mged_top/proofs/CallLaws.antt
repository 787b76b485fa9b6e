-- What a call says, put together from what its stages give.
use Rattle.std.proofs.Common.{◌≡◌, ◌≢◌, ◌∙◌, ◌⊎◌, inl, inr, ℕ, Bool, true, false, List, [], Option, Some, None, IfSome, Result, Ok, Err, Vec, Global, is_some, map, take, refl, ap, ap₂, sym, subst}
use Rattle.std.specs.Option.{option_and_then, option_map_or}
use Rattle.std.specs.Io.KnownBytes.{Keeps}
use Rattle.outside_core.specs.Faults.{Rose}
use Rattle.outside_core.specs.Told.{Advances, Stays}
use Rattle.outside_core.specs.declared.traits.File.{File}
use Rattle.name_core.specs.declared.name.Name.{Name}
use Rattle.transcript.specs.Merge.{Entry}
use Rattle.transcript.specs.Reading.{order_in}
use Rattle.command_set.specs.declared.command.Command.{Command}
use Rattle.directory.specs.Listing.{Listing}
use Rattle.option_words.specs.Grammar.{asked_of}
use Rattle.option_words.specs.declared.options.Model.{Model}
use Rattle.option_words.specs.declared.options.Options.{Options}
use Rattle.mged_words.specs.Entries.{command_entry}
use Rattle.mged_words.specs.Scripts.{script_of}
use Rattle.mged_words.specs.declared.script.ScriptFlaw.{ScriptFlaw}
use Rattle.mged_top.specs.Calls.{is_of_file, IsRefused, IsSourceFault, IsLoadingFault, IsReplayFault, IsReadFault, AreFilesCut, IsWriteFault, IsWantOfMemory, Explains, ComesTo, IsRunStatus, IsComplete}
use Rattle.mged_top.specs.Courses.{Course, Stops, Runs, course_of, course_asked, course_with, course_from, course_in, has_own_script, has_replay, loaded, ordered, own_script, script_run}
use Rattle.mged_top.specs.Outcomes.{AreTold, IsInOrder, IsSourceRead, Ran, IsWritten}
use Rattle.mged_top.specs.Outside.{Outside, outside, IsQuiet, IsFaultless, IsUnwritten}
use Rattle.mged_top.specs.Stages.{CanLoad, CanOrder, CanRead, HasRead, IsLoad, IsOrderStop, IsReadBy, load_status, order_status, script_status, IsRun, IsWhole, IsTextShort, AreFilesShort, Writes, files_among}
use Rattle.mged_top.specs.declared.load.LoadStop.{LoadStop}
use Rattle.mged_top.specs.declared.load.LoadStop.TheVariants as load
use Rattle.mged_top.specs.declared.load.Start.{Start}
use Rattle.mged_top.specs.declared.order.OrderStop.{OrderStop}
use Rattle.mged_top.specs.declared.order.OrderStop.TheVariants as order
use Rattle.mged_top.specs.declared.read.ScriptStop.{ScriptStop}
use Rattle.mged_top.specs.declared.read.ScriptStop.TheVariants as script
use Rattle.mged_top.specs.declared.status.LoadFault.{LoadFault}
use Rattle.mged_top.specs.declared.status.ReplayFault.{ReplayFault}
use Rattle.mged_words.specs.declared.command.ScriptCommand.{ScriptCommand}
use Rattle.mged_top.specs.declared.status.Status.{Status}
use Rattle.mged_top.specs.declared.status.Status.TheVariants.{Done, SomeRefused, Usage, LoadRefused, ScriptRefused, ReadFault, WriteFault, Memory, ReplayRefused}
use Rattle.session_run.specs.declared.answer.Answer.{Answer}
use Rattle.script_run.proofs.OrderLaws.{first_line}
use Rattle.mged_top.proofs.ShelfLaws.{grown_after}

-- what is told, or anything where nothing is
abbrev known : {T : Type 0} → T → Option T → T
known other None = other
known other (Some told) = told

known_told : {T : Type 0} (other : T) (told : Option T) → IfSome told (λ t. known other told ≡ t)
known_told other None = tt
known_told other (Some told) = refl

-- the words are no options
pub usage_refused : (words : List (List ℕ)) (before after : Outside) → asked_of words ≡ None → IsUnwritten before after → IsQuiet before after → IsRefused words before after Usage
usage_refused words before after none unwritten quiet = record {
  files = known [] before.files;
  later = known [] before.files;
  script = known [] before.left;
  told = record { files_told = known_told [] before.files; later_told = known_told [] before.files; script_told = known_told [] before.left };
  course = ap (λ (asked : Option Options). course_asked asked (known [] before.files) (known [] before.files) (known [] before.left)) none;
  unwritten = unwritten;
  quiet = quiet;
}

-- the course where the words ask for this model and this order
course_by : (words : List (List ℕ)) (model : Model) (replay : Option Name) (workers : ℕ) (own : Option (List ℕ)) (files later : List File) (script : List ℕ) (start : Result Listing LoadFault)
    → asked_of words ≡ Some (record { model = model; replay = replay; workers = workers }) → own_script model ≡ own → loaded model files ≡ start → course_of words files later script ≡ course_with replay later start (script_run own script)
course_by words model replay workers own files later script start asked is loads =
    ap (λ (a : Option Options). course_asked a files later script) asked ∙ ap₂ (λ (s : Result Listing LoadFault) (o : Option (List ℕ)). course_with replay later s (script_run o script)) loads is

-- and whether they ask for a script with it
scripted : (words : List (List ℕ)) (model : Model) (replay : Option Name) (workers : ℕ) (own : Option (List ℕ)) → asked_of words ≡ Some (record { model = model; replay = replay; workers = workers }) → own_script model ≡ own → has_own_script words ≡ is_some own
scripted words model replay workers own asked is = ap (λ (a : Option Options). is_some (option_and_then (λ (options : Options). own_script options.model) a)) asked ∙ ap is_some is

-- and whether they ask for an order
pub replayed : (words : List (List ℕ)) (options : Options) → asked_of words ≡ Some options → has_replay words ≡ is_some options.replay
replayed words options asked = ap (λ (a : Option Options). is_some (option_and_then (λ (o : Options). o.replay) a)) asked

pub none_asked : (replay : Option Name) → is_some replay ≡ false → replay ≡ None
none_asked None is = refl
none_asked (Some name) is = absurd cc

pub not_replayed : (words : List (List ℕ)) → asked_of words ≡ None → has_replay words ≡ false
not_replayed words none = ap (λ (a : Option Options). is_some (option_and_then (λ (o : Options). o.replay) a)) none

pub load_refused : (words : List (List ℕ)) (before after : Outside) (model : Model) (replay : Option Name) (workers : ℕ) (fault : LoadFault) → asked_of words ≡ Some (record { model = model; replay = replay; workers = workers })
    → CanLoad before.files model (Err fault) → IsUnwritten before after → IsQuiet before after → IsRefused words before after (LoadRefused fault)
load_refused words before after model replay workers fault asked can unwritten quiet = record {
  files = can.files;
  later = can.files;
  script = known [] before.left;
  told = record { files_told = can.as_told; later_told = can.as_told; script_told = known_told [] before.left };
  course = course_by words model replay workers (own_script model) can.files can.files (known [] before.left) (Err fault) asked refl can.gives;
  unwritten = unwritten;
  quiet = quiet;
}

pub script_refused : (words : List (List ℕ)) (before after : Outside) (model : Model) (replay : Option Name) (workers : ℕ) (start : Listing) (flaw : ScriptFlaw) → asked_of words ≡ Some (record { model = model; replay = replay; workers = workers }) → own_script model ≡ None
    → CanLoad before.files model (Ok start) → CanRead before.left (Err flaw) → IsUnwritten before after → IsQuiet before after → IsRefused words before after (ScriptRefused flaw)
script_refused words before after model replay workers start flaw asked none can read unwritten quiet = record {
  files = can.files;
  later = can.files;
  script = read.script;
  told = record { files_told = can.as_told; later_told = can.as_told; script_told = read.as_told };
  course = course_by words model replay workers None can.files can.files read.script (Ok start) asked none can.gives ∙ ap (course_from replay can.files start) read.gives;
  unwritten = unwritten;
  quiet = quiet;
}

pub own_refused : (words : List (List ℕ)) (before after : Outside) (model : Model) (replay : Option Name) (workers : ℕ) (own : List ℕ) (start : Listing) (flaw : ScriptFlaw) → asked_of words ≡ Some (record { model = model; replay = replay; workers = workers }) → own_script model ≡ Some own
    → CanLoad before.files model (Ok start) → script_of own ≡ Err flaw → IsUnwritten before after → IsQuiet before after → IsRefused words before after (ScriptRefused flaw)
own_refused words before after model replay workers own start flaw asked some can read unwritten quiet = record {
  files = can.files;
  later = can.files;
  script = known [] before.left;
  told = record { files_told = can.as_told; later_told = can.as_told; script_told = known_told [] before.left };
  course = course_by words model replay workers (Some own) can.files can.files (known [] before.left) (Ok start) asked some can.gives ∙ ap (course_from replay can.files start) read;
  unwritten = unwritten;
  quiet = quiet;
}

pub source_failed : (words : List (List ℕ)) (before after : Outside) (model : Model) (replay : Option Name) (workers : ℕ) (start : Listing) → asked_of words ≡ Some (record { model = model; replay = replay; workers = workers }) → own_script model ≡ None → CanLoad before.files model (Ok start) → Rose before.reads after.reads → after.calls ≡ before.calls → after.writes ≡ before.writes
    → IsUnwritten before after → IsReadFault words before after
source_failed words before after model replay workers start is none can rose calls writes unwritten =
    record {
      cause = inl (record { asked = record { model = model; replay = replay; workers = workers }; understood = is; unscripted = scripted words model replay workers None is none; files = can.files; told = can.as_told; start = start; loads = can.gives; rose = rose; calls = calls });
      writes = writes;
      unwritten = unwritten;
    }

pub loading_failed : (words : List (List ℕ)) (before after : Outside) (model : Model) (replay : Option Name) (workers : ℕ) → asked_of words ≡ Some (record { model = model; replay = replay; workers = workers }) → is_of_file model ≡ true → Rose before.calls after.calls
    → Keeps before.left after.left → after.reads ≡ before.reads → after.writes ≡ before.writes → IsUnwritten before after → IsReadFault words before after
loading_failed words before after model replay workers is some rose unread reads writes unwritten =
    record {
      cause = inr (inl (record { asked = ap (λ (a : Option Options). option_map_or (λ (options : Options). is_of_file options.model) a false) is ∙ some; unread = unread; rose = rose; reads = reads }));
      writes = writes;
      unwritten = unwritten;
    }

-- nothing was done
pub advances_none : (left : Option (List ℕ)) → Advances left left
advances_none None = ([], tt)
advances_none (Some told) = ([], refl)

pub keeps_none : (held : Option (List ℕ)) → Keeps held held
keeps_none None = tt
keeps_none (Some told) = refl

pub stays_none : {T : Type 0} (told : Option T) → Stays told told
stays_none None = tt
stays_none (Some told) = refl

pub no_options : (words : List (List ℕ)) (left held : Option (List ℕ)) (files puts : Option (List File)) (reads writes calls : ℕ) → asked_of words ≡ None
    → IsRefused words (outside left held files puts reads writes calls) (outside left held files puts reads writes calls) Usage
no_options words left held files puts reads writes calls none =
    usage_refused words _ _ none (record { left = advances_none left; held = keeps_none held; files = stays_none files; puts = stays_none puts }) (record { reads = refl; writes = refl; calls = refl })

-- a call that ends at its model
pub load_stopped : (stop : LoadStop) (words : List (List ℕ)) (left held : Option (List ℕ)) (files files' puts puts' : Option (List File)) (reads writes calls calls' : ℕ) (model : Model) (replay : Option Name) (workers : ℕ)
    → asked_of words ≡ Some (record { model = model; replay = replay; workers = workers }) → IsLoad (Err stop) model files → Stays files files' → Stays puts puts'
    → (◌≢◌ {A = Result Start LoadStop} (Err stop) (Err load.Failed) → calls' ≡ calls) → (◌≡◌ {A = Result Start LoadStop} (Err stop) (Err load.Failed) → Rose calls calls')
    → Explains (load_status stop) words (outside left held files puts reads writes calls) (outside left held files' puts' reads writes calls')
load_stopped (load.Refused fault) words left held files files' puts puts' reads writes calls calls' model replay workers asked is f p steady rose =
    load_refused words _ _ model replay workers fault asked is (record { left = advances_none left; held = keeps_none held; files = f; puts = p }) (record { reads = refl; writes = refl; calls = steady (λ e. absurd cc) })
load_stopped load.Failed words left held files files' puts puts' reads writes calls calls' model replay workers asked is f p steady rose =
    loading_failed words _ _ model replay workers asked is (rose refl) (keeps_none left) refl refl (record { left = advances_none left; held = keeps_none held; files = f; puts = p })
load_stopped LoadStop.Memory words left held files files' puts puts' reads writes calls calls' model replay workers asked is f p steady rose =
    (record { reads = refl; writes = refl; calls = steady (λ e. absurd cc) }, inl (record { left = advances_none left; held = keeps_none held; files = f; puts = p }))

-- a call that ends at its script
pub script_stopped : (stop : ScriptStop) (words : List (List ℕ)) (left left' held : Option (List ℕ)) (files files' puts puts' : Option (List File)) (reads reads' writes calls calls' : ℕ) (model : Model) (replay : Option Name) (workers : ℕ) (own : Option (List ℕ)) (start : Listing)
    → asked_of words ≡ Some (record { model = model; replay = replay; workers = workers }) → own_script model ≡ own → CanLoad files model (Ok start) → IsReadBy (Err stop) own left left' → Advances left left' → Stays files files' → Stays puts puts' → calls' ≡ calls
    → (◌≢◌ {A = Result (List ScriptCommand) ScriptStop} (Err stop) (Err script.Failed) → reads' ≡ reads) → (◌≡◌ {A = Result (List ScriptCommand) ScriptStop} (Err stop) (Err script.Failed) → Rose reads reads')
    → Explains (script_status stop) words (outside left held files puts reads writes calls) (outside left' held files' puts' reads' writes calls')
script_stopped (script.Refused flaw) words left left' held files files' puts puts' reads reads' writes calls calls' model replay workers None start asked own can is advances f p same steady rose =
    script_refused words _ _ model replay workers start flaw asked own can is (record { left = advances; held = keeps_none held; files = f; puts = p }) (record { reads = steady (λ e. absurd cc); writes = refl; calls = same })
script_stopped (script.Refused flaw) words left left' held files files' puts puts' reads reads' writes calls calls' model replay workers (Some text) start asked own can is advances f p same steady rose =
    own_refused words _ _ model replay workers text start flaw asked own can is.0 (record { left = advances; held = keeps_none held; files = f; puts = p }) (record { reads = steady (λ e. absurd cc); writes = refl; calls = same })
script_stopped script.Failed words left left' held files files' puts puts' reads reads' writes calls calls' model replay workers None start asked own can is advances f p same steady rose =
    source_failed words _ _ model replay workers start asked own can (rose refl) same refl (record { left = advances; held = keeps_none held; files = f; puts = p })
script_stopped script.Failed words left left' held files files' puts puts' reads reads' writes calls calls' model replay workers (Some text) start asked own can is advances f p same steady rose = absurd is.0
script_stopped ScriptStop.Memory words left left' held files files' puts puts' reads reads' writes calls calls' model replay workers own start asked is_own can is advances f p same steady rose =
    (record { reads = steady (λ e. absurd cc); writes = refl; calls = same }, inl (record { left = advances; held = keeps_none held; files = f; puts = p }))

-- what a call has read
pub has_read : (model : Model) (own : Option (List ℕ)) (told : Option (List File)) (left left' : Option (List ℕ)) (start : Listing) (commands : List ScriptCommand)
    → own_script model ≡ own → CanLoad told model (Ok start) → IsReadBy (Ok commands) own left left' → HasRead model told left left' start (map command_entry commands)
has_read model None told left left' start commands own can read = record {
  files = can.files;
  files_told = can.as_told;
  script = read.script;
  script_told = read.as_told;
  loads = can.gives;
  reads = ap (λ (o : Option (List ℕ)). script_of (script_run o read.script)) own ∙ read.gives;
  source = subst (λ (o : Option (List ℕ)). IsSourceRead (is_some o) left left' read.script) (sym own) (read.taken, read.end);
}
has_read model (Some text) told left left' start commands own can read = record {
  files = can.files;
  files_told = can.as_told;
  script = known [] left;
  script_told = known_told [] left;
  loads = can.gives;
  reads = ap (λ (o : Option (List ℕ)). script_of (script_run o (known [] left))) own ∙ read.0;
  source = subst (λ (o : Option (List ℕ)). IsSourceRead (is_some o) left left' (known [] left)) (sym own) read.1;
}

-- a call that ends before its run for want of memory
pub no_memory : (words : List (List ℕ)) (left left' held : Option (List ℕ)) (files files' puts puts' : Option (List File)) (reads reads' writes calls calls' : ℕ)
    → Advances left left' → Stays files files' → Stays puts puts' → reads' ≡ reads → calls' ≡ calls
    → IsWantOfMemory words (outside left held files puts reads writes calls) (outside left' held files' puts' reads' writes calls')
no_memory words left left' held files files' puts puts' reads reads' writes calls calls' advances f p r c =
    (record { reads = r; writes = refl; calls = c }, inl (record { left = advances; held = keeps_none held; files = f; puts = p }))

-- what a later call was told is what was told at first
pub told_first : {T : Type 0} (first later : Option T) (value : T) → Stays first later → IfSome later (λ t. value ≡ t) → IfSome first (λ t. value ≡ t)
told_first None later value stays h = tt
told_first {T} (Some told) later value stays h = subst (λ (o : Option T). IfSome o (λ t. value ≡ t)) stays h

-- and stays so
pub stays_both : {T : Type 0} (a b c : Option T) → Stays a b → Stays b c → Stays a c
stays_both None b c h k = tt
stays_both (Some told) b c h k = subst (λ m. Stays m c → c ≡ Some told) (sym h) (λ e. e) k

-- the course of what was read, by the order that it comes to
course_read : (words : List (List ℕ)) (model : Model) (replay : Option Name) (workers : ℕ) (told : Option (List File)) (left left' : Option (List ℕ)) (start : Listing) (commands : List (Entry Command)) (later : List File) (due : Result (Option (List ℕ)) ReplayFault)
    → asked_of words ≡ Some (record { model = model; replay = replay; workers = workers }) → (r : HasRead model told left left' start commands) → ordered replay later commands ≡ due → course_of words r.files later r.script ≡ course_in start commands due
course_read words model replay workers told left left' start commands later due asked r is =
    course_by words model replay workers (own_script model) r.files later r.script (Ok start) asked refl r.loads ∙ ap (course_from replay later start) r.reads ∙ ap (course_in start commands) is

-- the source was read as the words ask for it
source_read : (words : List (List ℕ)) (model : Model) (replay : Option Name) (workers : ℕ) (left left' : Option (List ℕ)) (text : List ℕ) → asked_of words ≡ Some (record { model = model; replay = replay; workers = workers })
    → IsSourceRead (is_some (own_script model)) left left' text → IsSourceRead (has_own_script words) left left' text
source_read words model replay workers left left' text asked h = subst (λ (t : Bool). IsSourceRead t left left' text) (sym (scripted words model replay workers (own_script model) asked refl)) h

-- a call that ends at its order
pub order_stopped : (stop : OrderStop) (words : List (List ℕ)) (left left' held : Option (List ℕ)) (files loaded_files files' puts loaded_puts puts' : Option (List File)) (reads reads' writes calls loaded_calls calls' : ℕ) (model : Model) (name : Name) (workers : ℕ) (start : Listing) (commands : List (Entry Command))
    → asked_of words ≡ Some (record { model = model; replay = Some name; workers = workers }) → HasRead model files left left' start commands → IsOrderStop stop loaded_files name commands
    → Advances left left' → Stays files loaded_files → Stays loaded_files files' → Stays puts loaded_puts → Stays loaded_puts puts' → reads' ≡ reads → loaded_calls ≡ calls
    → (◌≢◌ {A = Result (Vec ℕ Global) OrderStop} (Err stop) (Err order.Failed) → calls' ≡ loaded_calls) → (◌≡◌ {A = Result (Vec ℕ Global) OrderStop} (Err stop) (Err order.Failed) → Rose loaded_calls calls')
    → Explains (order_status stop) words (outside left held files puts reads writes calls) (outside left' held files' puts' reads' writes calls')
order_stopped (order.Refused fault) words left left' held files loaded_files files' puts loaded_puts puts' reads reads' writes calls loaded_calls calls' model name workers start commands asked r is advances f f' p p' same_reads same steady rose = record {
  files = r.files;
  later = is.later;
  script = r.script;
  told = record { files_told = r.files_told; later_told = told_first files loaded_files is.later f is.as_told; script_told = r.script_told };
  course = course_read words model (Some name) workers files left left' start commands is.later (Err fault) asked r is.gives;
  unwritten = record { left = advances; held = keeps_none held; files = stays_both files loaded_files files' f f'; puts = stays_both puts loaded_puts puts' p p' };
  quiet = record { reads = same_reads; writes = refl; calls = steady (λ e. absurd cc) ∙ same };
}
order_stopped order.Failed words left left' held files loaded_files files' puts loaded_puts puts' reads reads' writes calls loaded_calls calls' model name workers start commands asked r is advances f f' p p' same_reads same steady rose = record {
  cause = inr (inr (record {
    asked = record { model = model; replay = Some name; workers = workers };
    understood = asked;
    replays = refl;
    files = r.files;
    later = r.files;
    script = r.script;
    told = record { files_told = r.files_told; later_told = r.files_told; script_told = r.script_told };
    start = start;
    commands = commands;
    passed = ap (λ (s : Result Listing LoadFault). course_with None [] s (script_run (own_script model) r.script)) r.loads ∙ ap (course_from None [] start) r.reads;
    source = source_read words model (Some name) workers left left' r.script asked r.source;
    rose = subst (λ (n : ℕ). Rose n calls') same (rose refl);
    reads = same_reads;
  }));
  writes = refl;
  unwritten = record { left = advances; held = keeps_none held; files = stays_both files loaded_files files' f f'; puts = stays_both puts loaded_puts puts' p p' };
}
order_stopped OrderStop.Memory words left left' held files loaded_files files' puts loaded_puts puts' reads reads' writes calls loaded_calls calls' model name workers start commands asked r is advances f f' p p' same_reads same steady rose =
    no_memory words left left' held files files' puts puts' reads reads' writes calls calls' advances (stays_both files loaded_files files' f f') (stays_both puts loaded_puts puts' p p') same_reads (steady (λ e. absurd cc) ∙ same)

-- a run in an order that may be asked for, and the inputs that it had
ran_by : (words : List (List ℕ)) (before after : Outside) (model : Model) (replay : Option Name) (workers : ℕ) (start : Listing) (commands : List (Entry Command)) (asked_order : Option (List ℕ)) (later : List File) (bytes run_order : List ℕ) (lists : List (List Answer)) (some_refused : Bool)
    → asked_of words ≡ Some (record { model = model; replay = replay; workers = workers }) → HasRead model before.files before.left after.left start commands → IfSome before.files (λ t. later ≡ t) → ordered replay later commands ≡ Ok asked_order
    → IsRun start commands bytes run_order lists some_refused → IsInOrder asked_order bytes → Ran words before after bytes (files_among run_order lists) some_refused
ran_by words before after model replay workers start commands asked_order later bytes run_order lists some_refused asked r told is run in_order = record {
  start = start;
  commands = commands;
  order = asked_order;
  inputs = record {
    files = r.files;
    later = later;
    script = r.script;
    told = record { files_told = r.files_told; later_told = told; script_told = r.script_told };
    course = course_read words model replay workers before.files before.left after.left start commands later (Ok asked_order) asked r is;
    source = source_read words model replay workers before.left after.left r.script asked r.source;
  };
  outcome = run.outcome;
  in_order = in_order;
}

-- a run in any order
pub ran_free : (words : List (List ℕ)) (before after : Outside) (model : Model) (workers : ℕ) (start : Listing) (commands : List (Entry Command)) (bytes run_order : List ℕ) (lists : List (List Answer)) (some_refused : Bool)
    → asked_of words ≡ Some (record { model = model; replay = None; workers = workers }) → HasRead model before.files before.left after.left start commands
    → IsRun start commands bytes run_order lists some_refused → Ran words before after bytes (files_among run_order lists) some_refused
ran_free words before after model workers start commands bytes run_order lists some_refused asked r run =
    ran_by words before after model None workers start commands None r.files bytes run_order lists some_refused asked r r.files_told refl run tt

-- a run in the order of a file
pub ran_ordered : (words : List (List ℕ)) (before after : Outside) (loaded_files : Option (List File)) (model : Model) (name : Name) (workers : ℕ) (start : Listing) (commands : List (Entry Command)) (asked_order bytes run_order : List ℕ) (lists : List (List Answer)) (some_refused : Bool)
    → asked_of words ≡ Some (record { model = model; replay = Some name; workers = workers }) → HasRead model before.files before.left after.left start commands → Stays before.files loaded_files → CanOrder loaded_files name commands (Ok (Some asked_order))
    → IsRun start commands bytes run_order lists some_refused → order_in bytes ≡ asked_order → Ran words before after bytes (files_among run_order lists) some_refused
ran_ordered words before after loaded_files model name workers start commands asked_order bytes run_order lists some_refused asked r stays can run in_order =
    ran_by words before after model (Some name) workers start commands (Some asked_order) can.later bytes run_order lists some_refused asked r (told_first before.files loaded_files can.later stays can.as_told) can.gives run in_order

-- what writing did, from the shelf as it was before a file was loaded from it
module _ (held held' : Option (List ℕ)) (shelf loaded shelf' puts puts' puts'' : Option (List File)) (writes writes' calls calls' calls'' : ℕ) (bytes : List ℕ) (files : List File)
    (stay : Stays shelf loaded) (puts_stay : Stays puts puts') (same : calls' ≡ calls) where
  abbrev loaded_before : Outside
  loaded_before = outside None held loaded puts' 0 writes calls'

  abbrev first_before : Outside
  first_before = outside None held shelf puts 0 writes calls

  abbrev last_after : Outside
  last_after = outside None held' shelf' puts'' 0 writes' calls''

  whole_from : IsWhole bytes files loaded_before last_after → IsWhole bytes files first_before last_after
  whole_from w = record { written = w.written; grown = grown_after shelf loaded shelf' puts puts' puts'' files stay puts_stay w.grown; writes = w.writes; calls = w.calls ∙ same }

  short_from : AreFilesShort bytes files loaded_before last_after → AreFilesShort bytes files first_before last_after
  short_from w = record {
    written = w.written;
    cut_short = record { count = w.cut_short.count; short = w.cut_short.short; front = grown_after shelf loaded shelf' puts puts' puts'' (take w.cut_short.count files) stay puts_stay w.cut_short.front };
    writes = w.writes;
  }

  failed_from : IsTextShort bytes loaded_before last_after ⊎ (AreFilesShort bytes files loaded_before last_after × Rose calls' calls'')
      → IsTextShort bytes first_before last_after ⊎ (AreFilesShort bytes files first_before last_after × Rose calls calls'')
  failed_from (inl w) = inl (record {
    cut_short = w.cut_short;
    files_stay = stays_both shelf loaded shelf' stay w.files_stay;
    puts_stay = stays_both puts puts' puts'' puts_stay w.puts_stay;
    rose = w.rose;
    calls = w.calls ∙ same;
  })
  failed_from (inr w) = inr (short_from w.0, subst (λ n. Rose n calls'') same w.1)

  pub writes_from : (status : Status) (some_refused : Bool) → Writes status bytes files some_refused loaded_before last_after → Writes status bytes files some_refused first_before last_after
  writes_from Done some_refused w = (whole_from w.0, w.1)
  writes_from SomeRefused some_refused w = (whole_from w.0, w.1)
  writes_from Usage some_refused w = w
  writes_from (LoadRefused fault) some_refused w = w
  writes_from (ScriptRefused flaw) some_refused w = w
  writes_from ReadFault some_refused w = w
  writes_from WriteFault some_refused w = failed_from w
  writes_from Memory some_refused w = (short_from w.0, w.1 ∙ same)
  writes_from (ReplayRefused fault) some_refused w = w

-- what writing it did, said of all of the objects
module _ (words : List (List ℕ)) (left left' held held' : Option (List ℕ)) (shelf shelf' puts puts' : Option (List File)) (reads reads' writes writes' calls calls' : ℕ)
    (bytes : List ℕ) (files : List File) where
  abbrev all_before : Outside
  all_before = outside left held shelf puts reads writes calls

  abbrev all_after : Outside
  all_after = outside left' held' shelf' puts' reads' writes' calls'

  abbrev sink_before : Outside
  sink_before = outside None held shelf puts 0 writes calls

  abbrev sink_after : Outside
  sink_after = outside None held' shelf' puts' 0 writes' calls'

  written : (some_refused said : Bool) → Ran words all_before all_after bytes files some_refused → reads' ≡ reads → IsWhole bytes files sink_before sink_after → some_refused ≡ said → IsWritten words all_before all_after said
  written some_refused said r same w is = record {
    bytes = bytes;
    files = files;
    ran = subst (λ (t : Bool). Ran words all_before all_after bytes files t) is r;
    written = w.written;
    grown = w.grown;
    quiet = record { reads = same; writes = w.writes; calls = w.calls };
  }

  files_cut : (some_refused : Bool) → Ran words all_before all_after bytes files some_refused → reads' ≡ reads → AreFilesShort bytes files sink_before sink_after → AreFilesCut words all_before all_after
  files_cut some_refused r same w = record { bytes = bytes; files = files; some_refused = some_refused; ran = r; written = w.written; cut_short = w.cut_short; reads = same; writes = w.writes }

  failed : (some_refused : Bool) → Ran words all_before all_after bytes files some_refused → reads' ≡ reads
      → IsTextShort bytes sink_before sink_after ⊎ (AreFilesShort bytes files sink_before sink_after × Rose calls calls') → IsWriteFault words all_before all_after
  failed some_refused r same (inl w) = inl (record {
    bytes = bytes;
    files = files;
    some_refused = some_refused;
    ran = r;
    cut_short = w.cut_short;
    first_line = λ front rest is held. sym (ap order_in is ∙ first_line front rest held);
    files_stay = w.files_stay;
    puts_stay = w.puts_stay;
    rose = w.rose;
    reads = same;
    calls = w.calls;
  })
  failed some_refused r same (inr w) = inr (files_cut some_refused r same w.0, w.1)

  pub explained : (status : Status) (some_refused : Bool) → Ran words all_before all_after bytes files some_refused → reads' ≡ reads → Writes status bytes files some_refused sink_before sink_after → Explains status words all_before all_after
  explained Done some_refused r same w = written some_refused false r same w.0 w.1
  explained SomeRefused some_refused r same w = written some_refused true r same w.0 w.1
  explained Usage some_refused r same w = absurd w
  explained (LoadRefused fault) some_refused r same w = absurd w
  explained (ScriptRefused flaw) some_refused r same w = absurd w
  explained ReadFault some_refused r same w = absurd w
  explained WriteFault some_refused r same w = failed some_refused r same w
  explained Memory some_refused r same w = (record { reads = same; writes = w.0.writes; calls = w.1 }, inr (files_cut some_refused r same w.0))
  explained (ReplayRefused fault) some_refused r same w = absurd w

-- which status comes
same_if_told : {T : Type 0} (told : Option T) (one other : T) → IfSome told (λ t. one ≡ t) → told ≡ Some other → one ≡ other
same_if_told told one other h is = subst (λ t. IfSome t (λ u. one ≡ u)) is h

course_told : (words : List (List ℕ)) (before : Outside) (files files' later : List File) (script script' : List ℕ) (course : Course) → AreTold before files' later script' → course_of words files' later script' ≡ course
    → before.files ≡ Some files → before.left ≡ Some script → course_of words files files script ≡ course
course_told words before files files' later script script' course told is f s =
    ap₂ (λ (fs ls : List File). course_of words fs ls script) (sym (same_if_told before.files files' files told.files_told f)) (sym (same_if_told before.files later files told.later_told f))
    ∙ ap (course_of words files' later) (sym (same_if_told before.left script' script told.script_told s)) ∙ is

comes : (status : Status) (one other : Course) → one ≡ other → ComesTo other status → ComesTo one status
comes status one other is h = subst (λ c. ComesTo c status) (sym is) h

refused_comes : (status : Status) (words : List (List ℕ)) (before after : Outside) → IsRefused words before after status → IsComplete status words before after
refused_comes status words before after e files script f s quiet =
    inr (comes status (course_of words files files script) (Stops status) (course_told words before files e.files e.later script e.script (Stops status) e.told e.course f s) refl)

ran_comes : (status : Status) (words : List (List ℕ)) (before after : Outside) (bytes : List ℕ) (put : List File) (some_refused : Bool) → Ran words before after bytes put some_refused → IsRunStatus status
    → IsComplete status words before after
ran_comes status words before after bytes put some_refused r h files script f s quiet =
    inr (comes status (course_of words files files script) (Runs r.start r.commands r.order) (course_told words before files r.inputs.files r.inputs.later script r.inputs.script (Runs r.start r.commands r.order) r.inputs.told r.inputs.course f s) h)

no_read_fault : (words : List (List ℕ)) (before after : Outside) → IsSourceFault words before after ⊎ (IsLoadingFault words before after ⊎ IsReplayFault words before after) → IsFaultless before after → ⊥
no_read_fault words before after (inl h) quiet = quiet.reads h.rose
no_read_fault words before after (inr (inl h)) quiet = quiet.calls h.rose
no_read_fault words before after (inr (inr h)) quiet = quiet.calls h.rose

no_write_fault : (words : List (List ℕ)) (before after : Outside) → IsWriteFault words before after → IsFaultless before after → ⊥
no_write_fault words before after (inl h) quiet = quiet.writes h.rose
no_write_fault words before after (inr h) quiet = quiet.calls h.1

pub completed : (status : Status) (words : List (List ℕ)) (before after : Outside) → Explains status words before after → IsComplete status words before after
completed Done words before after e = ran_comes Done words before after e.bytes e.files false e.ran tt
completed SomeRefused words before after e = ran_comes SomeRefused words before after e.bytes e.files true e.ran tt
completed Usage words before after e = refused_comes Usage words before after e
completed (LoadRefused fault) words before after e = refused_comes (LoadRefused fault) words before after e
completed (ScriptRefused flaw) words before after e = refused_comes (ScriptRefused flaw) words before after e
completed ReadFault words before after e = λ files script f s quiet. absurd (no_read_fault words before after e.cause quiet)
completed WriteFault words before after e = λ files script f s quiet. absurd (no_write_fault words before after e quiet)
completed Memory words before after e = λ files script f s quiet. inl refl
completed (ReplayRefused fault) words before after e = refused_comes (ReplayRefused fault) words before after e
