-- What calls come to, and the lines of statuses, as the definitions have them. Each is proved by computing.
use Rattle.std.specs.Prelude.{◌≡◌, ℕ, List, [], ◌∷◌, ◌++◌, None, Some, map, pos, negsuc, refl, codes}
use Rattle.std.specs.Fmt.{digits}
use Rattle.solid_set.specs.Rpps.{vector}
use Rattle.solid_set.specs.declared.solid.Solid.TheVariants as solids
use Rattle.object_set.specs.Objects.{Parts}
use Rattle.object_set.specs.declared.object.Body.TheVariants as bodies
use Rattle.outside_core.specs.Files.{bytes_in}
use Rattle.outside_core.specs.declared.traits.File.{File}
use Rattle.transcript.specs.Merge.{Entry, entry}
use Rattle.lattice_core.specs.declared.ray.Dir.TheVariants.{MinusZ, PlusX}
use Rattle.lattice_core.specs.declared.view.View.{View}
use Rattle.command_set.specs.declared.command.Command.{Command}
use Rattle.command_set.specs.declared.command.Command.TheVariants.{Bad, Edit, Query, Shoot}
use Rattle.command_set.specs.declared.command.Edit.TheVariants.{Kill, Set}
use Rattle.command_set.specs.declared.command.Query.TheVariants.{Names, Shot}
use Rattle.command_set.specs.declared.command.Shoot.TheVariants.{Picture, Check}
use Rattle.command_set.specs.declared.refusal.Refusal.TheVariants.{Syntax}
use Rattle.directory.specs.Listing.{Listing}
use Rattle.mged_words.specs.declared.script.ScriptFlaw.TheVariants.{Size, Session}
use Rattle.asc_form.specs.declared.fault.AscKind.TheVariants as kinds
use Rattle.mged_top.specs.declared.status.LoadFault.TheVariants.{NoFile, At}
use Rattle.mged_top.specs.declared.status.ReplayFault.TheVariants as replay
use Rattle.mged_top.specs.declared.status.Status.TheVariants as status
use Rattle.mged_words.specs.Commands.{ray_of, view_refusal}
use Rattle.scene_make.specs.Demo.{demo}
use Rattle.session_run.specs.Replies.{no_objects}
use Rattle.mged_top.specs.Courses.{Stops, Runs, course_of}
use Rattle.mged_top.specs.Outside.{AreSet}
use Rattle.mged_top.specs.Statuses.{status_line}

-- ---- what a call comes to

-- words that ask for nothing end the call, whatever the files and the script are
bad_words : (files : List File) (script : List ℕ) → course_of (codes "--loa" ∷ codes "m" ∷ []) files files script ≡ Stops status.Usage
bad_words files script = refl

no_name : (files : List File) (script : List ℕ) → course_of (codes "--load=a/b" ∷ []) files files script ≡ Stops status.Usage
no_name files script = refl

-- no words and an empty script: no commands are run from the empty directory
nothing_asked : course_of [] [] [] [] ≡ Runs no_objects [] None
nothing_asked = refl

-- files that are not asked for are of no matter
nothing_loaded : (files : List File) → course_of [] files files (codes "ls\n") ≡ Runs no_objects (entry 1 (Query Names) ∷ []) None
nothing_loaded files = refl

abbrev load_m : List (List ℕ)
load_m = codes "--load" ∷ codes "m" ∷ []

abbrev file_m : List ℕ → File
file_m text = record { name = codes "m"; bytes = text }

missing_file : (script : List ℕ) → course_of load_m (record { name = codes "n"; bytes = [] } ∷ []) [] script ≡ Stops (status.LoadRefused (NoFile (codes "m")))
missing_file script = refl

-- the line of the first faulty command, and the kind of its fault; the script is not looked at
faulty_file : (script : List ℕ) → course_of load_m (file_m (codes "title a\n\nunits in\n") ∷ []) [] script ≡ Stops (status.LoadRefused (At 3 kinds.NoType))
faulty_file script = refl

faulty_script : course_of [] [] [] (codes "ls\n@9 ls\n") ≡ Stops (status.ScriptRefused (Session 2))
faulty_script = refl

-- a command that is refused is a command: it is answered, and ends nothing
faulty_command : course_of [] [] [] (codes "@3 kill\n") ≡ Runs no_objects (entry 3 (Bad Syntax) ∷ []) None
faulty_command = refl

abbrev sphere : Parts
sphere = record { body = bodies.Solid (solids.Sphere (record { centre = vector (pos 0) (pos 0) (pos 0); radius = pos 50 })); kept = [] }

abbrev one_sphere : Listing
one_sphere = record { title = codes "a"; objects = (codes "s", sphere) ∷ [] }

one_command : course_of load_m (file_m (codes "title a\nput s sph V {0 0 0} r 5\n") ∷ []) [] (codes "# away\n@2 kill s") ≡ Runs one_sphere (entry 2 (Edit (Kill (codes "s" ∷ []))) ∷ []) None
one_command = refl

-- of two files of one name the later one counts
later_file : course_of load_m (file_m (codes "frob") ∷ file_m [] ∷ []) [] [] ≡ Runs no_objects [] None
later_file = refl

-- a number makes its directory, and the commands are those of its script; files, and what there is to be read, are of no
-- matter
abbrev seen : View
seen = record { corner = vector (negsuc 11049) (pos 11050) (pos 15000); dir = MinusZ; cell = pos 100; w = 222; h = 222 }

abbrev all : List (List ℕ)
all = codes "all" ∷ []

abbrev demo_commands : List Command
demo_commands =
    Shoot (Picture (codes "demo1.ppm") seen all)
    ∷ Shoot (Check seen all)
    ∷ Edit (Set (codes "r555") (record { key = codes "rgb"; value = codes "255 0 0" }))
    ∷ Shoot (Picture (codes "demo2.ppm") seen all)
    ∷ Query (Shot (ray_of (vector (negsuc 19999) (negsuc 8999) (negsuc 8999)) PlusX) all)
    ∷ []

a_demo : (files : List File) (script : List ℕ) → course_of (codes "--demo" ∷ codes "007" ∷ []) files files script ≡ Runs (demo 7) (map (entry 1) demo_commands) None
unfolding view_refusal
a_demo files script = refl

file_and_demo : (files : List File) (script : List ℕ) → course_of (codes "--demo=7" ∷ codes "--load=m" ∷ []) files files script ≡ Stops status.Usage
file_and_demo files script = refl

-- with an order file the commands are run in its order, where this merges them; what stands behind its first line is of no
-- matter
abbrev replay_m : List (List ℕ)
replay_m = codes "--replay" ∷ codes "m" ∷ []

abbrev two_sessions : List ℕ
two_sessions = codes "ls\n@2 ls\n"

abbrev two_commands : List (Entry Command)
two_commands = entry 1 (Query Names) ∷ entry 2 (Query Names) ∷ []

an_order : course_of replay_m [] (file_m (codes "order 2 1\n2.1 ok") ∷ []) two_sessions ≡ Runs no_objects two_commands (Some (2 ∷ 1 ∷ []))
an_order = refl

no_merge : course_of replay_m [] (file_m (codes "order 2 2\n") ∷ []) two_sessions ≡ Stops (status.ReplayRefused replay.Order)
no_merge = refl

no_order : course_of replay_m [] (file_m (codes "order 2 1 ") ∷ []) two_sessions ≡ Stops (status.ReplayRefused replay.Order)
no_order = refl

no_order_file : course_of replay_m [] [] two_sessions ≡ Stops (status.ReplayRefused (replay.NoFile (codes "m")))
no_order_file = refl

-- the script is looked at first
faulty_script_before_order : course_of replay_m [] [] (codes "@9 ls\n") ≡ Stops (status.ScriptRefused (Session 1))
faulty_script_before_order = refl

-- ---- the files after some puts

-- the last of a name counts, and a name that is not put stays
two_puts : AreSet (Some (file_m (codes "old") ∷ [])) (Some (file_m (codes "old") ∷ file_m (codes "a") ∷ file_m (codes "b") ∷ [])) (file_m (codes "a") ∷ file_m (codes "b") ∷ [])
two_puts = (file_m (codes "old") ∷ file_m (codes "a") ∷ file_m (codes "b") ∷ [], refl, λ name. refl)

last_put : bytes_in ((file_m (codes "old") ∷ []) ++ (file_m (codes "a") ∷ file_m (codes "b") ∷ [])) (codes "m") ≡ Some (codes "b")
last_put = refl

-- ---- the lines of statuses

a_faulty_line : status_line (status.ScriptRefused (Session 12)) ≡ codes "mgedrt: script line 12 session"
unfolding digits
a_faulty_line = refl

too_long_a_script : status_line (status.ScriptRefused Size) ≡ codes "mgedrt: script size"
too_long_a_script = refl

no_such_file : status_line (status.LoadRefused (NoFile (codes "cup.asc"))) ≡ codes "mgedrt: load missing cup.asc"
no_such_file = refl

a_faulty_model : status_line (status.LoadRefused (At 7 kinds.Cycle)) ≡ codes "mgedrt: load line 7 cycle"
unfolding digits
a_faulty_model = refl

no_such_order_file : status_line (status.ReplayRefused (replay.NoFile (codes "o"))) ≡ codes "mgedrt: replay missing o"
no_such_order_file = refl

no_merge_line : status_line (status.ReplayRefused replay.Order) ≡ codes "mgedrt: replay order"
no_merge_line = refl
