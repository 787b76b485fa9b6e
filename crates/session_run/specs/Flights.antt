-- Pictures and checks in flight: what their commands will be answered.
use Rattle.std.specs.Prelude.{◌≡◌, ◌≤◌, ℕ, Bool, true, false, List, Option, None, Some, Ok, length, map}
use Rattle.std.specs.Arc.{arc_value}
use Rattle.lattice_core.specs.declared.view.View.{View}
use Rattle.command_set.specs.declared.command.Command.{Command}
use Rattle.command_set.specs.declared.command.Command.TheVariants.{Shoot as IsShoot}
use Rattle.command_set.specs.declared.command.Shoot.{Shoot}
use Rattle.command_set.specs.declared.command.Shoot.TheVariants as shoots
use Rattle.directory.specs.Listing.{Listing}
use Rattle.shot_core.specs.Regions.{Region}
use Rattle.tile_shot.specs.Named.{TileName}
use Rattle.tile_shot.specs.Pixels.{view_bytes}
use Rattle.transcript.specs.Run.{answer_of, own_after}
use Rattle.session_merge.specs.Answered.{shown_as}
use Rattle.version_table.specs.Passes.{Adds, PassView}
use Rattle.version_table.specs.Run.{commits_in, note_of, state_after}
use Rattle.version_table.specs.declared.rule.Noted.{Noted}
use Rattle.edit_core.specs.Modelling.{commits, next}
use Rattle.view_shot.specs.Kept.{after_picture, tile_names}
use Rattle.view_shot.specs.Steps.{if_kept}
use Rattle.session_run.specs.Answers.{core_answer}
use Rattle.session_run.specs.Own.{OwnState}
use Rattle.session_run.specs.Pictures.{framed}
use Rattle.session_run.specs.Replies.{Outcome, core_rules, lines_alone, lines_of_check, outcome_of, tiles_with, within_quota}
use Rattle.session_run.specs.Sessions.{HasRun, IsNext, SessionView, book_at}
use Rattle.session_run.specs.declared.answer.Answer.{Answer}
use Rattle.session_run.specs.declared.flight.Flying.{Flying}
use Rattle.session_run.specs.declared.session.Begun.{Begun}
use Rattle.session_run.specs.declared.session.Begun.TheVariants.{Answered, InFlight}
use Rattle.session_run.specs.declared.flight.Flying.TheVariants.{Picture, Check}
use Rattle.session_run.specs.declared.picture.Frame.{Frame}

-- a picture in flight, of this scene and view, by these names of tiles, is what the command asks for
pub record IsPictureFor (d : Listing) (own : OwnState) (command : Command) (scene : List Region) (view : View) (names : List (Option TileName)) (frame : Frame) : Type 0 where
  pub frame_is : frame.view ≡ view
  pub plan : names ≡ map (if_kept own.tiles) (tile_names scene view)
  pub outcome : ◌≡◌ {A = Outcome} (Ok (framed frame (view_bytes scene view))) (outcome_of d own command)
  pub tiles : after_picture own.tiles (tile_names scene view) ≡ tiles_with d own.tiles command

-- and so is a check
pub record IsCheckFor (d : Listing) (own : OwnState) (command : Command) (scene shot : List Region) (view : View) : Type 0 where
  pub scene_is : shot ≡ scene
  pub outcome : within_quota own.used (Ok (lines_alone (lines_of_check scene view))) ≡ outcome_of d own command
  pub tiles : own.tiles ≡ tiles_with d own.tiles command

-- what is in flight is what the command asks for
abbrev pub Flies : {X : Type 0} → Listing → OwnState → Command → Flying X → Type 0
Flies d own command (Picture p) = IsPictureFor d own command (arc_value p.flight.scene) p.flight.view p.flight.plan.names.items p.frame
Flies d own command (Check c) = IsCheckFor d own command (arc_value c.scene) (arc_value c.flight.scene) c.flight.view

-- a command is put into flight: a picture or a check
abbrev pub does_fly : Command → Bool
does_fly (IsShoot (shoots.Picture file view names)) = true
does_fly (IsShoot (shoots.Check view names)) = true
does_fly command = false

-- a command that shoots each ray of a view
abbrev pub IsShooting : Command → Type 0
IsShooting command = (shoot : Shoot) × (command ≡ IsShoot shoot)

-- an answer, and what the session has of its own after it, are those of the command at this directory and version
abbrev pub IsLook : Listing → ℕ → Command → OwnState → Answer → OwnState → Type 0
IsLook d version command own answer kept =
    (core_answer answer ≡ answer_of core_rules (book_at d version) own (shown_as command (core_answer answer))) × (kept ≡ own_after core_rules (book_at d version) own (shown_as command (core_answer answer)))

-- a command was answered at this directory and version, or is in flight from there, and the session has the same of its own
abbrev pub IsBegun : {X : Type 0} → Listing → ℕ → Command → OwnState → OwnState → Begun X → Type 0
IsBegun d version command own kept (Answered answer) = IsLook d version command own answer kept
IsBegun d version command own kept (InFlight f) = (f.version ≡ version) × (arc_value f.directory ≡ d) × (arc_value f.command ≡ command) × Flies d own command f.flying × (kept ≡ own)

-- a command was posted as the session's next entry, at this directory and version
pub record IsPostedNext (opening : Listing) (command : Command) (own : OwnState) (old new : PassView Command) (d : Listing) (version : ℕ) (asked : Command) (kept : OwnState) : Type 0 where
  pub before : List (Noted Command)
  pub adds : Adds before (note_of old.session command false) old new
  pub version_is : version ≡ commits_in next commits opening new.seen
  pub directory_is : d ≡ state_after next opening new.seen
  pub asked_is : asked ≡ command
  pub kept_is : kept ≡ own
  pub shoots : IsShooting command

-- a command was answered as the session's next entry, or is in flight from there
abbrev pub IsBegunNext : {X : Type 0} → Listing → Command → OwnState → OwnState → PassView Command → PassView Command → Begun X → Type 0
IsBegunNext opening command own kept old new (Answered answer) = IsNext opening command own old new answer kept
IsBegunNext opening command own kept old new (InFlight f) =
    IsPostedNext opening command own old new (arc_value f.directory) f.version (arc_value f.command) kept × Flies (arc_value f.directory) own command f.flying

-- a session that waits can be run with a pass
abbrev pub IsReady : Option SessionView → PassView Command → Type 0
IsReady None pass = ⊥
IsReady (Some s) pass = (pass.session ≡ s.session) × (length s.commands ≤ pass.left)

-- it has run
abbrev pub HasRunOf : Listing → Option SessionView → PassView Command → PassView Command → List Answer → Type 0
HasRunOf opening None old new answers = ⊥
HasRunOf opening (Some s) old new answers = HasRun opening s.own s.commands old new answers
