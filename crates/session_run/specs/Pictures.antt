-- Pictures that are planned, and pictures in flight.
use Rattle.std.specs.Prelude.{◌≡◌, ◌++◌, ℕ, List, Option, Some, Result, Ok, Err, map}
use Rattle.name_core.specs.declared.name.Name.{Name}
use Rattle.lattice_core.specs.declared.view.View.{View}
use Rattle.command_set.specs.declared.refusal.Refusal.{Refusal}
use Rattle.ppm_write.specs.Pictures.{header_text}
use Rattle.shot_core.specs.Regions.{Region}
use Rattle.tile_shot.specs.Named.{TileName}
use Rattle.tile_shot.specs.Pixels.{view_bytes}
use Rattle.view_shot.specs.Kept.{tile_names}
use Rattle.view_shot.specs.Steps.{if_kept}
use Rattle.session_run.specs.Replies.{Outcome, pictured, within_quota}
use Rattle.session_run.specs.declared.answer.Found.{Found}
use Rattle.session_run.specs.declared.picture.Frame.{Frame}
use Rattle.session_run.specs.declared.picture.Planned.{Planned}

-- the answer of a picture with these pixels
abbrev pub framed : Frame → List ℕ → Found
framed frame pixels = record { body = frame.body; file = Some (record { name = frame.file; bytes = header_text frame.view.w frame.view.h ++ pixels }) }

-- what a picture of a scene is answered, where these tiles are kept
abbrev pub picture_outcome : ℕ → List TileName → List Region → Name → View → Outcome
picture_outcome used tiles scene file view = within_quota used (Ok (pictured tiles scene file view))

-- a plan is of these tiles of the view, and with the pixels of the view its answer is that of the picture
pub record IsPlanOf (used : ℕ) (tiles : List TileName) (scene : List Region) (file : Name) (view : View) (planned : Planned) : Type 0 where
  pub view_is : planned.frame.view ≡ view
  pub plan : planned.plan.names.items ≡ map (if_kept tiles) (tile_names scene view)
  pub outcome : ◌≡◌ {A = Outcome} (Ok (framed planned.frame (view_bytes scene view))) (picture_outcome used tiles scene file view)

-- or the picture is refused
abbrev pub IsPlan : ℕ → List TileName → List Region → Name → View → Result Planned Refusal → Type 0
IsPlan used tiles scene file view (Ok planned) = IsPlanOf used tiles scene file view planned
IsPlan used tiles scene file view (Err refusal) = ◌≡◌ {A = Outcome} (Err refusal) (picture_outcome used tiles scene file view)

-- a flight of this scene and view, by these names of tiles, is of the picture, and with the pixels of the view this is its answer
pub record IsFlightOf (used : ℕ) (tiles : List TileName) (scene : List Region) (file : Name) (view : View) (in_scene : List Region) (in_view : View) (names : List (Option TileName)) (frame : Frame) : Type 0 where
  pub scene_is : in_scene ≡ scene
  pub view_is : in_view ≡ view
  pub frame_is : frame.view ≡ view
  pub plan : names ≡ map (if_kept tiles) (tile_names scene view)
  pub outcome : ◌≡◌ {A = Outcome} (Ok (framed frame (view_bytes scene view))) (picture_outcome used tiles scene file view)
