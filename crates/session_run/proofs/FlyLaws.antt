-- A picture or a check in flight is what its command asks for.
use Rattle.std.proofs.Common.{◌≡◌, ◌∙◌, ℕ, List, Option, Ok, map, refl, ap, ap₂, sym}
use Rattle.lattice_core.specs.declared.view.View.{View}
use Rattle.name_core.specs.declared.name.Name.{Name}
use Rattle.command_set.specs.declared.command.Command.{Command}
use Rattle.command_set.specs.declared.command.Command.TheVariants.{Shoot as IsShoot}
use Rattle.command_set.specs.declared.command.Shoot.TheVariants.{Check, Picture}
use Rattle.directory.specs.Listing.{Listing}
use Rattle.scene_prep.specs.Outcomes.{IsSceneOf}
use Rattle.shot_core.specs.Regions.{Region}
use Rattle.tile_shot.specs.Named.{TileName}
use Rattle.tile_shot.specs.Pixels.{view_bytes}
use Rattle.view_shot.specs.Kept.{after_picture, tile_names}
use Rattle.view_shot.specs.Steps.{if_kept}
use Rattle.session_run.specs.Flights.{IsCheckFor, IsPictureFor}
use Rattle.session_run.specs.Own.{OwnState}
use Rattle.session_run.specs.Pictures.{IsFlightOf, framed, picture_outcome}
use Rattle.session_run.specs.Replies.{Outcome, lines_alone, lines_of_check, outcome_of, pictured, within_quota}
use Rattle.session_run.specs.declared.picture.Frame.{Frame}
use Rattle.session_run.proofs.KeepLaws.{of_scene}

module _ (d : Listing) (own : OwnState) (view : View) (names : List Name) (scene : List Region) (is : IsSceneOf (Ok scene) d.objects names) where
  picture_asked : (file : Name) → picture_outcome own.used own.tiles scene file view ≡ outcome_of d own (IsShoot (Picture file view names))
  picture_asked file = ap (within_quota own.used) (of_scene d.objects names scene (λ s. pictured own.tiles s file view) is)

  pub picture_flies : (file : Name) (in_scene : List Region) (in_view : View) (kept : List (Option TileName)) (frame : Frame) → IsFlightOf own.used own.tiles scene file view in_scene in_view kept frame
      → IsPictureFor d own (IsShoot (Picture file view names)) in_scene in_view kept frame
  picture_flies file in_scene in_view kept frame flight = record {
    frame_is = flight.frame_is ∙ sym flight.view_is;
    plan = flight.plan ∙ ap₂ (λ (s : List Region) (v : View). map (if_kept own.tiles) (tile_names s v)) (sym flight.scene_is) (sym flight.view_is);
    outcome = ap₂ {C = Outcome} (λ (s : List Region) (v : View). Ok (framed frame (view_bytes s v))) flight.scene_is flight.view_is ∙ flight.outcome ∙ picture_asked file;
    tiles = ap₂ (λ (s : List Region) (v : View). after_picture own.tiles (tile_names s v)) (flight.scene_is ∙ is.1) flight.view_is;
  }

  pub picture_refused : (file : Name) (outcome : Outcome) → outcome ≡ picture_outcome own.used own.tiles scene file view → outcome ≡ outcome_of d own (IsShoot (Picture file view names))
  picture_refused file outcome refused = refused ∙ picture_asked file

  pub check_flies : (in_scene shot : List Region) (in_view : View) → in_scene ≡ scene → shot ≡ scene → in_view ≡ view → IsCheckFor d own (IsShoot (Check view names)) in_scene shot in_view
  check_flies in_scene shot in_view scene_is shot_is view_is = record {
    scene_is = shot_is ∙ sym scene_is;
    outcome = ap₂ (λ (s : List Region) (v : View). within_quota own.used (Ok (lines_alone (lines_of_check s v)))) scene_is view_is
        ∙ ap (within_quota own.used) (of_scene d.objects names scene (λ s. lines_alone (lines_of_check s view)) is);
    tiles = refl;
  }

-- what is told of a check is what the command is answered
pub check_told : (d : Listing) (own : OwnState) (command : Command) (scene shot : List Region) (view : View) → IsCheckFor d own command scene shot view → (used : ℕ) → used ≡ own.used → (outcome : Outcome)
    → outcome ≡ within_quota used (Ok (lines_alone (lines_of_check scene view))) → outcome ≡ outcome_of d own command
check_told d own command scene shot view flies used same outcome is = is ∙ ap (λ (n : ℕ). within_quota n (Ok (lines_alone (lines_of_check scene view)))) same ∙ flies.outcome
