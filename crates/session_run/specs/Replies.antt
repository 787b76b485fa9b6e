-- What a command is answered, the directory after it, and the bytes that its session has used.
use Rattle.std.specs.Prelude.{ℕ, ◌+◌, ◌++◌, ◌∷◌, nat_le, cond, find, is_none, List, [], Option, Some, None, Result, Ok, Err, length, codes, decimal}
use Rattle.name_core.specs.declared.name.Name.{Name}
use Rattle.lattice_core.specs.declared.ray.Ray.{Ray}
use Rattle.lattice_core.specs.declared.view.View.{View}
use Rattle.lattice_core.specs.Tiles.{tiles_of}
use Rattle.outside_core.specs.declared.traits.File.{File}
use Rattle.transcript.specs.Lines.{text_of}
use Rattle.transcript.specs.Run.{Reply, Accepted, Refused, Rules, State}
use Rattle.command_set.specs.Refusals.{refusal_text}
use Rattle.command_set.specs.declared.command.Command.{Command}
use Rattle.command_set.specs.declared.command.Command.TheVariants.{Bad, Edit as IsEdit, Query as IsQuery, Shoot as IsShoot}
use Rattle.command_set.specs.declared.command.Query.{Query}
use Rattle.command_set.specs.declared.command.Query.TheVariants as queries
use Rattle.command_set.specs.declared.command.Shoot.{Shoot}
use Rattle.command_set.specs.declared.command.Shoot.TheVariants.{Picture, Check, Area, Edge}
use Rattle.command_set.specs.declared.refusal.Refusal.{Refusal}
use Rattle.command_set.specs.declared.refusal.Refusal.TheVariants.{Missing, Instances, Quota, Memory}
use Rattle.asc_form.specs.Written.{written}
use Rattle.directory.specs.Listing.{Listing}
use Rattle.directory.specs.Walks.{Entries, object_of}
use Rattle.edit_core.specs.Refused.{edited}
pub use Rattle.edit_core.specs.Modelling.{directory_made}
use Rattle.report_text.specs.Listings.{listings, written_lines}
use Rattle.report_text.specs.Names.{names_lines}
use Rattle.report_text.specs.Shots.{shot_lines}
use Rattle.report_text.specs.Overlaps.{overlap_lines}
use Rattle.report_text.specs.Areas.{area_lines}
use Rattle.report_text.specs.Slants.{slant_lines}
use Rattle.area_tool.specs.Areas.{area}
use Rattle.area_tool.specs.Presented.{presented_in, view_presents}
use Rattle.edge_tool.specs.Edges.{edge_bytes, edge_count}
use Rattle.slant_ray.specs.declared.ray.SlantRay.{SlantRay}
use Rattle.slant_ray.specs.Rays.{direction_of}
use Rattle.oblique_ray.specs.Shots.{slabs_on}
use Rattle.ppm_write.specs.Pictures.{header_text}
use Rattle.tile_shot.specs.Pixels.{view_bytes}
use Rattle.tile_shot.specs.Reports.{view_report}
use Rattle.shot_core.specs.Regions.{Region}
use Rattle.shot_core.specs.Shots.{lit_of}
use Rattle.scene_prep.specs.declared.fault.PrepFault.{PrepFault}
use Rattle.scene_prep.specs.declared.fault.PrepFault.TheVariants as prep
use Rattle.scene_prep.specs.Scenes.{scene_of}
use Rattle.scene_prep.specs.Outcomes.{prep_fault}
use Rattle.session_run.specs.declared.answer.Found.{Found}
use Rattle.tile_shot.specs.Named.{TileName}
use Rattle.view_shot.specs.Kept.{after_picture, reused, shot, tile_names}
use Rattle.session_run.specs.Own.{OwnState}
pub use Rattle.session_run.specs.Own.{nothing_used}

-- what a command is answered: the lines of its body, with a file where it puts one, or why it is refused
abbrev pub Outcome : Type 0
Outcome = Result Found Refusal

-- the lines of a body, and no file
abbrev pub lines_alone : List (List ℕ) → Found
lines_alone lines = record { body = lines; file = None }

abbrev pub bytes_of : Option File → ℕ
bytes_of None = 0
bytes_of (Some file) = length file.bytes

-- the bytes of a body, with their line feeds, and of a file
abbrev pub size_of : Found → ℕ
size_of found = length (text_of found.body) + bytes_of found.file

-- the most bytes that the bodies and files of one session may have
abbrev pub most_used : ℕ
most_used = 67108864

-- a body and a file, where the bytes used with them are no more than that
abbrev pub within_quota : ℕ → Outcome → Outcome
within_quota used (Ok found) = cond (nat_le (used + size_of found) most_used) (Ok found) (Err Quota)
within_quota used (Err refusal) = Err refusal

-- why names are not shot at
abbrev pub refusal_of_prep : PrepFault → Refusal
refusal_of_prep (prep.Missing name) = Missing name
refusal_of_prep (prep.TooMany size) = Instances size
refusal_of_prep prep.Memory = Memory

abbrev pub found_unless : Option PrepFault → Found → Outcome
found_unless None found = Ok found
found_unless (Some fault) found = Err (refusal_of_prep fault)

-- a line for each partition of a ray and a scene
abbrev pub lines_of_scene : List Region → Ray → List (List ℕ)
lines_of_scene scene ray = shot_lines scene (lit_of scene ray)

-- the partitions of a ray and the regions of the names, or why these make no scene
abbrev pub shot_of : Entries → Ray → List Name → Outcome
shot_of directory ray names = found_unless (prep_fault directory names) (lines_alone (lines_of_scene (scene_of directory names) ray))

-- a line for each partition of a ray in a lattice direction and a scene
abbrev pub lines_of_slant : List Region → SlantRay → List (List ℕ)
lines_of_slant scene ray = slant_lines scene (slabs_on scene ray.origin (direction_of ray))

-- the partitions of such a ray and the regions of the names, or why these make no scene
abbrev pub slant_of : Entries → SlantRay → List Name → Outcome
slant_of directory ray names = found_unless (prep_fault directory names) (lines_alone (lines_of_slant (scene_of directory names) ray))

-- `picture`, the file, its columns and rows, how many tiles it has, and how many of them were shot and how many reused
abbrev pub picture_line : Name → View → ℕ → ℕ → List ℕ
picture_line file view shot reused =
    codes "picture " ++ (file ++ (codes " " ++ (decimal view.w ++ (codes " " ++ (decimal view.h ++ (codes " tiles " ++ (decimal (tiles_of view) ++ (codes " shot " ++ (decimal shot ++ (codes " reused " ++ decimal reused))))))))))

-- a picture's file: its head, and the pixels of the view row by row
abbrev pub picture_bytes : List Region → View → List ℕ
picture_bytes scene view = header_text view.w view.h ++ view_bytes scene view

-- The picture of a scene as a file, and its line. Those of its tiles that are kept are reused, and the others are shot; whichever
-- they are, its bytes are those of all pixels of the scene.
abbrev pub pictured : List TileName → List Region → Name → View → Found
pictured kept scene file view = record {
  body = picture_line file view (length (shot kept (tile_names scene view))) (length (reused kept (tile_names scene view))) ∷ [];
  file = Some (record { name = file; bytes = picture_bytes scene view });
}

-- the picture of the regions of the names, where these tiles are kept, or why the names make no scene
abbrev pub picture_of : Entries → List TileName → Name → View → List Name → Outcome
picture_of directory kept file view names = found_unless (prep_fault directory names) (pictured kept (scene_of directory names) file view)

-- a line for each two regions of a scene that overlap on some ray of a view
abbrev pub lines_of_check : List Region → View → List (List ℕ)
lines_of_check scene view = overlap_lines scene (view_report scene view)

-- the overlaps of the regions of the names, or why these make no scene
abbrev pub check_of : Entries → View → List Name → Outcome
check_of directory view names = found_unless (prep_fault directory names) (lines_alone (lines_of_check (scene_of directory names) view))

-- a line for each region of a scene that some pixel of a view presents, with how many do
abbrev pub lines_of_areas : List Region → View → List (List ℕ)
lines_of_areas scene view = area_lines scene (area (view_presents scene view))

-- the areas of the regions of the names, or why these make no scene
abbrev pub area_of : Entries → View → List Name → Outcome
area_of directory view names = found_unless (prep_fault directory names) (lines_alone (lines_of_areas (scene_of directory names) view))

-- `edges`, the file, its columns and rows, and how many of its pixels are white
abbrev pub edge_line : Name → View → ℕ → List ℕ
edge_line file view white = codes "edges " ++ (file ++ (codes " " ++ (decimal view.w ++ (codes " " ++ (decimal view.h ++ (codes " white " ++ decimal white))))))

-- the picture of the edges between what pixels present, as a file, and its line
abbrev pub edged_by : (ℕ → ℕ → ℕ) → Name → View → Found
edged_by values file view = record {
  body = edge_line file view (edge_count view values) ∷ [];
  file = Some (record { name = file; bytes = header_text view.w view.h ++ edge_bytes view values });
}

-- the picture of the edges of a scene
abbrev pub edged : List Region → Name → View → Found
edged scene file view = edged_by (presented_in scene view) file view

-- the edges of the regions of the names, or why these make no scene
abbrev pub edge_of : Entries → Name → View → List Name → Outcome
edge_of directory file view names = found_unless (prep_fault directory names) (edged (scene_of directory names) file view)

-- what a command that shoots each ray of a view finds, where these tiles are kept
abbrev pub viewed : Listing → List TileName → Shoot → Outcome
viewed d kept (Picture file view names) = picture_of d.objects kept file view names
viewed d kept (Check view names) = check_of d.objects view names
viewed d kept (Area view names) = area_of d.objects view names
viewed d kept (Edge file view names) = edge_of d.objects file view names

-- the first of the names that is not there
abbrev pub first_missing : Entries → List Name → Option Name
first_missing directory names = find (λ name. is_none (object_of directory name)) names

abbrev pub lines_unless_missing : Option Name → List (List ℕ) → Outcome
lines_unless_missing None lines = Ok (lines_alone lines)
lines_unless_missing (Some name) lines = Err (Missing name)

-- the written text of the directory as a file, and a line with the file's name
abbrev pub saved : Listing → Name → Found
saved d file = record { body = (codes "saved " ++ file) ∷ []; file = Some (record { name = file; bytes = written d }) }

-- what a query finds
abbrev pub found : Listing → Query → Outcome
found d (queries.List names) = lines_unless_missing (first_missing d.objects names) (written_lines d.objects names)
found d queries.Names = Ok (lines_alone (names_lines d.objects))
found d (queries.Tree names) = lines_unless_missing (first_missing d.objects names) (listings d.objects names)
found d (queries.Save file) = Ok (saved d file)
found d (queries.Shot ray names) = shot_of d.objects ray names
found d (queries.Slant ray names) = slant_of d.objects ray names

abbrev pub edit_outcome : Result Listing Refusal → Outcome
edit_outcome (Ok made) = Ok (lines_alone [])
edit_outcome (Err refusal) = Err refusal

-- what an edit is answered, by what a table replied to it: want of memory there is a refusal here
abbrev pub table_outcome : {E : Type 0} → Result (Result (Unit {0}) Refusal) E → Outcome
table_outcome (Ok (Ok done)) = Ok (lines_alone [])
table_outcome (Ok (Err refusal)) = Err refusal
table_outcome (Err memory) = Err Memory

-- what a command is answered, by what its session has of its own; the body of an edit is empty
abbrev pub outcome_of : Listing → OwnState → Command → Outcome
outcome_of d own (Bad refusal) = Err refusal
outcome_of d own (IsEdit edit) = edit_outcome (edited d edit)
outcome_of d own (IsQuery query) = within_quota own.used (found d query)
outcome_of d own (IsShoot shoot) = within_quota own.used (viewed d own.tiles shoot)

-- the bytes used after an answer: an accepted one adds those of its body and of its file
abbrev pub used_after : ℕ → Outcome → ℕ
used_after used (Ok found) = used + size_of found
used_after used (Err refusal) = used

-- the tiles that are kept after a command that is accepted: a picture moves those that it reuses and puts in those that it shot
abbrev pub tiles_with : Listing → List TileName → Command → List TileName
tiles_with d kept (Bad refusal) = kept
tiles_with d kept (IsEdit edit) = kept
tiles_with d kept (IsQuery query) = kept
tiles_with d kept (IsShoot (Picture file view names)) = after_picture kept (tile_names (scene_of d.objects names) view)
tiles_with d kept (IsShoot (Check view names)) = kept
tiles_with d kept (IsShoot (Area view names)) = kept
tiles_with d kept (IsShoot (Edge file view names)) = kept

-- a refused command changes none of them
abbrev pub tiles_by : Outcome → List TileName → List TileName → List TileName
tiles_by (Ok found) after kept = after
tiles_by (Err refusal) after kept = kept

-- what the session has of its own after an answer
abbrev pub own_with : Listing → OwnState → Command → Outcome → OwnState
own_with d own command outcome = record { tiles = tiles_by outcome (tiles_with d own.tiles command) own.tiles; used = used_after own.used outcome }

-- and after a command that was answered `memory`: one that shoots each ray of a view leaves no tile kept
abbrev pub forgotten : OwnState → Command → OwnState
forgotten own (Bad refusal) = own
forgotten own (IsEdit edit) = own
forgotten own (IsQuery query) = own
forgotten own (IsShoot shoot) = record own { tiles = [] }

abbrev pub shown : Outcome → Reply File
shown (Ok found) = Accepted found.body found.file
shown (Err refusal) = Refused (refusal_text refusal)

-- The rules of the core. What a session has of its own are the tiles that it keeps and the number of bytes that it has used.
abbrev pub core_rules : Rules Listing OwnState Command File
core_rules = record {
  edited = directory_made;
  reply = λ d own command. shown (outcome_of d own command);
  kept = λ d own command. own_with d own command (outcome_of d own command);
  forgotten = forgotten;
}

-- the empty directory
abbrev pub no_objects : Listing
no_objects = record { title = []; objects = [] }

-- the state from which a run begins: the directory, version 0, and nothing kept and nothing used by any session
abbrev pub start_from : Listing → State Listing OwnState
start_from d = record { book = record { directory = d; version = 0 }; own = λ session. nothing_used }
