-- The law of scale for models: where all lengths of a directory are m times as large, its names come to the same regions, m times as large,
-- and every picture of the larger view has the same bytes.
use Rattle.std.specs.Prelude.{◌≡◌, ◌↔◌, ◌<◌, ℕ, ℤ, pos, ◌*ℤ◌, List, map, Option}
use Rattle.lattice_core.specs.declared.limit.TheConstants.{FAR, MILLIMETRE}
use Rattle.lattice_core.specs.declared.ray.Ray.{Ray}
use Rattle.lattice_core.specs.declared.vector.V3.{V3}
use Rattle.lattice_core.specs.declared.view.View.{View}
use Rattle.lattice_core.specs.Vectors.{scaled}
use Rattle.lattice_core.specs.Views.{pixel_ray}
use Rattle.name_core.specs.declared.name.Name.{Name}
use Rattle.object_set.specs.Objects.{Parts}
use Rattle.directory.specs.declared.fault.DirFault.{DirFault}
use Rattle.directory.specs.Edits.{appended, replaced, removed, renamed_all, put_fault, replace_fault, remove_fault, rename_fault}
use Rattle.directory.specs.Walks.{Entries, IsSound}
use Rattle.ppm_write.specs.Pictures.{block_bytes, whole_span}
use Rattle.surd_order.specs.declared.position.Pos.{Pos}
use Rattle.prim_arb8.specs.Faces.{first_fault, cases_of}
use Rattle.shot_core.specs.Regions.{Region}
use Rattle.shot_core.specs.Pruned.{by_place}
use Rattle.shot_core.specs.Shots.{overlaps_on_up_to}
use Rattle.shot_core.specs.declared.pair.Pair.{Pair}
use Rattle.tile_shot.specs.Pixels.{part_of, pixel_up_to, view_bytes}
use Rattle.tile_shot.specs.Reports.{Spot, CheckedRay, spots_of, report_on, view_report}
use Rattle.scene_prep.specs.Outcomes.{prep_fault}
use Rattle.scene_prep.specs.Scenes.{scene_of}
use Rattle.scene_prep.specs.Sizes.{names_size}
use Rattle.solid_set.specs.Times.{enlarged}
use Rattle.scale_laws.specs.Scenes.{AreLargerRegions, larger_view}
use Rattle.scale_laws.specs.SceneLaws.{ScalesToTenths, millimetre}
use Rattle.scale_laws.specs.Models.{larger_object, larger_directory}

-- what a region is called: its place in a scene, the path of names that leads to it, and its number
pub record Heading : Type 0 where
  pub place : ℕ
  pub path : List ℕ
  pub id : ℕ

abbrev pub heading_of : Region → Heading
heading_of r = record { place = r.place; path = r.path; id = r.body.id }

-- names come to the same regions, so many times as large: as many with the same places, paths, numbers, air, colours and trees. They are
-- refused for the same name, or for the same size, where the directory's names are
pub record ComeToLarger (m : ℕ) (directory larger : Entries) (names : List Name) : Type 0 where
  pub regions : AreLargerRegions m (scene_of directory names) (scene_of larger names)
  pub headings : map heading_of (scene_of larger names) ≡ map heading_of (scene_of directory names)
  pub size : names_size larger names ≡ names_size directory names
  pub fault : prep_fault larger names ≡ prep_fault directory names

-- a directory with all lengths so many times as large comes to regions that are so many times as large (`ComeToLarger`), whatever the directory
-- and the names
abbrev pub ModelsScale : Type 0
ModelsScale = (m : ℕ) (directory : Entries) (names : List Name) → 0 < m → ComeToLarger m directory (larger_directory m directory) names

-- the bytes of a view's pixels, row by row from the top, where rays end so far
abbrev pub view_bytes_up_to : ℤ → List Region → View → List ℕ
view_bytes_up_to far regions view = block_bytes (λ column row part. part_of (pixel_up_to far regions (pixel_ray view column row)) part) (whole_span view)

-- where the lengths of a directory were millimetres and count tenths now, and the ray's length with them, a ray has of the regions of names
-- what it had, ten times as far
abbrev pub RaysOfModelsScaleToTenths : Type 0
RaysOfModelsScaleToTenths = (far : ℤ) (directory : Entries) (names : List Name) (ray : Ray) → FAR ≡ MILLIMETRE *ℤ far
    → ScalesToTenths far (scene_of directory names) (scene_of (larger_directory millimetre directory) names) ray

-- and each picture of a view of names has the bytes that it had
abbrev pub PicturesOfModelsStay : Type 0
PicturesOfModelsStay = (far : ℤ) (directory : Entries) (names : List Name) (view : View) → FAR ≡ MILLIMETRE *ℤ far
    → view_bytes (scene_of (larger_directory millimetre directory) names) (larger_view millimetre view) ≡ view_bytes_up_to far (scene_of directory names) view

-- a ray of a view that ends so far, and the overlaps on it by the places of their regions
abbrev pub checked_ray_up_to : ℤ → List Region → View → Spot → CheckedRay
checked_ray_up_to far regions view spot = record { spot = spot; runs = map (by_place regions) (overlaps_on_up_to far regions (pixel_ray view spot.column spot.row)) }

-- the report of a whole view, where rays end so far
abbrev pub view_report_up_to : ℤ → List Region → View → List Pair
view_report_up_to far regions view = report_on (map (λ r. r.place) regions) (map (checked_ray_up_to far regions view) (spots_of (whole_span view)))

-- a pair with the ends of its first overlap moved
abbrev pub moved_pair : (Pos → Pos) → Pair → Pair
moved_pair move pair = record pair { start = move pair.start; end = move pair.end }

-- and each report of a view of names has the pairs that it had, with as many rays and the same first ones, where they overlap ten times as far
abbrev pub ReportsOfModelsScaleToTenths : Type 0
ReportsOfModelsScaleToTenths = (far : ℤ) (directory : Entries) (names : List Name) (view : View) → FAR ≡ MILLIMETRE *ℤ far
    → view_report (scene_of (larger_directory millimetre directory) names) (larger_view millimetre view) ≡ map (moved_pair (enlarged millimetre)) (view_report_up_to far (scene_of directory names) view)

-- vertices that lie so many times as far make a solid where these do, and have else the same first fault
abbrev pub FaultsStay : Type 0
FaultsStay = (m : ℕ) (vertices : List V3) → 0 < m → first_fault (cases_of (map (scaled (pos m)) vertices)) ≡ first_fault (cases_of vertices)

-- an edit of a directory, and that of the larger one: both are refused for the same cause, and where they are not, the larger one makes
-- the larger list
pub record EditsAlike (m : ℕ) (fault larger_fault : Option DirFault) (made larger_made : Entries) : Type 0 where
  pub fault_is : larger_fault ≡ fault
  pub made_is : larger_made ≡ larger_directory m made

-- a larger directory is sound where the directory is, and takes the edits that this takes
pub record IsEditedAlike (m : ℕ) (directory larger : Entries) : Type 0 where
  pub sound : IsSound larger ↔ IsSound directory
  pub put : (a : Name) (o : Parts) → EditsAlike m (put_fault directory a o) (put_fault larger a (larger_object m o)) (appended directory a o) (appended larger a (larger_object m o))
  pub replace : (a : Name) (o : Parts) → EditsAlike m (replace_fault directory a o) (replace_fault larger a (larger_object m o)) (replaced directory a o) (replaced larger a (larger_object m o))
  pub remove : (a : Name) → EditsAlike m (remove_fault directory a) (remove_fault larger a) (removed directory a) (removed larger a)
  pub rename : (a b : Name) → EditsAlike m (rename_fault directory a b) (rename_fault larger a b) (renamed_all directory a b) (renamed_all larger a b)

-- a directory with all lengths so many times as large is sound where the directory is, and takes and refuses the same edits
-- (`IsEditedAlike`), whatever the directory
abbrev pub EditsStay : Type 0
EditsStay = (m : ℕ) (directory : Entries) → IsEditedAlike m directory (larger_directory m directory)
