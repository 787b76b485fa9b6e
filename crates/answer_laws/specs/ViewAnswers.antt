-- What the files of pictures and the lines of overlap checks and areas tell of the points of the rays of their view.
use Rattle.std.specs.Prelude.{◌≡◌, ◌<◌, ◌==◌, ℕ, List, ◌∷◌, [], ◌++◌, Option, Some, None, count_by, sum_by}
use Rattle.std.specs.List.{range_with_len}
use Rattle.name_core.specs.declared.name.Name.{Name}
use Rattle.lattice_core.specs.declared.view.View.{View}
use Rattle.lattice_core.specs.Views.{pixel_ray}
use Rattle.region_attr.specs.declared.attr.Rgb.{Rgb}
use Rattle.outside_core.specs.declared.traits.File.{File}
use Rattle.transcript.specs.Run.{Book, Marked, Reply, Accepted, Refused, answer_of}
use Rattle.command_set.specs.declared.command.Command.{Command}
use Rattle.command_set.specs.declared.command.Command.TheVariants.{Bad, Edit as IsEdit, Query as IsQuery, Shoot as IsShoot}
use Rattle.command_set.specs.declared.command.Shoot.{Shoot}
use Rattle.command_set.specs.declared.command.Shoot.TheVariants.{Picture, Check, Area, Edge}
use Rattle.directory.specs.Listing.{Listing}
use Rattle.directory.specs.Walks.{Entries}
use Rattle.shot_core.specs.declared.pair.Pair.{Pair}
use Rattle.ppm_write.specs.Pictures.{header_text, block_bytes, whole_span}
use Rattle.tile_shot.specs.Pixels.{part_of}
use Rattle.tile_shot.specs.Reports.{spots_of}
use Rattle.scene_prep.specs.Scenes.{scene_of}
use Rattle.report_text.specs.Areas.{area_lines}
use Rattle.report_text.specs.Overlaps.{overlap_lines}
use Rattle.edge_tool.specs.Edges.{IsEdgePicture, edge_count}
use Rattle.area_laws.specs.PlacePoints.{IsTruePlace}
use Rattle.view_laws.specs.PixelPoints.{IsTruePixel}
use Rattle.view_laws.specs.ReportPoints.{IsTrueReport}
use Rattle.session_run.specs.Own.{OwnState}
use Rattle.session_run.specs.Replies.{core_rules, edge_line}

-- the bytes of a picture, row by row behind its head, in which the pixel in each column and row has a colour that is true of the points
-- of its ray and of the regions of names
pub record IsTruePicture (objects : Entries) (view : View) (names : List Name) (bytes : List ℕ) : Type 0 where
  pub colour : ℕ → ℕ → Rgb
  pub bytes_are : bytes ≡ header_text view.w view.h ++ block_bytes (λ column row part. part_of (colour column row) part) (whole_span view)
  pub each : (column row : ℕ) → column < view.w → row < view.h → IsTruePixel (scene_of objects names) (pixel_ray view column row) (colour column row)

-- such bytes, and the only ones
pub record IsOnlyTruePicture (objects : Entries) (view : View) (names : List Name) (bytes : List ℕ) : Type 0 where
  pub told : IsTruePicture objects view names bytes
  pub alone : (others : List ℕ) → IsTruePicture objects view names others → others ≡ bytes

-- a file of that name with such bytes
abbrev pub IsTrueFile : Entries → View → List Name → Name → Option File → Type 0
IsTrueFile objects view names name None = ⊥
IsTrueFile objects view names name (Some file) = (file.name ≡ name) × IsOnlyTruePicture objects view names file.bytes

-- the lines of a list of pairs that is true of the points of the rays of a view and of the regions of names
pub record IsTrueCheck (objects : Entries) (view : View) (names : List Name) (lines : List (List ℕ)) : Type 0 where
  pub pairs : List Pair
  pub lines_are : lines ≡ overlap_lines (scene_of objects names) pairs
  pub points : IsTrueReport (scene_of objects names) view (spots_of (whole_span view)) pairs

-- such lines, and the only ones
pub record IsOnlyTrueCheck (objects : Entries) (view : View) (names : List Name) (lines : List (List ℕ)) : Type 0 where
  pub told : IsTrueCheck objects view names lines
  pub alone : (others : List (List ℕ)) → IsTrueCheck objects view names others → others ≡ lines

-- each pixel of a view presents the region without air that lies first on its ray, told by its place, or 0 where none does
abbrev pub ArePresented : Entries → View → List Name → (ℕ → ℕ → ℕ) → Type 0
ArePresented objects view names places = (column row : ℕ) → column < view.w → row < view.h → IsTruePlace (scene_of objects names) (pixel_ray view column row) (places column row)

-- on how many rays of a view the region of a place lies first, as is told for each column and row
abbrev pub rays_of : View → (ℕ → ℕ → ℕ) → ℕ → ℕ
rays_of view places place = sum_by (λ row. count_by (λ column. places column row == place) (range_with_len 0 view.w)) (range_with_len 0 view.h)

-- the lines of on how many rays each region lies first of those without air
pub record IsTrueArea (objects : Entries) (view : View) (names : List Name) (lines : List (List ℕ)) : Type 0 where
  pub places : ℕ → ℕ → ℕ
  pub lines_are : lines ≡ area_lines (scene_of objects names) (rays_of view places)
  pub each : ArePresented objects view names places

-- such lines, and the only ones
pub record IsOnlyTrueArea (objects : Entries) (view : View) (names : List Name) (lines : List (List ℕ)) : Type 0 where
  pub told : IsTrueArea objects view names lines
  pub alone : (others : List (List ℕ)) → IsTrueArea objects view names others → others ≡ lines

-- the bytes of a picture, row by row behind its head, in which a pixel is white where the one to its right or the one below it presents
-- another region, and else black, and a line of how many are white; what they present is true of the points of their rays
pub record IsTrueEdges (objects : Entries) (view : View) (names : List Name) (name : Name) (lines : List (List ℕ)) (bytes : List ℕ) : Type 0 where
  pub places : ℕ → ℕ → ℕ
  pub picture : List ℕ
  pub line_is : lines ≡ edge_line name view (edge_count view places) ∷ []
  pub bytes_are : bytes ≡ header_text view.w view.h ++ picture
  pub edges : IsEdgePicture view places picture
  pub each : ArePresented objects view names places

-- such a line and bytes, and the only ones
pub record IsOnlyTrueEdges (objects : Entries) (view : View) (names : List Name) (name : Name) (lines : List (List ℕ)) (bytes : List ℕ) : Type 0 where
  pub told : IsTrueEdges objects view names name lines bytes
  pub alone : (other_lines : List (List ℕ)) (others : List ℕ) → IsTrueEdges objects view names name other_lines others → (other_lines ≡ lines) × (others ≡ bytes)

-- a file of that name with such bytes, and such a line
abbrev pub IsTrueEdgeFile : Entries → View → List Name → Name → List (List ℕ) → Option File → Type 0
IsTrueEdgeFile objects view names name lines None = ⊥
IsTrueEdgeFile objects view names name lines (Some file) = (file.name ≡ name) × IsOnlyTrueEdges objects view names name lines file.bytes

-- the files of pictures and of edges are such files, and the lines of checks and of areas are such lines
abbrev pub IsTrueOfShoot : Entries → Shoot → List (List ℕ) → Option File → Type 0
IsTrueOfShoot objects (Picture name view names) lines file = IsTrueFile objects view names name file
IsTrueOfShoot objects (Check view names) lines file = (file ≡ None) × IsOnlyTrueCheck objects view names lines
IsTrueOfShoot objects (Area view names) lines file = (file ≡ None) × IsOnlyTrueArea objects view names lines
IsTrueOfShoot objects (Edge name view names) lines file = IsTrueEdgeFile objects view names name lines file

-- where a command that shoots each ray of a view is accepted; of other commands nothing is said
abbrev pub IsTrueView : Entries → Command → Reply File → Type 0
IsTrueView objects (Bad refusal) reply = Unit {0}
IsTrueView objects (IsEdit edit) reply = Unit {0}
IsTrueView objects (IsQuery query) reply = Unit {0}
IsTrueView objects (IsShoot shoot) (Refused text) = Unit {0}
IsTrueView objects (IsShoot shoot) (Accepted lines file) = IsTrueOfShoot objects shoot lines file

-- in any state, and so at each place of a run, the file of an accepted picture, also of edges, and the lines of an accepted check or of
-- areas are true of the points of their rays, hit places aside but for levels, and no others are
abbrev pub ViewsAreTrue : Type 0
ViewsAreTrue = (book : Book Listing) (own : OwnState) (m : Marked Command) → IsTrueView book.directory.objects m.command (answer_of core_rules book own m).reply
