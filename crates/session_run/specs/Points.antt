-- What the answer to a shot, also in a lattice direction, says of the points of its ray.
use Rattle.std.specs.Prelude.{◌≡◌, ◌≢◌, ℕ, List}
use Rattle.name_core.specs.declared.name.Name.{Name}
use Rattle.lattice_core.specs.declared.ray.Ray.{Ray}
use Rattle.outside_core.specs.declared.traits.File.{File}
use Rattle.transcript.specs.Run.{Book, Marked, Reply, Accepted, Refused, answer_of}
use Rattle.command_set.specs.declared.command.Command.{Command}
use Rattle.command_set.specs.declared.command.Command.TheVariants.{Bad, Edit as IsEdit, Query as IsQuery, Shoot as IsShoot}
use Rattle.command_set.specs.declared.command.Query.{Query}
use Rattle.command_set.specs.declared.command.Query.TheVariants as queries
use Rattle.directory.specs.Listing.{Listing}
use Rattle.directory.specs.Walks.{Entries}
use Rattle.shot_core.specs.declared.shot.Lit.{Lit}
use Rattle.shot_core.specs.Points.{stretches_of, IsTrueOfPoints}
use Rattle.scene_prep.specs.Scenes.{scene_of}
use Rattle.report_text.specs.Shots.{shot_lines}
use Rattle.report_text.specs.Slants.{slant_lines}
use Rattle.lattice_core.specs.declared.limit.TheConstants.{FAR}
use Rattle.slant_ray.specs.declared.ray.SlantRay.{SlantRay}
use Rattle.slant_ray.specs.Rays.{direction_of}
use Rattle.lattice_core.specs.Vectors.{zero_vector}
use Rattle.lattice_core.specs.Units.{unit_of}
use Rattle.oblique_ray.specs.declared.slab.Slab.{Slab}
use Rattle.oblique_ray.specs.Points.{IsTrueOfSlant}
use Rattle.session_run.specs.Own.{OwnState}
use Rattle.session_run.specs.Replies.{core_rules, found}

-- the lines are those of partitions whose stretches are the one list that tells what lies at the points of the ray
pub record IsTrueShot (objects : Entries) (ray : Ray) (names : List Name) (lines : List (List ℕ)) : Type 0 where
  pub lit : List Lit
  pub lines_are : lines ≡ shot_lines (scene_of objects names) lit
  pub points : IsTrueOfPoints (scene_of objects names) ray (stretches_of lit)

-- the lines are those of the one list of slabs that tells what lies at the points of the ray in a lattice direction
pub record IsTrueSlant (objects : Entries) (ray : SlantRay) (names : List Name) (lines : List (List ℕ)) : Type 0 where
  pub slabs : List Slab
  pub lines_are : lines ≡ slant_lines (scene_of objects names) slabs
  pub points : IsTrueOfSlant FAR (scene_of objects names) ray.origin (direction_of ray) slabs

-- the lines of the body of a query for a ray's partitions are such, where the ray has a direction; of other queries nothing is said
abbrev pub IsTrueOfQuery : Entries → Query → List (List ℕ) → Type 0
IsTrueOfQuery objects (queries.List names) lines = Unit {0}
IsTrueOfQuery objects queries.Names lines = Unit {0}
IsTrueOfQuery objects (queries.Tree names) lines = Unit {0}
IsTrueOfQuery objects (queries.Save file) lines = Unit {0}
IsTrueOfQuery objects (queries.Shot ray names) lines = IsTrueShot objects ray names lines
IsTrueOfQuery objects (queries.Slant ray names) lines = (direction_of ray ≢ zero_vector) → IsTrueSlant objects ray names lines

-- where the query for a ray's partitions is accepted, the lines of its body are those of partitions that tell what lies at its points
abbrev pub IsTrueReply : Entries → Command → Reply File → Type 0
IsTrueReply objects (Bad refusal) reply = Unit {0}
IsTrueReply objects (IsEdit edit) reply = Unit {0}
IsTrueReply objects (IsShoot shoot) reply = Unit {0}
IsTrueReply objects (IsQuery query) (Refused text) = Unit {0}
IsTrueReply objects (IsQuery query) (Accepted lines file) = IsTrueOfQuery objects query lines

-- in any state, and so at each place of a run, what is answered to the query for a ray's partitions tells what lies at its points
abbrev pub ShotsAreTrue : Type 0
ShotsAreTrue = (book : Book Listing) (own : OwnState) (m : Marked Command) → IsTrueReply book.directory.objects m.command (answer_of core_rules book own m).reply

-- along an axis a query in lattice directions finds what the plain one does
abbrev pub SlantsAlongAxes : Type 0
SlantsAlongAxes = (d : Listing) (slant : SlantRay) (ray : Ray) (names : List Name) → slant.origin ≡ ray.origin → direction_of slant ≡ unit_of ray.dir → found d (queries.Slant slant names) ≡ found d (queries.Shot ray names)
