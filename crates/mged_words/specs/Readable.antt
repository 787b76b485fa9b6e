-- Commands of which each answer stands on lines of its own, and is told from want of memory. A ray starts in the
-- world, and a view was checked.
use Rattle.std.specs.Prelude.{◌≡◌, List, bytes_eq, codes, false}
use Rattle.std.specs.List.{AllByRecursion}
use Rattle.lattice_core.specs.declared.ray.Ray.{Ray}
use Rattle.lattice_core.specs.declared.view.View.{View}
use Rattle.lattice_core.specs.declared.limit.TheConstants.{WORLD}
use Rattle.lattice_core.specs.Limits.{IsWithin}
use Rattle.lattice_core.specs.Views.{IsChecked}
use Rattle.slant_ray.specs.declared.ray.SlantRay.{SlantRay}
use Rattle.slant_ray.specs.Rays as slants
use Rattle.name_core.specs.declared.name.Name.{Name}
use Rattle.comb_tree.specs.Changes.{names_of}
use Rattle.object_set.specs.Objects.{Parts, member_names}
use Rattle.object_set.specs.declared.kept.KeptAttr.{KeptAttr}
use Rattle.transcript.specs.Lines.{Lacks}
use Rattle.transcript.specs.Merge.{Entry}
use Rattle.command_set.specs.Refusals.{refusal_text}
use Rattle.command_set.specs.declared.command.Command.{Command}
use Rattle.command_set.specs.declared.command.Command.TheVariants.{Bad, Edit as IsEdit, Query as IsQuery, Shoot as IsShoot}
use Rattle.command_set.specs.declared.command.Edit.{Edit}
use Rattle.command_set.specs.declared.command.Edit.TheVariants.{Make, Region, Group, Remove, Kill, RenameAll, Place, Title, Keep, Set}
use Rattle.command_set.specs.declared.command.Query.{Query}
use Rattle.command_set.specs.declared.command.Query.TheVariants as queries
use Rattle.command_set.specs.declared.command.Shoot.{Shoot}
use Rattle.command_set.specs.declared.command.Shoot.TheVariants.{Picture, Check, Area, Edge}
use Rattle.command_set.specs.declared.refusal.Refusal.{Refusal}

-- a refusal without a line feed, that is not `memory`
pub record IsPlainRefusal (refusal : Refusal) : Type 0 where
  pub one_line : Lacks 10 (refusal_text refusal)
  pub other : bytes_eq (refusal_text refusal) (codes "memory") ≡ false

-- names without line feeds
abbrev pub ArePlain : List Name → Type 0
ArePlain names = AllByRecursion (λ (name : Name). Lacks 10 name) names

-- attributes to be kept without line feeds
abbrev pub ArePlainPairs : List KeptAttr → Type 0
ArePlainPairs pairs = AllByRecursion (λ (k : KeptAttr). Lacks 10 k.name × Lacks 10 k.value) pairs

-- an object whose members and kept attributes have no line feeds
pub record IsPlainObject (object : Parts) : Type 0 where
  pub members : ArePlain (member_names object.body)
  pub kept : ArePlainPairs object.kept

abbrev pub IsPlainEdit : Edit → Type 0
IsPlainEdit (Make name object) = Lacks 10 name × IsPlainObject object
IsPlainEdit (Region name list) = Lacks 10 name × ArePlain (names_of list)
IsPlainEdit (Group name list) = Lacks 10 name × ArePlain (names_of list)
IsPlainEdit (Remove comb members) = Lacks 10 comb × ArePlain members
IsPlainEdit (Kill names) = ArePlain names
IsPlainEdit (RenameAll old new) = Lacks 10 old × Lacks 10 new
IsPlainEdit (Place comb member placement) = Lacks 10 comb × Lacks 10 member
IsPlainEdit (Title text) = Unit {0}
IsPlainEdit (Keep name pairs) = Lacks 10 name × ArePlainPairs pairs
IsPlainEdit (Set name setting) = Lacks 10 name

-- a shot from the world
pub record IsPlainShot (ray : Ray) (names : List Name) : Type 0 where
  pub one_line : ArePlain names
  pub in_world : IsWithin WORLD ray.origin

-- a shot in a lattice direction without a fault
pub record IsPlainSlant (ray : SlantRay) (names : List Name) : Type 0 where
  pub one_line : ArePlain names
  pub checked : slants.IsChecked ray

abbrev pub IsPlainQuery : Query → Type 0
IsPlainQuery (queries.List names) = ArePlain names
IsPlainQuery queries.Names = Unit {0}
IsPlainQuery (queries.Tree names) = ArePlain names
IsPlainQuery (queries.Save file) = Lacks 10 file
IsPlainQuery (queries.Shot ray names) = IsPlainShot ray names
IsPlainQuery (queries.Slant ray names) = IsPlainSlant ray names

-- names shot at from a view that was checked
pub record IsPlainView (view : View) (names : List Name) : Type 0 where
  pub one_line : ArePlain names
  pub checked : IsChecked view

abbrev pub IsPlainShoot : Shoot → Type 0
IsPlainShoot (Picture file view names) = Lacks 10 file × IsPlainView view names
IsPlainShoot (Check view names) = IsPlainView view names
IsPlainShoot (Area view names) = IsPlainView view names
IsPlainShoot (Edge file view names) = Lacks 10 file × IsPlainView view names

abbrev pub IsPlain : Command → Type 0
IsPlain (Bad refusal) = IsPlainRefusal refusal
IsPlain (IsEdit edit) = IsPlainEdit edit
IsPlain (IsQuery query) = IsPlainQuery query
IsPlain (IsShoot shoot) = IsPlainShoot shoot

-- an entry whose command has a line that reads as it
abbrev pub IsReadable : Entry Command → Type 0
IsReadable e = IsPlain e.item
