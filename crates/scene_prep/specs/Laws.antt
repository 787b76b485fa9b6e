-- Laws of regions, of trees, of sizes and of placements. Those that the levels cut nothing off hold of sound directories, the others of any.
use Rattle.std.specs.Prelude.{◌≡◌, ◌≤◌, ℕ, Bool, false, List, length, filter_map, sum_by, Option, Some, None}
use Rattle.std.specs.List.{list_any, range_with_len}
use Rattle.tree_forms.specs.Trees.{leaves, holds_by}
use Rattle.name_core.specs.declared.name.Name.{Name}
use Rattle.lattice_core.specs.declared.placement.Placement.{Placement}
use Rattle.lattice_core.specs.declared.ray.Ray.{Ray}
use Rattle.solid_set.specs.Surfaces.{surface_of, bounds_of}
use Rattle.solid_set.specs.PlacingLaws.{DoesAll}
use Rattle.directory.specs.Walks.{Entries, object_of, IsSound}
use Rattle.shot_core.specs.FirstShots.{first_seen}
use Rattle.shot_core.specs.OverlapPoints.{AreTrueOverlaps}
use Rattle.shot_core.specs.Points.{stretches_of, IsTrueOfPoints}
use Rattle.shot_core.specs.SeenPoints.{IsSeenFirst}
use Rattle.shot_core.specs.Shots.{lit_of, overlaps_on}
use Rattle.scene_prep.specs.Solids.{PlacedSolid, Expanded, solids_of, numbered, in_world}
use Rattle.scene_prep.specs.Expanding.{expanded, expanded_object}
use Rattle.scene_prep.specs.Regions.{regions_of_name, regions_of, regions_of_object}
use Rattle.scene_prep.specs.Scenes.{scene_of}
use Rattle.scene_prep.specs.Sizes.{size_of_name, names_size, object_size}

-- a name's tree is made of those of its members: the number of levels cuts nothing off
abbrev pub TreesAreWhole : Type 0
TreesAreWhole = (directory : Entries) → IsSound directory → (name : Name) → expanded directory name ≡ expanded_object (expanded directory) (object_of directory name)

-- a name's regions are made of those of its members: the number of levels cuts nothing off
abbrev pub RegionsAreWhole : Type 0
RegionsAreWhole = (directory : Entries) → IsSound directory → (name : Name)
    → regions_of_name directory name ≡ regions_of_object (expanded directory) (regions_of_name directory) name (object_of directory name)

-- a name's size is made of those of its members: the number of levels cuts nothing off
abbrev pub SizesAreWhole : Type 0
SizesAreWhole = (directory : Entries) → IsSound directory → (name : Name)
    → size_of_name directory name ≡ object_size (size_of_name directory) (object_of directory name)

-- a name's size is the number of leaves of its tree
abbrev pub SizesCountLeaves : Type 0
SizesCountLeaves = (directory : Entries) (name : Name) → size_of_name directory name ≡ length (leaves (expanded directory name))

-- the regions of names have together at most the size of the names
abbrev pub RegionsAreWithinSize : Type 0
RegionsAreWithinSize = (directory : Entries) (names : List Name) → sum_by (λ region. length (leaves region.tree)) (regions_of directory names) ≤ names_size directory names

-- the value of a leaf is that of its solid
abbrev pub solid_value : (PlacedSolid → Bool) → Option PlacedSolid → Bool
solid_value values None = false
solid_value values (Some one) = values one

-- some region of a name holds exactly where the name's tree holds
abbrev pub RegionsHoldTogether : Type 0
RegionsHoldTogether = (directory : Entries) (name : Name) (values : PlacedSolid → Bool)
    → list_any (λ region. holds_by (solid_value values) region.tree) (regions_of_name directory name) ≡ holds_by (solid_value values) (expanded directory name)

-- the numbers of a tree's leaves are those of its solids, in order
abbrev pub NumbersFollow : Type 0
NumbersFollow = (first : ℕ) (tree : Expanded) → filter_map (λ leaf. leaf) (leaves (numbered first tree)) ≡ range_with_len first (length (solids_of tree))

-- a solid below several placements stands where the one placement takes it that they compose to
abbrev pub PlacementsAreOne : Type 0
PlacementsAreOne = (one : PlacedSolid) (by : Placement) → DoesAll by one.placements
    → ((in_world one).surface ≡ surface_of one.solid by) × ((in_world one).bounds ≡ bounds_of one.solid by)

-- the partitions of a ray and the regions of names tell what lies at its points, and no other list of stretches does, whatever the
-- directory, the names and the ray
abbrev pub PartitionsOfNamesTellPoints : Type 0
PartitionsOfNamesTellPoints = (directory : Entries) (names : List Name) (ray : Ray) → IsTrueOfPoints (scene_of directory names) ray (stretches_of (lit_of (scene_of directory names) ray))

-- the overlaps of a ray and the regions of names tell where two of these without air first both hold
abbrev pub OverlapsOfNamesTellPoints : Type 0
OverlapsOfNamesTellPoints = (directory : Entries) (names : List Name) (ray : Ray) → AreTrueOverlaps (scene_of directory names) ray (overlaps_on (scene_of directory names) ray)

-- what a ray shows first of the regions of names begins where first one without air holds
abbrev pub SeenOfNamesTellsPoints : Type 0
SeenOfNamesTellsPoints = (directory : Entries) (names : List Name) (ray : Ray) → IsSeenFirst (scene_of directory names) ray (first_seen (scene_of directory names) ray)
