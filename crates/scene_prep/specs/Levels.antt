-- How deep names and nodes lie, how far they are placed, and how large they are, as the code goes down.
use Rattle.std.specs.Prelude.{◌≡◌, ℕ, ◌≤◌, ◌-◌, ◌*◌, pos, List, ◌∷◌, sum_by, Option, Some}
use Rattle.std.specs.Int.RustNames.{unsigned_abs}
use Rattle.lattice_core.specs.declared.limit.TheConstants.{COORD}
use Rattle.lattice_core.specs.declared.placement.Placement.{Placement}
use Rattle.lattice_core.specs.Limits.{IsWithin}
use Rattle.name_core.specs.declared.name.Name.{Name}
use Rattle.comb_tree.specs.declared.node.CombNode.{CombNode}
use Rattle.comb_tree.specs.declared.node.CombNode.TheVariants.{Leaf, U, N, Minus, X}
use Rattle.directory.specs.Walks.{Entries, IsWalk, combinations, most_depth}
use Rattle.scene_prep.specs.Sizes.{size_of_name, told_size}

-- each walk from a name has at most so many combinations
abbrev pub IsShallow : Entries → ℕ → Name → Type 0
IsShallow directory levels name = (w : List Name) → IsWalk directory (name ∷ w) → combinations directory (name ∷ w) ≤ levels

-- a member from which each walk has at most so many combinations, and whose shift is as small as that of a combination's leaf
abbrev pub StandsWithin : Entries → ℕ → CombNode → Type 0
StandsWithin directory levels (Leaf name placement) = IsShallow directory levels name × IsWithin COORD placement.shift
StandsWithin directory levels U = Unit {0}
StandsWithin directory levels N = Unit {0}
StandsWithin directory levels Minus = Unit {0}
StandsWithin directory levels X = Unit {0}

-- the placement of something below which so many combinations lie at most, each of those above adding at most COORD to its shift
pub record IsPlacedAbove (levels : ℕ) (by : Placement) : Type 0 where
  pub few : levels ≤ most_depth
  pub near : IsWithin (pos ((most_depth - levels) * unsigned_abs COORD)) by.shift

-- the size of a leaf is that of its member
abbrev pub node_size : Entries → CombNode → ℕ
node_size directory (Leaf name placement) = size_of_name directory name
node_size directory U = 0
node_size directory N = 0
node_size directory Minus = 0
node_size directory X = 0

abbrev pub nodes_size : Entries → List CombNode → ℕ
nodes_size directory nodes = sum_by (node_size directory) nodes

-- each size that is known of a name is that name's, as it is told
abbrev pub AreSizes : Entries → (Name → Option ℕ) → Type 0
AreSizes directory known = (name : Name) (size : ℕ) → known name ≡ Some size → size ≡ told_size (size_of_name directory name)
