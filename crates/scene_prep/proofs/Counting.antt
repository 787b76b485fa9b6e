-- How many regions there are: no more than the size of what they are regions of.
use Rattle.std.proofs.Common.{◌≡◌, ◌+◌, ◌≤◌, ◌<◌, ℕ, List, [], ◌∷◌, length, arith, length-append}
use Rattle.std.specs.Prelude.{Some, sum_by}
use Rattle.std.proofs.lemmas.List.Sums.{sum_by-append}
use Rattle.tree_forms.specs.Trees.{Tree, Leaf, Join, leaves}
use Rattle.name_core.specs.declared.name.Name.{Name}
use Rattle.comb_tree.specs.Nodes.{Member, comb_nodes}
use Rattle.directory.specs.Walks.{Entries}
use Rattle.scene_prep.specs.Expanding.{expanded}
use Rattle.scene_prep.specs.Regions.{NamedRegion, united_parts, regions_of_name}
use Rattle.scene_prep.specs.Sizes.{size_of_name}
use Rattle.scene_prep.specs.Levels.{nodes_size}
use Rattle.scene_prep.proofs.Numbers.{sizes_count_leaves}
use Rattle.scene_prep.proofs.Sizing.{tree_sized}
use Rattle.scene_prep.proofs.Within.{total, tree_size, of_united, within_name, total_first, sum_first}

pub leaf_there : {A : Type 0} (t : Tree A) → 0 < length (leaves t)
leaf_there (Leaf a) = omega arith
leaf_there (Join op l r) = omega (arith, length-append (leaves l) (leaves r), leaf_there l)

pub name_some : (directory : Entries) (name : Name) → 0 < size_of_name directory name
name_some directory name = omega (arith, sizes_count_leaves directory name, leaf_there (expanded directory name))

pub tree_some : (directory : Entries) (t : Tree Member) → 0 < tree_size (size_of_name directory) t
tree_some directory (Leaf member) = omega (arith, sum_first (λ (m : Member). size_of_name directory m.name) member [], name_some directory member.name)
tree_some directory (Join op l r) = omega (arith, sum_by-append (λ (m : Member). size_of_name directory m.name) (leaves l) (leaves r), tree_some directory l)

counted : (regions : List NamedRegion) → length regions ≤ total regions
counted [] = omega arith
counted (region ∷ regions) = omega (arith, total_first region regions, leaf_there region.tree, counted regions)

pub name_counted : (directory : Entries) (name : Name) → length (regions_of_name directory name) ≤ size_of_name directory name
name_counted directory name = omega (arith, counted (regions_of_name directory name), within_name directory name)

-- the parts of a tree, taken together
abbrev pub parts_size : Entries → List (Tree Member) → ℕ
parts_size directory parts = sum_by (tree_size (size_of_name directory)) parts

pub parts_first : (directory : Entries) (part : Tree Member) (parts : List (Tree Member)) → parts_size directory (part ∷ parts) ≡ nodes_size directory (comb_nodes (Some part)) + parts_size directory parts
parts_first directory part parts = omega (arith, sum_first (tree_size (size_of_name directory)) part parts, tree_sized directory part)

pub parts_whole : (directory : Entries) (t : Tree Member) → parts_size directory (united_parts t) ≡ nodes_size directory (comb_nodes (Some t))
parts_whole directory t = omega (arith, of_united (size_of_name directory) t, tree_sized directory t)
