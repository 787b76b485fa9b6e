-- The trees of names, every member being expanded: trees over solids.
use Rattle.std.specs.Prelude.{ℕ, zero, suc, ◌+◌, [], Option, Some, None}
use Rattle.tree_forms.specs.Trees.{Tree, Leaf, Join}
use Rattle.name_core.specs.declared.name.Name.{Name}
use Rattle.comb_tree.specs.Nodes.{Member, Comb as CombTree}
use Rattle.object_set.specs.declared.object.Body.{Body}
use Rattle.object_set.specs.declared.object.Body.TheVariants.{Solid, Comb}
use Rattle.object_set.specs.Objects.{Parts}
use Rattle.directory.specs.Walks.{Entries, object_of, most_depth}
use Rattle.scene_prep.specs.Solids.{Expanded, placed_tree}

-- a tree in which each leaf gives way to what its member comes to, placed
abbrev pub expanded_tree : (Name → Expanded) → Tree Member → Expanded
expanded_tree below (Leaf member) = placed_tree member.placement (below member.name)
expanded_tree below (Join op l r) = Join op (expanded_tree below l) (expanded_tree below r)

-- an empty combination is always false
abbrev pub expanded_comb : (Name → Expanded) → CombTree → Expanded
expanded_comb below None = Leaf None
expanded_comb below (Some tree) = expanded_tree below tree

-- a solid stands for itself
abbrev pub expanded_body : (Name → Expanded) → Body → Expanded
expanded_body below (Solid solid) = Leaf (Some (record { solid = solid; placements = [] }))
expanded_body below (Comb attr tree) = expanded_comb below tree

-- a missing name is always false
abbrev pub expanded_object : (Name → Expanded) → Option Parts → Expanded
expanded_object below None = Leaf None
expanded_object below (Some object) = expanded_body below object.body

-- a name's tree, where at most `levels` objects lie one in the other
abbrev pub expanded_within : ℕ → Entries → Name → Expanded
expanded_within zero directory name = Leaf None
expanded_within (suc levels) directory name = expanded_object (expanded_within levels directory) (object_of directory name)

-- in a sound directory at most that many do: combinations, and a solid in the lowest
abbrev pub most_levels : ℕ
most_levels = most_depth + 1

-- the tree of a name
unfoldable pub expanded : Entries → Name → Expanded
expanded directory name = expanded_within most_levels directory name
