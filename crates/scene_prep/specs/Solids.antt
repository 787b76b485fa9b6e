-- The solids of trees in which every member is expanded, and where they stand in the world.
use Rattle.std.specs.Prelude.{ℕ, ◌+◌, List, ◌∷◌, length, filter_map, Option, Some, None}
use Rattle.std.specs.Option.{option_map}
use Rattle.tree_forms.specs.Trees.{Tree, Leaf, Join, leaves, map_leaves}
use Rattle.lattice_core.specs.declared.placement.Placement.{Placement}
use Rattle.solid_set.specs.declared.solid.Solid.{Solid}
use Rattle.solid_set.specs.Placings.{surface_under, own_surface, bounds_under}
use Rattle.bool_weave.specs.Masks.{Mask}
use Rattle.shot_core.specs.Regions.{Instance}

-- a solid, and the placements on the way down to it, the upper one first
pub record PlacedSolid : Type 0 where
  pub solid : Solid
  pub placements : List Placement

-- a tree over solids; None is a leaf that is always false
abbrev pub Expanded : Type 0
Expanded = Tree (Option PlacedSolid)

-- the solid under one more placement, which is above those that it has
abbrev pub placed_solid : Placement → PlacedSolid → PlacedSolid
placed_solid by one = record one { placements = by ∷ one.placements }

abbrev pub placed_tree : Placement → Expanded → Expanded
placed_tree by tree = map_leaves (option_map (placed_solid by)) tree

-- the solids of a tree, from left to right
abbrev pub solids_of : Expanded → List PlacedSolid
solids_of tree = filter_map (λ leaf. leaf) (leaves tree)

-- the tree over the numbers of its solids, which are counted from `first` at the left
abbrev pub numbered : ℕ → Expanded → Mask
numbered first (Leaf None) = Leaf None
numbered first (Leaf (Some one)) = Leaf (Some first)
numbered first (Join op l r) = Join op (numbered first l) (numbered (first + length (solids_of l)) r)

-- the instance of a solid where its placements take it
abbrev pub in_world : PlacedSolid → Instance
in_world one = record {
  surface = surface_under one.placements (own_surface one.solid);
  bounds = bounds_under one.placements one.solid;
}
