-- What is written of expanded trees.
use Rattle.std.specs.Prelude.{◌≡◌, [], ◌∷◌, ◌++◌, map, vec_len}
use Rattle.lattice_core.specs.declared.placement.Placement.{Placement}
use Rattle.comb_tree.specs.declared.node.CombNode.{CombNode}
use Rattle.comb_tree.specs.declared.node.CombNode.TheVariants.{Leaf, U, N, Minus, X}
use Rattle.directory.specs.Walks.{Entries}
use Rattle.bool_weave.specs.Masks.{mask_nodes}
use Rattle.bool_weave.specs.declared.mask.MaskNode.{MaskNode}
use Rattle.bool_weave.specs.declared.mask.MaskNode.TheVariants as mask
use Rattle.scene_prep.specs.Solids.{Expanded, solids_of, numbered, placed_tree, in_world}
use Rattle.scene_prep.specs.Expanding.{expanded}
use Rattle.shot_core.specs.Prepared.{instance_of}
use Rattle.scene_prep.specs.declared.expansion.Expansion.{Expansion}

-- the nodes of a tree and its solids stand behind those of before, and its leaves go on with the numbers
pub record Writes (old new : Expansion) (tree : Expanded) : Type 0 where
  pub nodes : new.nodes.items ≡ old.nodes.items ++ mask_nodes (numbered (vec_len old.solids) tree)
  pub solids : map instance_of new.solids.items ≡ map instance_of old.solids.items ++ map in_world (solids_of tree)

-- one more node that has no solid
pub record WritesOne (old new : Expansion) (node : MaskNode) : Type 0 where
  pub nodes : new.nodes.items ≡ old.nodes.items ++ node ∷ []
  pub solids : map instance_of new.solids.items ≡ map instance_of old.solids.items

-- the tree of a leaf's member, placed as the leaf and then as the combination is, or an operator
abbrev pub WritesNode : Entries → Placement → Expansion → Expansion → CombNode → Type 0
WritesNode directory by old new (Leaf name placement) = Writes old new (placed_tree by (placed_tree placement (expanded directory name)))
WritesNode directory by old new U = WritesOne old new mask.U
WritesNode directory by old new N = WritesOne old new mask.N
WritesNode directory by old new Minus = WritesOne old new mask.Minus
WritesNode directory by old new X = WritesOne old new mask.X
