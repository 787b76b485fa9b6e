-- The hash of what a region is wherever it stands.
use Rattle.std.specs.Prelude.{◌++◌, ℕ, fold}
use Rattle.std.specs.Hash as fed
use Rattle.std.specs.Hash.{HashWrites}
use Rattle.std.specs.Hash.FoldHasher as folding
use Rattle.region_attr.specs.contracts.attr.RgbHash.TheImpl as hashed_colours
use Rattle.lattice_core.specs.contracts.boxes.Box3Hash.TheImpl as hashed_boxes
use Rattle.solid_set.specs.contracts.surface.SurfaceHash.TheImpl as hashed_surfaces
use Rattle.bool_weave.specs.declared.mask.MaskNode.{MaskNode}
use Rattle.bool_weave.specs.declared.mask.MaskNode.TheVariants as node
use Rattle.bool_weave.specs.Masks.{mask_nodes}
use Rattle.shot_core.specs.Regions.{Instance, RegionBody}

-- what a hasher is fed of a node of a tree: its kind, and the number of a leaf
abbrev pub node_input : MaskNode → HashWrites
node_input (node.Leaf n) = fed.u8 0 ++ fed.u32 n
node_input node.Never = fed.u8 1
node_input node.U = fed.u8 2
node_input node.N = fed.u8 3
node_input node.Minus = fed.u8 4
node_input node.X = fed.u8 5

abbrev pub instance_input : Instance → HashWrites
instance_input i = hashed_surfaces.hash_input-value.it i.surface ++ hashed_boxes.hash_input-value.it i.bounds

-- what a hasher is fed of a body: all that is compared of it
abbrev pub body_input : RegionBody → HashWrites
body_input b =
    fed.u32 b.id ++ (fed.u32 b.air ++ (hashed_colours.hash_input-value.it b.rgb ++ (fed.slice node_input (mask_nodes b.tree) ++ fed.slice instance_input b.instances)))

-- the hash of what a hasher is fed of a body
unfoldable pub body_digest : RegionBody → ℕ
body_digest body = folding.finish (fold folding.write folding.initial (body_input body))
