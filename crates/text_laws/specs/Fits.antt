-- What a combination keeps, by which its written line reads again.
use Rattle.std.specs.Prelude.{◌≤◌, length, Option, Some, None}
use Rattle.lattice_core.specs.declared.limit.TheConstants.{COORD}
use Rattle.lattice_core.specs.Limits.{IsWithin}
use Rattle.name_core.specs.NameText.{IsName}
use Rattle.tree_forms.specs.Trees.{Tree, Leaf, Join, leaves}
use Rattle.comb_tree.specs.Nodes.{Comb, Member}
use Rattle.region_attr.specs.declared.attr.Rgb.{Rgb}

-- the parts of a colour are bytes
abbrev pub IsColour : Rgb → Type 0
IsColour c = (c.r ≤ 255) × (c.g ≤ 255) × (c.b ≤ 255)

abbrev pub HasColour : Option Rgb → Type 0
HasColour None = Unit {0}
HasColour (Some c) = IsColour c

-- the shift of a leaf is near
abbrev pub IsNear : Member → Type 0
IsNear m = IsWithin COORD m.placement.shift

-- the leaves have names, and their shifts are near
abbrev pub IsFit : Tree Member → Type 0
IsFit (Leaf m) = IsName m.name × IsNear m
IsFit (Join op l r) = IsFit l × IsFit r

-- and there are few
abbrev pub IsFitTree : Comb → Type 0
IsFitTree None = Unit {0}
IsFitTree (Some t) = IsFit t × (length (leaves t) ≤ 4096)
