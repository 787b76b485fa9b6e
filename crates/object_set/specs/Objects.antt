-- The objects of a directory.
use Rattle.std.specs.Prelude.{◌≤◌, List, [], All, length, map}
use Rattle.std.specs.List.{IsDistinct}
use Rattle.lattice_core.specs.declared.limit.TheConstants.{COORD}
use Rattle.lattice_core.specs.Limits.{IsWithin}
use Rattle.name_core.specs.declared.name.Name.{Name}
use Rattle.name_core.specs.Same.{same_name}
use Rattle.region_attr.specs.declared.attr.Attr.{Attr}
use Rattle.region_attr.specs.Ranges.{HasRanges}
use Rattle.comb_tree.specs.Nodes.{Comb as Tree, Member, members}
use Rattle.object_set.specs.TextValues.{IsTextValue}
use Rattle.object_set.specs.declared.kept.KeptAttr.{KeptAttr}
use Rattle.object_set.specs.declared.object.Body.{Body}
use Rattle.object_set.specs.declared.object.Body.TheVariants.{Solid, Comb}

-- an object as contracts see it: a solid or a combination, and the attributes that it keeps
pub record Parts : Type 0 where
  pub body : Body
  pub kept : List KeptAttr

abbrev pub keys_of_kept : List KeptAttr → List Name
keys_of_kept kept = map (λ k. k.name) kept

-- the attributes of a combination are in their ranges, and its leaves are few and near
pub record IsComb (attr : Attr) (tree : Tree) : Type 0 where
  pub ranges : HasRanges attr
  pub few : length (members tree) ≤ 4096
  pub near : All (λ (m : Member). IsWithin COORD m.placement.shift) (members tree)

-- a solid, or a combination whose numbers and shifts are in their ranges
abbrev pub IsBody : Body → Type 0
IsBody (Solid solid) = Unit {0}
IsBody (Comb attr tree) = IsComb attr tree

-- the keys of the kept attributes differ, and their values are texts
pub record IsKept (kept : List KeptAttr) : Type 0 where
  pub distinct : IsDistinct same_name (keys_of_kept kept)
  pub texts : All (λ k. IsTextValue k.value) kept

-- what the type of an object keeps: its body is lawful, and so are the attributes that it keeps
pub record IsObject (object : Parts) : Type 0 where
  pub body : IsBody object.body
  pub kept : IsKept object.kept

-- the names of the leaves of a combination, from left to right; a solid has none
abbrev pub member_names : Body → List Name
member_names (Solid solid) = []
member_names (Comb attr tree) = map (λ m. m.name) (members tree)
