-- What commands hold.
use Rattle.std.specs.Prelude.{ℕ, List, All, Option, Some, None, Result, Ok, Err}
use Rattle.lattice_core.specs.declared.limit.TheConstants.{COORD}
use Rattle.lattice_core.specs.Limits.{IsWithin}
use Rattle.lattice_core.specs.declared.view.View.{View}
use Rattle.lattice_core.specs.declared.view.ViewFault.{ViewFault}
use Rattle.slant_ray.specs.declared.ray.SlantRay.{SlantRay}
use Rattle.name_core.specs.declared.name.Name.{Name}
use Rattle.comb_tree.specs.declared.node.ListEntry.{ListEntry}
use Rattle.object_set.specs.declared.kept.KeptAttr.{KeptAttr}
use Rattle.object_set.specs.TextValues.{IsTextValue}

-- the key of an attribute, and a value
pub record KeyAndValue : Type 0 where
  pub key : Name
  pub value : List ℕ

-- the shift of each entry's placement is within the limit
abbrev pub AreNear : List ListEntry → Type 0
AreNear list = All (λ (e : ListEntry). IsWithin COORD e.placement.shift) list

-- the value of each kept attribute is a text that can be one
abbrev pub AreTexts : List KeptAttr → Type 0
AreTexts pairs = All (λ (k : KeptAttr). IsTextValue k.value) pairs

-- a ray in a lattice direction, where it has no fault
abbrev pub slant_or_fault : SlantRay → Option ViewFault → Result SlantRay ViewFault
slant_or_fault ray None = Ok ray
slant_or_fault ray (Some fault) = Err fault

-- a view, where it has no fault
abbrev pub view_or_fault : View → Option ViewFault → Result View ViewFault
view_or_fault view None = Ok view
view_or_fault view (Some fault) = Err fault
