-- The ranges of an attribute's numbers.
use Rattle.std.specs.Prelude.{◌≤◌, ℕ}
use Rattle.region_attr.specs.declared.attr.Attr.{Attr}

-- of the numbers of region, air and material
abbrev pub most_number : ℕ
most_number = 999999

-- of the density in percent
abbrev pub most_los : ℕ
most_los = 100

-- of a part of a colour
abbrev pub most_part : ℕ
most_part = 255

-- the numbers of the attributes are in their ranges
pub record HasRanges (attr : Attr) : Type 0 where
  pub id : attr.id ≤ most_number
  pub air : attr.air ≤ most_number
  pub los : attr.los ≤ most_los
  pub mater : attr.mater ≤ most_number
