-- Setting the attribute that a key names.
use Rattle.std.specs.Prelude.{◌≡◌, ℕ, Bool, true, false, List, Option, Some, None, is_some, Result, Ok, Err}
use Rattle.std.specs.Option.{option_map}
use Rattle.region_attr.specs.Keys.{key_of}
use Rattle.region_attr.specs.Ranges.{most_number, most_los}
use Rattle.region_attr.specs.Values.{truth_of, number_to, IsTruth, IsNumberTo}
use Rattle.region_attr.specs.Colours.{colour_of, IsColour}
use Rattle.region_attr.specs.declared.attr.Attr.{Attr}
use Rattle.region_attr.specs.declared.attr.AttrFault.{AttrFault}
use Rattle.region_attr.specs.declared.attr.AttrFault.TheVariants.{UnknownKey, BadValue}
use Rattle.region_attr.specs.declared.attr.Rgb.{Rgb as Colour}
use Rattle.region_attr.specs.declared.key.Key.{Key}
use Rattle.region_attr.specs.declared.key.Key.TheVariants.{Region, Id, Air, Los, Mater, Rgb, Inherit}

-- what the values of an attribute are
abbrev pub ValueOf : Key → Type 0
ValueOf Region = Bool
ValueOf Id = ℕ
ValueOf Air = ℕ
ValueOf Los = ℕ
ValueOf Mater = ℕ
ValueOf Rgb = Colour
ValueOf Inherit = Bool

-- a text says a value of an attribute
abbrev pub Says : (key : Key) → List ℕ → ValueOf key → Type 0
Says Region text value = IsTruth text value
Says Id text value = IsNumberTo most_number text value
Says Air text value = IsNumberTo most_number text value
Says Los text value = IsNumberTo most_los text value
Says Mater text value = IsNumberTo most_number text value
Says Rgb text value = IsColour text value
Says Inherit text value = IsTruth text value

-- the attributes with one of them set to a value
abbrev pub having : (key : Key) → ValueOf key → Attr → Attr
having Region value attr = record attr { region = value }
having Id value attr = record attr { id = value }
having Air value attr = record attr { air = value }
having Los value attr = record attr { los = value }
having Mater value attr = record attr { mater = value }
having Rgb value attr = record attr { rgb = Some value }
having Inherit value attr = record attr { inherit = value }

-- a text says some value of an attribute
abbrev pub IsValueOf : Key → List ℕ → Type 0
IsValueOf key text = (value : ValueOf key) × Says key text value

-- an attribute has the value that a text says, and the others are as they were
abbrev pub IsSetTo : Key → List ℕ → Attr → Attr → Type 0
IsSetTo key text old new = (value : ValueOf key) × Says key text value × (new ≡ having key value old)

-- the attributes with one of them set to a value, if it is a value of that one
abbrev pub with_value : Key → List ℕ → Attr → Option Attr
with_value Region value attr = option_map (λ v. record attr { region = v }) (truth_of value)
with_value Id value attr = option_map (λ v. record attr { id = v }) (number_to most_number value)
with_value Air value attr = option_map (λ v. record attr { air = v }) (number_to most_number value)
with_value Los value attr = option_map (λ v. record attr { los = v }) (number_to most_los value)
with_value Mater value attr = option_map (λ v. record attr { mater = v }) (number_to most_number value)
with_value Rgb value attr = option_map (λ v. record attr { rgb = Some v }) (colour_of value)
with_value Inherit value attr = option_map (λ v. record attr { inherit = v }) (truth_of value)

abbrev pub or_bad : Option Attr → Result Attr AttrFault
or_bad None = Err BadValue
or_bad (Some attr) = Ok attr

abbrev pub set_known : Option Key → List ℕ → Attr → Result Attr AttrFault
set_known None value attr = Err UnknownKey
set_known (Some key) value attr = or_bad (with_value key value attr)

-- the attributes once a key is given a value, or why they are not changed
abbrev pub set_attr : List ℕ → List ℕ → Attr → Result Attr AttrFault
set_attr key value attr = set_known (key_of key) value attr

-- whether a key and a value set something: it does not depend on the attributes that are there
abbrev pub takes : Key → List ℕ → Bool
takes Region value = is_some (truth_of value)
takes Id value = is_some (number_to most_number value)
takes Air value = is_some (number_to most_number value)
takes Los value = is_some (number_to most_los value)
takes Mater value = is_some (number_to most_number value)
takes Rgb value = is_some (colour_of value)
takes Inherit value = is_some (truth_of value)

abbrev pub known_takes : Option Key → List ℕ → Bool
known_takes None value = false
known_takes (Some key) value = takes key value

-- whether a key and a value set something, whatever the attributes are
abbrev pub is_setting : List ℕ → List ℕ → Bool
is_setting key value = known_takes (key_of key) value

-- the attributes of a new region
abbrev pub region_attr : Attr
region_attr = record { region = true; id = 1000; air = 0; los = 100; mater = 1; rgb = None; inherit = false }

-- the attributes of a new combination that is no region
abbrev pub group_attr : Attr
group_attr = record { region = false; id = 0; air = 0; los = 0; mater = 0; rgb = None; inherit = false }
