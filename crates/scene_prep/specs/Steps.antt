-- Words of the code: colours and paths as the walk goes down.
use Rattle.std.specs.Prelude.{ℕ, List, [], ◌∷◌, ◌++◌, cond, codes, Bool, false, Option, Some, None}
use Rattle.name_core.specs.declared.name.Name.{Name}
use Rattle.region_attr.specs.declared.attr.Attr.{Attr}
use Rattle.region_attr.specs.declared.attr.Rgb.{Rgb}
use Rattle.scene_prep.specs.declared.colour.Colour.{Colour}
use Rattle.scene_prep.specs.Scenes.{white, node_text}

abbrev pub colour_of : Rgb → Bool → Colour
colour_of rgb inherited = record { rgb = rgb; inherited = inherited }

abbrev pub with_colour : Colour → Option Rgb → Bool → Colour
with_colour colour None inherit = colour
with_colour colour (Some rgb) inherit = colour_of rgb inherit

-- the colour under one more combination
abbrev pub under_comb : Colour → Attr → Colour
under_comb colour attr = cond colour.inherited colour (with_colour colour attr.rgb attr.inherit)

-- and under all combinations of a path, the top one first
abbrev pub under_combs : Colour → List Attr → Colour
under_combs colour [] = colour
under_combs colour (attr ∷ attrs) = under_combs (under_comb colour attr) attrs

abbrev pub no_colour : Colour
no_colour = colour_of white false

-- one name further
abbrev pub path_to : List ℕ → Name → List ℕ
path_to above name = above ++ (codes "/" ++ name)

abbrev pub path_to_node : List ℕ → ℕ → List ℕ
path_to_node comb number = comb ++ node_text (Some number)
