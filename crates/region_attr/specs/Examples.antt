-- Examples, each proved by computing.
use Rattle.std.specs.Prelude.{◌≡◌, ◌∷◌, [], Ok, Err, Some, None, refl, codes, true, false}
use Rattle.region_attr.specs.Keys.{key_of}
use Rattle.region_attr.specs.Values.{truth_of, number_to}
use Rattle.region_attr.specs.Colours.{is_slash, pieces, words, colour_of}
use Rattle.region_attr.specs.Attrs.{set_attr, is_setting, region_attr, group_attr}
use Rattle.region_attr.specs.declared.attr.AttrFault.TheVariants.{UnknownKey, BadValue}
use Rattle.region_attr.specs.declared.key.Key.TheVariants.{Mater, Inherit}

pub a_key : key_of (codes "mater") ≡ Some Mater
a_key = refl

pub the_longest_key : key_of (codes "inherit") ≡ Some Inherit
the_longest_key = refl

pub part_of_a_key : key_of (codes "reg") ≡ None
part_of_a_key = refl

pub capitals : key_of (codes "ID") ≡ None
capitals = refl

pub yes_is_true : truth_of (codes "yes") ≡ Some true
yes_is_true = refl

pub zero_is_false : truth_of (codes "0") ≡ Some false
zero_is_false = refl

pub blanks_spoil_truth : truth_of (codes " yes ") ≡ None
blanks_spoil_truth = refl

pub signed_number : number_to 100 (codes "+100.0") ≡ Some 100
signed_number = refl

pub minus_zero : number_to 100 (codes "-0") ≡ Some 0
minus_zero = refl

pub too_large : number_to 100 (codes "101") ≡ None
too_large = refl

pub negative : number_to 100 (codes "-1") ≡ None
negative = refl

pub empty_piece : pieces is_slash (codes "1//3") ≡ codes "1" ∷ [] ∷ codes "3" ∷ []
empty_piece = refl

pub words_and_blanks : words (codes " 12\t3 \n") ≡ codes "12" ∷ codes "3" ∷ []
words_and_blanks = refl

pub colour_by_blanks : colour_of (codes "1 2 3") ≡ Some (record { r = 1; g = 2; b = 3 })
colour_by_blanks = refl

pub blanks_around : colour_of (codes " 255\t0\n 7.0 \r") ≡ Some (record { r = 255; g = 0; b = 7 })
blanks_around = refl

pub colour_by_slashes : colour_of (codes "1/2/3") ≡ Some (record { r = 1; g = 2; b = 3 })
colour_by_slashes = refl

pub blanks_beside_slashes : colour_of (codes " 1/2/3") ≡ None
blanks_beside_slashes = refl

pub both_ways : colour_of (codes "1/2 3") ≡ None
both_ways = refl

pub two_parts : colour_of (codes "1 2") ≡ None
two_parts = refl

pub four_parts : colour_of (codes "1/2/3/4") ≡ None
four_parts = refl

pub no_green : colour_of (codes "1//3") ≡ None
no_green = refl

pub too_red : colour_of (codes "256 0 0") ≡ None
too_red = refl

pub set_air : set_attr (codes "air") (codes "7") region_attr ≡ Ok (record region_attr { air = 7 })
set_air = refl

pub set_colour : set_attr (codes "rgb") (codes "255 0 0") group_attr ≡ Ok (record group_attr { rgb = Some (record { r = 255; g = 0; b = 0 }) })
set_colour = refl

pub set_density : set_attr (codes "los") (codes "101") region_attr ≡ Err BadValue
set_density = refl

pub set_nothing : set_attr (codes "colour") (codes "1 2 3") region_attr ≡ Err UnknownKey
set_nothing = refl

pub a_setting : is_setting (codes "id") (codes "5") ≡ true
a_setting = refl

pub no_setting : is_setting (codes "id") (codes " 5 ") ≡ false
no_setting = refl
