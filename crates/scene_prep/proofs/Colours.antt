-- The colour that the combinations of a path come to, one after the other.
use Rattle.std.proofs.Common.{◌≡◌, ◌∙◌, List, [], ◌∷◌, refl, ap, sym, Bool, true, false}
use Rattle.std.specs.Prelude.{None, Some, Option, cond, filter_map, unwrap_or, slice_get}
use Rattle.std.specs.Option.{option_or}
use Rattle.std.specs.List.{last_or, cons_option}
use Rattle.region_attr.specs.declared.attr.Attr.{Attr}
use Rattle.region_attr.specs.declared.attr.Rgb.{Rgb}
use Rattle.scene_prep.specs.declared.colour.Colour.{Colour}
use Rattle.scene_prep.specs.Scenes.{inherited_colour, colour_under, white}
use Rattle.scene_prep.specs.Steps.{colour_of, with_colour, under_combs, no_colour}

last_some : (x d e : Rgb) (xs : List Rgb) → unwrap_or (last_or (Some x) xs) d ≡ unwrap_or (last_or (Some x) xs) e
last_some x d e [] = refl
last_some x d e (y ∷ ys) = last_some y d e ys

last_first : (own d : Rgb) (xs : List Rgb) → unwrap_or (last_or (Some own) xs) d ≡ unwrap_or (last_or None xs) own
last_first own d [] = refl
last_first own d (x ∷ xs) = last_some x d own xs

chosen : (first : Option Rgb) (own d : Rgb) (xs : List Rgb) → unwrap_or (option_or first (last_or (Some own) xs)) d ≡ unwrap_or (option_or first (last_or None xs)) own
chosen None own d xs = last_first own d xs
chosen (Some x) own d xs = refl

-- no combination further down changes an inherited colour
inherited : (rgb : Rgb) (attrs : List Attr) → under_combs (colour_of rgb true) attrs ≡ colour_of rgb true
inherited rgb [] = refl
inherited rgb (attr ∷ attrs) = inherited rgb attrs

step : (rgb : Rgb) (own : Option Rgb) (inherit : Bool) (attrs : List Attr)
    → ((x : Rgb) → (under_combs (colour_of x false) attrs).rgb ≡ unwrap_or (option_or (slice_get (filter_map inherited_colour attrs) 0) (last_or None (filter_map (λ attr. attr.rgb) attrs))) x)
    → (under_combs (with_colour (colour_of rgb false) own inherit) attrs).rgb
    ≡ unwrap_or (option_or (slice_get (cons_option (cond inherit own None) (filter_map inherited_colour attrs)) 0) (last_or None (cons_option own (filter_map (λ attr. attr.rgb) attrs)))) rgb
step rgb None true attrs below = below rgb
step rgb None false attrs below = below rgb
step rgb (Some own) true attrs below = ap (λ (c : Colour). c.rgb) (inherited own attrs)
step rgb (Some own) false attrs below = below own ∙ sym (chosen (slice_get (filter_map inherited_colour attrs) 0) own rgb (filter_map (λ attr. attr.rgb) attrs))

from : (attrs : List Attr) (rgb : Rgb) → (under_combs (colour_of rgb false) attrs).rgb
    ≡ unwrap_or (option_or (slice_get (filter_map inherited_colour attrs) 0) (last_or None (filter_map (λ attr. attr.rgb) attrs))) rgb
from [] rgb = refl
from (attr ∷ attrs) rgb = step rgb attr.rgb attr.inherit attrs (from attrs)

pub colour_is : (attrs : List Attr) → (under_combs no_colour attrs).rgb ≡ colour_under attrs
colour_is attrs = from attrs white
