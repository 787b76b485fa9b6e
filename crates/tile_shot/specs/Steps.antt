-- Words of the code: the colour of what a ray met.
use Rattle.std.specs.Prelude.{List, Option, Some, None, slice_get}
use Rattle.region_attr.specs.declared.attr.Rgb.{Rgb}
use Rattle.shot_core.specs.declared.first.Seen.{Seen}
use Rattle.shot_core.specs.Regions.{Region}
use Rattle.tile_shot.specs.Pixels.{shaded, black, colour_of}

abbrev pub seen_colour : List Region → Option Seen → Rgb
seen_colour regions None = black
seen_colour regions (Some seen) = shaded seen.level (colour_of (slice_get regions seen.region))
