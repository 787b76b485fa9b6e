-- The scene of a list of names: its regions with their places, their paths, their colours, and their instances.
use Rattle.std.specs.Prelude.{ℕ, List, [], ◌++◌, map, flat_map, filter_map, cond, codes, decimal, unwrap_or, Option, Some, None, slice_get}
use Rattle.std.specs.Option.{option_or}
use Rattle.std.specs.List.{enumerate_from, last_or}
use Rattle.name_core.specs.declared.name.Name.{Name}
use Rattle.region_attr.specs.declared.attr.Attr.{Attr}
use Rattle.region_attr.specs.declared.attr.Rgb.{Rgb}
use Rattle.directory.specs.Walks.{Entries}
use Rattle.shot_core.specs.Regions.{RegionBody, Region}
use Rattle.scene_prep.specs.Solids.{solids_of, numbered, in_world}
use Rattle.scene_prep.specs.Regions.{NamedRegion, regions_of}

-- # and the number of a node
abbrev pub node_text : Option ℕ → List ℕ
node_text None = []
node_text (Some number) = codes "#" ++ decimal number

-- / before each name
abbrev pub path_text : NamedRegion → List ℕ
path_text region = flat_map (λ name. codes "/" ++ name) region.names ++ node_text region.node

-- a colour that takes the place of those further down
abbrev pub inherited_colour : Attr → Option Rgb
inherited_colour attr = cond attr.inherit attr.rgb None

abbrev pub white : Rgb
white = record { r = 255; g = 255; b = 255 }

-- the first colour that is inherited, else the last colour, else white
abbrev pub colour_under : List Attr → Rgb
colour_under attrs =
    unwrap_or (option_or (slice_get (filter_map inherited_colour attrs) 0) (last_or None (filter_map (λ attr. attr.rgb) attrs))) white

-- the leaves of a body are numbered from 0
abbrev pub body_of : NamedRegion → RegionBody
body_of region = record {
  id = region.id;
  air = region.air;
  rgb = colour_under region.attrs;
  tree = numbered 0 region.tree;
  instances = map in_world (solids_of region.tree);
}

abbrev pub region_at : ℕ → NamedRegion → Region
region_at place region = record { place = place; path = path_text region; body = body_of region }

-- the regions of the names in their order, with places from 1
abbrev pub scene_of : Entries → List Name → List Region
scene_of directory names = map (λ e. region_at e.0 e.1) (enumerate_from 1 (regions_of directory names))
