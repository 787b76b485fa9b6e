-- The demo of a number n: a directory of 1,000 spheres in a cube of 10 by 10 by 10, from each of which a corner is cut, and
-- a script that makes pictures of them. Each sphere takes five draws: its radius, its turn, and its red, green and blue.
use Rattle.std.specs.Prelude.{refl, ℕ, zero, suc, ◌+◌, ◌*◌, ◌/◌, ◌%◌, ℤ, pos, ◌-ℤ◌, ◌*ℤ◌, true, false, List, [], ◌∷◌, ◌++◌, Some, codes, decimal}
use Rattle.std.proofs.lemmas.Bool.{ltb-true}
use Rattle.std.proofs.lemmas.Nat.{mod_below}
use Rattle.lattice_core.specs.declared.limit.TheConstants.{MILLIMETRE}
use Rattle.lattice_core.specs.declared.vector.V3.{V3}
use Rattle.lattice_core.specs.declared.turn.Turn.{Turn}
use Rattle.lattice_core.specs.declared.placement.Placement.{Placement}
use Rattle.lattice_core.specs.Vectors.{vector}
use Rattle.prim_arb8.specs.Rpps.{rpp_vertices}
use Rattle.solid_set.specs.declared.solid.Solid.TheVariants as solids
use Rattle.tree_forms.specs.declared.Op.TheVariants.{U, Minus}
use Rattle.tree_forms.specs.Trees.{Tree, Leaf, Join}
use Rattle.comb_tree.specs.Nodes.{Member}
use Rattle.name_core.specs.declared.name.Name.{Name}
use Rattle.region_attr.specs.Attrs.{group_attr}
use Rattle.region_attr.specs.declared.attr.Attr.{Attr}
use Rattle.region_attr.specs.declared.attr.Rgb.{Rgb}
use Rattle.object_set.specs.declared.object.Body.{Body}
use Rattle.object_set.specs.declared.object.Body.TheVariants as bodies
use Rattle.object_set.specs.Objects.{Parts}
use Rattle.word_values.specs.Matrices.{identity}
use Rattle.directory.specs.Listing.{Listing}
use Rattle.directory.specs.Walks.{Entries}
use Rattle.transcript.specs.Lines.{text_of}
use Rattle.scene_make.specs.Draws.{next, after, draw}

abbrev pub cut_name : Name
cut_name = codes "cut"

abbrev pub sphere_name : ℕ → Name
sphere_name i = codes "s" ++ decimal i

abbrev pub region_name : ℕ → Name
region_name i = codes "r" ++ decimal i

abbrev pub all_name : Name
all_name = codes "all"

-- an object without kept attributes
abbrev pub bare : Body → Parts
bare body = record { body = body; kept = [] }

-- so many millimetres
abbrev pub millimetres : ℤ → ℤ
millimetres n = n *ℤ MILLIMETRE

-- what is cut off: a box from 0 to 80 millimetres along each axis
abbrev pub cut : Parts
cut = bare (bodies.Solid (solids.Arb8 (record { vertices = rpp_vertices (pos 0) (millimetres (pos 80)) (pos 0) (millimetres (pos 80)) (pos 0) (millimetres (pos 80)) })))

-- ten places, 200 millimetres apart
abbrev pub coordinate : ℕ → ℤ
coordinate digit = millimetres (pos (200 * digit) -ℤ pos 900)

-- the place of the three decimal digits of i
abbrev pub centre_of : ℕ → V3
centre_of i = vector (coordinate (i / 100)) (coordinate (i / 10 % 10)) (coordinate (i % 10))

-- the sphere i of a radius
abbrev pub sphere_of : ℕ → ℤ → Parts
sphere_of i radius = bare (bodies.Solid (solids.Sphere (record { centre = centre_of i; radius = radius })))

-- the radius, the turn and the colour that are drawn from x
abbrev pub drawn_radius : ℕ → ℤ
drawn_radius x = millimetres (pos (20 + draw x 0 60))

abbrev pub drawn_turn : ℕ → Turn
drawn_turn x = record { number = draw x 1 48; in_range = mod_below (next (after x 1) / 65536) 48 (ltb-true 0 48 refl) }

abbrev pub drawn_colour : ℕ → Rgb
drawn_colour x = record { r = draw x 2 256; g = draw x 3 256; b = draw x 4 256 }

-- a region's attributes
abbrev pub attr_of : ℕ → Rgb → Attr
attr_of id colour = record { region = true; id = id; air = 0; los = 100; mater = 1; rgb = Some colour; inherit = false }

abbrev pub leaf_at : Name → Placement → Tree Member
leaf_at name placement = Leaf (record { name = name; placement = placement })

-- the region i: its sphere without the cut, which is turned, and shifted to the sphere's centre
abbrev pub region_tree : ℕ → Turn → Tree Member
region_tree i turn = Join Minus (leaf_at (sphere_name i) identity) (leaf_at cut_name (record { turn = turn; shift = centre_of i }))

abbrev pub region_of : ℕ → Turn → Rgb → Parts
region_of i turn colour = bare (bodies.Comb (attr_of (1000 + i) colour) (Some (region_tree i turn)))

-- the sphere i and its region, where x is the number before its draws
abbrev pub pair_of : ℕ → ℕ → Entries
pair_of x i = (sphere_name i, sphere_of i (drawn_radius x)) ∷ (region_name i, region_of i (drawn_turn x) (drawn_colour x)) ∷ []

-- the first so many spheres, each with its region
unfoldable pub pairs : ℕ → ℕ → Entries
pairs n zero = []
pairs n (suc i) = pairs n i ++ pair_of (after n (5 * i)) i

-- the union of the regions from 0 to i, from the left
unfoldable pub union_to : ℕ → Tree Member
union_to zero = leaf_at (region_name 0) identity
union_to (suc i) = Join U (union_to i) (leaf_at (region_name (suc i)) identity)

abbrev pub all : Parts
all = bare (bodies.Comb group_attr (Some (union_to 999)))

abbrev pub title_of : ℕ → List ℕ
title_of n = codes "Demo " ++ decimal n

-- the model of a number: the box that is cut off, each sphere with its region, and the union of all regions
abbrev pub demo : ℕ → Listing
demo n = record { title = title_of n; objects = (cut_name, cut) ∷ (pairs n 1000 ++ (all_name, all) ∷ []) }

-- the lines of the script
abbrev pub script_lines : List (List ℕ)
script_lines =
    codes "rt demo1.ppm -z -1105 1105 1500 10 222 222 all"
    ∷ codes "rtcheck -z -1105 1105 1500 10 222 222 all"
    ∷ codes "cattr r555 rgb 255 0 0"
    ∷ codes "rt demo2.ppm -z -1105 1105 1500 10 222 222 all"
    ∷ codes "nirt -2000 -900 -900 +x all"
    ∷ []

-- the script for it: five lines
abbrev pub demo_script : List ℕ
demo_script = text_of script_lines
