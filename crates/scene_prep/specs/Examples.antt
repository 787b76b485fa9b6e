-- Regions, sizes and answers of small directories, proved by computation.
use Rattle.std.specs.Prelude.{◌≡◌, ◌^◌, ◌-◌, refl, ℕ, pos, negsuc, List, [], ◌∷◌, map, length, codes, true, Some, None}
use Rattle.std.specs.Fmt.{digits}
use Rattle.std.proofs.Common.{lit<}
use Rattle.tree_forms.specs.declared.Op.TheVariants.{U, N, Minus, X}
use Rattle.tree_forms.specs.Trees.{Tree, Leaf, Join}
use Rattle.name_core.specs.declared.name.Name.{Name}
use Rattle.lattice_core.specs.declared.placement.Placement.{Placement}
use Rattle.lattice_core.specs.declared.vector.V3.{V3}
use Rattle.lattice_core.specs.Vectors.{vector, zero_vector}
use Rattle.lattice_core.specs.declared.boxes.Box3.TheVariants.{Span}
use Rattle.lattice_core.specs.Extents.{extent_between}
use Rattle.region_attr.specs.declared.attr.Attr.{Attr}
use Rattle.region_attr.specs.declared.attr.Rgb.{Rgb}
use Rattle.region_attr.specs.Attrs.{region_attr, group_attr}
use Rattle.solid_set.specs.declared.solid.Solid.{Solid as AnySolid}
use Rattle.solid_set.specs.declared.surface.Surface.TheVariants.{Ball}
use Rattle.bool_weave.specs.Masks.{Mask}
use Rattle.comb_tree.specs.Nodes.{Member}
use Rattle.object_set.specs.Objects.{Parts}
use Rattle.object_set.specs.declared.object.Body.TheVariants.{Solid, Comb}
use Rattle.directory.specs.Walks.{Entries}
use Rattle.scene_prep.specs.declared.fault.PrepFault.TheVariants.{Missing, TooMany}
use Rattle.shot_core.specs.Regions.{Region}
use Rattle.solid_set.specs.Placings.{point_under, surface_under, box_under}
use Rattle.scene_prep.specs.Solids.{Expanded, in_world}
use Rattle.scene_prep.specs.Regions.{NamedRegion, regions_of, regions_of_name}
use Rattle.scene_prep.specs.Scenes.{white, colour_under, path_text, body_of, scene_of}
use Rattle.scene_prep.specs.Sizes.{names_size, size_of_name, told_size}
use Rattle.scene_prep.specs.Outcomes.{prep_fault}

abbrev named : ℕ → Name
named byte = byte ∷ []

-- names of one letter
abbrev a : Name
a = codes "a"

abbrev b : Name
b = codes "b"

abbrev c : Name
c = codes "c"

abbrev s : Name
s = codes "s"

abbrev t : Name
t = codes "t"

abbrev x : Name
x = codes "x"

abbrev solid : Name → AnySolid → Name × Parts
solid name one = (name, record { body = Solid one; kept = [] })

abbrev comb : Name → Attr → Tree Member → Name × Parts
comb name attr tree = (name, record { body = Comb attr (Some tree); kept = [] })

abbrev empty_comb : Name → Attr → Name × Parts
empty_comb name attr = (name, record { body = Comb attr None; kept = [] })

-- a member, and how it is placed
abbrev at : Placement → Name → Tree Member
at p name = Leaf (record { name = name; placement = p })

-- an instance in an expanded tree
abbrev put : AnySolid → List Placement → Expanded
put one placements = Leaf (Some (record { solid = one; placements = placements }))

abbrev never : Expanded
never = Leaf None

-- a region that is no node, without number and air, under combinations of any attributes
abbrev plain : List Name → List Attr → Expanded → NamedRegion
plain names attrs tree = record { names = names; node = None; id = 0; air = 0; attrs = attrs; tree = tree }

-- a node's
abbrev node : List Name → ℕ → List Attr → Expanded → NamedRegion
node names number attrs tree = record { names = names; node = Some number; id = 0; air = 0; attrs = attrs; tree = tree }

-- a region combination's
abbrev marked : List Name → ℕ → ℕ → List Attr → Expanded → NamedRegion
marked names id air attrs tree = record { names = names; node = None; id = id; air = air; attrs = attrs; tree = tree }

abbrev place_and_path : Region → ℕ × List ℕ
place_and_path r = (r.place, r.path)

abbrev place_and_tree : Region → ℕ × List ℕ × Mask
place_and_tree r = (r.place, r.path, r.body.tree)

module _ (v w : AnySolid) (p q : Placement) where
  -- nothing is there under the name: it is missing, and it gives no region
  nothing_there : prep_fault (solid s v ∷ []) (s ∷ x ∷ t ∷ []) ≡ Some (Missing x)
  unfolding size_of_name
  nothing_there = refl

  no_region_of_it : regions_of (solid s v ∷ []) (x ∷ []) ≡ []
  unfolding regions_of_name
  no_region_of_it = refl

  -- a solid is one region, with number and air 0, where it was made
  a_solid : regions_of (solid s v ∷ []) (s ∷ []) ≡ plain (s ∷ []) [] (put v []) ∷ []
  unfolding regions_of_name
  a_solid = refl

  -- a region combination is one region, whose number and air it has
  a_region : regions_of (solid s v ∷ comb a (record region_attr { air = 3 }) (Join Minus (at p s) (at q s)) ∷ []) (a ∷ [])
      ≡ marked (a ∷ []) 1000 3 (record region_attr { air = 3 } ∷ []) (Join Minus (put v (p ∷ [])) (put v (q ∷ []))) ∷ []
  unfolding regions_of_name
  a_region = refl

  -- region marks below it are ignored, and so is a number there
  a_region_below : regions_of (solid s v ∷ comb b (record region_attr { id = 7 }) (at p s) ∷ comb a region_attr (Join U (at q b) (at q s)) ∷ []) (a ∷ [])
      ≡ marked (a ∷ []) 1000 0 (region_attr ∷ []) (Join U (put v (q ∷ p ∷ [])) (put v (q ∷ []))) ∷ []
  unfolding regions_of_name
  a_region_below = refl

  -- of a plain combination a union's sides give their regions, a member those of what it names, and a difference is one region
  a_plain_combination : regions_of (solid s v ∷ solid t w ∷ comb a group_attr (Join U (at p s) (Join Minus (at p t) (at q s))) ∷ []) (a ∷ [])
      ≡ plain (a ∷ s ∷ []) (group_attr ∷ []) (put v (p ∷ [])) ∷ node (a ∷ []) 1 (group_attr ∷ []) (Join Minus (put w (p ∷ [])) (put v (q ∷ []))) ∷ []
  unfolding regions_of_name
  a_plain_combination = refl

  -- an exclusive union is one region too
  a_node_of_an_exclusive_union : regions_of (solid s v ∷ solid t w ∷ comb a group_attr (Join U (at p s) (Join X (at p t) (at q s))) ∷ []) (a ∷ [])
      ≡ plain (a ∷ s ∷ []) (group_attr ∷ []) (put v (p ∷ [])) ∷ node (a ∷ []) 1 (group_attr ∷ []) (Join X (put w (p ∷ [])) (put v (q ∷ []))) ∷ []
  unfolding regions_of_name
  a_node_of_an_exclusive_union = refl

  -- the regions of members that are region combinations keep their numbers
  a_region_in_a_plain_one : regions_of (solid s v ∷ comb b (record region_attr { id = 7 }) (at p s) ∷ comb a group_attr (Join U (at q b) (at q b)) ∷ []) (a ∷ [])
      ≡ marked (a ∷ b ∷ []) 7 0 (group_attr ∷ record region_attr { id = 7 } ∷ []) (put v (q ∷ p ∷ []))
      ∷ marked (a ∷ b ∷ []) 7 0 (group_attr ∷ record region_attr { id = 7 } ∷ []) (put v (q ∷ p ∷ [])) ∷ []
  unfolding regions_of_name
  a_region_in_a_plain_one = refl

  -- the nodes of a combination are numbered from the left, and its members do not count; those of a member begin again
  nodes_are_numbered : map path_text (regions_of (solid s v ∷ comb b group_attr (Join U (Join N (at p s) (at p s)) (Join Minus (at p s) (at p s)))
      ∷ comb a group_attr (Join U (Join U (Join Minus (at p s) (at q s)) (at p b)) (Join U (at p s) (Join N (at p s) (at q s)))) ∷ []) (a ∷ []))
      ≡ codes "/a#1" ∷ codes "/a/b#1" ∷ codes "/a/b#2" ∷ codes "/a/s" ∷ codes "/a#2" ∷ []
  unfolding regions_of_name digits
  nodes_are_numbered = refl

  -- a node below another one that is no union does not count, and a union below it is not walked
  a_node_is_whole : regions_of (solid s v ∷ comb b region_attr (at p s) ∷ comb a group_attr (Join Minus (Join U (at p b) (Join N (at p s) (at q s))) (at q s)) ∷ []) (a ∷ [])
      ≡ node (a ∷ []) 1 (group_attr ∷ []) (Join Minus (Join U (put v (p ∷ p ∷ [])) (Join N (put v (p ∷ [])) (put v (q ∷ [])))) (put v (q ∷ []))) ∷ []
  unfolding regions_of_name
  a_node_is_whole = refl

  -- the path of a region leads from the name that was given
  a_path : map path_text (regions_of (solid s v ∷ comb b group_attr (at p s) ∷ comb a group_attr (at q b) ∷ []) (a ∷ b ∷ s ∷ []))
      ≡ codes "/a/b/s" ∷ codes "/b/s" ∷ codes "/s" ∷ []
  unfolding regions_of_name
  a_path = refl

  -- a member that stands twice is two instances, numbered from the left
  twice_a_member : (body_of (plain [] [] (Join U (put v (p ∷ [])) (put v (p ∷ []))))).tree ≡ Join U (Leaf (Some 0)) (Leaf (Some 1))
  twice_a_member = refl

  its_instances : (body_of (plain [] [] (Join U (put v (p ∷ [])) (put v (p ∷ []))))).instances
      ≡ in_world (record { solid = v; placements = p ∷ [] }) ∷ in_world (record { solid = v; placements = p ∷ [] }) ∷ []
  its_instances = refl

  -- a name that is given twice has its regions twice, with places of their own
  twice_a_name : map place_and_path (scene_of (solid s v ∷ solid t w ∷ []) (s ∷ t ∷ s ∷ [])) ≡ (1, codes "/s") ∷ (2, codes "/t") ∷ (3, codes "/s") ∷ []
  unfolding regions_of_name
  twice_a_name = refl

  -- a missing member gives no region of a plain combination, and takes no place
  a_missing_member : map place_and_path (scene_of (solid s v ∷ comb a group_attr (Join U (at p x) (at p s)) ∷ []) (a ∷ s ∷ []))
      ≡ (1, codes "/a/s") ∷ (2, codes "/s") ∷ []
  unfolding regions_of_name
  a_missing_member = refl

  -- in a region's tree it is a leaf that is always false and no instance
  a_missing_leaf : map (λ r. r.body.tree) (scene_of (solid s v ∷ comb a region_attr (Join Minus (Join U (at p x) (at p s)) (at q s)) ∷ []) (a ∷ []))
      ≡ Join Minus (Join U (Leaf None) (Leaf (Some 0))) (Leaf (Some 1)) ∷ []
  unfolding regions_of_name
  a_missing_leaf = refl

  its_two_instances : map (λ r. length r.body.instances) (scene_of (solid s v ∷ comb a region_attr (Join Minus (Join U (at p x) (at p s)) (at q s)) ∷ []) (a ∷ [])) ≡ 2 ∷ []
  unfolding regions_of_name
  its_two_instances = refl

  -- a region of missing members only has a place
  nothing_but_missing : map place_and_tree (scene_of (solid s v ∷ comb a region_attr (at p x) ∷ []) (a ∷ s ∷ []))
      ≡ (1, codes "/a", Leaf None) ∷ (2, codes "/s", Leaf (Some 0)) ∷ []
  unfolding regions_of_name
  nothing_but_missing = refl

  no_instance_there : map (λ r. length r.body.instances) (scene_of (comb a region_attr (at p x) ∷ []) (a ∷ [])) ≡ 0 ∷ []
  unfolding regions_of_name
  no_instance_there = refl

  -- and so has a node of missing members only
  a_node_of_missing : map place_and_tree (scene_of (comb a group_attr (Join N (at p x) (at p x)) ∷ []) (a ∷ []))
      ≡ (1, codes "/a#1", Join N (Leaf None) (Leaf None)) ∷ []
  unfolding regions_of_name digits
  a_node_of_missing = refl

  -- an empty combination gives no region, marked or not, and takes no place
  nothing_in_it : map place_and_path (scene_of (solid s v ∷ empty_comb b group_attr ∷ empty_comb c region_attr ∷ []) (b ∷ c ∷ s ∷ [])) ≡ (1, codes "/s") ∷ []
  unfolding regions_of_name
  nothing_in_it = refl

  -- below a region it is a leaf that is always false, marked or not
  nothing_below : regions_of (solid s v ∷ empty_comb b region_attr ∷ comb a region_attr (Join U (at p s) (at q b)) ∷ []) (a ∷ [])
      ≡ marked (a ∷ []) 1000 0 (region_attr ∷ []) (Join U (put v (p ∷ [])) never) ∷ []
  unfolding regions_of_name
  nothing_below = refl

  -- down a path the upper placement is applied last
  the_upper_one_last : (m : V3) → point_under (p ∷ q ∷ []) m ≡ point_under (p ∷ []) (point_under (q ∷ []) m)
  the_upper_one_last m = refl

  -- a solid, a missing name and an empty combination count 1 each
  sizes_of_one : map (λ n. names_size (solid s v ∷ empty_comb b region_attr ∷ []) (n ∷ [])) (s ∷ x ∷ b ∷ []) ≡ 1 ∷ 1 ∷ 1 ∷ []
  unfolding size_of_name
  sizes_of_one = refl

  -- another combination counts as its leaves, whatever its operators and marks
  size_of_leaves : names_size (solid s v ∷ comb b region_attr (Join Minus (at p s) (at q s)) ∷ comb a group_attr (Join U (Join N (at p b) (at p b)) (at p x)) ∷ []) (a ∷ []) ≡ 5
  unfolding size_of_name
  size_of_leaves = refl

  -- names are counted as often as they are given
  size_of_names : names_size (solid s v ∷ comb b region_attr (Join Minus (at p s) (at q s)) ∷ []) (b ∷ s ∷ b ∷ []) ≡ 5
  unfolding size_of_name
  size_of_names = refl

  -- a chain of combinations, each of which names the one before twice: the sixteenth has 65,536 leaves
  abbrev doubled : Name → Name → Name × Parts
  doubled name below = comb name group_attr (Join U (at p below) (at p below))

  abbrev doubles : Entries
  doubles =
      solid s v ∷ doubled (named 1) s ∷ doubled (named 2) (named 1) ∷ doubled (named 3) (named 2) ∷ doubled (named 4) (named 3)
      ∷ doubled (named 5) (named 4) ∷ doubled (named 6) (named 5) ∷ doubled (named 7) (named 6) ∷ doubled (named 8) (named 7)
      ∷ doubled (named 9) (named 8) ∷ doubled (named 10) (named 9) ∷ doubled (named 11) (named 10) ∷ doubled (named 12) (named 11)
      ∷ doubled (named 13) (named 12) ∷ doubled (named 14) (named 13) ∷ doubled (named 15) (named 14) ∷ doubled (named 16) (named 15) ∷ []

  -- as many as are prepared, and one more
  not_too_many : prep_fault doubles (named 16 ∷ []) ≡ None
  unfolding size_of_name
  not_too_many = refl

  one_too_many : prep_fault doubles (s ∷ named 16 ∷ []) ≡ Some (TooMany 65537)
  unfolding size_of_name
  one_too_many = refl

  -- a missing name is told before the size, wherever it stands
  missing_before_too_many : prep_fault doubles (named 16 ∷ named 16 ∷ x ∷ []) ≡ Some (Missing x)
  unfolding size_of_name
  missing_before_too_many = refl

-- a size is told as it is, or as the greatest number of 32 bits
told_as_it_is : told_size (2 ^ 32 - 1) ≡ 4294967295
told_as_it_is = refl

told_as_the_greatest : told_size (4096 ^ 16) ≡ 4294967295
told_as_the_greatest = refl

-- without a colour a region is white
no_colour : colour_under (group_attr ∷ region_attr ∷ []) ≡ white
no_colour = refl

module _ (one two three : Rgb) where
  abbrev coloured : Rgb → Attr
  coloured rgb = record group_attr { rgb = Some rgb }

  abbrev inherited : Rgb → Attr
  inherited rgb = record group_attr { rgb = Some rgb; inherit = true }

  -- of colours that are not inherited the last one counts
  the_last_colour : colour_under (coloured one ∷ coloured two ∷ group_attr ∷ []) ≡ two
  the_last_colour = refl

  -- one that is inherited takes the place of those further down
  an_inherited_colour : colour_under (coloured one ∷ inherited two ∷ inherited three ∷ coloured one ∷ []) ≡ two
  an_inherited_colour = refl

  -- without a colour nothing is inherited
  nothing_inherited : colour_under (record group_attr { inherit = true } ∷ coloured one ∷ []) ≡ one
  nothing_inherited = refl

  -- the colours below a region do not count, and its own does
  colours_of_a_region : (v : AnySolid) (p : Placement)
      → map (λ r. r.body.rgb) (scene_of (solid s v ∷ comb b (inherited one) (at p s) ∷ comb a (record region_attr { rgb = Some two }) (at p b) ∷ comb c (coloured three) (at p a) ∷ []) (a ∷ c ∷ []))
      ≡ two ∷ two ∷ []
  unfolding regions_of_name
  colours_of_a_region v p = refl

  -- a node has the colours down to its combination, and a solid those above it
  colours_on_a_path : (v : AnySolid) (p : Placement)
      → map (λ r. r.body.rgb) (scene_of (solid s v ∷ comb b (coloured one) (Join U (at p s) (Join N (at p s) (at p s))) ∷ comb a (inherited two) (at p b) ∷ []) (b ∷ a ∷ s ∷ []))
      ≡ one ∷ one ∷ two ∷ two ∷ white ∷ []
  unfolding regions_of_name
  colours_on_a_path v p = refl

-- a shift by (10, 0, 0), and a turn that takes (x, y, z) to (-x, z, -y)
abbrev shifted : Placement
shifted = record { turn = record { number = 0; in_range = lit< tt }; shift = vector (pos 10) (pos 0) (pos 0) }

abbrev turned : Placement
turned = record { turn = record { number = 13; in_range = lit< tt }; shift = zero_vector }

-- the solid is shifted first and then turned, or turned first and then shifted
shifted_then_turned : surface_under (turned ∷ shifted ∷ []) (Ball (vector (pos 1) (pos 2) (pos 3)) (pos 5)) ≡ Ball (vector (negsuc 10) (pos 3) (negsuc 1)) (pos 5)
shifted_then_turned = refl

turned_then_shifted : surface_under (shifted ∷ turned ∷ []) (Ball (vector (pos 1) (pos 2) (pos 3)) (pos 5)) ≡ Ball (vector (pos 9) (pos 3) (negsuc 1)) (pos 5)
turned_then_shifted = refl

its_box : box_under (shifted ∷ turned ∷ []) (vector (pos 0) (pos 0) (pos 0) ∷ vector (pos 1) (pos 2) (pos 3) ∷ [])
    ≡ Span (extent_between (pos 9) (pos 10)) (extent_between (pos 0) (pos 3)) (extent_between (negsuc 1) (pos 0))
its_box = refl
