-- Shots of small scenes, proved by computation.
use Rattle.std.specs.Prelude.{◌≡◌, refl, ℕ, ℤ, pos, negsuc, true, false, List, [], ◌∷◌, Some, None}
use Rattle.lattice_core.specs.declared.limit.TheConstants.{FAR}
use Rattle.std.proofs.Common.{inl, inr}
use Rattle.lattice_core.specs.declared.boxes.Box3.{Box3}
use Rattle.lattice_core.specs.declared.boxes.Box3.TheVariants.{Empty, Span}
use Rattle.lattice_core.specs.declared.ray.Ray.{Ray}
use Rattle.lattice_core.specs.declared.ray.Dir.TheVariants.{PlusX}
use Rattle.lattice_core.specs.declared.view.View.{View}
use Rattle.lattice_core.specs.Extents.{extent_between}
use Rattle.lattice_core.specs.Vectors.{vector, zero_vector}
use Rattle.prim_arb8.specs.Faces.{planes_of}
use Rattle.prim_sphere.specs.Spheres.{box_of as ball_box}
use Rattle.surd_order.specs.declared.position.Pos.{Pos}
use Rattle.surd_order.specs.declared.position.Pos.TheVariants.{Frac, Surd}
use Rattle.surd_order.specs.PlaceOrder.{place_cmp}
use Rattle.tree_forms.specs.declared.Op.TheVariants.{U, N, Minus, X}
use Rattle.tree_forms.specs.Trees.{Leaf, Join}
use Rattle.solid_set.specs.declared.surface.Surface.TheVariants.{Planes, HalfSpace, Ball}
use Rattle.solid_set.specs.Bounds.{all_of_space}
use Rattle.solid_set.specs.Rpps.{rpp_vertices}
use Rattle.bool_weave.specs.Masks.{Mask}
use Rattle.shot_core.specs.declared.shot.Lit.{Lit}
use Rattle.shot_core.specs.Regions.{Instance, Region, size_of_all, firsts_from}
use Rattle.shot_core.specs.TreeBoxes.{tree_box}
use Rattle.shot_core.specs.MetBoxes.{met_count}
use Rattle.shot_core.specs.Shots.{lit_of, overlaps_on}
use Rattle.shot_core.specs.Pruned.{kept_for}
use Rattle.shot_core.specs.Candidates.{candidates_of}
use Rattle.shot_core.specs.Points.{TreeHolds, Stretch, ray_places, stretches_of}
use Rattle.shot_core.specs.Steps.{noted, owned_from, with_instances}

-- a box by its least and greatest x, y and z
abbrev span : ℤ → ℤ → ℤ → ℤ → ℤ → ℤ → Box3
span xlo xhi ylo yhi zlo zhi = Span (extent_between xlo xhi) (extent_between ylo yhi) (extent_between zlo zhi)

abbrev box : ℤ → ℤ → ℤ → ℤ → ℤ → ℤ → Instance
box xlo xhi ylo yhi zlo zhi = record { surface = Planes (planes_of (rpp_vertices xlo xhi ylo yhi zlo zhi)); bounds = span xlo xhi ylo yhi zlo zhi }

-- a ball of radius 5 around the origin
abbrev ball : Instance
ball = record { surface = Ball zero_vector (pos 5); bounds = ball_box zero_vector (pos 5) }

-- the points with 5 x at most d
abbrev half : ℤ → Instance
half d = record { surface = HalfSpace (record { n = vector (pos 5) (pos 0) (pos 0); d = d }); bounds = all_of_space }

abbrev region : ℕ → ℕ → Mask → List Instance → Region
region place air tree instances = record { place = place; path = []; body = record { id = 0; air = air; rgb = record { r = 0; g = 0; b = 0 }; tree = tree; instances = instances } }

abbrev leaf : ℕ → Mask
leaf i = Leaf (Some i)

-- of one instance
abbrev single : ℕ → ℕ → Instance → Region
single place air i = region place air (leaf 0) (i ∷ [])

abbrev ray : ℤ → ℤ → ℤ → Ray
ray x y z = record { origin = vector x y z; dir = PlusX }

abbrev whole : ℕ → Pos
whole n = Frac (pos n) (pos 1)

-- what the region of a number has of a ray, with the instance and the face that are hit, and the level
abbrev lit : ℕ → Pos → Pos → ℕ → ℕ → ℕ → Lit
lit r start end instance face level = record { region = r; start = start; end = end; hit = record { instance = instance; face = face }; level = level }

-- the half-space ends at 26/5, before the ball begins
ball_less_a_half_space_before_it : lit_of (region 1 0 (Join Minus (leaf 0) (leaf 1)) (ball ∷ half (negsuc 23) ∷ []) ∷ []) (ray (negsuc 9) (pos 1) (pos 1)) ≡ lit 0 (Surd (pos 10) false 23) (Surd (pos 10) true 23) 0 1 239 ∷ []
unfolding place_cmp
ball_less_a_half_space_before_it = refl

-- and at 27/5, inside the ball: its end is hit
ball_less_a_half_space : lit_of (region 1 0 (Join Minus (leaf 0) (leaf 1)) (ball ∷ half (negsuc 22) ∷ []) ∷ []) (ray (negsuc 9) (pos 1) (pos 1)) ≡ lit 0 (Frac (pos 27) (pos 5)) (Surd (pos 10) true 23) 1 1 255 ∷ []
unfolding place_cmp
ball_less_a_half_space = refl

-- a ray in the plane in which two boxes touch belongs to the one behind it
in_the_plane_between_boxes : lit_of (single 1 0 (box (pos 0) (pos 10) (pos 0) (pos 10) (pos 0) (pos 10)) ∷ single 2 0 (box (pos 0) (pos 10) (pos 10) (pos 20) (pos 0) (pos 10)) ∷ []) (ray (negsuc 4) (pos 10) (pos 5))
    ≡ lit 1 (whole 5) (whole 15) 1 1 255 ∷ []
unfolding place_cmp
in_the_plane_between_boxes = refl

abbrev first_box : Instance
first_box = box (pos 0) (pos 10) (pos 0) (pos 10) (pos 0) (pos 10)

-- two boxes that touch are one partition
touching_boxes : lit_of (region 1 0 (Join U (leaf 0) (leaf 1)) (first_box ∷ box (pos 10) (pos 20) (pos 0) (pos 10) (pos 0) (pos 10) ∷ []) ∷ []) (ray (negsuc 4) (pos 5) (pos 5))
    ≡ lit 0 (whole 5) (whole 25) 0 1 255 ∷ []
unfolding place_cmp
touching_boxes = refl

-- a box, united with a second one less a third
union_less : lit_of (region 1 0 (Join U (leaf 0) (Join Minus (leaf 1) (leaf 2))) (first_box ∷ box (pos 20) (pos 30) (pos 0) (pos 10) (pos 0) (pos 10) ∷ box (pos 5) (pos 25) (pos 0) (pos 10) (pos 0) (pos 10) ∷ []) ∷ []) (ray (negsuc 4) (pos 5) (pos 5))
    ≡ lit 0 (whole 5) (whole 15) 0 1 255 ∷ lit 0 (whole 30) (whole 35) 2 2 255 ∷ []
unfolding place_cmp
union_less = refl

-- of two boxes what exactly one of them has: it begins anew where the first box ends
exclusive : lit_of (region 1 0 (Join X (leaf 0) (leaf 1)) (first_box ∷ box (pos 5) (pos 15) (pos 0) (pos 10) (pos 0) (pos 10) ∷ []) ∷ []) (ray (negsuc 4) (pos 5) (pos 5))
    ≡ lit 0 (whole 5) (whole 10) 0 1 255 ∷ lit 0 (whole 15) (whole 20) 0 2 255 ∷ []
unfolding place_cmp
exclusive = refl

-- the same as two regions: the second one's instances are numbered after the first one's
two_regions : lit_of (single 1 0 first_box ∷ region 2 0 (Join Minus (leaf 0) (leaf 1)) (box (pos 20) (pos 30) (pos 0) (pos 10) (pos 0) (pos 10) ∷ box (pos 5) (pos 25) (pos 0) (pos 10) (pos 0) (pos 10) ∷ []) ∷ []) (ray (negsuc 4) (pos 5) (pos 5))
    ≡ lit 0 (whole 5) (whole 15) 0 1 255 ∷ lit 1 (whole 30) (whole 35) 2 2 255 ∷ []
unfolding place_cmp
two_regions = refl

abbrev overlapping : ℕ → List Region
overlapping air = single 1 air first_box ∷ single 2 0 (box (pos 5) (pos 15) (pos 0) (pos 10) (pos 0) (pos 10)) ∷ []

overlapping_regions : lit_of (overlapping 0) (ray (negsuc 4) (pos 5) (pos 5)) ≡ lit 0 (whole 5) (whole 15) 0 1 255 ∷ lit 1 (whole 15) (whole 20) 0 2 255 ∷ []
unfolding place_cmp
overlapping_regions = refl

their_overlap : overlaps_on (overlapping 0) (ray (negsuc 4) (pos 5) (pos 5)) ≡ record { one = 0; two = 1; start = whole 10; end = whole 15 } ∷ []
unfolding place_cmp
their_overlap = refl

-- with air in the first one the second wins, and their overlap is not told
beside_air : lit_of (overlapping 1) (ray (negsuc 4) (pos 5) (pos 5)) ≡ lit 0 (whole 5) (whole 10) 0 1 255 ∷ lit 1 (whole 10) (whole 20) 1 1 255 ∷ []
unfolding place_cmp
beside_air = refl

no_overlap_with_air : overlaps_on (overlapping 1) (ray (negsuc 4) (pos 5) (pos 5)) ≡ []
unfolding place_cmp
no_overlap_with_air = refl

-- the ray misses the second box's box
one_box_met : met_count (single 1 0 first_box ∷ single 2 0 (box (pos 0) (pos 10) (pos 50) (pos 60) (pos 0) (pos 10)) ∷ []) (ray (negsuc 4) (pos 5) (pos 5)) ≡ 1
one_box_met = refl

-- missing members count for the size, and take no number of an instance
sizes_and_numbers : size_of_all (region 1 0 (Join U (Leaf None) (leaf 0)) (first_box ∷ []) ∷ region 2 0 (Leaf None) [] ∷ single 3 0 first_box ∷ []) ≡ 4
sizes_and_numbers = refl

numbers_of_first_instances : firsts_from 0 (region 1 0 (Join U (Leaf None) (leaf 0)) (first_box ∷ []) ∷ region 2 0 (Leaf None) [] ∷ single 3 0 first_box ∷ []) ≡ 0 ∷ 1 ∷ 1 ∷ []
numbers_of_first_instances = refl

abbrev two_boxes : List Box3
two_boxes = span (pos 0) (pos 10) (pos 0) (pos 10) (pos 0) (pos 10) ∷ span (pos 20) (pos 30) (pos 5) (pos 25) (pos 0) (pos 10) ∷ []

box_of_a_union : tree_box two_boxes (Join U (leaf 0) (leaf 1)) ≡ span (pos 0) (pos 30) (pos 0) (pos 25) (pos 0) (pos 10)
box_of_a_union = refl

box_of_an_intersection : tree_box two_boxes (Join N (leaf 0) (leaf 1)) ≡ Empty
box_of_an_intersection = refl

box_of_a_difference : tree_box two_boxes (Join Minus (leaf 0) (leaf 1)) ≡ span (pos 0) (pos 10) (pos 0) (pos 10) (pos 0) (pos 10)
box_of_a_difference = refl

box_of_an_exclusive_union : tree_box two_boxes (Join X (leaf 0) (leaf 1)) ≡ span (pos 0) (pos 30) (pos 0) (pos 25) (pos 0) (pos 10)
box_of_an_exclusive_union = refl

box_beside_a_missing_member : tree_box two_boxes (Join U (Leaf None) (leaf 1)) ≡ span (pos 20) (pos 30) (pos 5) (pos 25) (pos 0) (pos 10)
box_beside_a_missing_member = refl

box_of_a_missing_member : tree_box two_boxes (Leaf None) ≡ Empty
box_of_a_missing_member = refl

-- a view of two tiles along x: the columns of the first are at y from 15 down to 0, those of the second from -1 down to -16
abbrev two_tiles : View
two_tiles = record { corner = vector (negsuc 3) (pos 15) (pos 15); dir = PlusX; cell = pos 1; w = 32; h = 16 }

-- its high side is at the column at -1
abbrev second_box : Instance
second_box = box (pos 0) (pos 10) (negsuc 19) (negsuc 0) (pos 0) (pos 10)

kept_for_the_first_tile : kept_for (single 1 0 first_box ∷ single 2 0 second_box ∷ []) two_tiles 0 ≡ single 1 0 first_box ∷ []
kept_for_the_first_tile = refl

kept_for_the_second_tile : kept_for (single 1 0 first_box ∷ single 2 0 second_box ∷ []) two_tiles 1 ≡ single 2 0 second_box ∷ []
kept_for_the_second_tile = refl

-- the same with columns at 15, 5, -5 and so on: a box strictly between two of them is kept, though no ray of the tile meets it
kept_between_columns : kept_for (single 1 0 (box (pos 0) (pos 10) (pos 7) (pos 9) (pos 0) (pos 10)) ∷ []) (record two_tiles { cell = pos 10 }) 0 ≡ single 1 0 (box (pos 0) (pos 10) (pos 7) (pos 9) (pos 0) (pos 10)) ∷ []
kept_between_columns = refl

-- a difference is kept by the box of what is left of it, not of what is taken away
not_kept_for_what_is_taken_away : kept_for (region 1 0 (Join Minus (leaf 0) (leaf 1)) (first_box ∷ second_box ∷ []) ∷ []) two_tiles 1 ≡ []
not_kept_for_what_is_taken_away = refl

-- an exclusive union is kept by both boxes
kept_for_the_other_side : kept_for (region 1 0 (Join X (leaf 0) (leaf 1)) (first_box ∷ second_box ∷ []) ∷ []) two_tiles 1 ≡ region 1 0 (Join X (leaf 0) (leaf 1)) (first_box ∷ second_box ∷ []) ∷ []
kept_for_the_other_side = refl

-- boxes that touch may overlap, a third one far away does not
candidates_touch : candidates_of (single 1 0 first_box ∷ single 2 0 (box (pos 10) (pos 20) (pos 0) (pos 10) (pos 0) (pos 10)) ∷ single 3 0 second_box ∷ [])
    ≡ single 1 0 first_box ∷ single 2 0 (box (pos 10) (pos 20) (pos 0) (pos 10) (pos 0) (pos 10)) ∷ []
candidates_touch = refl

-- nothing overlaps a region of air
no_candidates_with_air : candidates_of (overlapping 1) ≡ []
no_candidates_with_air = refl

-- a box is crossed at two planes of its faces and at two of its vertices' box; the others hold the ray
places_of_a_box : ray_places (single 1 0 first_box ∷ []) (ray (negsuc 4) (pos 5) (pos 5)) ≡ whole 0 ∷ Frac FAR (pos 1) ∷ Frac (pos 500) (pos 100) ∷ Frac (pos 1500) (pos 100) ∷ whole 15 ∷ whole 5 ∷ []
places_of_a_box = refl

-- nothing is crossed of a box beside the ray, but the planes across it are
places_of_a_box_beside : ray_places (single 1 0 (box (pos 0) (pos 10) (pos 50) (pos 60) (pos 0) (pos 10)) ∷ []) (ray (negsuc 4) (pos 5) (pos 5))
    ≡ whole 0 ∷ Frac FAR (pos 1) ∷ Frac (pos 500) (pos 100) ∷ Frac (pos 1500) (pos 100) ∷ whole 15 ∷ whole 5 ∷ []
places_of_a_box_beside = refl

abbrev stretch : ℕ → Pos → Pos → Stretch
stretch r start end = record { region = r; start = start; end = end }

stretches_beside_air : stretches_of (lit_of (overlapping 1) (ray (negsuc 4) (pos 5) (pos 5))) ≡ stretch 0 (whole 5) (whole 10) ∷ stretch 1 (whole 10) (whole 20) ∷ []
unfolding place_cmp
stretches_beside_air = refl

-- to take away a missing member takes nothing away, and of one nothing is left
less_a_missing_member : (says : ℕ → Type 0) → says 0 → TreeHolds (Join Minus (leaf 0) (Leaf None)) says
less_a_missing_member says here = (here, λ none. none)

of_a_missing_member : (says : ℕ → Type 0) → ¬ (TreeHolds (Join Minus (Leaf None) (leaf 0)) says)
of_a_missing_member says = λ holds. holds.0

-- an exclusive union with a missing member is the other one, and never holds where both are
beside_a_missing_member : (says : ℕ → Type 0) → says 0 → TreeHolds (Join X (Leaf None) (leaf 0)) says
beside_a_missing_member says here = inr (λ none. none, here)

where_both_are : (says : ℕ → Type 0) → says 0 → says 1 → ¬ (TreeHolds (Join X (leaf 0) (leaf 1)) says)
where_both_are says here there (inl holds) = holds.1 there
where_both_are says here there (inr holds) = holds.0 here

-- instances in the order of their numbers, each with its region's number
owned_instances : owned_from 3 (overlapping 0) ≡ (3, first_box) ∷ (4, box (pos 5) (pos 15) (pos 0) (pos 10) (pos 0) (pos 10)) ∷ []
owned_instances = refl

noted_where_it_was_the_last : noted (2 ∷ 5 ∷ []) 5 ≡ 2 ∷ 5 ∷ []
noted_where_it_was_the_last = refl

noted_where_it_came_earlier : noted (5 ∷ 2 ∷ []) 5 ≡ 5 ∷ 2 ∷ 5 ∷ []
noted_where_it_came_earlier = refl

-- the second of two instances is woven in and its region noted; there is no third one
one_instance_woven : with_instances (ray (negsuc 4) (pos 5) (pos 5)) (owned_from 0 (overlapping 0)) ([], []) (1 ∷ 2 ∷ [])
    ≡ (record { instance = 1; seg = record { start = whole 10; start_face = 1; end = whole 20; end_face = 2 } } ∷ [], 1 ∷ [])
unfolding place_cmp
one_instance_woven = refl
