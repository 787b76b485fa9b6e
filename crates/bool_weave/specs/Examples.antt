-- Cuts and claims of small rays, proved by computation.
use Rattle.std.specs.Prelude.{◌≡◌, refl, ℕ, pos, true, false, [], ◌∷◌, Some, None}
use Rattle.surd_order.specs.declared.position.Pos.{Pos}
use Rattle.surd_order.specs.declared.position.Pos.TheVariants.{Frac, Surd}
use Rattle.surd_order.specs.PlaceOrder.{place_cmp}
use Rattle.tree_forms.specs.declared.Op.TheVariants.{U, N, Minus, X}
use Rattle.tree_forms.specs.Trees.{Leaf, Join}
use Rattle.bool_weave.specs.declared.woven.Woven.{Woven}
use Rattle.bool_weave.specs.Cuts.{cuts_of, ray_end}
use Rattle.bool_weave.specs.Masks.{Mask}
use Rattle.bool_weave.specs.Claims.{claims_of}

abbrev whole : ℕ → Pos
whole n = Frac (pos n) (pos 1)

-- an instance with a segment from one whole place to another, its faces being 1 and 2
abbrev from_to : ℕ → ℕ → ℕ → Woven
from_to instance a b = record { instance = instance; seg = record { start = whole a; start_face = 1; end = whole b; end_face = 2 } }

-- an instance from a whole place to the end of the ray
abbrev to_the_end : ℕ → ℕ → Woven
to_the_end instance a = record { instance = instance; seg = record { start = whole a; start_face = 1; end = ray_end; end_face = 2 } }

abbrev leaf : ℕ → Mask
leaf i = Leaf (Some i)

-- what only one side holds, written with the other operators
abbrev either_alone : Mask
either_alone = Join U (Join Minus (leaf 0) (leaf 1)) (Join Minus (leaf 1) (leaf 0))

no_segment : cuts_of [] ≡ whole 0 ∷ ray_end ∷ []
unfolding place_cmp
no_segment = refl

one_box : cuts_of (from_to 0 5 15 ∷ []) ≡ whole 0 ∷ whole 5 ∷ whole 15 ∷ ray_end ∷ []
unfolding place_cmp
one_box = refl

claims_of_one_box : claims_of (from_to 0 5 15 ∷ []) (leaf 0) 0 ≡ false ∷ true ∷ false ∷ []
unfolding place_cmp
claims_of_one_box = refl

-- the second box begins where the first ends: one cut, and both are claimed by the union
touching_boxes : cuts_of (from_to 0 5 15 ∷ from_to 1 15 25 ∷ []) ≡ whole 0 ∷ whole 5 ∷ whole 15 ∷ whole 25 ∷ ray_end ∷ []
unfolding place_cmp
touching_boxes = refl

claims_of_touching_boxes : claims_of (from_to 0 5 15 ∷ from_to 1 15 25 ∷ []) (Join U (leaf 0) (leaf 1)) 0 ≡ false ∷ true ∷ true ∷ false ∷ []
unfolding place_cmp
claims_of_touching_boxes = refl

-- what is taken away cuts the ray at its start and at its end
subtracted : claims_of (from_to 0 5 25 ∷ from_to 1 10 20 ∷ []) (Join Minus (leaf 0) (leaf 1)) 0 ≡ false ∷ true ∷ false ∷ true ∷ false ∷ []
unfolding place_cmp
subtracted = refl

-- a subtracted end where the region claims nothing is a cut all the same
subtracted_beyond : cuts_of (from_to 0 5 15 ∷ from_to 1 10 20 ∷ []) ≡ whole 0 ∷ whole 5 ∷ whole 10 ∷ whole 15 ∷ whole 20 ∷ ray_end ∷ []
unfolding place_cmp
subtracted_beyond = refl

intersected : claims_of (from_to 0 5 15 ∷ from_to 1 10 20 ∷ []) (Join N (leaf 0) (leaf 1)) 0 ≡ false ∷ false ∷ true ∷ false ∷ false ∷ []
unfolding place_cmp
intersected = refl

-- two intervals where exactly one side is, and between them one where both are
exclusive : claims_of (from_to 0 5 15 ∷ from_to 1 10 20 ∷ []) (Join X (leaf 0) (leaf 1)) 0 ≡ false ∷ true ∷ false ∷ true ∷ false ∷ []
unfolding place_cmp
exclusive = refl

-- of three, where one or all three are
exclusive_of_three : claims_of (from_to 0 5 20 ∷ from_to 1 10 20 ∷ from_to 2 15 20 ∷ []) (Join X (Join X (leaf 0) (leaf 1)) (leaf 2)) 0 ≡ false ∷ true ∷ false ∷ true ∷ false ∷ []
unfolding place_cmp
exclusive_of_three = refl

held_by_one_alone : claims_of (from_to 0 5 15 ∷ from_to 1 10 20 ∷ []) either_alone 0 ≡ false ∷ true ∷ false ∷ true ∷ false ∷ []
unfolding place_cmp
held_by_one_alone = refl

-- the leaves of this region are instances 3 and 4, of which only 4 has a segment
numbered_from_three : claims_of (from_to 0 5 15 ∷ from_to 4 10 20 ∷ []) (Join U (leaf 0) (leaf 1)) 3 ≡ false ∷ false ∷ true ∷ true ∷ false ∷ []
unfolding place_cmp
numbered_from_three = refl

a_leaf_that_is_never_true : claims_of (from_to 0 5 15 ∷ []) (Join Minus (leaf 0) (Leaf None)) 0 ≡ false ∷ true ∷ false ∷ []
unfolding place_cmp
a_leaf_that_is_never_true = refl

begun_inside : claims_of (from_to 0 0 15 ∷ []) (leaf 0) 0 ≡ true ∷ false ∷ []
unfolding place_cmp
begun_inside = refl

ended_with_the_ray : claims_of (to_the_end 0 15 ∷ []) (leaf 0) 0 ≡ false ∷ true ∷ []
unfolding place_cmp
ended_with_the_ray = refl

-- 10-sqrt(23) lies between 5 and 27/5
between_fractions : cuts_of (record { instance = 0; seg = record { start = Surd (pos 10) false 23; start_face = 1; end = Surd (pos 10) true 23; end_face = 1 } }
    ∷ record { instance = 1; seg = record { start = whole 5; start_face = 1; end = Frac (pos 27) (pos 5); end_face = 1 } } ∷ [])
    ≡ whole 0 ∷ whole 5 ∷ Surd (pos 10) false 23 ∷ Frac (pos 27) (pos 5) ∷ Surd (pos 10) true 23 ∷ ray_end ∷ []
unfolding place_cmp
between_fractions = refl
