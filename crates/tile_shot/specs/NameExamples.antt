-- Names of tiles and the size of their bodies, proved by computation.
use Rattle.std.specs.Prelude.{◌≡◌, refl, ℕ, zero, suc, pos, true, false, List, [], ◌∷◌, None}
use Rattle.region_attr.specs.declared.attr.Rgb.{Rgb}
use Rattle.lattice_core.specs.declared.ray.Dir.TheVariants.{PlusX}
use Rattle.lattice_core.specs.declared.view.View.{View}
use Rattle.lattice_core.specs.Vectors.{vector}
use Rattle.tree_forms.specs.declared.Op.TheVariants.{U}
use Rattle.tree_forms.specs.Trees.{Leaf, Join}
use Rattle.bool_weave.specs.Masks.{Mask}
use Rattle.shot_core.specs.Regions.{RegionBody}
use Rattle.tile_shot.specs.Named.{TileName, is_small_name}
use Rattle.tile_shot.specs.Same.{same_name}

-- one leaf, and so many more
abbrev wide : ℕ → Mask
wide zero = Leaf None
wide (suc n) = Join U (wide n) (Leaf None)

abbrev colour : ℕ → Rgb
colour blue = record { r = 0; g = 0; b = blue }

abbrev body : ℕ → ℕ → ℕ → Mask → RegionBody
body id air blue tree = record { id = id; air = air; rgb = colour blue; tree = tree; instances = [] }

abbrev view : View
view = record { corner = vector (pos 0) (pos 0) (pos 0); dir = PlusX; cell = pos 1; w = 32; h = 16 }

abbrev named : ℕ → List RegionBody → TileName
named tile bodies = record { view = view; tile = tile; bodies = bodies }

-- leaves that are always false count
two_bodies_of_128_leaves : is_small_name (named 0 (body 1 0 0 (wide 99) ∷ body 2 0 0 (wide 27) ∷ [])) ≡ true
two_bodies_of_128_leaves = refl

one_leaf_more : is_small_name (named 0 (body 1 0 0 (wide 99) ∷ body 2 0 0 (wide 28) ∷ [])) ≡ false
one_leaf_more = refl

no_body : is_small_name (named 0 []) ≡ true
no_body = refl

the_same_again : same_name (named 1 (body 1 2 3 (wide 1) ∷ [])) (named 1 (body 1 2 3 (wide 1) ∷ [])) ≡ true
the_same_again = refl

another_tile : same_name (named 0 []) (named 1 []) ≡ false
another_tile = refl

another_number : same_name (named 0 (body 1 0 0 (wide 0) ∷ [])) (named 0 (body 2 0 0 (wide 0) ∷ [])) ≡ false
another_number = refl

another_air : same_name (named 0 (body 1 0 0 (wide 0) ∷ [])) (named 0 (body 1 1 0 (wide 0) ∷ [])) ≡ false
another_air = refl

another_colour : same_name (named 0 (body 1 0 0 (wide 0) ∷ [])) (named 0 (body 1 0 1 (wide 0) ∷ [])) ≡ false
another_colour = refl

-- the place of a body in the list counts
another_order : same_name (named 0 (body 1 0 0 (wide 0) ∷ body 2 0 0 (wide 0) ∷ [])) (named 0 (body 2 0 0 (wide 0) ∷ body 1 0 0 (wide 0) ∷ [])) ≡ false
another_order = refl

-- and a leaf that is always false
one_more_leaf_that_is_false : same_name (named 0 (body 1 0 0 (wide 0) ∷ [])) (named 0 (body 1 0 0 (wide 1) ∷ [])) ≡ false
one_more_leaf_that_is_false = refl
