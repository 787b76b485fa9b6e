-- What the definitions come to, proved by computation.
use Rattle.std.specs.Prelude.{◌≡◌, refl, pos, negsuc, codes, ◌∷◌, []}
use Rattle.std.specs.Fmt.{digits}
use Rattle.lattice_core.specs.Vectors.{vector}
use Rattle.tree_forms.specs.declared.Op.TheVariants.{U}
use Rattle.tree_forms.specs.Trees.{Join}
use Rattle.word_values.specs.Matrices.{identity}
use Rattle.scene_make.specs.Draws.{next, after, draw}
use Rattle.scene_make.specs.Demo.{centre_of, leaf_at, region_name, sphere_name, union_to}

first_numbers : next 0 ∷ after 0 2 ∷ next 7 ∷ [] ≡ 12345 ∷ 1406932606 ∷ 1282168116 ∷ []
first_numbers = refl

first_draws : draw 7 0 60 ∷ draw 7 1 48 ∷ draw 7 2 256 ∷ [] ≡ 4 ∷ 14 ∷ 116 ∷ []
first_draws = refl

a_place : centre_of 507 ≡ vector (pos 1000) (negsuc 8999) (pos 5000)
a_place = refl

names_without_zeros : sphere_name 7 ≡ codes "s7"
unfolding digits
names_without_zeros = refl

three_from_the_left : union_to 2 ≡ Join U (Join U (leaf_at (region_name 0) identity) (leaf_at (region_name 1) identity)) (leaf_at (region_name 2) identity)
unfolding union_to
three_from_the_left = refl
