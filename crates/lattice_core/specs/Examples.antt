-- Examples, proved by computation.
use Rattle.std.specs.Prelude.{◌≡◌, Some, None, ℕ, Bool, true, false, not, cond, ◌&&◌, ◌==◌, ℤ, pos, negsuc, List, [], ◌∷◌, refl, zero, suc}
use Rattle.std.specs.List.{list_all}
use Rattle.std.specs.Ordering.{int_eq}
use Rattle.lattice_core.specs.declared.vector.V3.{V3}
use Rattle.lattice_core.specs.Vectors.{vector}
use Rattle.lattice_core.specs.Turns.{entry_of, row_of, turned}
use Rattle.lattice_core.specs.declared.ray.Dir.{Dir}
use Rattle.lattice_core.specs.declared.ray.Dir.TheVariants.{PlusX, MinusZ}
use Rattle.lattice_core.specs.declared.view.View.{View}
use Rattle.lattice_core.specs.declared.view.ViewFault.TheVariants.{Pixels, Side, Cell, World}
use Rattle.lattice_core.specs.declared.tile.TileSpan.{TileSpan}
use Rattle.lattice_core.specs.Views.{pixel_ray, view_fault}
use Rattle.lattice_core.specs.Tiles.{tiles_of, span_of}

-- turn 0 is the identity; turn 13 takes (x, y, z) to (-x, z, -y)
turn_0 : turned 0 (vector (pos 1) (pos 20) (pos 300)) ≡ vector (pos 1) (pos 20) (pos 300)
turn_0 = refl

turn_13 : turned 13 (vector (pos 1) (pos 20) (pos 300)) ≡ vector (negsuc 0) (pos 300) (negsuc 19)
turn_13 = refl

turn_31 : turned 31 (vector (pos 1) (pos 20) (pos 300)) ≡ vector (negsuc 19) (negsuc 299) (negsuc 0)
turn_31 = refl

-- the first n numbers, from the last down
below : ℕ → List ℕ
below zero = []
below (suc n) = n ∷ below n

same_vector : V3 → V3 → Bool
same_vector a b = int_eq a.x b.x && (int_eq a.y b.y && int_eq a.z b.z)

same_turn : ℕ → ℕ → Bool
same_turn t u = same_vector (row_of t 1) (row_of u 1) && (same_vector (row_of t 2) (row_of u 2) && same_vector (row_of t 3) (row_of u 3))

is_unit : ℤ → Bool
is_unit (pos zero) = false
is_unit (pos (suc n)) = n == 0
is_unit (negsuc n) = n == 0

is_zero : ℤ → Bool
is_zero (pos zero) = true
is_zero (pos (suc n)) = false
is_zero (negsuc n) = false

-- one of three numbers is 1 or -1, and the others are 0
has_one : ℤ → ℤ → ℤ → Bool
has_one a b c = cond (is_zero a) (cond (is_zero b) (is_unit c) (is_unit b && is_zero c)) (is_unit a && (is_zero b && is_zero c))

-- each row and each column has one such entry
is_signed_permutation : ℕ → Bool
is_signed_permutation t =
    list_all (λ i. has_one (entry_of t i 1) (entry_of t i 2) (entry_of t i 3)) (1 ∷ 2 ∷ 3 ∷ [])
    && list_all (λ j. has_one (entry_of t 1 j) (entry_of t 2 j) (entry_of t 3 j)) (1 ∷ 2 ∷ 3 ∷ [])

all_signed_permutations : list_all is_signed_permutation (below 48) ≡ true
unfolding below is_signed_permutation has_one is_unit is_zero
all_signed_permutations = refl

all_distinct : list_all (λ t. list_all (λ u. not (same_turn t u)) (below t)) (below 48) ≡ true
unfolding below same_turn same_vector
all_distinct = refl

abbrev view_of : V3 → Dir → ℤ → ℕ → ℕ → View
view_of corner dir cell w h = record { corner = corner; dir = dir; cell = cell; w = w; h = h }

abbrev span : ℕ → ℕ → ℕ → ℕ → TileSpan
span column row w h = record { column = column; row = row; w = w; h = h }

-- seen downwards, columns go to greater x and rows to smaller y
abbrev downwards : View
downwards = view_of (vector (pos 0) (pos 15) (pos 100)) MinusZ (pos 2) 40 20

downwards_first : (pixel_ray downwards 0 0).origin ≡ vector (pos 0) (pos 15) (pos 100)
downwards_first = refl

downwards_last : (pixel_ray downwards 39 19).origin ≡ vector (pos 78) (negsuc 22) (pos 100)
downwards_last = refl

-- seen along x, columns go to smaller y and rows to smaller z
abbrev forwards : View
forwards = view_of (vector (negsuc 49) (pos 30) (pos 20)) PlusX (pos 3) 11 6

forwards_first : (pixel_ray forwards 0 0).origin ≡ vector (negsuc 49) (pos 30) (pos 20)
forwards_first = refl

forwards_upper_right : (pixel_ray forwards 10 0).origin ≡ vector (negsuc 49) (pos 0) (pos 20)
forwards_upper_right = refl

forwards_lower_left : (pixel_ray forwards 0 5).origin ≡ vector (negsuc 49) (pos 30) (pos 5)
forwards_lower_left = refl

-- 40 by 20 pixels have three tiles in each of two rows
downwards_tiles : tiles_of downwards ≡ 6
downwards_tiles = refl

tile_inside : span_of downwards 1 ≡ span 16 0 16 16
tile_inside = refl

tile_at_the_right_edge : span_of downwards 2 ≡ span 32 0 8 16
tile_at_the_right_edge = refl

tile_at_the_lower_edge : span_of downwards 3 ≡ span 0 16 16 4
tile_at_the_lower_edge = refl

tile_at_both_edges : span_of downwards 5 ≡ span 32 16 8 4
tile_at_both_edges = refl

no_fault : view_fault downwards ≡ None
no_fault = refl

no_pixels : view_fault (view_of (vector (pos 0) (pos 0) (pos 0)) MinusZ (pos 1) 0 5) ≡ Some Pixels
no_pixels = refl

-- no pixels comes before a side that is too long
no_pixels_first : view_fault (view_of (vector (pos 0) (pos 0) (pos 0)) MinusZ (pos 1) 2049 0) ≡ Some Pixels
no_pixels_first = refl

long_side : view_fault (view_of (vector (pos 0) (pos 0) (pos 0)) MinusZ (pos 0) 1 2049) ≡ Some Side
long_side = refl

no_cell : view_fault (view_of (vector (pos 5242881) (pos 0) (pos 0)) MinusZ (pos 0) 1 1) ≡ Some Cell
no_cell = refl

corner_outside : view_fault (view_of (vector (pos 5242881) (pos 0) (pos 0)) MinusZ (pos 1) 1 1) ≡ Some World
corner_outside = refl

-- 5,242,871 and ten cells of 1 are too far, and nine are not
last_column_outside : view_fault (view_of (vector (pos 5242871) (pos 0) (pos 0)) MinusZ (pos 1) 11 1) ≡ Some World
last_column_outside = refl

last_column_inside : view_fault (view_of (vector (pos 5242871) (pos 0) (pos 0)) MinusZ (pos 1) 10 1) ≡ None
last_column_inside = refl

-- one pixel has one ray, whatever the cell
one_pixel_of_any_cell : view_fault (view_of (vector (pos 0) (pos 0) (pos 0)) MinusZ (pos 999999999) 1 1) ≡ None
one_pixel_of_any_cell = refl
