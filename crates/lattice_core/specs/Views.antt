-- Views: the rays of their pixels, and what makes a view faulty.
use Rattle.std.specs.Prelude.{◌≡◌, ◌⊎◌, ◌==◌, ◌&&◌, ◌||◌, ◌-◌, ◌<◌, ◌≤◌, ℕ, ℤ, pos, ◌-ℤ◌, ◌*ℤ◌, ◌<ℤ◌, ◌≤ℤ◌, int_lt, nat_lt, not, cond, Bool, List, [], ◌∷◌, Option, Some, None, Result, Ok, Err}
use Rattle.lattice_core.specs.declared.vector.V3.{V3}
use Rattle.lattice_core.specs.declared.ray.Ray.{Ray}
use Rattle.lattice_core.specs.declared.ray.Dir.{Dir}
use Rattle.lattice_core.specs.declared.ray.Dir.TheVariants.{PlusX, MinusX, PlusY, MinusY, PlusZ, MinusZ}
use Rattle.lattice_core.specs.declared.view.View.{View}
use Rattle.lattice_core.specs.declared.view.ViewFault.{ViewFault}
use Rattle.lattice_core.specs.declared.view.ViewFault.TheVariants.{Pixels, Side, Cell, Direction, World}
use Rattle.lattice_core.specs.declared.limit.TheConstants.{WORLD, PICTURE_SIDE}
use Rattle.lattice_core.specs.Limits.{IsWithin}
use Rattle.lattice_core.specs.Units.{unit_of}
use Rattle.lattice_core.specs.Vectors.{vector_sum, scaled}

-- by a view's direction, the one in which its columns follow one another, from left to right
abbrev pub across_of : Dir → Dir
across_of PlusX = MinusY
across_of MinusX = PlusY
across_of PlusY = PlusX
across_of MinusY = MinusX
across_of PlusZ = MinusX
across_of MinusZ = PlusX

-- by a view's direction, the one in which its rows follow one another, from the top down
abbrev pub down_of : Dir → Dir
down_of PlusX = MinusZ
down_of MinusX = MinusZ
down_of PlusY = MinusZ
down_of MinusY = MinusZ
down_of PlusZ = MinusY
down_of MinusZ = MinusY

-- the point so far across and so far down from a view's corner
abbrev pub point_from : V3 → Dir → ℤ → ℤ → V3
point_from corner dir across down = vector_sum corner (vector_sum (scaled across (unit_of (across_of dir))) (scaled down (unit_of (down_of dir))))

-- the ray of the pixel in a column and a row, both counted from 0 at the top left
abbrev pub pixel_ray : View → ℕ → ℕ → Ray
pixel_ray view column row = record {
  origin = point_from view.corner view.dir (pos column *ℤ view.cell) (pos row *ℤ view.cell);
  dir = view.dir;
}

-- some pixel's ray starts outside the world
pub record StartsOutside (view : View) : Type 0 where
  pub column : ℕ
  pub row : ℕ
  pub in_columns : column < view.w
  pub in_rows : row < view.h
  pub outside : ¬ IsWithin WORLD (pixel_ray view column row).origin

abbrev pub HasFault : View → ViewFault → Type 0
HasFault view Pixels = (view.w ≡ 0) ⊎ (view.h ≡ 0)
HasFault view Side = (PICTURE_SIDE < view.w) ⊎ (PICTURE_SIDE < view.h)
HasFault view Cell = view.cell <ℤ pos 1
HasFault view Direction = ⊥
HasFault view World = StartsOutside view

-- the order in which a view's faults are looked for; no view has a direction that is none
abbrev pub fault_order : List ViewFault
fault_order = Pixels ∷ Side ∷ Cell ∷ World ∷ []

-- the answer is the first fault of a list that a view has, and Ok where it has none of them
abbrev pub IsFirstFault : View → List ViewFault → Result (Unit {0}) ViewFault → Type 0
IsFirstFault view [] answer = answer ≡ Ok tt
IsFirstFault view (fault ∷ rest) answer = (HasFault view fault × (answer ≡ Err fault)) ⊎ ((¬ HasFault view fault) × IsFirstFault view rest answer)

-- the view has no fault. A view of one column or one row may have any cell there, as no second ray starts along it.
pub record IsChecked (view : View) : Type 0 where
  pub columns : (1 ≤ view.w) × (view.w ≤ PICTURE_SIDE)
  pub rows : (1 ≤ view.h) × (view.h ≤ PICTURE_SIDE)
  pub cell : pos 1 ≤ℤ view.cell
  pub in_world : (column row : ℕ) → column < view.w → row < view.h → IsWithin WORLD (pixel_ray view column row).origin

-- The same, computed: the first and the last pixel's rays start in the world only where all do.
abbrev pub is_at_most : ℤ → ℤ → Bool
is_at_most limit z = not (int_lt z (pos 0 -ℤ limit)) && not (int_lt limit z)

abbrev pub is_within : ℤ → V3 → Bool
is_within limit v = is_at_most limit v.x && (is_at_most limit v.y && is_at_most limit v.z)

abbrev pub has_no_pixels : View → Bool
has_no_pixels view = view.w == 0 || view.h == 0

abbrev pub has_long_side : View → Bool
has_long_side view = nat_lt PICTURE_SIDE view.w || nat_lt PICTURE_SIDE view.h

abbrev pub leaves_world : View → Bool
leaves_world view = not (is_within WORLD view.corner && is_within WORLD (pixel_ray view (view.w - 1) (view.h - 1)).origin)

-- a condition and the fault that it is
pub record Case : Type 0 where
  pub holds : Bool
  pub fault : ViewFault

abbrev pub case_of : Bool → ViewFault → Case
case_of holds fault = record { holds = holds; fault = fault }

abbrev pub first_fault : List Case → Option ViewFault
first_fault [] = None
first_fault (c ∷ rest) = cond c.holds (Some c.fault) (first_fault rest)

-- the first fault of a view, computed
abbrev pub view_fault : View → Option ViewFault
view_fault view =
    first_fault (case_of (has_no_pixels view) Pixels ∷ case_of (has_long_side view) Side ∷ case_of (int_lt view.cell (pos 1)) Cell ∷ case_of (leaves_world view) World ∷ [])

-- a check's answer: the fault, or that there is none
abbrev pub answer_of : Option ViewFault → Result (Unit {0}) ViewFault
answer_of None = Ok tt
answer_of (Some fault) = Err fault
