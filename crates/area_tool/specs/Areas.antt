-- Areas: how many pixels present each region. A list has what each pixel presents, the place of a region or 0 for none.
use Rattle.std.specs.Prelude.{◌≡◌, ◌==◌, ◌+◌, ◌*◌, ◌≤◌, ℕ, List, All, map, sum, count_by, length}
use Rattle.std.specs.List.{range_with_len}
use Rattle.lattice_core.specs.declared.view.View.{View}

-- how many pixels present the region at a place; at 0, how many present none
abbrev pub area : List ℕ → ℕ → ℕ
area all place = count_by (λ p. p == place) all

-- the areas of so many regions, in the order of their places, from 1
abbrev pub areas_of : List ℕ → ℕ → List ℕ
areas_of all regions = map (area all) (range_with_len 1 regions)

-- where no pixel of a view presents a place over those of the regions, the areas and the pixels that present none sum up to all its pixels
abbrev pub AreasSumUp : Type 0
AreasSumUp =
    (view : View) (all : List ℕ) (regions : ℕ) → length all ≡ view.w * view.h → All (λ place. place ≤ regions) all → sum (areas_of all regions) + area all 0 ≡ view.w * view.h
