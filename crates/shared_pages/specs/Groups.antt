-- Pages in groups.
use Rattle.std.specs.Prelude.{◌≡◌, ◌<◌, ℕ, List, [], ◌∷◌, ◌++◌, length, slice_set, slice_index_or, remove, Option, Some, None}
use Rattle.std.specs.List.{AllByRecursion}
use Rattle.std.specs.Map.{lookup}
use Rattle.std.specs.Prelude.{nat_eq}
use Rattle.shared_pages.specs.Pages.{Pages, pairs_of, RiseFrom, IsPlace, ArePages}
use Rattle.shared_pages.specs.declared.spot.Spot.{Spot}

-- groups in order, each with its pages
abbrev pub Groups : Type 0 → Type 0
Groups V = List (Pages V)

module _ {V : Type 0} where
  -- all pages, one group after the other
  abbrev pub pages_in : Groups V → Pages V
  pages_in [] = []
  pages_in (g ∷ groups) = g ++ pages_in groups

  -- the pages of the group at a place, none past the end
  abbrev pub group_at : Groups V → ℕ → Pages V
  group_at groups i = slice_index_or groups i []

  -- the first page of each group
  abbrev pub firsts : Groups V → Pages V
  firsts [] = []
  firsts (g ∷ groups) = slice_index_or g 0 (0, []) ∷ firsts groups

  -- the groups with these pages in the group at the place, or without it where there are none
  abbrev pub group_put : Groups V → ℕ → Pages V → Groups V
  group_put groups i [] = remove groups i
  group_put groups i (p ∷ pages) = slice_set groups i (p ∷ pages)

  -- no group is empty
  abbrev pub AreFilled : Groups V → Type 0
  AreFilled groups = AllByRecursion (λ g. 0 < length g) groups

  -- the numbers of the pages rise, and no group is empty
  abbrev pub AreInOrder : Groups V → Type 0
  AreInOrder groups = RiseFrom 0 (pages_in groups) × AreFilled groups

  -- the number of pairs of some pages, where it is told
  abbrev pub CountsPairs : Pages V → Option ℕ → Type 0
  CountsPairs pages None = Unit {0}
  CountsPairs pages (Some count) = count ≡ length (pairs_of pages)

  -- what a list keeps of its closed groups and of the pages behind them, its tail: all pages are as they are to be, and no group is empty
  pub record AreGroups (closed : Groups V) (tail : Pages V) (count : ℕ) : Type 0 where
    pub pages : ArePages (pages_in closed ++ tail) count
    pub filled : AreFilled closed

  -- where the page of the number stands, or that there is none
  abbrev pub IsSpot : Groups V → ℕ → Option Spot → Type 0
  IsSpot groups n (Some s) = (s.group < length groups) × IsPlace (group_at groups s.group) n (Some s.page)
  IsSpot groups n None = lookup (nat_eq n) (pages_in groups) ≡ None
