-- A directory's list of names and objects: who refers to whom, walks, cycles, depth, soundness.
use Rattle.std.specs.Prelude.{◌≡◌, ℕ, zero, suc, ◌+◌, ◌≤◌, max, List, [], ◌∷◌, ◌++◌, map, length, Option, None, Some}
use Rattle.std.specs.List.{IsDistinct}
use Rattle.std.specs.Map.{keys_of}
use Rattle.name_core.specs.declared.name.Name.{Name}
use Rattle.name_core.specs.Same.{same_name}
use Rattle.object_set.specs.Objects.{Parts, member_names}
pub use Rattle.object_pages.specs.Entries.{Entries, object_of, members_of, Refers, most_objects}
use Rattle.object_set.specs.declared.object.Body.{Body}
use Rattle.object_set.specs.declared.object.Body.TheVariants.{Solid, Comb}

-- so many combinations may lie one in the other
abbrev pub most_depth : ℕ
most_depth = 16

-- 1 for a combination, else 0
abbrev pub body_weight : Body → ℕ
body_weight (Solid solid) = 0
body_weight (Comb attr tree) = 1

abbrev pub comb_weight : Option Parts → ℕ
comb_weight None = 0
comb_weight (Some object) = body_weight object.body

-- a refers to the first of the names, where there is one
abbrev pub RefersToFirst : Entries → Name → List Name → Type 0
RefersToFirst dir a [] = Unit {0}
RefersToFirst dir a (b ∷ rest) = Refers dir a b

-- each name refers to the next
abbrev pub IsWalk : Entries → List Name → Type 0
IsWalk dir [] = Unit {0}
IsWalk dir (a ∷ rest) = RefersToFirst dir a rest × IsWalk dir rest

-- how many of the names are combinations
abbrev pub combinations : Entries → List Name → ℕ
combinations dir [] = 0
combinations dir (a ∷ rest) = comb_weight (object_of dir a) + combinations dir rest

-- a walk of two or more names begins and ends at a
abbrev pub HasCycleThrough : Entries → Name → Type 0
HasCycleThrough dir a = (between : List Name) × IsWalk dir ((a ∷ between) ++ a ∷ [])

-- some walk from a has d combinations, and none has more
pub record IsDepth (dir : Entries) (a : Name) (d : ℕ) : Type 0 where
  pub after : List Name
  pub walk : IsWalk dir (a ∷ after)
  pub attained : combinations dir (a ∷ after) ≡ d
  pub greatest : (w : List Name) → IsWalk dir (a ∷ w) → combinations dir (a ∷ w) ≤ d

-- no name's depth is over d, and some name's is d
pub record IsGreatestDepth (dir : Entries) (d : ℕ) : Type 0 where
  pub deepest : Name
  pub attained : IsDepth dir deepest d
  pub greatest : (w : List Name) → IsWalk dir w → combinations dir w ≤ d

-- no cycle, no walk with over 16 combinations, and so no depth over 16, at most 65,535 objects, and no name twice
pub record IsSound (dir : Entries) : Type 0 where
  pub acyclic : (a : Name) → ¬ (HasCycleThrough dir a)
  pub shallow : (w : List Name) → IsWalk dir w → combinations dir w ≤ most_depth
  pub small : length dir ≤ most_objects
  pub distinct : IsDistinct same_name (keys_of dir)

-- the greatest of the numbers, 0 for none
abbrev pub greatest_of : List ℕ → ℕ
greatest_of [] = 0
greatest_of (x ∷ xs) = max x (greatest_of xs)

-- a combination lies one deeper than the deepest of its members
abbrev pub body_depth : Body → (Name → ℕ) → ℕ
body_depth (Solid solid) below = 0
body_depth (Comb attr tree) below = greatest_of (map below (member_names (Comb attr tree))) + 1

abbrev pub depth_over : Option Parts → (Name → ℕ) → ℕ
depth_over None below = 0
depth_over (Some object) below = body_depth object.body below

-- the depth, or `most` where it is more
abbrev pub depth_within : ℕ → Entries → Name → ℕ
depth_within zero dir a = 0
depth_within (suc most) dir a = depth_over (object_of dir a) (depth_within most dir)

-- more than any depth after one edit of a sound list: there a walk has at most 16 combinations before the edited name,
-- it, and at most 16 after it, or it comes back to the edited name, and a cycle passes through that
abbrev pub unbounded : ℕ
unbounded = 34

-- the greatest depth of a name, or 34 where it is more
abbrev pub deepest : Entries → ℕ
deepest dir = greatest_of (map (depth_within unbounded dir) (keys_of dir))
