-- Depths kept by name that agree with those of the members, perhaps but at some names that are still to be looked at.
use Rattle.std.specs.Prelude.{◌≡◌, ◌≤◌, ℕ, min, List, cond, true, false}
use Rattle.name_core.specs.declared.name.Name.{Name}
use Rattle.name_core.specs.Same.{same_name}
use Rattle.comb_tree.specs.Changes.{is_among}
use Rattle.object_set.specs.Renaming.{new_name}
use Rattle.directory.specs.Walks.{Entries, object_of, Refers, depth_over, most_depth, unbounded}

-- the depth of a over those of its members, or 34 where it is more; 0 for a name that is not there
abbrev pub depth_step : Entries → (Name → ℕ) → Name → ℕ
depth_step es depths a = min unbounded (depth_over (object_of es a) depths)

-- a name has the depth that its members give it
abbrev pub IsClosedAt : Entries → (Name → ℕ) → Name → Type 0
IsClosedAt es depths a = depths a ≡ depth_step es depths a

-- each name has the depth that its members give it
abbrev pub IsClosed : Entries → (Name → ℕ) → Type 0
IsClosed es depths = (a : Name) → depths a ≡ depth_step es depths a

-- each name has it, perhaps but those of the list
abbrev pub IsClosedBut : Entries → (Name → ℕ) → List Name → Type 0
IsClosedBut es depths dirty = (a : Name) → is_among dirty a ≡ false → depths a ≡ depth_step es depths a

-- the depths with another one for a
abbrev pub relaxed : (Name → ℕ) → Name → ℕ → Name → ℕ
relaxed depths a depth x = cond (same_name a x) depth (depths x)

-- the depths after b took the place of a: b is as deep as a was
abbrev pub moved_depths : (Name → ℕ) → Name → Name → Name → ℕ
moved_depths depths a b x = cond (same_name b x) (depths a) (cond (same_name a x) 0 (depths x))

-- each name that refers to b before b takes the place of a is one of the names, as it is called after that
abbrev pub HoldsRenamedUsers : Entries → Name → Name → List Name → Type 0
HoldsRenamedUsers es a b users = (x : Name) → Refers es x b → is_among users (new_name a b x) ≡ true

-- no depth is over 16, perhaps but those of the names
abbrev pub IsLowBut : (Name → ℕ) → List Name → Type 0
IsLowBut depths high = (a : Name) → is_among high a ≡ false → depths a ≤ most_depth

-- while depths are relaxed: they are closed but at the names that are still to be looked at, and low but at those found high
pub record IsRelaxing (es : Entries) (depths : Name → ℕ) (dirty high : List Name) : Type 0 where
  pub closed : IsClosedBut es depths dirty
  pub low : IsLowBut depths high
