-- Depths that are kept by name, and how they are brought to those of a changed list, in the words of the code.
use Rattle.std.specs.Prelude.{◌≡◌, ◌≢◌, ◌⊎◌, ◌<◌, ◌≤◌, ℕ, suc, min, List, [], ◌∷◌, ◌++◌, Option, None, Some, unwrap_or, true, false}
use Rattle.name_core.specs.declared.name.Name.{Name}
use Rattle.comb_tree.specs.Changes.{is_among}
use Rattle.shared_pages.specs.Buckets.{Shelves, value_of}
use Rattle.directory.specs.Walks.{Entries, IsWalk, HasCycleThrough, depth_within, unbounded}
use Rattle.directory.specs.Closed.{depth_step, IsClosedAt, IsLowBut}

-- the depth that is kept for a name, 0 where none is
abbrev pub depth_kept : Shelves ℕ → Name → ℕ
depth_kept levels a = unwrap_or (value_of levels a) 0

-- the depths that are kept are those of the list, 34 at most
abbrev pub AreDepths : Entries → Shelves ℕ → Type 0
AreDepths es levels = (a : Name) → depth_kept levels a ≡ depth_within unbounded es a

-- a name has the depth that its members give it, or that of the list
abbrev pub IsSettledAt : Entries → (Name → ℕ) → Name → Type 0
IsSettledAt es depths a = IsClosedAt es depths a ⊎ (depths a ≡ depth_within unbounded es a)

-- in the midst of a round, after so many whole ones: the names still to be looked at in this round, those for the next, and those that were
-- found high. All depths agree with the true ones as far as the number of rounds, and those of the names that this round has passed one further
pub record IsRound (es : Entries) (turns : ℕ) (depths : Name → ℕ) (rest next high : List Name) : Type 0 where
  pub settled : (a : Name) → is_among rest a ≡ false → is_among next a ≡ false → IsSettledAt es depths a
  pub least : (a : Name) → min turns (depths a) ≡ depth_within turns es a
  pub ahead : turns < unbounded → (a : Name) → is_among rest a ≡ false → min (suc turns) (depths a) ≡ depth_within (suc turns) es a
  pub low : IsLowBut depths high
  pub bounded : (a : Name) → depths a ≤ unbounded

-- a refers to b, or to a name that leads to b
abbrev pub Leads : Entries → Name → Name → Type 0
Leads es a b = (between : List Name) × IsWalk es ((a ∷ between) ++ b ∷ [])

-- each name has the depth that its members give it, or it leads to the edited name, or is that, and among those still to be looked at
abbrev pub IsTraced : Entries → Name → List Name → (Name → ℕ) → Type 0
IsTraced es edited rest depths = (a : Name) → IsClosedAt es depths a ⊎ (Leads es a edited ⊎ ((a ≡ edited) × (is_among rest a ≡ true)))

-- where one edited name is known, it has been looked at
abbrev pub IsTracedIf : Entries → Option Name → (Name → ℕ) → Type 0
IsTracedIf es None depths = Unit {0}
IsTracedIf es (Some edited) depths = IsTraced es edited [] depths

-- a name's next depth is that which its members give it, or 34 where this is another one and a cycle passes through the name
abbrev pub IsDue : Entries → (Name → ℕ) → Name → ℕ → Type 0
IsDue es depths a depth = (depth ≡ depth_step es depths a) ⊎ ((depth ≡ unbounded) × HasCycleThrough es a × (depths a ≢ depth_step es depths a))
