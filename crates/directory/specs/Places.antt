-- Depths kept by place, one for each name of the list, in the words of the code.
use Rattle.std.specs.Prelude.{◌≡◌, ◌<◌, ◌≤◌, ℕ, zero, suc, List, Option, None, Some, slice_index, slice_get, map}
use Rattle.std.specs.Map.{keys_of}
use Rattle.name_core.specs.declared.name.Name.{Name}
use Rattle.object_set.specs.Objects.{Parts}
use Rattle.directory.specs.Walks.{Entries, greatest_of, depth_over, depth_within, unbounded}

-- the bounded depth of the deepest of the names
abbrev pub names_within : ℕ → Entries → List Name → ℕ
names_within most es names = greatest_of (map (depth_within most es) names)

-- the bounded depth of an object
abbrev pub object_within : ℕ → Entries → Parts → ℕ
object_within zero es object = 0
object_within (suc most) es object = depth_over (Some object) (depth_within most es)

-- what is found of a depth, which is bounded by the argument: the depth itself, at most `levels`, or that it is more
abbrev pub Finds : (ℕ → ℕ) → ℕ → Option ℕ → Type 0
Finds bounded levels (Some d) = (d ≤ levels) × ((most : ℕ) → d ≤ most → bounded most ≡ d)
Finds bounded levels None = levels < bounded (suc levels)

-- each of the depths that is below 34 is found
abbrev pub AreFound : Entries → List ℕ → Type 0
AreFound es depths =
    (j : ℕ) (k : Name) (o : Parts) → slice_get es j ≡ Some (k, o) → slice_index depths j < unbounded
    → (most : ℕ) → slice_index depths j ≤ most → depth_within most es k ≡ slice_index depths j

-- what was found is found
abbrev pub KeepsFound : List ℕ → List ℕ → Type 0
KeepsFound old new = (j : ℕ) → slice_index old j < unbounded → slice_index new j < unbounded

-- the depths of all names, 34 at most
abbrev pub known_depths : Entries → List ℕ
known_depths es = map (depth_within unbounded es) (keys_of es)
