-- Names and their objects, in order, and who refers to whom.
use Rattle.std.specs.Prelude.{◌≡◌, ◌≤◌, ℕ, List, [], length, Option, None, Some, true}
use Rattle.std.specs.List.{Contains, AllByRecursion}
use Rattle.std.specs.Map.{lookup}
use Rattle.name_core.specs.declared.name.Name.{Name}
use Rattle.name_core.specs.Same.{same_name}
use Rattle.comb_tree.specs.Changes.{is_among}
use Rattle.object_set.specs.Objects.{Parts, member_names}

-- so many objects may be in a directory
abbrev pub most_objects : ℕ
most_objects = 65535

-- names and their objects, in order
abbrev pub Entries : Type 0
Entries = List (Name × Parts)

-- the object of a name
abbrev pub object_of : Entries → Name → Option Parts
object_of dir a = lookup (same_name a) dir

-- the names of its leaves
abbrev pub members_of : Option Parts → List Name
members_of None = []
members_of (Some object) = member_names object.body

-- a is there as a combination with a leaf of the name b
abbrev pub Refers : Entries → Name → Name → Type 0
Refers dir a b = Contains (members_of (object_of dir a)) b

-- each name that refers to a is one of the names
abbrev pub HoldsUsers : Entries → Name → List Name → Type 0
HoldsUsers es a users = (x : Name) → Refers es x a → is_among users x ≡ true

-- no object has over 4,096 leaves
abbrev pub AreFew : Entries → Type 0
AreFew es = AllByRecursion (λ e. length (members_of (Some e.1)) ≤ 4096) es
