-- What each edit makes of a list of names and objects.
use Rattle.std.specs.Prelude.{ℕ, List, [], ◌∷◌, ◌++◌, map, filter, not, Some}
use Rattle.std.specs.List.{list_any, sum_by}
use Rattle.std.specs.Map.{set_value, remove_entry}
use Rattle.name_core.specs.declared.name.Name.{Name}
use Rattle.name_core.specs.Same.{same_name}
use Rattle.object_set.specs.Objects.{Parts}
use Rattle.object_set.specs.Renaming.{new_name, renamed_object}
use Rattle.object_pages.specs.Entries.{Entries, members_of}
use Rattle.object_pages.specs.Members.{times}

-- the list with a pair more
abbrev pub appended : Entries → Name → Parts → Entries
appended dir a o = dir ++ (a, o) ∷ []

-- the object of a replaced in its place
abbrev pub replaced : Entries → Name → Parts → Entries
replaced dir a o = set_value (same_name a) dir o

-- the pair of a taken out
abbrev pub removed : Entries → Name → Entries
removed dir a = remove_entry (same_name a) dir

-- the pairs without those of the names
abbrev pub without_all : Entries → List Name → Entries
without_all dir names = filter (λ e. not (list_any (same_name e.0) names)) dir

-- every name, of an object and of a leaf, with b in the place of a
abbrev pub renamed_all : Entries → Name → Name → Entries
renamed_all dir a b = map (λ e. (new_name a b e.0, renamed_object a b e.1)) dir

-- how many leaves name a
abbrev pub references_of : Entries → Name → ℕ
references_of dir a = sum_by (λ e. times (members_of (Some e.1)) a) dir
