-- The names of a directory with their marks.
use Rattle.std.specs.Prelude.{ℕ, cond, List, [], ◌++◌, map, codes}
use Rattle.name_core.specs.declared.name.Name.{Name}
use Rattle.object_set.specs.declared.object.Body.{Body}
use Rattle.object_set.specs.declared.object.Body.TheVariants.{Solid, Comb}
use Rattle.object_set.specs.Objects.{Parts}
use Rattle.directory.specs.Walks.{Entries}

-- nothing for a solid, /R for a region, / for another combination
abbrev pub mark_of : Body → List ℕ
mark_of (Solid solid) = []
mark_of (Comb attr tree) = cond attr.region (codes "/R") (codes "/")

abbrev pub name_line : Name → Parts → List ℕ
name_line name object = name ++ mark_of object.body

-- a line for each object, in order
abbrev pub names_lines : Entries → List (List ℕ)
names_lines objects = map (λ e. name_line e.0 e.1) objects
