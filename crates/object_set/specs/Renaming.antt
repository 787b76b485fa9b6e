-- Objects whose members get another name.
use Rattle.std.specs.Prelude.{cond}
use Rattle.name_core.specs.declared.name.Name.{Name}
use Rattle.name_core.specs.Same.{same_name}
use Rattle.comb_tree.specs.Changes.{map_members, renamed}
use Rattle.object_set.specs.declared.object.Body.{Body}
use Rattle.object_set.specs.declared.object.Body.TheVariants.{Solid, Comb}
use Rattle.object_set.specs.Objects.{Parts}

-- the name of a member after the old name gave way to the new one
abbrev pub new_name : Name → Name → Name → Name
new_name old new name = cond (same_name name old) new name

abbrev pub renamed_body : Name → Name → Body → Body
renamed_body old new (Solid solid) = Solid solid
renamed_body old new (Comb attr tree) = Comb attr (map_members (renamed old new) tree)

-- the object with one name in the place of another in its tree
abbrev pub renamed_object : Name → Name → Parts → Parts
renamed_object old new object = record object { body = renamed_body old new object.body }
