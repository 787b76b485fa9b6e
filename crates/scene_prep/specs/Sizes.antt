-- How large the trees of names are when they are expanded.
use Rattle.std.specs.Prelude.{ℕ, zero, suc, ◌-◌, ◌^◌, min, List, Option, Some, None, sum_by}
use Rattle.tree_forms.specs.Trees.{leaves}
use Rattle.name_core.specs.declared.name.Name.{Name}
use Rattle.comb_tree.specs.Nodes.{Comb as CombTree}
use Rattle.object_set.specs.declared.object.Body.{Body}
use Rattle.object_set.specs.declared.object.Body.TheVariants.{Solid, Comb}
use Rattle.object_set.specs.Objects.{Parts}
use Rattle.directory.specs.Walks.{Entries, object_of}
use Rattle.scene_prep.specs.Expanding.{most_levels}

-- an empty combination counts 1, another one as its leaves together
abbrev pub comb_size : (Name → ℕ) → CombTree → ℕ
comb_size below None = 1
comb_size below (Some tree) = sum_by (λ member. below member.name) (leaves tree)

-- a solid counts 1
abbrev pub body_size : (Name → ℕ) → Body → ℕ
body_size below (Solid solid) = 1
body_size below (Comb attr tree) = comb_size below tree

-- a missing name counts 1
abbrev pub object_size : (Name → ℕ) → Option Parts → ℕ
object_size below None = 1
object_size below (Some object) = body_size below object.body

-- the size of a name, where at most `levels` objects lie one in the other
abbrev pub size_within : ℕ → Entries → Name → ℕ
size_within zero directory name = 1
size_within (suc levels) directory name = object_size (size_within levels directory) (object_of directory name)

-- the size of a name
unfoldable pub size_of_name : Entries → Name → ℕ
size_of_name directory name = size_within most_levels directory name

-- the size of a list of names
abbrev pub names_size : Entries → List Name → ℕ
names_size directory names = sum_by (size_of_name directory) names

-- the greatest size that is prepared
abbrev pub most_size : ℕ
most_size = 65536

-- a size as it is told
abbrev pub told_size : ℕ → ℕ
told_size size = min size (2 ^ 32 - 1)
