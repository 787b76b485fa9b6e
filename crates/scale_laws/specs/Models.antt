-- Models with all lengths so many times as large: names, attributes and what objects keep stay.
use Rattle.std.specs.Prelude.{ℕ, map}
use Rattle.comb_tree.specs.Nodes.{Member}
use Rattle.comb_tree.specs.Changes.{map_members}
use Rattle.object_set.specs.declared.object.Body.{Body}
use Rattle.object_set.specs.declared.object.Body.TheVariants.{Solid, Comb}
use Rattle.object_set.specs.Objects.{Parts}
use Rattle.directory.specs.Walks.{Entries}
use Rattle.solid_set.specs.Larger.{larger_solid, larger_placement}

-- a member of the same name, with a larger shift
abbrev pub larger_member : ℕ → Member → Member
larger_member m member = record member { placement = larger_placement m member.placement }

-- a larger solid, or a combination of the same attributes with larger members
abbrev pub larger_body : ℕ → Body → Body
larger_body m (Solid solid) = Solid (larger_solid m solid)
larger_body m (Comb attr tree) = Comb attr (map_members (larger_member m) tree)

abbrev pub larger_object : ℕ → Parts → Parts
larger_object m object = record object { body = larger_body m object.body }

-- each object under its name
abbrev pub larger_directory : ℕ → Entries → Entries
larger_directory m directory = map (λ e. (e.0, larger_object m e.1)) directory
