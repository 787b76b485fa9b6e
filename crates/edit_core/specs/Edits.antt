-- What an edit makes of a directory.
use Rattle.std.specs.Prelude.{List, [], ◌++◌, true, cond, Option, None, Some, is_some, unwrap_or, Result, Ok, Err}
use Rattle.name_core.specs.declared.name.Name.{Name}
use Rattle.region_attr.specs.declared.attr.Attr.{Attr}
use Rattle.region_attr.specs.declared.attr.AttrFault.{AttrFault}
use Rattle.region_attr.specs.Attrs.{region_attr, group_attr, set_attr}
use Rattle.comb_tree.specs.declared.node.ListEntry.{ListEntry}
use Rattle.comb_tree.specs.Nodes.{Comb as Tree}
use Rattle.comb_tree.specs.Lists.{tree_of_list}
use Rattle.comb_tree.specs.Changes.{map_members, placed, without, is_among}
use Rattle.object_set.specs.declared.object.Body.{Body}
use Rattle.object_set.specs.declared.object.Body.TheVariants.{Solid, Comb}
use Rattle.object_set.specs.Objects.{Parts}
use Rattle.object_set.specs.Keeping.{kept_after}
use Rattle.command_set.specs.Lawful.{KeyAndValue}
use Rattle.command_set.specs.declared.command.Edit.{Edit}
use Rattle.command_set.specs.declared.command.Edit.TheVariants.{Make, Region, Group, Remove, Kill, RenameAll, Place, Title, Keep, Set}
use Rattle.directory.specs.Listing.{Listing}
use Rattle.directory.specs.Walks.{Entries, object_of}
use Rattle.directory.specs.Edits.{appended, replaced, without_all, renamed_all}
use Rattle.edit_core.specs.ListForms.{list_of}

-- the object of a name
abbrev pub object_at : Listing → Name → Option Parts
object_at d name = object_of d.objects name

abbrev pub body_tree : Body → Tree
body_tree (Solid solid) = None
body_tree (Comb attr tree) = tree

-- the tree of a combination; where there is none, the empty tree
abbrev pub tree_at : Option Parts → Tree
tree_at None = None
tree_at (Some object) = body_tree object.body

-- the list of the tree; where it has none, the empty list
abbrev pub own_list : Option Parts → List ListEntry
own_list object = unwrap_or (list_of (tree_at object)) []

-- a combination that takes the place of an object: of the attributes that are made of its own, and of a tree
abbrev pub body_with : (Attr → Attr) → Tree → Body → Body
body_with f tree (Solid solid) = Solid solid
body_with f tree (Comb attr old) = Comb (f attr) tree

abbrev pub object_with : (Attr → Attr) → Tree → Parts → Parts
object_with f tree object = record object { body = body_with f tree object.body }

-- a list of members makes a new combination, or goes to the end of the list of the one that is there
abbrev pub extended : Attr → (Attr → Attr) → List ListEntry → Option Parts → Parts
extended fresh f list None = record { body = Comb fresh (tree_of_list list); kept = [] }
extended fresh f list (Some object) = object_with f (tree_of_list (own_list (Some object) ++ list)) object

-- the object takes the place of that of its name, or goes to the end
abbrev pub set_object : Entries → Name → Parts → Entries
set_object objects name object = cond (is_some (object_of objects name)) (replaced objects name object) (appended objects name object)

-- the object of a name is changed, where it is there
abbrev pub change_object : Entries → Name → (Parts → Parts) → Option Parts → Entries
change_object objects name f None = objects
change_object objects name f (Some object) = replaced objects name (f object)

abbrev pub changed_at : Listing → Name → (Parts → Parts) → Listing
changed_at d name f = record d { objects = change_object d.objects name f (object_at d name) }

abbrev pub as_region : Attr → Attr
as_region attr = record attr { region = true }

abbrev pub same_attr : Attr → Attr
same_attr attr = attr

abbrev pub set_or : Attr → Result Attr AttrFault → Attr
set_or attr (Ok new) = new
set_or attr (Err fault) = attr

abbrev pub setting_attr : KeyAndValue → Attr → Attr
setting_attr setting attr = set_or attr (set_attr setting.key setting.value attr)

abbrev pub with_tree : (Tree → Tree) → Parts → Parts
with_tree f object = object_with same_attr (f (tree_at (Some object))) object

-- the directory that the edit makes, where it is not refused; what is not named here stays
abbrev pub made : Listing → Edit → Listing
made d (Make name object) = record d { objects = appended d.objects name object }
made d (Region name list) = record d { objects = set_object d.objects name (extended region_attr as_region list (object_at d name)) }
made d (Group name list) = record d { objects = set_object d.objects name (extended group_attr same_attr list (object_at d name)) }
made d (Remove comb members) = changed_at d comb (λ object. with_tree (λ tree. tree_of_list (without (is_among members) (own_list (Some object)))) object)
made d (Kill names) = record d { objects = without_all d.objects names }
made d (RenameAll old new) = record d { objects = renamed_all d.objects old new }
made d (Place comb member placement) = changed_at d comb (with_tree (map_members (placed member placement)))
made d (Title text) = record d { title = text }
made d (Keep name pairs) = changed_at d name (λ object. record object { kept = kept_after object.kept pairs })
made d (Set name setting) = changed_at d name (λ object. object_with (setting_attr setting) (tree_at (Some object)) object)
