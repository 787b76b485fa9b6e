-- The words of the code: an edit step by step.
use Rattle.std.specs.Prelude.{◌≡◌, ◌≤◌, ◌⊎◌, List, [], ◌∷◌, ◌++◌, length, map, Bool, true, false, not, ◌&&◌, nat_le, Option, None, Some, IsSome, is_some, is_none, unwrap_or, Result, Ok, Err}
use Rattle.std.specs.Option.{option_map}
use Rattle.std.specs.List.{All, Contains, list_any}
use Rattle.name_core.specs.declared.name.Name.{Name}
use Rattle.name_core.specs.Same.{same_name}
use Rattle.lattice_core.specs.declared.limit.TheConstants.{COORD}
use Rattle.lattice_core.specs.Limits.{IsWithin}
use Rattle.region_attr.specs.declared.attr.Attr.{Attr}
use Rattle.region_attr.specs.Attrs.{region_attr, group_attr}
use Rattle.comb_tree.specs.declared.node.ListEntry.{ListEntry}
use Rattle.comb_tree.specs.declared.fault.TreeFault.{TreeFault}
use Rattle.comb_tree.specs.declared.fault.TreeFault.TheVariants as tree_fault
use Rattle.comb_tree.specs.Nodes.{Comb as Tree, Member, members}
use Rattle.comb_tree.specs.Changes.{is_among, first_absent, first_lost_head}
use Rattle.object_set.specs.Objects.{Parts}
use Rattle.command_set.specs.declared.command.Edit.{Edit}
use Rattle.command_set.specs.declared.command.Edit.TheVariants.{Region, Group}
use Rattle.command_set.specs.declared.refusal.Refusal.{Refusal}
use Rattle.command_set.specs.declared.refusal.Refusal.TheVariants.{Exists, Missing, NotComb, NotList, Absent, Heads, Members, Full, Cycle, Deep, Memory}
use Rattle.directory.specs.declared.fault.DirFault.{DirFault}
use Rattle.directory.specs.declared.fault.DirFault.TheVariants as dir_fault
use Rattle.directory.specs.Listing.{Listing}
use Rattle.directory.specs.Walks.{Entries, object_of, members_of, comb_weight, IsSound, most_objects}
use Rattle.directory.specs.Edits.{judged, replaced}
use Rattle.edit_core.specs.ListForms.{list_of}
use Rattle.edit_core.specs.Edits.{object_at, tree_at, own_list, set_object, as_region, same_attr, made}
use Rattle.edit_core.specs.Refused.{first_refusal, when, is_solid, over_members, of_judgement}

-- ---- refusals

-- the refusal that a fault of a tree is, where the edit is of this combination
abbrev pub tree_refusal : Name → TreeFault → Refusal
tree_refusal name tree_fault.NotList = NotList name
tree_refusal name (tree_fault.Absent member) = Absent member
tree_refusal name (tree_fault.Heads member) = Heads member
tree_refusal name (tree_fault.Members count) = Members count
tree_refusal name tree_fault.Memory = Memory

abbrev pub tree_answer : Name → Result (Unit {0}) TreeFault → Tree → Result Tree Refusal
tree_answer name (Ok done) tree = Ok tree
tree_answer name (Err fault) tree = Err (tree_refusal name fault)

-- the refusal that a fault of a directory is: of the name that is to be new, and of that which is to be there
abbrev pub directory_refusal : Name → Name → DirFault → Refusal
directory_refusal new old dir_fault.Exists = Exists new
directory_refusal new old dir_fault.Missing = Missing old
directory_refusal new old dir_fault.Full = Full
directory_refusal new old (dir_fault.Cycle name) = Cycle name
directory_refusal new old (dir_fault.Deep depth) = Deep depth
directory_refusal new old dir_fault.Memory = Memory

abbrev pub directory_answer : Name → Name → Result (Unit {0}) DirFault → Result (Unit {0}) Refusal
directory_answer new old (Ok done) = Ok done
directory_answer new old (Err fault) = Err (directory_refusal new old fault)

-- it speaks of neither a cycle nor a depth
abbrev pub IsEarly : Refusal → Type 0
IsEarly (Cycle name) = ⊥
IsEarly (Deep depth) = ⊥
IsEarly refusal = Unit {0}

-- want of memory, or the first refusal that holds
abbrev pub IsCause : Option Refusal → Refusal → Type 0
IsCause first why = IsEarly why × ((why ≡ Memory) ⊎ (first ≡ Some why))

-- a step that may be refused, and else makes what fits
abbrev pub Answers : {X : Type 0} → Option Refusal → (X → Type 0) → Result X Refusal → Type 0
Answers first Fits (Ok made) = (first ≡ None) × Fits made
Answers first Fits (Err why) = IsCause first why

-- ---- trees

-- the tree's list; where it has none, the empty list
abbrev pub list_or_empty : Tree → List ListEntry
list_or_empty tree = unwrap_or (list_of tree) []

abbrev pub names_in : Tree → List Name
names_in tree = map (λ m. m.name) (members tree)

-- its leaves are few and near
pub record IsLawful (tree : Tree) : Type 0 where
  pub few : length (members tree) ≤ 4096
  pub near : All (λ (m : Member). IsWithin COORD m.placement.shift) (members tree)

-- it is the tree that is wanted, and lawful
pub record IsTree (wanted tree : Tree) : Type 0 where
  pub is : tree ≡ wanted
  pub lawful : IsLawful tree

-- and it names nothing that the old tree does not
pub record IsLess (old wanted tree : Tree) : Type 0 where
  pub is : tree ≡ wanted
  pub lawful : IsLawful tree
  pub names : (name : Name) → Contains (names_in tree) name → Contains (names_in old) name

abbrev pub append_refusal : Name → List ListEntry → Tree → Option Refusal
append_refusal name list tree = first_refusal (when (is_none (list_of tree)) (NotList name) ∷ over_members (length (list_or_empty tree ++ list)) ∷ [])

abbrev pub remove_refusal : Name → List Name → Tree → Option Refusal
remove_refusal name names tree =
    first_refusal (when (is_none (list_of tree)) (NotList name) ∷ option_map Absent (first_absent names (list_or_empty tree)) ∷ option_map Heads (first_lost_head (is_among names) (list_or_empty tree)) ∷ [])

abbrev pub place_refusal : Name → Tree → Option Refusal
place_refusal member tree = when (not (list_any (λ m. same_name m.name member) (members tree))) (Absent member)

-- ---- a list of members for a new combination, or for one that is there

-- the edit by which the combination is a region, or by which it is only extended
abbrev pub extension : Bool → Name → List ListEntry → Edit
extension true name list = Region name list
extension false name list = Group name list

abbrev pub new_attr : Bool → Attr
new_attr true = region_attr
new_attr false = group_attr

abbrev pub change_of_attr : Bool → Attr → Attr
change_of_attr true = as_region
change_of_attr false = same_attr

-- why it is refused before it is put
abbrev pub extension_refusal : Name → List ListEntry → Option Parts → Option Refusal
extension_refusal name list object =
    first_refusal (when (is_solid object) (NotComb name) ∷ when (is_none (list_of (tree_at object))) (NotList name) ∷ over_members (length (own_list object ++ list)) ∷ [])

-- why it may not be put
abbrev pub set_refusal : Entries → Name → Parts → Option Refusal
set_refusal objects name object =
    first_refusal (when (not (is_some (object_of objects name)) && nat_le most_objects (length objects)) Full ∷ of_judgement (judged (set_object objects name object) name) ∷ [])

-- ---- the directory

abbrev pub with_object : Listing → Name → Parts → Listing
with_object d name object = record d { objects = replaced d.objects name object }

-- the object, which refers to nothing new, makes the edit's directory where it takes the place of that of the name
pub record Changes (d : Listing) (edit : Edit) (name : Name) (object : Parts) : Type 0 where
  pub made : made d edit ≡ with_object d name object
  pub there : IsSome (object_at d name)
  pub weight : comb_weight (Some object) ≤ comb_weight (object_at d name)
  pub names : (member : Name) → Contains (members_of (Some object)) member → Contains (members_of (object_at d name)) member

-- the object took the place of that of the name, or there was no memory
abbrev pub Exchanges : Listing → Name → Parts → Result (Unit {0}) Refusal → Listing → Type 0
Exchanges old name object (Ok done) new = (new ≡ with_object old name object) × IsSound new.objects
Exchanges old name object (Err why) new = (why ≡ Memory) × (new ≡ old)

-- the list of objects became this one, or all stayed for this reason
abbrev pub Becomes : Option Refusal → Listing → Entries → Result (Unit {0}) Refusal → Listing → Type 0
Becomes first old objects (Ok done) new = (first ≡ None) × (new ≡ record old { objects = objects })
Becomes first old objects (Err why) new = ((why ≡ Memory) ⊎ (first ≡ Some why)) × (new ≡ old)
