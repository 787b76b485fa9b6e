-- Why an edit is refused: the refusals that may hold, each where its case says, in the order in which they are looked for.
use Rattle.std.specs.Prelude.{ℕ, List, [], ◌∷◌, ◌++◌, length, Bool, false, true, not, cond, ◌&&◌, nat_le, nat_lt, Option, None, Some, is_some, is_none, find, Result, Ok, Err}
use Rattle.std.specs.Option.{option_map}
use Rattle.std.specs.List.{list_any}
use Rattle.name_core.specs.declared.name.Name.{Name}
use Rattle.name_core.specs.Same.{same_name}
use Rattle.comb_tree.specs.Nodes.{members}
use Rattle.comb_tree.specs.Changes.{is_among, first_absent, first_lost_head}
use Rattle.object_set.specs.declared.object.Body.{Body}
use Rattle.object_set.specs.declared.object.Body.TheVariants as bodies
use Rattle.object_set.specs.Objects.{Parts}
use Rattle.command_set.specs.declared.command.Edit.{Edit}
use Rattle.command_set.specs.declared.command.Edit.TheVariants.{Make, Region, Group, Remove, Kill, RenameAll, Place, Keep, Set}
use Rattle.command_set.specs.declared.refusal.Refusal.{Refusal}
use Rattle.command_set.specs.declared.refusal.Refusal.TheVariants.{Exists, Missing, NotComb, NotList, Absent, Heads, Members, Full, Cycle, Deep}
use Rattle.directory.specs.declared.fault.DirFault.{DirFault}
use Rattle.directory.specs.declared.fault.DirFault.TheVariants as faults
use Rattle.directory.specs.Listing.{Listing}
use Rattle.directory.specs.Walks.{most_objects}
use Rattle.directory.specs.Edits.{judged}
use Rattle.edit_core.specs.ListForms.{list_of}
use Rattle.edit_core.specs.Edits.{object_at, tree_at, own_list, made}

-- the first refusal of those that hold
abbrev pub first_refusal : List (Option Refusal) → Option Refusal
first_refusal [] = None
first_refusal (None ∷ rest) = first_refusal rest
first_refusal (Some refusal ∷ rest) = Some refusal

abbrev pub when : Bool → Refusal → Option Refusal
when holds refusal = cond holds (Some refusal) None

-- a refusal that speaks of a name, where there is one
abbrev pub at_name : Option Name → (Name → Option Refusal) → Option Refusal
at_name None case = None
at_name (Some name) case = case name

abbrev pub is_there : Listing → Name → Bool
is_there d name = is_some (object_at d name)

-- the name that is to be new
abbrev pub fresh : Edit → Option Name
fresh (Make name object) = Some name
fresh (RenameAll old new) = Some new
fresh _ = None

abbrev pub exists : Listing → Edit → Option Refusal
exists d edit = at_name (fresh edit) (λ name. when (is_there d name) (Exists name))

-- the names that are to be there
abbrev pub wanted : Edit → List Name
wanted (Remove comb members) = comb ∷ []
wanted (Kill names) = names
wanted (RenameAll old new) = old ∷ []
wanted (Place comb member placement) = comb ∷ []
wanted (Keep name pairs) = name ∷ []
wanted (Set name setting) = name ∷ []
wanted _ = []

abbrev pub missing : Listing → Edit → Option Refusal
missing d edit = option_map Missing (find (λ name. not (is_there d name)) (wanted edit))

-- the name whose object is to be a combination
abbrev pub combination : Edit → Option Name
combination (Region name list) = Some name
combination (Group name list) = Some name
combination (Remove comb members) = Some comb
combination (Place comb member placement) = Some comb
combination (Set name setting) = Some name
combination _ = None

abbrev pub is_solid_body : Body → Bool
is_solid_body (bodies.Solid solid) = true
is_solid_body (bodies.Comb attr tree) = false

abbrev pub is_solid : Option Parts → Bool
is_solid None = false
is_solid (Some object) = is_solid_body object.body

abbrev pub not_comb : Listing → Edit → Option Refusal
not_comb d edit = at_name (combination edit) (λ name. when (is_solid (object_at d name)) (NotComb name))

-- the name of the combination whose list is changed
abbrev pub listed : Edit → Option Name
listed (Region name list) = Some name
listed (Group name list) = Some name
listed (Remove comb members) = Some comb
listed _ = None

abbrev pub not_list : Listing → Edit → Option Refusal
not_list d edit = at_name (listed edit) (λ name. when (is_none (list_of (tree_at (object_at d name)))) (NotList name))

-- a member that is no leaf there
abbrev pub absent : Listing → Edit → Option Refusal
absent d (Remove comb names) = option_map Absent (first_absent names (own_list (object_at d comb)))
absent d (Place comb member placement) = when (not (list_any (λ m. same_name m.name member) (members (tree_at (object_at d comb))))) (Absent member)
absent d _ = None

-- the head of a product would go while a later entry of the product stays
abbrev pub heads : Listing → Edit → Option Refusal
heads d (Remove comb names) = option_map Heads (first_lost_head (is_among names) (own_list (object_at d comb)))
heads d _ = None

abbrev pub over_members : ℕ → Option Refusal
over_members count = when (nat_lt 4096 count) (Members count)

-- the resulting tree has too many leaves
abbrev pub too_many : Listing → Edit → Option Refusal
too_many d (Region name list) = over_members (length (own_list (object_at d name) ++ list))
too_many d (Group name list) = over_members (length (own_list (object_at d name) ++ list))
too_many d _ = None

-- the name of an object that is put to the end where it is not there
abbrev pub put : Edit → Option Name
put (Make name object) = Some name
put (Region name list) = Some name
put (Group name list) = Some name
put _ = None

abbrev pub full : Listing → Edit → Option Refusal
full d edit = at_name (put edit) (λ name. when (not (is_there d name) && nat_le most_objects (length d.objects)) Full)

-- the name, in the resulting directory, of the object whose references are new
abbrev pub edited_name : Edit → Option Name
edited_name (Make name object) = Some name
edited_name (Region name list) = Some name
edited_name (Group name list) = Some name
edited_name (RenameAll old new) = Some new
edited_name _ = None

abbrev pub of_judgement : Option DirFault → Option Refusal
of_judgement (Some (faults.Cycle name)) = Some (Cycle name)
of_judgement (Some (faults.Deep depth)) = Some (Deep depth)
of_judgement _ = None

-- the resulting directory has a cycle, or is too deep
abbrev pub too_deep : Listing → Edit → Option Refusal
too_deep d edit = at_name (edited_name edit) (λ name. of_judgement (judged (made d edit).objects name))

-- why the edit is refused
abbrev pub refusal_of : Listing → Edit → Option Refusal
refusal_of d edit =
    first_refusal (exists d edit ∷ missing d edit ∷ not_comb d edit ∷ not_list d edit ∷ absent d edit ∷ heads d edit ∷ too_many d edit ∷ full d edit ∷ too_deep d edit ∷ [])

abbrev pub unless : Option Refusal → Listing → Result Listing Refusal
unless None d = Ok d
unless (Some refusal) d = Err refusal

-- the directory after the edit, or the first refusal that holds
abbrev pub edited : Listing → Edit → Result Listing Refusal
edited d edit = unless (refusal_of d edit) (made d edit)
