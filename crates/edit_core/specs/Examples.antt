-- What the definitions come to at small directories, proved by computation. A name is one byte.
use Rattle.std.specs.Prelude.{◌≡◌, ℕ, zero, suc, List, [], ◌∷◌, Some, None, Ok, Err, true, false, refl}
use Rattle.std.proofs.Common.{lit<}
use Rattle.tree_forms.specs.declared.Op.{Op}
use Rattle.tree_forms.specs.declared.Op.TheVariants.{U, N, Minus, X}
use Rattle.tree_forms.specs.Trees.{Tree, Leaf, Join}
use Rattle.name_core.specs.declared.name.Name.{Name}
use Rattle.lattice_core.specs.declared.placement.Placement.{Placement}
use Rattle.region_attr.specs.declared.attr.Attr.{Attr}
use Rattle.region_attr.specs.Attrs.{region_attr, group_attr}
use Rattle.solid_set.specs.declared.solid.Solid.{Solid as AnySolid}
use Rattle.comb_tree.specs.declared.node.ListEntry.{ListEntry}
use Rattle.comb_tree.specs.Nodes.{Comb as BooleanTree, Member}
use Rattle.object_set.specs.declared.kept.KeptAttr.{KeptAttr}
use Rattle.object_set.specs.declared.object.Body.TheVariants.{Solid, Comb}
use Rattle.object_set.specs.Objects.{Parts}
use Rattle.command_set.specs.declared.command.Edit.TheVariants.{Make, Region, Group, Remove, Kill, RenameAll, Place, Title, Keep}
use Rattle.command_set.specs.declared.command.Command.TheVariants.{Bad, Edit as IsEdit, Query as IsQuery}
use Rattle.command_set.specs.declared.command.Query.TheVariants.{Names}
use Rattle.command_set.specs.declared.refusal.Refusal.TheVariants.{Syntax, Exists, Missing, NotComb, NotList, Absent, Heads, Cycle, Deep}
use Rattle.directory.specs.Listing.{Listing}
use Rattle.directory.specs.Walks.{Entries}
use Rattle.edit_core.specs.Refused.{edited}
use Rattle.edit_core.specs.Verdicts.{ClosesCycle}
use Rattle.edit_core.specs.Modelling.{next, commits, reply, is_look}

abbrev named : ℕ → Name
named n = n ∷ []

abbrev at : Placement → ℕ → Tree Member
at p n = Leaf (record { name = named n; placement = p })

abbrev entry : Placement → Op → ℕ → ListEntry
entry p op n = record { op = op; name = named n; placement = p }

abbrev lone : AnySolid → Parts
lone s = record { body = Solid s; kept = [] }

abbrev comb : Attr → BooleanTree → Parts
comb attr tree = record { body = Comb attr tree; kept = [] }

abbrev holding : Entries → Listing
holding objects = record { title = []; objects = objects }

-- three solids, and after them a combination of the name 9
abbrev with_comb : AnySolid → List (Name × Parts) → Listing
with_comb s rest = holding ((named 1, lone s) ∷ (named 2, lone s) ∷ (named 3, lone s) ∷ rest)

abbrev whole : Placement → AnySolid → Listing
whole p s = with_comb s ((named 9, comb region_attr (Some (Join U (at p 1) (Join Minus (at p 2) (at p 3))))) ∷ [])

-- ---- a region, and what is removed from it
a_region_is_made : (p : Placement) (s : AnySolid) → edited (with_comb s []) (Region (named 9) (entry p U 1 ∷ entry p U 2 ∷ entry p Minus 3 ∷ [])) ≡ Ok (whole p s)
a_region_is_made p s = refl

a_head_stays_while_its_product_does : (p : Placement) (s : AnySolid) → edited (whole p s) (Remove (named 9) (named 2 ∷ [])) ≡ Err (Heads (named 2))
a_head_stays_while_its_product_does p s = refl

a_name_without_an_entry_comes_first : (p : Placement) (s : AnySolid) → edited (whole p s) (Remove (named 9) (named 2 ∷ named 7 ∷ [])) ≡ Err (Absent (named 7))
a_name_without_an_entry_comes_first p s = refl

a_product_is_removed_whole : (p : Placement) (s : AnySolid) → edited (whole p s) (Remove (named 9) (named 2 ∷ named 3 ∷ [])) ≡ Ok (with_comb s ((named 9, comb region_attr (Some (at p 1))) ∷ []))
a_product_is_removed_whole p s = refl

all_may_be_removed : (p : Placement) (s : AnySolid) → edited (whole p s) (Remove (named 9) (named 3 ∷ named 2 ∷ named 1 ∷ [])) ≡ Ok (with_comb s ((named 9, comb region_attr None) ∷ []))
all_may_be_removed p s = refl

a_solid_has_no_entries : (p : Placement) (s : AnySolid) → edited (whole p s) (Remove (named 3) (named 7 ∷ [])) ≡ Err (NotComb (named 3))
a_solid_has_no_entries p s = refl

-- 1 and (2 or 3) is no list's tree
abbrev nested : Placement → AnySolid → Listing
nested p s = with_comb s ((named 9, comb group_attr (Some (Join N (at p 1) (Join U (at p 2) (at p 3))))) ∷ [])

a_tree_without_a_list : (p : Placement) (s : AnySolid) → edited (nested p s) (Remove (named 9) (named 7 ∷ [])) ≡ Err (NotList (named 9))
a_tree_without_a_list p s = refl

nor_is_it_extended : (p : Placement) (s : AnySolid) → edited (nested p s) (Group (named 9) (entry p U 9 ∷ [])) ≡ Err (NotList (named 9))
nor_is_it_extended p s = refl

its_leaves_are_placed : (p q : Placement) (s : AnySolid)
    → edited (nested p s) (Place (named 9) (named 2) q) ≡ Ok (with_comb s ((named 9, comb group_attr (Some (Join N (at p 1) (Join U (at q 2) (at p 3))))) ∷ []))
its_leaves_are_placed p q s = refl

but_no_other_name : (p q : Placement) (s : AnySolid) → edited (nested p s) (Place (named 9) (named 9) q) ≡ Err (Absent (named 9))
but_no_other_name p q s = refl

-- ---- combinations that are extended
a_group_is_made : (p : Placement) → edited (holding []) (Group (named 4) (entry p U 1 ∷ [])) ≡ Ok (holding ((named 4, comb group_attr (Some (at p 1))) ∷ []))
a_group_is_made p = refl

it_becomes_a_region : (p : Placement) → edited (holding ((named 4, comb group_attr (Some (at p 1))) ∷ [])) (Region (named 4) (entry p Minus 2 ∷ []))
    ≡ Ok (holding ((named 4, comb (record group_attr { region = true }) (Some (Join Minus (at p 1) (at p 2)))) ∷ []))
it_becomes_a_region p = refl

-- a list that begins with an exclusive union continues the last product, and is read as u where the tree is empty
an_exclusive_union_continues : (p : Placement) → edited (holding ((named 4, comb group_attr (Some (Join U (at p 1) (at p 2)))) ∷ [])) (Region (named 4) (entry p X 3 ∷ []))
    ≡ Ok (holding ((named 4, comb (record group_attr { region = true }) (Some (Join U (at p 1) (Join X (at p 2) (at p 3))))) ∷ []))
an_exclusive_union_continues p = refl

an_exclusive_union_begins : (p : Placement) → edited (holding ((named 4, comb group_attr None) ∷ [])) (Region (named 4) (entry p X 1 ∷ []))
    ≡ Ok (holding ((named 4, comb (record group_attr { region = true }) (Some (at p 1))) ∷ []))
an_exclusive_union_begins p = refl

a_region_stays_one : (p : Placement) → edited (holding ((named 4, comb region_attr None) ∷ [])) (Group (named 4) (entry p U 1 ∷ entry p U 2 ∷ []))
    ≡ Ok (holding ((named 4, comb region_attr (Some (Join U (at p 1) (at p 2)))) ∷ []))
a_region_stays_one p = refl

a_solid_is_not_extended : (p : Placement) (s : AnySolid) → edited (with_comb s []) (Group (named 1) (entry p U 1 ∷ [])) ≡ Err (NotComb (named 1))
a_solid_is_not_extended p s = refl

-- ---- names that are there
there_already : (s : AnySolid) → edited (with_comb s []) (Make (named 1) (lone s)) ≡ Err (Exists (named 1))
there_already s = refl

onto_itself : (s : AnySolid) → edited (with_comb s []) (RenameAll (named 1) (named 1)) ≡ Err (Exists (named 1))
onto_itself s = refl

neither_is_there : (s : AnySolid) → edited (with_comb s []) (RenameAll (named 7) (named 8)) ≡ Err (Missing (named 7))
neither_is_there s = refl

each_reference_is_renamed : (p : Placement) (s : AnySolid) → edited (holding ((named 4, comb group_attr (Some (at p 1))) ∷ (named 1, lone s) ∷ [])) (RenameAll (named 1) (named 8))
    ≡ Ok (holding ((named 4, comb group_attr (Some (at p 8))) ∷ (named 8, lone s) ∷ []))
each_reference_is_renamed p s = refl

all_names_are_looked_up_first : (s : AnySolid) → edited (with_comb s []) (Kill (named 1 ∷ named 7 ∷ named 8 ∷ [])) ≡ Err (Missing (named 7))
all_names_are_looked_up_first s = refl

references_stay : (p : Placement) (s : AnySolid) → edited (holding ((named 4, comb group_attr (Some (at p 1))) ∷ (named 1, lone s) ∷ [])) (Kill (named 1 ∷ named 1 ∷ []))
    ≡ Ok (holding ((named 4, comb group_attr (Some (at p 1))) ∷ []))
references_stay p s = refl

-- ---- cycles and depth
abbrev two_of_three : Placement → Listing
two_of_three p = holding ((named 1, comb group_attr (Some (at p 2))) ∷ (named 2, comb group_attr (Some (at p 3))) ∷ [])

a_cycle_of_three : (p : Placement) → edited (two_of_three p) (Group (named 3) (entry p U 1 ∷ [])) ≡ Err (Cycle (named 3))
a_cycle_of_three p = refl

-- by the walk 3, 1, 2, 3
its_walk : (p : Placement) → ClosesCycle (two_of_three p) (Group (named 3) (entry p U 1 ∷ [])) (named 3)
its_walk p = record { late = refl; is = refl; cycle = (named 1 ∷ named 2 ∷ [], ((0, lit< tt, refl), ((0, lit< tt, refl), ((0, lit< tt, refl), (tt, tt))))) }

-- so many combinations, from this name on, each with the next name as its member
abbrev chain : Placement → ℕ → ℕ → Entries
chain p zero k = []
chain p (suc n) k = (named k, comb group_attr (Some (at p (suc k)))) ∷ chain p n (suc k)

-- the lowest of sixteen has a missing member; where that becomes a combination, the highest lies 17 deep
seventeen_deep : (p : Placement) → edited (holding (chain p 16 1)) (Group (named 17) (entry p U 99 ∷ [])) ≡ Err (Deep 17)
seventeen_deep p = refl

sixteen_deep : (p : Placement) → edited (holding (chain p 15 1)) (Group (named 16) (entry p U 17 ∷ [])) ≡ Ok (holding (chain p 16 1))
sixteen_deep p = refl

renamed_into_itself : (p : Placement) → edited (holding ((named 1, comb group_attr (Some (at p 2))) ∷ [])) (RenameAll (named 1) (named 2)) ≡ Err (Cycle (named 2))
renamed_into_itself p = refl

-- ---- texts
a_title : (s : AnySolid) → edited (with_comb s []) (Title (65 ∷ [])) ≡ Ok (record (with_comb s []) { title = 65 ∷ [] })
a_title s = refl

abbrev pair : ℕ → ℕ → KeptAttr
pair key value = record { name = named key; value = value ∷ [] }

attributes_are_kept : (s : AnySolid) → edited (holding ((named 1, lone s) ∷ [])) (Keep (named 1) (pair 5 6 ∷ pair 5 7 ∷ [])) ≡ Ok (holding ((named 1, record { body = Solid s; kept = pair 5 7 ∷ [] }) ∷ []))
attributes_are_kept s = refl

-- ---- commands of a machine
an_accepted_edit_commits : (s : AnySolid) → commits (holding []) (IsEdit (Make (named 1) (lone s))) ≡ true
an_accepted_edit_commits s = refl

it_makes_the_directory : (s : AnySolid) → next (holding []) (IsEdit (Make (named 1) (lone s))) ≡ holding ((named 1, lone s) ∷ [])
it_makes_the_directory s = refl

a_refused_edit_does_not_commit : (s : AnySolid) → commits (with_comb s []) (IsEdit (Make (named 1) (lone s))) ≡ false
a_refused_edit_does_not_commit s = refl

it_leaves_the_directory : (s : AnySolid) → next (with_comb s []) (IsEdit (Make (named 1) (lone s))) ≡ with_comb s []
it_leaves_the_directory s = refl

it_is_told_why : (s : AnySolid) → reply (with_comb s []) (IsEdit (Make (named 1) (lone s))) ≡ Err (Exists (named 1))
it_is_told_why s = refl

a_query_looks : is_look (IsQuery Names) ≡ true
a_query_looks = refl

a_bad_line_looks : is_look (Bad Syntax) ≡ true
a_bad_line_looks = refl

an_edit_does_not_look : (s : AnySolid) → is_look (IsEdit (Make (named 1) (lone s))) ≡ false
an_edit_does_not_look s = refl
