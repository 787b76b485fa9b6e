-- Small directories, and what the definitions say of them. A name is one byte.
use Rattle.std.specs.Prelude.{◌≡◌, ℕ, [], ◌∷◌, Some, None, refl}
use Rattle.std.proofs.Common.{lit<}
use Rattle.tree_forms.specs.declared.Op.TheVariants.{U}
use Rattle.tree_forms.specs.Trees.{Tree, Leaf, Join}
use Rattle.name_core.specs.declared.name.Name.{Name}
use Rattle.lattice_core.specs.declared.placement.Placement.{Placement}
use Rattle.region_attr.specs.declared.attr.Attr.{Attr}
use Rattle.solid_set.specs.declared.solid.Solid.{Solid as AnySolid}
use Rattle.comb_tree.specs.Nodes.{Member}
use Rattle.object_set.specs.Objects.{Parts}
use Rattle.object_set.specs.declared.object.Body.TheVariants.{Solid, Comb}
use Rattle.directory.specs.declared.fault.DirFault.TheVariants.{Exists, Missing, Cycle, Deep}
use Rattle.directory.specs.Walks.{Entries, IsWalk, combinations, HasCycleThrough, depth_within, unbounded, deepest}
use Rattle.directory.specs.Closed.{moved_depths}
use Rattle.directory.specs.Edits.{judged_by, appended, put_fault, removed, renamed_all, rename_fault, without_all, references_of}

abbrev named : ℕ → Name
named n = n ∷ []

abbrev member : Placement → ℕ → Tree Member
member p n = Leaf (record { name = named n; placement = p })

abbrev of_one : Attr → Placement → ℕ → Parts
of_one attr p n = record { body = Comb attr (Some (member p n)); kept = [] }

abbrev of_two : Attr → Placement → ℕ → ℕ → Parts
of_two attr p m n = record { body = Comb attr (Some (Join U (member p m) (member p n))); kept = [] }

abbrev lone : AnySolid → Parts
lone s = record { body = Solid s; kept = [] }

-- 1 has member 2, 2 has members 3 and 9, 3 is a solid, 9 dangles
abbrev pub three : Attr → Placement → AnySolid → Entries
three attr p s = (named 1, of_one attr p 2) ∷ (named 2, of_two attr p 3 9) ∷ (named 3, lone s) ∷ []

pub a_walk : (attr : Attr) (p : Placement) (s : AnySolid) → IsWalk (three attr p s) (named 1 ∷ named 2 ∷ named 9 ∷ [])
a_walk attr p s = ((0, lit< tt, refl), ((1, lit< tt, refl), (tt, tt)))

pub its_combinations : (attr : Attr) (p : Placement) (s : AnySolid) → combinations (three attr p s) (named 1 ∷ named 2 ∷ named 9 ∷ []) ≡ 2
its_combinations attr p s = refl

pub its_depth : (attr : Attr) (p : Placement) (s : AnySolid) → depth_within unbounded (three attr p s) (named 1) ≡ 2
its_depth attr p s = refl

pub no_depth : (attr : Attr) (p : Placement) (s : AnySolid) → depth_within unbounded (three attr p s) (named 9) ≡ 0
no_depth attr p s = refl

pub an_empty_combination : (attr : Attr) → deepest ((named 4, record { body = Comb attr None; kept = [] }) ∷ []) ≡ 1
an_empty_combination attr = refl

-- a member that comes later closes the cycle: 9 with member 1
pub a_cycle : (attr : Attr) (p : Placement) (s : AnySolid) → HasCycleThrough (appended (three attr p s) (named 9) (of_one attr p 1)) (named 9)
a_cycle attr p s = (named 1 ∷ named 2 ∷ [], ((0, lit< tt, refl), ((0, lit< tt, refl), ((1, lit< tt, refl), (tt, tt)))))

pub it_is_refused : (attr : Attr) (p : Placement) (s : AnySolid) → put_fault (three attr p s) (named 9) (of_one attr p 1) ≡ Some (Cycle (named 9))
it_is_refused attr p s = refl

pub there_already : (attr : Attr) (p : Placement) (s : AnySolid) → put_fault (three attr p s) (named 3) (of_one attr p 3) ≡ Some Exists
there_already attr p s = refl

pub no_fault : (attr : Attr) (p : Placement) (s : AnySolid) → put_fault (three attr p s) (named 9) (lone s) ≡ None
no_fault attr p s = refl

-- renaming 2 to 9, which dangles, makes 9 its own member
pub a_renaming : (attr : Attr) (p : Placement) (s : AnySolid)
    → renamed_all (three attr p s) (named 2) (named 9) ≡ (named 1, of_one attr p 9) ∷ (named 9, of_two attr p 3 9) ∷ (named 3, lone s) ∷ []
a_renaming attr p s = refl

-- where 2 becomes 9: 9 is as deep as 2 was, 2 is no name any more, and 1 stays as deep as it was
pub depth_at_the_new_name : (attr : Attr) (p : Placement) (s : AnySolid) → moved_depths (depth_within unbounded (three attr p s)) (named 2) (named 9) (named 9) ≡ 1
depth_at_the_new_name attr p s = refl

pub no_depth_at_the_old_name : (attr : Attr) (p : Placement) (s : AnySolid) → moved_depths (depth_within unbounded (three attr p s)) (named 2) (named 9) (named 2) ≡ 0
no_depth_at_the_old_name attr p s = refl

pub depth_at_another_name : (attr : Attr) (p : Placement) (s : AnySolid) → moved_depths (depth_within unbounded (three attr p s)) (named 2) (named 9) (named 1) ≡ 2
depth_at_another_name attr p s = refl

pub refused_too : (attr : Attr) (p : Placement) (s : AnySolid) → rename_fault (three attr p s) (named 2) (named 9) ≡ Some (Cycle (named 9))
refused_too attr p s = refl

pub no_such_name : (attr : Attr) (p : Placement) (s : AnySolid) → rename_fault (three attr p s) (named 8) (named 7) ≡ Some Missing
no_such_name attr p s = refl

-- the new name is looked for first, also where both names are one
pub the_new_name_first : (attr : Attr) (p : Placement) (s : AnySolid) → rename_fault (three attr p s) (named 8) (named 3) ≡ Some Exists
the_new_name_first attr p s = refl

pub both_names_one : (attr : Attr) (p : Placement) (s : AnySolid) → rename_fault (three attr p s) (named 3) (named 3) ≡ Some Exists
both_names_one attr p s = refl

-- sixteen combinations may lie one in the other, and more than 33 lie in a cycle
pub sixteen_deep : judged_by 16 (named 1) ≡ None
sixteen_deep = refl

pub seventeen_deep : judged_by 17 (named 1) ≡ Some (Deep 17)
seventeen_deep = refl

pub thirty_three_deep : judged_by 33 (named 1) ≡ Some (Deep 33)
thirty_three_deep = refl

pub in_a_cycle : judged_by 34 (named 1) ≡ Some (Cycle (named 1))
in_a_cycle = refl

pub two_are_left : (attr : Attr) (p : Placement) (s : AnySolid) → removed (three attr p s) (named 2) ≡ (named 1, of_one attr p 2) ∷ (named 3, lone s) ∷ []
two_are_left attr p s = refl

pub one_is_left : (attr : Attr) (p : Placement) (s : AnySolid) → without_all (three attr p s) (named 3 ∷ named 7 ∷ named 1 ∷ []) ≡ (named 2, of_two attr p 3 9) ∷ []
one_is_left attr p s = refl

pub named_once : (attr : Attr) (p : Placement) (s : AnySolid) → references_of (three attr p s) (named 9) ≡ 1
named_once attr p s = refl
