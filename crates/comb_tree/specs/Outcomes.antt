-- What the calls on trees answer.
use Rattle.std.specs.Prelude.{◌≡◌, ◌<◌, ◌≤◌, List, ◌++◌, Some, None, Result, Ok, Err, length}
use Rattle.name_core.specs.declared.name.Name.{Name}
use Rattle.comb_tree.specs.declared.node.ListEntry.{ListEntry}
use Rattle.comb_tree.specs.declared.node.CombNode.{CombNode}
use Rattle.comb_tree.specs.declared.fault.TreeFault.{TreeFault}
use Rattle.comb_tree.specs.declared.fault.TreeFault.TheVariants.{NotList, Absent, Heads, Members, Memory}
use Rattle.comb_tree.specs.Nodes.{Comb, comb_nodes, members}
use Rattle.comb_tree.specs.Lists.{tree_of_list, HasListForm, HasList}
use Rattle.comb_tree.specs.Changes.{is_among, without, first_absent, first_lost_head}

-- the tree of the nodes, or a refusal of their leaves
abbrev pub IsTreeOfNodes : List CombNode → Result Comb TreeFault → Type 0
IsTreeOfNodes ns (Ok t) = (comb_nodes t ≡ ns) × (length (members t) ≤ 4096)
IsTreeOfNodes ns (Err (Members n)) = (t : Comb) × (comb_nodes t ≡ ns) × (n ≡ length (members t)) × (4096 < n)
IsTreeOfNodes ns (Err Memory) = ⊥
IsTreeOfNodes ns (Err NotList) = ⊥
IsTreeOfNodes ns (Err (Absent n)) = ⊥
IsTreeOfNodes ns (Err (Heads n)) = ⊥

-- the tree of the list, or a refusal of its length
abbrev pub IsTreeOfList : List ListEntry → Result Comb TreeFault → Type 0
IsTreeOfList l (Ok t) = (t ≡ tree_of_list l) × (length l ≤ 4096)
IsTreeOfList l (Err (Members n)) = (n ≡ length l) × (4096 < n)
IsTreeOfList l (Err Memory) = Unit {0}
IsTreeOfList l (Err NotList) = ⊥
IsTreeOfList l (Err (Absent n)) = ⊥
IsTreeOfList l (Err (Heads n)) = ⊥

-- what appending a list made of a tree, by its answer
abbrev pub IsAppended : Result (Unit {0}) TreeFault → Comb → List ListEntry → Comb → Type 0
IsAppended (Ok u) old list new = (own : List ListEntry) × HasList old own × (new ≡ tree_of_list (own ++ list)) × (length (own ++ list) ≤ 4096)
IsAppended (Err NotList) old list new = (¬ (HasListForm old)) × (new ≡ old)
IsAppended (Err (Members n)) old list new = (own : List ListEntry) × HasList old own × (n ≡ length (own ++ list)) × (4096 < n) × (new ≡ old)
IsAppended (Err Memory) old list new = new ≡ old
IsAppended (Err (Absent n)) old list new = ⊥
IsAppended (Err (Heads n)) old list new = ⊥

-- what removing names made of a tree, by its answer
abbrev pub IsRemoved : Result (Unit {0}) TreeFault → Comb → List Name → Comb → Type 0
IsRemoved (Ok u) old names new = (own : List ListEntry) × HasList old own × (first_absent names own ≡ None) × (first_lost_head (is_among names) own ≡ None) × (new ≡ tree_of_list (without (is_among names) own))
IsRemoved (Err NotList) old names new = (¬ (HasListForm old)) × (new ≡ old)
IsRemoved (Err (Absent n)) old names new = (own : List ListEntry) × HasList old own × (first_absent names own ≡ Some n) × (new ≡ old)
IsRemoved (Err (Heads n)) old names new = (own : List ListEntry) × HasList old own × (first_absent names own ≡ None) × (first_lost_head (is_among names) own ≡ Some n) × (new ≡ old)
IsRemoved (Err Memory) old names new = new ≡ old
IsRemoved (Err (Members n)) old names new = ⊥
