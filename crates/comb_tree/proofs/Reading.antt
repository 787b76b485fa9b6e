use Rattle.std.proofs.Common.{◌≡◌, List, [], ◌∷◌, ◌++◌, Bool, true, false, refl, ap, sym, ◌∙◌, append_assoc}
use Rattle.std.proofs.lemmas.List.{append-nil}
use Rattle.tree_forms.specs.declared.Op.{Op}
use Rattle.tree_forms.specs.declared.Op.TheVariants.{U, N, Minus, X}
use Rattle.tree_forms.proofs.Running.{tree_back}
use Rattle.comb_tree.specs.declared.node.ListEntry.{ListEntry}
use Rattle.comb_tree.specs.declared.node.CombNode.{CombNode}
use Rattle.comb_tree.specs.declared.node.CombNode.TheVariants as node
use Rattle.comb_tree.specs.Nodes.{Member, Comb, leaf, apply, read, node_laws, comb_nodes, comb_of}
use Rattle.comb_tree.specs.Steps.{tail_of, later_after, nodes_after, nodes_from, op_before, entry_at, entries}
use Rattle.comb_tree.specs.Lists.{member, tree_of_list, from_u}
use Rattle.comb_tree.proofs.Written.{tree_is, written}

abbrev with_op : Op → Member → ListEntry
with_op op m = record { op = op; name = m.name; placement = m.placement }

-- what stands at the end changes no earlier operator, where it begins with a leaf or u
same_op_leaf : (ns : List CombNode) (m : Member) (more : List CombNode) → op_before (ns ++ leaf m ∷ more) ≡ op_before ns
same_op_leaf [] m more = refl
same_op_leaf (node.Leaf name placement ∷ ns) m more = refl
same_op_leaf (node.U ∷ ns) m more = refl
same_op_leaf (node.N ∷ ns) m more = refl
same_op_leaf (node.Minus ∷ ns) m more = refl
same_op_leaf (node.X ∷ ns) m more = refl

same_op_u : (ns : List CombNode) → op_before (ns ++ node.U ∷ []) ≡ op_before ns
same_op_u [] = refl
same_op_u (node.Leaf name placement ∷ ns) = refl
same_op_u (node.U ∷ ns) = refl
same_op_u (node.N ∷ ns) = refl
same_op_u (node.Minus ∷ ns) = refl
same_op_u (node.X ∷ ns) = refl

same_entry : (n : CombNode) (ns ms : List CombNode) → op_before ns ≡ op_before ms → entry_at n ns ≡ entry_at n ms
same_entry (node.Leaf name placement) ns ms e = ap (λ op. let x : ListEntry = record { op = op; name = name; placement = placement } in x ∷ []) e
same_entry node.U ns ms e = refl
same_entry node.N ns ms e = refl
same_entry node.Minus ns ms e = refl
same_entry node.X ns ms e = refl

op_of_apply : (op : Op) → op_before (apply op ∷ []) ≡ op
op_of_apply U = refl
op_of_apply N = refl
op_of_apply Minus = refl
op_of_apply X = refl

no_entry : (op : Op) (ns : List CombNode) → entry_at (apply op) ns ≡ []
no_entry U ns = refl
no_entry N ns = refl
no_entry Minus ns = refl
no_entry X ns = refl

entries_leaf : (ns : List CombNode) (m : Member) (more : List CombNode) → entries (ns ++ leaf m ∷ more) ≡ entries ns ++ entries (leaf m ∷ more)
entries_leaf [] m more = refl
entries_leaf (n ∷ ns) m more =
    ap (λ xs. xs ++ entries (ns ++ leaf m ∷ more)) (same_entry n _ _ (same_op_leaf ns m more))
    ∙ ap (λ xs. entry_at n ns ++ xs) (entries_leaf ns m more)
    ∙ sym (append_assoc (entry_at n ns) (entries ns) (entries (leaf m ∷ more)))

entries_u : (ns : List CombNode) → entries (ns ++ node.U ∷ []) ≡ entries ns
entries_u [] = refl
entries_u (n ∷ ns) = ap (λ xs. xs ++ entries (ns ++ node.U ∷ [])) (same_entry n _ _ (same_op_u ns)) ∙ ap (λ xs. entry_at n ns ++ xs) (entries_u ns)

entries_tail : (later : Bool) (ns : List CombNode) → entries (ns ++ tail_of later) ≡ entries ns
entries_tail true ns = entries_u ns
entries_tail false ns = ap entries (append-nil ns)

entries_pair : (ns : List CombNode) (m : Member) (op : Op) → entries ((ns ++ leaf m ∷ []) ++ apply op ∷ []) ≡ entries ns ++ with_op op m ∷ []
entries_pair ns m op =
    ap entries (append_assoc ns (leaf m ∷ []) (apply op ∷ []))
    ∙ entries_leaf ns m (apply op ∷ [])
    ∙ ap (λ xs. entries ns ++ with_op (op_before (apply op ∷ [])) m ∷ (xs ++ [])) (no_entry op [])
    ∙ ap (λ o. entries ns ++ with_op o m ∷ []) (op_of_apply op)

one_more : (later : Bool) (ns : List CombNode) (op : Op) (m : Member)
    → entries (nodes_after later ns (with_op op m)) ≡ entries ns ++ with_op op m ∷ []
one_more later ns U m = entries_leaf (ns ++ tail_of later) m [] ∙ ap (λ xs. xs ++ with_op U m ∷ []) (entries_tail later ns)
one_more later ns N m = entries_pair ns m N
one_more later ns Minus m = entries_pair ns m Minus
one_more later ns X m = entries_pair ns m X

read_from : (later : Bool) (ns : List CombNode) (es : List ListEntry) → entries (nodes_from later ns es) ≡ entries ns ++ es
read_from later ns [] = entries_tail later ns ∙ sym (append-nil (entries ns))
read_from later ns (e ∷ es) =
    read_from (later_after later e) (nodes_after later ns e) es
    ∙ ap (λ xs. xs ++ es) (one_more later ns e.op (member e))
    ∙ append_assoc (entries ns) (e ∷ []) es

-- a list is read back from the nodes of its tree
pub read_back : (l : List ListEntry) → entries (comb_nodes (tree_of_list l)) ≡ from_u l
read_back [] = refl
read_back (e ∷ es) = ap entries (sym (written e es)) ∙ read_from false (leaf (member e) ∷ []) es

-- reading the first operator as u changes no tree
pub tree_from_u : (l : List ListEntry) → tree_of_list (from_u l) ≡ tree_of_list l
tree_from_u [] = refl
tree_from_u (e ∷ es) = tree_is (record e { op = U }) es ∙ sym (tree_is e es)

-- so a tree has at most one list whose first operator is u
pub one_list : (l m : List ListEntry) → tree_of_list l ≡ tree_of_list m → from_u l ≡ from_u m
one_list l m same = sym (read_back l) ∙ ap (λ t. entries (comb_nodes t)) same ∙ read_back m

pub comb_back : (t : Comb) → comb_of (comb_nodes t) ≡ t
comb_back t = tree_back leaf apply read node_laws t
