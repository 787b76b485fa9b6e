use Rattle.std.proofs.Common.{◌≡◌, List, [], ◌∷◌, ◌++◌, Some, None, Bool, true, false, cond, refl, ap, sym, ◌∙◌, append_assoc, map}
use Rattle.std.proofs.lemmas.List.{append-nil}
use Rattle.tree_forms.specs.Trees.{Tree, Leaf, Join, postfix, leaves}
use Rattle.comb_tree.specs.declared.node.ListEntry.{ListEntry}
use Rattle.comb_tree.specs.declared.node.CombNode.{CombNode}
use Rattle.comb_tree.specs.declared.node.CombNode.TheVariants as node
use Rattle.comb_tree.specs.Nodes.{Member, Comb, leaf, apply, comb_nodes, members}
use Rattle.comb_tree.specs.Steps.{tail_of, nodes_from}
use Rattle.comb_tree.specs.Lists.{member, is_u, is_cut, onto, products, grown, united, union_of, tree_of_list}

-- a list read entry by entry: `before` is the union of the products before the one that is open, `cur` what is open
abbrev pub tree_from : Comb → Tree Member → List ListEntry → Comb
tree_from before cur [] = united before (Some cur)
tree_from before cur (e ∷ es) = cond (is_u e.op) (tree_from (united before (Some cur)) (Leaf (member e)) es) (tree_from before (Join e.op cur (Leaf (member e))) es)

-- the same by products: where the rest is not at a cut, its first product goes on with `cur`
abbrev merged : Comb → Tree Member → Bool → List (List ListEntry) → Comb
merged before cur true ps = union_of (united before (Some cur)) ps
merged before cur false [] = united before (Some cur)
merged before cur false (p ∷ ps) = union_of (united before (Some (grown cur p))) ps

begun : (before : Comb) (e : ListEntry) (b : Bool) (ps : List (List ListEntry)) → merged before (Leaf (member e)) b ps ≡ union_of before (cond b ((e ∷ []) ∷ ps) (onto e ps))
begun before e true ps = refl
begun before e false [] = refl
begun before e false (p ∷ ps) = refl

goes_on : (before : Comb) (cur : Tree Member) (e : ListEntry) (b : Bool) (ps : List (List ListEntry))
    → merged before (Join e.op cur (Leaf (member e))) b ps ≡ merged before cur false (cond b ((e ∷ []) ∷ ps) (onto e ps))
goes_on before cur e true ps = refl
goes_on before cur e false [] = refl
goes_on before cur e false (p ∷ ps) = refl

by_entry : (b : Bool) (before : Comb) (cur : Tree Member) (ps : List (List ListEntry)) (one two : Comb)
    → one ≡ union_of (united before (Some cur)) ps → two ≡ merged before cur false ps → cond b one two ≡ merged before cur b ps
by_entry true before cur ps one two f s = f
by_entry false before cur ps one two f s = s

from_products : (before : Comb) (cur : Tree Member) (es : List ListEntry) → tree_from before cur es ≡ merged before cur (is_cut es) (products es)
from_products before cur [] = refl
from_products before cur (e ∷ es) =
    by_entry (is_u e.op) before cur (products (e ∷ es)) _ _
    (from_products (united before (Some cur)) (Leaf (member e)) es ∙ begun (united before (Some cur)) e (is_cut es) (products es))
    (from_products before (Join e.op cur (Leaf (member e))) es ∙ goes_on before cur e (is_cut es) (products es))

-- the tree of a list, entry by entry
pub tree_is : (e : ListEntry) (es : List ListEntry) → tree_of_list (e ∷ es) ≡ tree_from None (Leaf (member e)) es
tree_is e es = sym (from_products None (Leaf (member e)) es ∙ begun None e (is_cut es) (products es))

abbrev pub is_there : Comb → Bool
is_there None = false
is_there (Some t) = true

there : (before : Comb) (cur : Tree Member) → is_there (united before (Some cur)) ≡ true
there None cur = refl
there (Some t) cur = refl

closed : (before : Comb) (cur : Tree Member) → (comb_nodes before ++ postfix leaf apply cur) ++ tail_of (is_there before) ≡ comb_nodes (united before (Some cur))
closed None cur = append-nil (postfix leaf apply cur)
closed (Some t) cur = append_assoc (postfix leaf apply t) (postfix leaf apply cur) (node.U ∷ [])

open_more : (before : Comb) (cur : Tree Member) (e : ListEntry)
    → ((comb_nodes before ++ postfix leaf apply cur) ++ leaf (member e) ∷ []) ++ apply e.op ∷ [] ≡ comb_nodes before ++ postfix leaf apply (Join e.op cur (Leaf (member e)))
open_more before cur e =
    append_assoc (comb_nodes before ++ postfix leaf apply cur) (leaf (member e) ∷ []) (apply e.op ∷ [])
    ∙ append_assoc (comb_nodes before) (postfix leaf apply cur) (leaf (member e) ∷ apply e.op ∷ [])

by_op : (b later : Bool) (u o : List CombNode) (es : List ListEntry) (one two : Comb)
    → nodes_from true u es ≡ comb_nodes one → nodes_from later o es ≡ comb_nodes two → nodes_from (cond b true later) (cond b u o) es ≡ comb_nodes (cond b one two)
by_op true later u o es one two f s = f
by_op false later u o es one two f s = s

pub written_from : (before : Comb) (cur : Tree Member) (es : List ListEntry)
    → nodes_from (is_there before) (comb_nodes before ++ postfix leaf apply cur) es ≡ comb_nodes (tree_from before cur es)
written_from before cur [] = closed before cur
written_from before cur (e ∷ es) =
    by_op (is_u e.op) (is_there before) _ _ es _ _
    (ap (λ xs. nodes_from true (xs ++ leaf (member e) ∷ []) es) (closed before cur)
    ∙ ap (λ b. nodes_from b (comb_nodes (united before (Some cur)) ++ leaf (member e) ∷ []) es) (sym (there before cur))
    ∙ written_from (united before (Some cur)) (Leaf (member e)) es)
    (ap (λ xs. nodes_from (is_there before) xs es) (open_more before cur e) ∙ written_from before (Join e.op cur (Leaf (member e))) es)

-- what is written for a list are the nodes of its tree
pub written : (e : ListEntry) (es : List ListEntry) → nodes_from false (leaf (member e) ∷ []) es ≡ comb_nodes (tree_of_list (e ∷ es))
written e es = written_from None (Leaf (member e)) es ∙ ap comb_nodes (sym (tree_is e es))

united_members : (before : Comb) (cur : Tree Member) → members (united before (Some cur)) ≡ members before ++ leaves cur
united_members None cur = refl
united_members (Some t) cur = refl

by_members : (b : Bool) (one two : Comb) (xs : List Member) → members one ≡ xs → members two ≡ xs → members (cond b one two) ≡ xs
by_members true one two xs f s = f
by_members false one two xs f s = s

members_from : (before : Comb) (cur : Tree Member) (es : List ListEntry) → members (tree_from before cur es) ≡ (members before ++ leaves cur) ++ map member es
members_from before cur [] = united_members before cur ∙ sym (append-nil (members before ++ leaves cur))
members_from before cur (e ∷ es) =
    by_members (is_u e.op) _ _ _
    (members_from (united before (Some cur)) (Leaf (member e)) es
    ∙ append_assoc (members (united before (Some cur))) (member e ∷ []) (map member es)
    ∙ ap (λ xs. xs ++ member e ∷ map member es) (united_members before cur))
    (members_from before (Join e.op cur (Leaf (member e))) es
    ∙ ap (λ xs. xs ++ map member es) (sym (append_assoc (members before) (leaves cur) (member e ∷ [])))
    ∙ append_assoc (members before ++ leaves cur) (member e ∷ []) (map member es))

-- the leaves of a list's tree are its members, in order
pub members_of_list : (l : List ListEntry) → members (tree_of_list l) ≡ map member l
members_of_list [] = refl
members_of_list (e ∷ es) = ap members (tree_is e es) ∙ members_from None (Leaf (member e)) es
