use Rattle.std.proofs.Common.{◌≡◌, List, [], ◌∷◌, false, ap, sym, ◌∙◌, length}
use Rattle.std.proofs.lemmas.List.{length-map}
use Rattle.comb_tree.specs.declared.node.ListEntry.{ListEntry}
use Rattle.comb_tree.specs.declared.node.CombNode.{CombNode}
use Rattle.comb_tree.specs.Nodes.{Comb, comb_nodes, comb_of, members, leaf}
use Rattle.comb_tree.specs.Steps.{nodes_from, entries}
use Rattle.comb_tree.specs.Lists.{member, tree_of_list, from_u, HasListForm, HasList}
use Rattle.comb_tree.proofs.Written.{written, members_of_list}
use Rattle.comb_tree.proofs.Reading.{comb_back, read_back, tree_from_u}

pub starts : (l : List ListEntry) (first : ListEntry) (rest : List ListEntry) (ns : List CombNode) → l ≡ first ∷ rest → ns ≡ leaf (member first) ∷ []
    → nodes_from false ns rest ≡ comb_nodes (tree_of_list l)
starts l first rest ns is made = ap (λ xs. nodes_from false xs rest) made ∙ written first rest ∙ ap (λ xs. comb_nodes (tree_of_list xs)) (sym is)

-- the fields that hold a list's nodes
pub kept_tree : (l : List ListEntry) (ns : List CombNode) → ns ≡ comb_nodes (tree_of_list l) → comb_of ns ≡ tree_of_list l
kept_tree l ns e = ap comb_of e ∙ comb_back (tree_of_list l)

pub kept_nodes : (l : List ListEntry) (ns : List CombNode) → ns ≡ comb_nodes (tree_of_list l) → comb_nodes (comb_of ns) ≡ ns
kept_nodes l ns e = ap comb_nodes (kept_tree l ns e) ∙ sym e

pub kept_leaves : (l : List ListEntry) (ns : List CombNode) → ns ≡ comb_nodes (tree_of_list l) → length (members (comb_of ns)) ≡ length l
kept_leaves l ns e = ap (λ t. length (members t)) (kept_tree l ns e) ∙ ap length (members_of_list l) ∙ length-map l member

-- what is read is the tree's list where its nodes are the tree's
pub read_it : (t : Comb) (ns : List CombNode) (l : List ListEntry) → comb_nodes t ≡ ns → l ≡ entries ns → comb_nodes (tree_of_list l) ≡ ns → HasList t l
read_it t ns l nodes read again =
    let tree : tree_of_list l ≡ t = sym (comb_back (tree_of_list l)) ∙ ap comb_of (again ∙ sym nodes) ∙ comb_back t in
    record { tree = tree; first = sym (read_back l) ∙ ap entries again ∙ sym read }

-- and otherwise it has none
pub no_list : (t : Comb) (ns : List CombNode) (l : List ListEntry) → comb_nodes t ≡ ns → l ≡ entries ns → (comb_nodes (tree_of_list l) ≡ ns → ⊥) → HasListForm t → ⊥
no_list t ns l nodes read differs has =
    let at : from_u has.0 ≡ l = sym (read_back has.0) ∙ ap (λ x. entries (comb_nodes x)) has.1 ∙ ap entries nodes ∙ sym read in
    differs (ap (λ x. comb_nodes (tree_of_list x)) (sym at) ∙ ap comb_nodes (tree_from_u has.0 ∙ has.1) ∙ nodes)
