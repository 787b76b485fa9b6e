use Rattle.std.proofs.Common.{◌≡◌, ◌<◌, ◌+◌, ◌∙◌, ℕ, List, [], ◌∷◌, ◌++◌, map, take, length, get_or, refl, ap, sym, arith, append_assoc, None, Some, cond, ◌≤◌, filter}
use Rattle.std.specs.List.{sum_by, count_by}
use Rattle.std.proofs.lemmas.List.{map-append}
use Rattle.std.proofs.lemmas.List.Concat.{flat_map-cons}
use Rattle.std.proofs.Math.Seq.{take-length}
use Rattle.tree_forms.specs.declared.Op.{Op}
use Rattle.tree_forms.specs.declared.Op.TheVariants as op
use Rattle.tree_forms.specs.Trees.{Tree, Leaf, Join, leaves, postfix}
use Rattle.name_core.specs.declared.name.Name.{Name}
use Rattle.name_core.specs.Same.{same_name}
use Rattle.comb_tree.specs.declared.node.CombNode.{CombNode}
use Rattle.comb_tree.specs.Nodes.{Comb as AnyTree, Member, members, comb_nodes, leaf, apply}
use Rattle.region_attr.specs.declared.attr.Attr.{Attr}
use Rattle.object_set.specs.Objects.{member_names}
use Rattle.object_set.specs.declared.object.Body.{Body}
use Rattle.object_set.specs.declared.object.Body.TheVariants.{Comb}
use Rattle.object_pages.specs.Members.{name_of_node, node_names, times}
use Rattle.std.proofs.lemmas.List.Sums.{sum_by-append, sum_by-cons, sum_by_more, sum_by_more_le, length-filter}
use Rattle.comb_tree.specs.Steps.{is_at}
use Rattle.comb_tree.proofs.Changed.{name_count}

-- ---- the nodes of a tree name its members
pub names_append : (ns ms : List CombNode) → node_names (ns ++ ms) ≡ node_names ns ++ node_names ms
names_append [] ms = refl
names_append (n ∷ ns) ms =
    flat_map-cons name_of_node n (ns ++ ms)
    ∙ ap (λ (l : List Name). name_of_node n ++ l) (names_append ns ms)
    ∙ sym (append_assoc (name_of_node n) (node_names ns) (node_names ms))
    ∙ ap (λ (l : List Name). l ++ node_names ms) (sym (flat_map-cons name_of_node n ns))

no_name : (o : Op) → node_names (apply o ∷ []) ≡ []
no_name op.U = refl
no_name op.N = refl
no_name op.Minus = refl
no_name op.X = refl

pub append_none : (l : List Name) → l ++ [] ≡ l
append_none [] = refl
append_none (x ∷ l) = ap (λ (k : List Name). x ∷ k) (append_none l)

postfix_names : (t : Tree Member) → node_names (postfix leaf apply t) ≡ map (λ m. m.name) (leaves t)
postfix_names (Leaf m) = refl
postfix_names (Join o l r) =
    names_append (postfix leaf apply l) (postfix leaf apply r ++ apply o ∷ [])
    ∙ ap (λ (k : List Name). node_names (postfix leaf apply l) ++ k)
    (names_append (postfix leaf apply r) (apply o ∷ []) ∙ ap (λ (k : List Name). node_names (postfix leaf apply r) ++ k) (no_name o) ∙ append_none (node_names (postfix leaf apply r)) ∙ postfix_names r)
    ∙ ap (λ (k : List Name). k ++ map (λ m. m.name) (leaves r)) (postfix_names l)
    ∙ sym (map-append (λ m. m.name) (leaves l) (leaves r))

pub tree_names : (t : AnyTree) → node_names (comb_nodes t) ≡ map (λ m. m.name) (members t)
tree_names None = refl
tree_names (Some t) = postfix_names t

-- ---- names counted
pub times_append : (xs ys : List Name) (a : Name) → times (xs ++ ys) a ≡ times xs a + times ys a
times_append xs ys a = sum_by-append (λ n. cond (same_name n a) 1 0) xs ys

pub times_cons : (x : Name) (xs : List Name) (a : Name) → times (x ∷ xs) a ≡ cond (same_name x a) 1 0 + times xs a
times_cons x xs a = sum_by-cons (λ n. cond (same_name n a) 1 0) x xs

pub comb_names : (o : Body) (attr : Attr) (t : AnyTree) (ns : List CombNode) → o ≡ Comb attr t → ns ≡ comb_nodes t → node_names ns ≡ member_names o
comb_names o attr t ns is at = ap node_names at ∙ tree_names t ∙ sym (ap member_names is)

-- the same over the nodes
abbrev pub node_times : List CombNode → Name → ℕ
node_times ns a = sum_by (λ n. times (name_of_node n) a) ns

nodes_named : (ns : List CombNode) (a : Name) → node_times ns a ≡ times (node_names ns) a
nodes_named [] a = refl
nodes_named (n ∷ ns) a =
    sum_by-cons (λ m. times (name_of_node m) a) n ns
    ∙ ap (λ k. times (name_of_node n) a + k) (nodes_named ns a)
    ∙ sym (times_append (name_of_node n) (node_names ns) a)
    ∙ ap (λ (l : List Name). times l a) (sym (flat_map-cons name_of_node n ns))

pub node_next : (ns : List CombNode) (i : ℕ) (item : CombNode) (a : Name) → i < length ns → item ≡ get_or ns i item → node_times (take (i + 1) ns) a ≡ node_times (take i ns) a + times (name_of_node item) a
node_next ns i item a lt is =
    sum_by_more (λ n. times (name_of_node n) a) ns i item lt ∙ ap (λ (n : CombNode). node_times (take i ns) a + times (name_of_node n) a) (sym is)

pub node_within : (ns : List CombNode) (names : List Name) (i : ℕ) (item : CombNode) (a : Name) → i < length ns → item ≡ get_or ns i item → node_names ns ≡ names
    → node_times (take i ns) a + times (name_of_node item) a ≤ times names a
node_within ns names i item a lt is named =
    let here : times (name_of_node (get_or ns i item)) a ≡ times (name_of_node item) a = ap (λ (n : CombNode). times (name_of_node n) a) (sym is) in
    let whole : node_times ns a ≡ times names a = nodes_named ns a ∙ ap (λ (l : List Name). times l a) named in
    omega (arith, here, whole, sum_by_more_le (λ n. times (name_of_node n) a) ns i item lt)

pub node_whole : (ns : List CombNode) (names : List Name) (i : ℕ) (a : Name) → i ≡ length ns → node_names ns ≡ names → node_times (take i ns) a ≡ times names a
node_whole ns names i a end named =
    ap (λ (n : ℕ). node_times (take n ns) a) end ∙ ap (λ (l : List CombNode). node_times l a) (take-length ns) ∙ nodes_named ns a ∙ ap (λ (l : List Name). times l a) named

-- ---- leaves of a name
pub counted_in_names : (a : Name) (ms : List Member) → count_by (λ n. same_name n a) (map (λ m. m.name) ms) ≡ count_by (λ m. same_name m.name a) ms
counted_in_names a [] = refl
counted_in_names a (m ∷ ms) =
    sum_by-cons (λ n. cond (same_name n a) 1 0) m.name (map (λ m. m.name) ms)
    ∙ ap (λ k. cond (same_name m.name a) 1 0 + k) (counted_in_names a ms)
    ∙ sym (sum_by-cons (λ m. cond (same_name m.name a) 1 0) m ms)

pub counted : (a : Name) (t : AnyTree) (nodes : List CombNode) → nodes ≡ comb_nodes t → length (filter (is_at a) nodes) ≡ count_by (λ n. same_name n a) (map (λ m. m.name) (members t))
counted a t nodes is =
    ap (λ (ns : List CombNode). length (filter (is_at a) ns)) is ∙ name_count a t
    ∙ length-filter (λ m. same_name m.name a) (members t) ∙ sym (counted_in_names a (members t))

pub counted_in : (a : Name) (o : Body) (attr : Attr) (t : AnyTree) (nodes : List CombNode) (n : ℕ) → o ≡ Comb attr t → nodes ≡ comb_nodes t → n ≡ length (filter (is_at a) nodes)
    → n ≡ count_by (λ n. same_name n a) (member_names o)
counted_in a o attr t nodes n is at e = e ∙ counted a t nodes at ∙ sym (ap (λ (b : Body). count_by (λ n. same_name n a) (member_names b)) is)
