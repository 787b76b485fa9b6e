-- The nodes of a tree as they are given, and the tree that they are.
use Rattle.std.proofs.Common.{◌≡◌, ◌∙◌, ◌≤◌, ◌<◌, ◌+◌, ◌==◌, ◌&&◌, ℕ, Bool, true, false, not, cond, List, [], ◌∷◌, ◌++◌, length, map, Option, Some, None, Result, Ok, Err, is_some, is_ok, unwrap_or, refl, ap, sym, subst, arith, nat_lt, append_assoc, drop, get_or}
use Rattle.std.specs.List.{filter, list_all}
use Rattle.std.specs.Option.{option_map}
use Rattle.std.specs.Result.{result_ok}
use Rattle.std.proofs.lemmas.Bool.{lt-ltb, le-ltb}
use Rattle.std.proofs.lemmas.List.{drop_more, map-append, length-append}
use Rattle.std.proofs.lemmas.List.Elements.{filter-append}
use Rattle.std.proofs.lemmas.List.Folds.{list_all-append}
use Rattle.lattice_core.specs.declared.placement.Placement.{Placement}
use Rattle.name_core.specs.declared.name.NameFault.{NameFault}
use Rattle.name_core.specs.declared.name.NameFault.TheVariants.{Empty, Long}
use Rattle.name_core.specs.NameText.{first_bad, read_with, read_name}
use Rattle.tree_forms.specs.Trees.{Tree, Leaf, Join, leaves, map_leaves, postfix}
use Rattle.comb_tree.specs.declared.node.CombNode.{CombNode}
use Rattle.comb_tree.specs.declared.fault.TreeFault as comb_faults
use Rattle.comb_tree.specs.declared.fault.TreeFault.TheVariants as comb_fault
use Rattle.comb_tree.specs.Nodes.{Comb, leaf, apply, comb_nodes, comb_of, members}
use Rattle.comb_tree.specs.Outcomes.{IsTreeOfNodes}
use Rattle.comb_tree.proofs.Reading.{comb_back}
use Rattle.word_values.specs.Matrices.{identity}
use Rattle.word_values.specs.Trees.{Given, given_leaves, placement_of, has_name, has_placement, member_of, members_in, tree_with}
use Rattle.word_values.specs.declared.tree.TreeFault.{TreeFault}
use Rattle.word_values.specs.declared.tree.TreeFault.TheVariants as faults
use Rattle.word_values.specs.declared.given.GivenNode.{GivenNode}
use Rattle.word_values.specs.Reading.{leaf_node, join_node, given_nodes, is_leaf, is_named, leaf_with, comb_node, all_there, IsTreeWith}

-- what reads as a name is that name
name_by : (bytes n : List ℕ) (a b : Bool) (place : Option ℕ) → cond a (Err Empty) (cond b (Err Long) (read_with place bytes)) ≡ Ok n → n ≡ bytes
name_by bytes n true b place h = absurd cc
name_by bytes n false true place h = absurd cc
name_by bytes n false false (Some i) h = absurd cc
name_by bytes n false false None h = cc

name_back : (bytes n : List ℕ) → read_name bytes ≡ Ok n → n ≡ bytes
name_back bytes n h = name_by bytes n (length bytes == 0) (nat_lt 64 (length bytes)) (first_bad bytes) h

leaf_by : (name : List ℕ) (read : Result (List ℕ) NameFault) (placement : Option Placement) → ((n : List ℕ) → read ≡ Ok n → n ≡ name)
    → leaf_with (result_ok read) placement ≡ cond (is_ok read && is_some placement) (Some (leaf (record { name = name; placement = unwrap_or placement identity }))) None
leaf_by name (Ok n) (Some placement) back = ap (λ (m : List ℕ). Some (leaf (record { name = m; placement = placement }))) (back n refl)
leaf_by name (Ok n) None back = refl
leaf_by name (Err e) (Some placement) back = refl
leaf_by name (Err e) None back = refl

whole_leaf : (g : Given) → comb_node (leaf_node g) ≡ cond (has_name g && has_placement g) (Some (leaf (member_of g))) None
whole_leaf g = leaf_by g.name (read_name g.name) (placement_of g.matrix) (name_back g.name)

-- lists that are all there, one after the other
abbrev together : Option (List CombNode) → Option (List CombNode) → Option (List CombNode)
together None ys = None
together (Some xs) None = None
together (Some xs) (Some ys) = Some (xs ++ ys)

after_none : (o : Option (List CombNode)) → o ≡ together (Some []) o
after_none None = refl
after_none (Some ys) = refl

after_one : (x : CombNode) (a b : Option (List CombNode)) → option_map (λ found. x ∷ found) (together a b) ≡ together (option_map (λ found. x ∷ found) a) b
after_one x None b = refl
after_one x (Some xs) None = refl
after_one x (Some xs) (Some ys) = refl

all_there-append : (xs ys : List (Option CombNode)) → all_there (xs ++ ys) ≡ together (all_there xs) (all_there ys)
all_there-append [] ys = after_none (all_there ys)
all_there-append (None ∷ xs) ys = refl
all_there-append (Some x ∷ xs) ys = ap (option_map (λ found. x ∷ found)) (all_there-append xs ys) ∙ after_one x (all_there xs) (all_there ys)

-- the nodes of a tree are whole where each leaf has a name and a placement
abbrev whole_if : Bool → Bool → List CombNode → Option (List CombNode)
whole_if named placed found = cond (named && placed) (Some found) None

one_whole : (named placed : Bool) (node : CombNode) → all_there (cond (named && placed) (Some node) None ∷ []) ≡ whole_if (named && true) (placed && true) (node ∷ [])
one_whole true true node = refl
one_whole true false node = refl
one_whole false placed node = refl

two_whole : (a b c d : Bool) (xs ys zs : List CombNode) → together (whole_if a b xs) (together (whole_if c d ys) (Some zs)) ≡ whole_if (a && c) (b && d) (xs ++ (ys ++ zs))
two_whole true true true true xs ys zs = refl
two_whole true true true false xs ys zs = refl
two_whole true true false d xs ys zs = refl
two_whole true false true d xs ys zs = refl
two_whole true false false d xs ys zs = refl
two_whole false b c d xs ys zs = refl

whole_tree : (t : Tree Given) → all_there (map comb_node (postfix leaf_node join_node t)) ≡ whole_if (list_all has_name (leaves t)) (list_all has_placement (leaves t)) (postfix leaf apply (map_leaves member_of t))
whole_tree (Leaf g) = ap (λ (o : Option CombNode). all_there (o ∷ [])) (whole_leaf g) ∙ one_whole (has_name g) (has_placement g) (leaf (member_of g))
whole_tree (Join op l r) =
    ap all_there (map-append comb_node (postfix leaf_node join_node l) (postfix leaf_node join_node r ++ join_node op ∷ []) ∙ ap (λ (xs : List (Option CombNode)). map comb_node (postfix leaf_node join_node l) ++ xs) (map-append comb_node (postfix leaf_node join_node r) (join_node op ∷ [])))
    ∙ all_there-append (map comb_node (postfix leaf_node join_node l)) (map comb_node (postfix leaf_node join_node r) ++ Some (apply op) ∷ [])
    ∙ ap (together (all_there (map comb_node (postfix leaf_node join_node l)))) (all_there-append (map comb_node (postfix leaf_node join_node r)) (Some (apply op) ∷ []))
    ∙ ap (λ (o : Option (List CombNode)). together o (together (all_there (map comb_node (postfix leaf_node join_node r))) (Some (apply op ∷ [])))) (whole_tree l)
    ∙ ap (λ (o : Option (List CombNode)). together (whole_if (list_all has_name (leaves l)) (list_all has_placement (leaves l)) (postfix leaf apply (map_leaves member_of l))) (together o (Some (apply op ∷ [])))) (whole_tree r)
    ∙ two_whole (list_all has_name (leaves l)) (list_all has_placement (leaves l)) (list_all has_name (leaves r)) (list_all has_placement (leaves r)) (postfix leaf apply (map_leaves member_of l)) (postfix leaf apply (map_leaves member_of r)) (apply op ∷ [])
    ∙ ap (λ (b : Bool). whole_if b (list_all has_placement (leaves l) && list_all has_placement (leaves r)) (postfix leaf apply (map_leaves member_of (Join op l r)))) (sym (list_all-append has_name (leaves l) (leaves r)))
    ∙ ap (λ (b : Bool). whole_if (list_all has_name (leaves l ++ leaves r)) b (postfix leaf apply (map_leaves member_of (Join op l r)))) (sym (list_all-append has_placement (leaves l) (leaves r)))

whole : (t : Option (Tree Given)) → all_there (map comb_node (given_nodes t)) ≡ whole_if (list_all has_name (given_leaves t)) (list_all has_placement (given_leaves t)) (comb_nodes (members_in t))
whole None = refl
whole (Some t) = whole_tree t

-- leaves are counted, and their names looked at, among the nodes as among the leaves
count_tree : (t : Tree Given) → length (filter is_leaf (postfix leaf_node join_node t)) ≡ length (leaves t)
count_tree (Leaf g) = refl
count_tree (Join op l r) =
    omega (
      arith,
      ap length (filter-append is_leaf (postfix leaf_node join_node l) (postfix leaf_node join_node r ++ join_node op ∷ [])),
      length-append (filter is_leaf (postfix leaf_node join_node l)) (filter is_leaf (postfix leaf_node join_node r ++ join_node op ∷ [])),
      ap length (filter-append is_leaf (postfix leaf_node join_node r) (join_node op ∷ [])),
      length-append (filter is_leaf (postfix leaf_node join_node r)) [],
      length-append (leaves l) (leaves r),
      count_tree l,
      count_tree r,
    )

pub leaf_count : (t : Option (Tree Given)) → length (filter is_leaf (given_nodes t)) ≡ length (given_leaves t)
leaf_count None = refl
leaf_count (Some t) = count_tree t

named_by : (read : Result (List ℕ) NameFault) → is_some (result_ok read) ≡ is_ok read
named_by (Ok n) = refl
named_by (Err e) = refl

no_more : (a b : Bool) → (a && (b && true)) ≡ (a && b)
no_more true true = refl
no_more true false = refl
no_more false b = refl

named_tree : (t : Tree Given) → list_all is_named (postfix leaf_node join_node t) ≡ list_all has_name (leaves t)
named_tree (Leaf g) = ap (λ (b : Bool). b && true) (named_by (read_name g.name))
named_tree (Join op l r) =
    list_all-append is_named (postfix leaf_node join_node l) (postfix leaf_node join_node r ++ join_node op ∷ [])
    ∙ ap (λ (b : Bool). list_all is_named (postfix leaf_node join_node l) && b) (list_all-append is_named (postfix leaf_node join_node r) (join_node op ∷ []))
    ∙ no_more (list_all is_named (postfix leaf_node join_node l)) (list_all is_named (postfix leaf_node join_node r))
    ∙ ap (λ (b : Bool). b && list_all is_named (postfix leaf_node join_node r)) (named_tree l)
    ∙ ap (λ (b : Bool). list_all has_name (leaves l) && b) (named_tree r)
    ∙ sym (list_all-append has_name (leaves l) (leaves r))

all_named : (t : Option (Tree Given)) → list_all is_named (given_nodes t) ≡ list_all has_name (given_leaves t)
all_named None = refl
all_named (Some t) = named_tree t

member_count : (t : Tree Given) → length (leaves (map_leaves member_of t)) ≡ length (leaves t)
member_count (Leaf g) = refl
member_count (Join op l r) = omega (arith, member_count l, member_count r, length-append (leaves (map_leaves member_of l)) (leaves (map_leaves member_of r)), length-append (leaves l) (leaves r))

pub members_count : (t : Option (Tree Given)) → length (members (members_in t)) ≡ length (given_leaves t)
members_count None = refl
members_count (Some t) = member_count t

-- what is answered, by the tests
abbrev answered : Bool → Bool → Bool → Comb → Result Comb TreeFault
answered many named placed t = cond many (Err faults.Form) (cond (not named) (Err faults.Name) (cond (not placed) (Err faults.Number) (Ok t)))

answer : (t : Option (Tree Given)) (many named placed : Bool) → nat_lt 4096 (length (given_leaves t)) ≡ many → list_all has_name (given_leaves t) ≡ named → list_all has_placement (given_leaves t) ≡ placed
    → tree_with t ≡ answered many named placed (members_in t)
answer t many named placed p q r = cc

pub too_many : (t : Option (Tree Given)) (ns : List GivenNode) → given_nodes t ≡ ns → 4096 < length (filter is_leaf ns) → tree_with t ≡ Err faults.Form
too_many t ns is h =
    let many : 4096 < length (given_leaves t) = omega (arith, h, leaf_count t, ap (λ (all : List GivenNode). length (filter is_leaf all)) is) in
    answer t true (list_all has_name (given_leaves t)) (list_all has_placement (given_leaves t)) (lt-ltb 4096 (length (given_leaves t)) many) refl refl

pub few_leaves : (t : Option (Tree Given)) (ns : List GivenNode) → given_nodes t ≡ ns → length (filter is_leaf ns) ≤ 4096 → length (given_leaves t) ≤ 4096
few_leaves t ns is h = omega (arith, h, leaf_count t, ap (λ (all : List GivenNode). length (filter is_leaf all)) is)

few : (t : Option (Tree Given)) (ns : List GivenNode) → given_nodes t ≡ ns → length (filter is_leaf ns) ≤ 4096 → nat_lt 4096 (length (given_leaves t)) ≡ false
few t ns is h = le-ltb 4096 (length (given_leaves t)) (few_leaves t ns is h)

names_are : (t : Option (Tree Given)) (ns : List GivenNode) (named : Bool) → given_nodes t ≡ ns → list_all is_named ns ≡ named → list_all has_name (given_leaves t) ≡ named
names_are t ns named is h = sym (all_named t) ∙ ap (list_all is_named) is ∙ h

pub no_name : (t : Option (Tree Given)) (ns : List GivenNode) → given_nodes t ≡ ns → length (filter is_leaf ns) ≤ 4096 → list_all is_named ns ≡ false → tree_with t ≡ Err faults.Name
no_name t ns is h none = answer t false false (list_all has_placement (given_leaves t)) (few t ns is h) (names_are t ns false is none) refl

placed_by : (placed : Bool) (found : List CombNode) → whole_if true placed found ≡ None → placed ≡ false
placed_by true found h = absurd cc
placed_by false found h = refl

found_by : (placed : Bool) (found ns : List CombNode) → whole_if true placed found ≡ Some ns → (placed ≡ true) × (found ≡ ns)
found_by true found ns h = (refl, cc)
found_by false found ns h = absurd cc

whole_named : (t : Option (Tree Given)) (ns : List GivenNode) (found : Option (List CombNode)) → given_nodes t ≡ ns → list_all is_named ns ≡ true → found ≡ all_there (map comb_node ns)
    → whole_if true (list_all has_placement (given_leaves t)) (comb_nodes (members_in t)) ≡ found
whole_named t ns found is named there =
    sym (there ∙ ap (λ (all : List GivenNode). all_there (map comb_node all)) (sym is) ∙ whole t ∙ ap (λ (b : Bool). whole_if b (list_all has_placement (given_leaves t)) (comb_nodes (members_in t))) (names_are t ns true is named))

pub no_number : (t : Option (Tree Given)) (ns : List GivenNode) → given_nodes t ≡ ns → length (filter is_leaf ns) ≤ 4096 → list_all is_named ns ≡ true → None ≡ all_there (map comb_node ns)
    → tree_with t ≡ Err faults.Number
no_number t ns is h named none =
    answer t false true false (few t ns is h) (names_are t ns true is named) (placed_by (list_all has_placement (given_leaves t)) (comb_nodes (members_in t)) (whole_named t ns None is named none))

-- a tree that has no fault, and its nodes
pub record IsWhole (t : Option (Tree Given)) (found : List CombNode) : Type 0 where
  pub tree : tree_with t ≡ Ok (members_in t)
  pub nodes : comb_nodes (members_in t) ≡ found
  pub few : length (members (members_in t)) ≤ 4096

pub is_whole : (t : Option (Tree Given)) (ns : List GivenNode) (found : List CombNode) → given_nodes t ≡ ns → length (filter is_leaf ns) ≤ 4096 → list_all is_named ns ≡ true
    → Some found ≡ all_there (map comb_node ns) → IsWhole t found
is_whole t ns found is h named there =
    let parts : (list_all has_placement (given_leaves t) ≡ true) × (comb_nodes (members_in t) ≡ found) =
    found_by (list_all has_placement (given_leaves t)) (comb_nodes (members_in t)) found (whole_named t ns (Some found) is named there) in
    record {
      tree = answer t false true true (few t ns is h) (names_are t ns true is named) parts.0;
      nodes = parts.1;
      few = omega (arith, few_leaves t ns is h, members_count t);
    }

-- the answer of nodes that are whole
pub whole_answer : (t : Option (Tree Given)) (found : List CombNode) (made : Result Comb TreeFault) → IsWhole t found → ((s : Comb) → comb_nodes s ≡ found → made ≡ Ok s) → IsTreeWith made t
whole_answer t found made h is = subst (λ (r : Result Comb TreeFault). IsTreeWith r t) (sym (is (members_in t) h.nodes)) h.tree

-- nodes are those of one tree
pub same_comb : (s t : Comb) → comb_nodes s ≡ comb_nodes t → s ≡ t
same_comb s t e = sym (comb_back s) ∙ ap comb_of e ∙ comb_back t

-- a tree of few leaves has no fault
pub no_fault : (ns : List CombNode) (e : comb_faults.TreeFault) → IsTreeOfNodes ns (Err e) → (t : Comb) → comb_nodes t ≡ ns → length (members t) ≤ 4096 → ⊥
no_fault ns (comb_fault.Members n) h t is few = omega (arith, h.2, h.3, few, ap (λ (s : Comb). length (members s)) (same_comb t h.0 (is ∙ sym h.1)))
no_fault ns comb_fault.Memory h t is few = h
no_fault ns comb_fault.NotList h t is few = h
no_fault ns (comb_fault.Absent name) h t is few = h
no_fault ns (comb_fault.Heads name) h t is few = h

-- one node more that is whole
whole_step : (found : List CombNode) (made : CombNode) (rest : Option (List CombNode)) → option_map (λ more. (found ++ made ∷ []) ++ more) rest ≡ option_map (λ more. found ++ more) (option_map (λ more. made ∷ more) rest)
whole_step found made None = refl
whole_step found made (Some more) = ap (λ (ns : List CombNode). Some ns) (append_assoc found (made ∷ []) more)

pub whole_more : (nodes : List GivenNode) (i : ℕ) (d : GivenNode) (made : CombNode) (found : List CombNode) → i < length nodes → comb_node (get_or nodes i d) ≡ Some made
    → option_map (λ more. (found ++ made ∷ []) ++ more) (all_there (map comb_node (drop (i + 1) nodes))) ≡ option_map (λ more. found ++ more) (all_there (map comb_node (drop i nodes)))
whole_more nodes i d made found lt is =
    whole_step found made (all_there (map comb_node (drop (i + 1) nodes)))
    ∙ ap (λ (o : Option CombNode). option_map (λ more. found ++ more) (all_there (o ∷ map comb_node (drop (i + 1) nodes)))) (sym is)
    ∙ sym (ap (λ (ns : List GivenNode). option_map (λ more. found ++ more) (all_there (map comb_node ns))) (drop_more nodes i d lt))
