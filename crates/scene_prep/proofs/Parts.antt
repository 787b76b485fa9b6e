-- The trees that a tree unites, found from its nodes.
use Rattle.std.proofs.Common.{◌≡◌, ◌∙◌, ◌+◌, ◌≤◌, ◌<◌, ◌-◌, ℕ, List, [], ◌∷◌, ◌++◌, length, map, reverse, take, drop, get_or, refl, ap, sym, subst, arith, append_assoc, length-append}
use Rattle.std.specs.Prelude.{Some, nat_lt, cond, true, false, Bool}
use Rattle.std.specs.Borrow.{Bor}
use Rattle.std.specs.List.{filter}
use Rattle.std.specs.Int.{from_bool}
use Rattle.std.proofs.lemmas.List.{append-nil, map-append, reverse-append, reverse-reverse, take_at, drop_at, take_more, take_all, drop_more, drop_all, length-take-le}
use Rattle.std.proofs.Math.Seq.{take-length}
use Rattle.std.proofs.lemmas.Bool.{lt-ltb}
use Rattle.tree_forms.specs.declared.Op.{Op}
use Rattle.tree_forms.specs.declared.Op.TheVariants as op
use Rattle.tree_forms.specs.Trees.{Tree, Leaf, Join, postfix}
use Rattle.tree_forms.proofs.Back.{stacked}
use Rattle.comb_tree.specs.declared.node.CombNode.{CombNode}
use Rattle.comb_tree.specs.declared.node.CombNode.TheVariants as node
use Rattle.comb_tree.specs.Nodes.{Member, comb_nodes, leaf, apply}
use Rattle.name_core.specs.declared.name.Name.{Name}
use Rattle.lattice_core.specs.declared.placement.Placement.{Placement}
use Rattle.scene_prep.specs.declared.part.Part.{Part}
use Rattle.scene_prep.specs.Regions.{united_parts}
use Rattle.scene_prep.specs.Parts.{tree_nodes, nodes_behind, is_join, shown, numbered_part, parts_from, EndsWithTree, IsBefore}
use Rattle.scene_prep.proofs.Sizing.{postfix_some}

-- the nodes of a stack of trees, whose top is the head and ends them
abbrev pub forest : List (Tree Member) → List CombNode
forest trees = stacked leaf apply trees

snoc_parts : {A : Type 0} (xs ys : List A) (x y : A) → xs ++ x ∷ [] ≡ ys ++ y ∷ [] → (xs ≡ ys) × (x ≡ y)
snoc_parts xs ys x y e =
    let back : x ∷ reverse xs ≡ y ∷ reverse ys = sym (reverse-append xs (x ∷ [])) ∙ ap reverse e ∙ reverse-append ys (y ∷ []) in
    let tails : reverse xs ≡ reverse ys = cc in
    (sym (reverse-reverse xs) ∙ ap reverse tails ∙ reverse-reverse ys, cc)

-- a tree's last node, and the stack of its sides, which the other nodes are
abbrev last_node : Tree Member → CombNode
last_node (Leaf member) = leaf member
last_node (Join o l r) = apply o

abbrev sides : Tree Member → List (Tree Member)
sides (Leaf member) = []
sides (Join o l r) = r ∷ l ∷ []

opened : (front : List CombNode) (t : Tree Member) (ts : List (Tree Member)) → front ++ forest (t ∷ ts) ≡ (front ++ forest (sides t ++ ts)) ++ last_node t ∷ []
opened front (Leaf member) ts = sym (append_assoc front (forest ts) (leaf member ∷ []))
opened front (Join o l r) ts = simp append_assoc

last_opened : (front before : List CombNode) (n : CombNode) (t : Tree Member) (ts : List (Tree Member)) → before ++ n ∷ [] ≡ front ++ forest (t ∷ ts) → (before ≡ front ++ forest (sides t ++ ts)) × (n ≡ last_node t)
last_opened front before n t ts e = snoc_parts before (front ++ forest (sides t ++ ts)) n (last_node t) (e ∙ opened front t ts)

forest_long : (trees : List (Tree Member)) → length trees ≤ length (forest trees)
forest_long [] = omega arith
forest_long (t ∷ ts) = omega (arith, length-append (forest ts) (postfix leaf apply t), forest_long ts, postfix_some t)

no_leaf : (o : Op) (name : Name) (placement : Placement) → ¬ (apply o ≡ node.Leaf name placement)
no_leaf op.U name placement e = cc
no_leaf op.N name placement e = cc
no_leaf op.Minus name placement e = cc
no_leaf op.X name placement e = cc

-- ---- the start of the last tree: what stands between `front` and the nodes already taken is that many trees
pub record Wants (front rest : List CombNode) (wanted : ℕ) : Type 0 where
  pub trees : List (Tree Member)
  pub nodes_are : rest ≡ front ++ forest trees
  pub count : length trees ≡ wanted

pub wants_whole : (front nodes : List CombNode) (t : Tree Member) → nodes ≡ front ++ postfix leaf apply t → Wants front nodes 1
wants_whole front nodes t is = record { trees = t ∷ []; nodes_are = is; count = refl }

pub wants_room : (front rest : List CombNode) (wanted : ℕ) → Wants front rest wanted → wanted ≤ length rest
wants_room front rest wanted w = omega (arith, w.count, forest_long w.trees, length-append front (forest w.trees), ap length w.nodes_are)

wants_none : (front rest : List CombNode) (trees : List (Tree Member)) → rest ≡ front ++ forest trees → length trees ≡ 0 → rest ≡ front
wants_none front rest [] is none = is ∙ append-nil front
wants_none front rest (t ∷ ts) is none = absurd (omega (arith, none))

pub wants_no_more : (front rest : List CombNode) → Wants front rest 0 → rest ≡ front
wants_no_more front rest w = wants_none front rest w.trees w.nodes_are w.count

leaf_taken : (front before : List CombNode) (n : CombNode) (name : Name) (placement : Placement) (wanted : ℕ) (trees : List (Tree Member)) → n ≡ node.Leaf name placement → before ++ n ∷ [] ≡ front ++ forest trees
    → length trees ≡ wanted → 0 < wanted → Wants front before (wanted - 1)
leaf_taken front before n name placement wanted [] is e count some = absurd (omega (arith, count, some))
leaf_taken front before n name placement wanted (Leaf m ∷ ts) is e count some =
    record { trees = ts; nodes_are = (last_opened front before n (Leaf m) ts e).0; count = omega (arith, count) }
leaf_taken front before n name placement wanted (Join o l r ∷ ts) is e count some = absurd (no_leaf o name placement (sym (last_opened front before n (Join o l r) ts e).1 ∙ is))

pub wants_leaf : (front before : List CombNode) (n : CombNode) (name : Name) (placement : Placement) (wanted : ℕ) → n ≡ node.Leaf name placement → Wants front (before ++ n ∷ []) wanted → 0 < wanted → Wants front before (wanted - 1)
wants_leaf front before n name placement wanted is w some = leaf_taken front before n name placement wanted w.trees is w.nodes_are w.count some

op_taken : (front before : List CombNode) (n : CombNode) (wanted : ℕ) (trees : List (Tree Member)) → ((name : Name) (placement : Placement) → ¬ (n ≡ node.Leaf name placement)) → before ++ n ∷ [] ≡ front ++ forest trees
    → length trees ≡ wanted → 0 < wanted → Wants front before (wanted + 1)
op_taken front before n wanted [] differs e count some = absurd (omega (arith, count, some))
op_taken front before n wanted (Leaf m ∷ ts) differs e count some = absurd (differs m.name m.placement (last_opened front before n (Leaf m) ts e).1)
op_taken front before n wanted (Join o l r ∷ ts) differs e count some =
    record { trees = r ∷ l ∷ ts; nodes_are = (last_opened front before n (Join o l r) ts e).0; count = omega (arith, count) }

pub wants_op : (front before : List CombNode) (n : CombNode) (wanted : ℕ) → ((name : Name) (placement : Placement) → ¬ (n ≡ node.Leaf name placement)) → Wants front (before ++ n ∷ []) wanted → 0 < wanted → Wants front before (wanted + 1)
wants_op front before n wanted differs w some = op_taken front before n wanted w.trees differs w.nodes_are w.count some

-- as many trees stand in the first `start` nodes behind what is before the last tree
abbrev pub AreWanted : List CombNode → ℕ → ℕ → Type 0
AreWanted nodes start wanted = (front : List CombNode) (t : Tree Member) → nodes ≡ front ++ comb_nodes (Some t) → Wants front (take start nodes) wanted

pub one_wanted : (nodes : List CombNode) → AreWanted nodes (length nodes) 1
one_wanted nodes front t is = wants_whole front (take (length nodes) nodes) t (take-length nodes ∙ is)

pub room_before : (nodes : List CombNode) (start wanted : ℕ) → EndsWithTree nodes → start ≤ length nodes → AreWanted nodes start wanted → wanted ≤ start
room_before nodes start wanted ends within h = omega (arith, wants_room ends.0 (take start nodes) wanted (h ends.0 ends.1 ends.2), length-take-le start nodes within)

one_less : (nodes : List CombNode) (start : ℕ) (d : CombNode) → 0 < start → start ≤ length nodes → take start nodes ≡ take (start - 1) nodes ++ get_or nodes (start - 1) d ∷ []
one_less nodes start d some within =
    let back : start - 1 + 1 ≡ start = omega arith in
    subst (λ (k : ℕ). take k nodes ≡ take (start - 1) nodes ++ get_or nodes (start - 1) d ∷ []) back (take_more nodes (start - 1) d (omega arith))

pub next_leaf : (nodes : List CombNode) (start wanted : ℕ) (d : CombNode) (name : Name) (placement : Placement) → get_or nodes (start - 1) d ≡ node.Leaf name placement → 0 < wanted → wanted ≤ start → start ≤ length nodes
    → AreWanted nodes start wanted → AreWanted nodes (start - 1) (wanted - 1)
next_leaf nodes start wanted d name placement is some room within h front t e =
    wants_leaf front (take (start - 1) nodes) (get_or nodes (start - 1) d) name placement wanted is
    (subst (λ (ns : List CombNode). Wants front ns wanted) (one_less nodes start d (omega arith) within) (h front t e)) some

pub next_op : (nodes : List CombNode) (start wanted : ℕ) (d : CombNode) → ((name : Name) (placement : Placement) → ¬ (get_or nodes (start - 1) d ≡ node.Leaf name placement)) → 0 < wanted → wanted ≤ start → start ≤ length nodes
    → AreWanted nodes start wanted → AreWanted nodes (start - 1) (wanted + 1)
next_op nodes start wanted d differs some room within h front t e =
    wants_op front (take (start - 1) nodes) (get_or nodes (start - 1) d) wanted differs
    (subst (λ (ns : List CombNode). Wants front ns wanted) (one_less nodes start d (omega arith) within) (h front t e)) some

pub start_found : (nodes : List CombNode) (start wanted : ℕ) → wanted ≡ 0 → start ≤ length nodes → AreWanted nodes start wanted → IsBefore nodes start
start_found nodes start wanted none within h front t is =
    sym (length-take-le start nodes within) ∙ ap length (wants_no_more front (take start nodes) (subst (λ (n : ℕ). Wants front (take start nodes) n) none (h front t is)))

-- ---- the parts: those of the trees that the rest is, and then those that were found, whose nodes are given from the left
abbrev parts_below : List (Tree Member) → List (Tree Member)
parts_below [] = []
parts_below (t ∷ ts) = parts_below ts ++ united_parts t

pub record HasUnited (t : Tree Member) (rest : List CombNode) (found : List (List CombNode)) : Type 0 where
  pub trees : List (Tree Member)
  pub nodes_are : rest ≡ forest trees
  pub parts_are : map tree_nodes (united_parts t) ≡ map tree_nodes (parts_below trees) ++ found

pub united_none : (t : Tree Member) (nodes : List CombNode) → comb_nodes (Some t) ≡ nodes → HasUnited t nodes []
united_none t nodes is = record { trees = t ∷ []; nodes_are = sym is; parts_are = sym (append-nil (map tree_nodes (united_parts t))) }

all_found : (t : Tree Member) (found : List (List CombNode)) (trees : List (Tree Member)) → length (forest trees) ≡ 0 → map tree_nodes (united_parts t) ≡ map tree_nodes (parts_below trees) ++ found
    → found ≡ map tree_nodes (united_parts t)
all_found t found [] none parts = sym parts
all_found t found (p ∷ ts) none parts = absurd (omega (arith, none, forest_long (p ∷ ts)))

pub united_all : (t : Tree Member) (rest : List CombNode) (found : List (List CombNode)) → length rest ≡ 0 → HasUnited t rest found → found ≡ map tree_nodes (united_parts t)
united_all t rest found none h = all_found t found h.trees (sym (ap length h.nodes_are) ∙ none) h.parts_are

opens_union : (t : Tree Member) (before : List CombNode) (n : CombNode) (found : List (List CombNode)) (trees : List (Tree Member)) → n ≡ node.U → before ++ n ∷ [] ≡ forest trees
    → map tree_nodes (united_parts t) ≡ map tree_nodes (parts_below trees) ++ found → HasUnited t before found
opens_union t before n found [] is e parts = absurd (omega (arith, length-append before (n ∷ []), ap length e))
opens_union t before n found (Leaf m ∷ ts) is e parts = let same = (last_opened [] before n (Leaf m) ts e).1 in cc
opens_union t before n found (Join op.U l r ∷ ts) is e parts = record {
  trees = r ∷ l ∷ ts;
  nodes_are = (last_opened [] before n (Join op.U l r) ts e).0;
  parts_are = parts ∙ ap (λ (ps : List (Tree Member)). map tree_nodes ps ++ found) (sym (append_assoc (parts_below ts) (united_parts l) (united_parts r)));
}
opens_union t before n found (Join op.N l r ∷ ts) is e parts = let same = (last_opened [] before n (Join op.N l r) ts e).1 in cc
opens_union t before n found (Join op.Minus l r ∷ ts) is e parts = let same = (last_opened [] before n (Join op.Minus l r) ts e).1 in cc
opens_union t before n found (Join op.X l r ∷ ts) is e parts = let same = (last_opened [] before n (Join op.X l r) ts e).1 in cc

pub united_union : (t : Tree Member) (before : List CombNode) (n : CombNode) (found : List (List CombNode)) → n ≡ node.U → HasUnited t (before ++ n ∷ []) found → HasUnited t before found
united_union t before n found is h = opens_union t before n found h.trees is h.nodes_are h.parts_are

one_part : (p : Tree Member) → ¬ (last_node p ≡ node.U) → united_parts p ≡ p ∷ []
one_part (Leaf m) differs = refl
one_part (Join op.U l r) differs = absurd (differs refl)
one_part (Join op.N l r) differs = refl
one_part (Join op.Minus l r) differs = refl
one_part (Join op.X l r) differs = refl

finds_part : (t : Tree Member) (rest before tree last : List CombNode) (n : CombNode) (found : List (List CombNode)) (start : ℕ) (trees : List (Tree Member)) → ¬ (n ≡ node.U) → rest ≡ last ++ n ∷ [] → IsBefore rest start
    → before ≡ take start rest → tree ≡ drop start rest → rest ≡ forest trees → map tree_nodes (united_parts t) ≡ map tree_nodes (parts_below trees) ++ found → HasUnited t before (tree ∷ found)
finds_part t rest before tree last n found start [] differs ends at front back is parts = absurd (omega (arith, length-append last (n ∷ []), ap length ends, ap length is))
finds_part t rest before tree last n found start (p ∷ ts) differs ends at front back is parts =
    let same : n ≡ last_node p = (last_opened [] last n p ts (sym ends ∙ is)).1 in
    let alone : united_parts p ≡ p ∷ [] = one_part p (λ e. differs (same ∙ e)) in
    let here : start ≡ length (forest ts) = at (forest ts) p is in
    record {
      trees = ts;
      nodes_are = front ∙ ap (take start) is ∙ take_at (forest ts) (postfix leaf apply p) start (sym here);
      parts_are = parts
          ∙ ap (λ (ps : List (Tree Member)). map tree_nodes (parts_below ts ++ ps) ++ found) alone
          ∙ ap (λ (xs : List (List CombNode)). xs ++ found) (map-append tree_nodes (parts_below ts) (p ∷ []))
          ∙ append_assoc (map tree_nodes (parts_below ts)) (tree_nodes p ∷ []) found
          ∙ ap (λ (ns : List CombNode). map tree_nodes (parts_below ts) ++ ns ∷ found) (sym (back ∙ ap (drop start) is ∙ drop_at (forest ts) (postfix leaf apply p) start (sym here)));
    }

pub united_part : (t : Tree Member) (rest before tree last : List CombNode) (n : CombNode) (found : List (List CombNode)) (start : ℕ) → ¬ (n ≡ node.U) → rest ≡ last ++ n ∷ [] → IsBefore rest start
    → before ≡ take start rest → tree ≡ drop start rest → HasUnited t rest found → HasUnited t before (tree ∷ found)
united_part t rest before tree last n found start differs ends at front back h = finds_part t rest before tree last n found start h.trees differs ends at front back h.nodes_are h.parts_are

ends_of : (nodes : List CombNode) (trees : List (Tree Member)) → 0 < length nodes → nodes ≡ forest trees → EndsWithTree nodes
ends_of nodes [] some is = absurd (omega (arith, some, ap length is))
ends_of nodes (t ∷ ts) some is = (forest ts, t, is)

pub united_ends : (t : Tree Member) (rest : List CombNode) (found : List (List CombNode)) → 0 < length rest → HasUnited t rest found → EndsWithTree rest
united_ends t rest found some h = ends_of rest h.trees some h.nodes_are

pub starts_below : (nodes : List CombNode) (start : ℕ) → EndsWithTree nodes → IsBefore nodes start → start < length nodes
starts_below nodes start ends at = omega (arith, at ends.0 ends.1 ends.2, ap length ends.2, length-append ends.0 (postfix leaf apply ends.1), postfix_some ends.1)

pub pushed_first : (old new : List (Bor (List CombNode))) (lent : Bor (List CombNode)) → new ≡ old ++ lent ∷ [] → map nodes_behind (reverse new) ≡ lent.now ∷ map nodes_behind (reverse old)
pushed_first old new lent is = ap (λ (xs : List (Bor (List CombNode))). map nodes_behind (reverse xs)) is ∙ ap (map nodes_behind) (reverse-append old (lent ∷ []))

-- ---- the numbers
abbrev pub numbered_from : ℕ → List (List CombNode) → List (List CombNode × ℕ)
numbered_from number [] = []
numbered_from number (nodes ∷ rest) = numbered_part nodes number ∷ numbered_from (number + from_bool (nat_lt 1 (length nodes))) rest

join_long : (o : Op) (l r : Tree Member) → nat_lt 1 (length (postfix leaf apply (Join o l r))) ≡ true
join_long o l r =
    lt-ltb 1 (length (postfix leaf apply (Join o l r)))
    (omega (arith, length-append (postfix leaf apply l) (postfix leaf apply r ++ apply o ∷ []), length-append (postfix leaf apply r) (apply o ∷ []), postfix_some l, postfix_some r))

pub numbers_are : (number : ℕ) (parts : List (Tree Member)) → numbered_from number (map tree_nodes parts) ≡ parts_from number parts
numbers_are number [] = refl
numbers_are number (Leaf m ∷ parts) =
    ap (λ (n : ℕ). (leaf m ∷ [], 0) ∷ numbered_from n (map tree_nodes parts)) (omega arith) ∙ ap (λ (ps : List (List CombNode × ℕ)). (leaf m ∷ [], 0) ∷ ps) (numbers_are number parts)
numbers_are number (Join o l r ∷ parts) =
    ap (λ (b : Bool). (tree_nodes (Join o l r), cond b number 0) ∷ numbered_from (number + from_bool b) (map tree_nodes parts)) (join_long o l r)
    ∙ ap (λ (ps : List (List CombNode × ℕ)). (tree_nodes (Join o l r), number) ∷ ps) (numbers_are (number + 1) parts)

-- the trees before were numbered, and so many of those after are no leaves
pub record AreNumbered (parts : List Part) (left : ℕ) (before after : List (Bor (List CombNode))) : Type 0 where
  pub numbers : map shown (reverse parts) ≡ numbered_from (left + 1) (map nodes_behind (reverse before))
  pub count : left ≡ length (filter is_join after)

pub none_numbered : (left : ℕ) (trees : List (Bor (List CombNode))) → left ≡ length (filter is_join trees) → AreNumbered [] left [] trees
none_numbered left trees count = record { numbers = refl; count = count }

count_more : (lent : Bor (List CombNode)) (after : List (Bor (List CombNode))) → length (filter is_join (lent ∷ after)) ≡ from_bool (is_join lent) + length (filter is_join after)
count_more lent after = elim (is_join lent) as (λ (b : Bool). length (cond b (lent ∷ filter is_join after) (filter is_join after)) ≡ from_bool b + length (filter is_join after)) [ true ↦ omega arith | false ↦ omega arith ]

left_there : (parts : List Part) (left : ℕ) (before after : List (Bor (List CombNode))) (lent : Bor (List CombNode)) → AreNumbered parts left before (lent ∷ after) → from_bool (is_join lent) ≤ left
left_there parts left before after lent h = omega (arith, h.count, count_more lent after)

number_same : (b : Bool) (left : ℕ) → from_bool b ≤ left → cond b left 0 ≡ cond b (left - from_bool b + 1) 0
number_same true left some = omega (arith, some)
number_same false left some = refl

next_numbered : (parts : List Part) (left : ℕ) (before after : List (Bor (List CombNode))) (lent : Bor (List CombNode)) (p : Part) → shown p ≡ numbered_part lent.now left → AreNumbered parts left before (lent ∷ after)
    → AreNumbered (parts ++ p ∷ []) (left - from_bool (is_join lent)) (before ++ lent ∷ []) after
next_numbered parts left before after lent p is h =
    let some : from_bool (is_join lent) ≤ left = left_there parts left before after lent h in
    let next = left - from_bool (is_join lent) + 1 in
    let back : left + 1 ≡ next + from_bool (is_join lent) = omega (arith, some) in
    record {
      numbers = ap (map shown) (reverse-append parts (p ∷ []))
          ∙ ap (λ (x : List CombNode × ℕ). x ∷ map shown (reverse parts)) (is ∙ ap (λ (n : ℕ). (lent.now, n)) (number_same (is_join lent) left some))
          ∙ ap (λ (xs : List (List CombNode × ℕ)). numbered_part lent.now next ∷ xs) (h.numbers ∙ ap (λ (n : ℕ). numbered_from n (map nodes_behind (reverse before))) back)
          ∙ ap (λ (xs : List (Bor (List CombNode))). numbered_from next (map nodes_behind xs)) (sym (reverse-append before (lent ∷ [])));
      count = omega (arith, some, h.count, count_more lent after);
    }

at_item : (trees : List (Bor (List CombNode))) (i : ℕ) (lent : Bor (List CombNode)) → i < length trees → lent ≡ get_or trees i lent → (take (i + 1) trees ≡ take i trees ++ lent ∷ []) × (drop i trees ≡ lent ∷ drop (i + 1) trees)
at_item trees i lent lt is = (
  take_more trees i lent lt ∙ ap (λ (x : Bor (List CombNode)). take i trees ++ x ∷ []) (sym is),
  drop_more trees i lent lt ∙ ap (λ (x : Bor (List CombNode)). x ∷ drop (i + 1) trees) (sym is),
)

pub left_at : (parts : List Part) (left : ℕ) (trees : List (Bor (List CombNode))) (i : ℕ) (lent : Bor (List CombNode)) → i < length trees → lent ≡ get_or trees i lent → AreNumbered parts left (take i trees) (drop i trees)
    → from_bool (is_join lent) ≤ left
left_at parts left trees i lent lt is h = left_there parts left (take i trees) (drop (i + 1) trees) lent (subst (AreNumbered parts left (take i trees)) (at_item trees i lent lt is).1 h)

pub numbered_at : (parts new : List Part) (left number : ℕ) (trees : List (Bor (List CombNode))) (i : ℕ) (lent : Bor (List CombNode)) (p : Part) → i < length trees → lent ≡ get_or trees i lent → shown p ≡ numbered_part lent.now left
    → new ≡ parts ++ p ∷ [] → number ≡ from_bool (is_join lent) → AreNumbered parts left (take i trees) (drop i trees) → AreNumbered new (left - number) (take (i + 1) trees) (drop (i + 1) trees)
numbered_at parts new left number trees i lent p lt is part pushed count h =
    let here = at_item trees i lent lt is in
    let next : AreNumbered (parts ++ p ∷ []) (left - from_bool (is_join lent)) (take i trees ++ lent ∷ []) (drop (i + 1) trees) =
    next_numbered parts left (take i trees) (drop (i + 1) trees) lent p part (subst (AreNumbered parts left (take i trees)) here.1 h) in
    subst (λ (ps : List Part). AreNumbered ps (left - number) (take (i + 1) trees) (drop (i + 1) trees)) (sym pushed)
    (subst (λ (n : ℕ). AreNumbered (parts ++ p ∷ []) (left - n) (take (i + 1) trees) (drop (i + 1) trees)) (sym count)
    (subst (λ (xs : List (Bor (List CombNode))). AreNumbered (parts ++ p ∷ []) (left - from_bool (is_join lent)) xs (drop (i + 1) trees)) (sym here.0) next))

pub numbered_end : (parts : List Part) (left : ℕ) (trees : List (Bor (List CombNode))) (i : ℕ) → length trees ≤ i → AreNumbered parts left (take i trees) (drop i trees) → AreNumbered parts left trees []
numbered_end parts left trees i end h =
    subst (λ (xs : List (Bor (List CombNode))). AreNumbered parts left xs []) (take_all i trees end) (subst (AreNumbered parts left (take i trees)) (drop_all i trees end) h)

pub all_numbered : (parts : List Part) (left : ℕ) (trees : List (Bor (List CombNode))) (t : Tree Member) → AreNumbered parts left trees [] → map nodes_behind (reverse trees) ≡ map tree_nodes (united_parts t)
    → map shown (reverse parts) ≡ parts_from 1 (united_parts t)
all_numbered parts left trees t h are =
    h.numbers ∙ ap (λ (n : ℕ). numbered_from (n + 1) (map nodes_behind (reverse trees))) h.count ∙ ap (numbered_from 1) are ∙ numbers_are 1 (united_parts t)
