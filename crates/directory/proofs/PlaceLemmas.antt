use Rattle.object_pages.proofs.MemberLemmas.{append_none, tree_names}
use Rattle.std.proofs.Common.{◌≡◌, ◌≢◌, ◌<◌, ◌+◌, ◌∙◌, ℕ, zero, suc, max, List, [], ◌∷◌, ◌++◌, map, take, length, get_or, refl, ap, sym, arith, append_assoc, Option, None, Some, true, false, cond, Bool, inl, inr, add-one, true≢false}
use Rattle.std.specs.List.{Contains, position_or_len, AllByRecursion}
use Rattle.std.specs.Prelude.{nat_lt, position}
use Rattle.std.proofs.lemmas.List.Concat.{flat_map-cons}
use Rattle.name_core.specs.declared.name.Name.{Name}
use Rattle.name_core.specs.Same.{same_name}
use Rattle.comb_tree.specs.declared.node.CombNode.{CombNode}
use Rattle.comb_tree.specs.Nodes.{Comb as AnyTree, comb_nodes}
use Rattle.region_attr.specs.declared.attr.Attr.{Attr}
use Rattle.object_set.specs.Objects.{Parts, member_names}
use Rattle.object_set.specs.declared.object.Body.{Body}
use Rattle.object_set.specs.declared.object.Body.TheVariants.{Solid, Comb}
use Rattle.directory.specs.Walks.{members_of, greatest_of, body_depth, depth_over}
use Rattle.object_pages.specs.Members.{name_of_node, node_names}
use Rattle.shared_pages.proofs.NameLemmas.{name_tells}

-- ---- the greatest of a list, one more
pub greatest_append : (f : Name → ℕ) (xs ys : List Name) → greatest_of (map f (xs ++ ys)) ≡ max (greatest_of (map f xs)) (greatest_of (map f ys))
greatest_append f [] ys = omega arith
greatest_append f (x ∷ xs) ys = omega (arith, greatest_append f xs ys)

names_next : (ns : List CombNode) (i : ℕ) (d : CombNode) → i < length ns → node_names (take (i + 1) ns) ≡ node_names (take i ns) ++ name_of_node (get_or ns i d)
names_next [] i d lt = absurd (omega arith)
names_next (n ∷ ns) zero d lt = flat_map-cons name_of_node n [] ∙ append_none (name_of_node n)
names_next (n ∷ ns) (suc i) d lt =
    let ih : node_names (take (suc i) ns) ≡ node_names (take i ns) ++ name_of_node (get_or ns i d) = rw add-one at (names_next ns i d (omega arith)) in
    rw add-one (flat_map-cons name_of_node n (take (suc i) ns) ∙ ap (λ (l : List Name). name_of_node n ++ l) ih
    ∙ sym (append_assoc (name_of_node n) (node_names (take i ns)) (name_of_node (get_or ns i d)))
    ∙ ap (λ (l : List Name). l ++ name_of_node (get_or ns i d)) (sym (flat_map-cons name_of_node n (take i ns))))

pub nodes_more : (f : Name → ℕ) (ns : List CombNode) (i : ℕ) (d : CombNode) → i < length ns
    → greatest_of (map f (node_names (take (i + 1) ns))) ≡ max (greatest_of (map f (node_names (take i ns)))) (greatest_of (map f (name_of_node (get_or ns i d))))
nodes_more f ns i d lt =
    ap (λ (l : List Name). greatest_of (map f l)) (names_next ns i d lt) ∙ greatest_append f (node_names (take i ns)) (name_of_node (get_or ns i d))

pub greatest_next : (xs : List ℕ) (i d : ℕ) → i < length xs → greatest_of (take (i + 1) xs) ≡ max (greatest_of (take i xs)) (get_or xs i d)
greatest_next [] i d lt = absurd (omega arith)
greatest_next (x ∷ xs) zero d lt = omega arith
greatest_next (x ∷ xs) (suc i) d lt = let ih : greatest_of (take (suc i) xs) ≡ max (greatest_of (take i xs)) (get_or xs i d) = rw add-one at (greatest_next xs i d (omega arith)) in rw add-one (omega arith)

-- ---- the place of a name
place_step : (b : Bool) (x i : ℕ) → cond b (Some x) None ≡ Some i → i ≡ x
place_step true x i e = let same : x ≡ i = cc in sym same
place_step false x i e = cc

pub place_is : (a : Name) (i : ℕ) (keys : List Name) → position (same_name a) keys ≡ Some i → i ≡ position_or_len (same_name a) keys
place_is a i keys e = place_step (nat_lt (position_or_len (same_name a) keys) (length keys)) (position_or_len (same_name a) keys) i e

-- ---- values of names, and names past the first
pub map_same : {A : Type 0} (f g : Name → A) (xs : List Name) → ((x : Name) → Contains xs x → f x ≡ g x) → map f xs ≡ map g xs
map_same f g [] h = refl
map_same {A} f g (x ∷ xs) h =
    let rest : map f xs ≡ map g xs = map_same f g xs (λ y c. h y (suc c.0, omega (arith, c.1), c.2)) in
    ap (λ (y : A). y ∷ map f xs) (h x (0, omega arith, refl)) ∙ ap (λ (l : List A). g x ∷ l) rest

pub past_head : (k : Name) (xs : List Name) → AllByRecursion (λ y. same_name k y ≡ false) xs → (x : Name) → Contains xs x → x ≢ k
past_head k [] h x c = absurd (omega (arith, c.1))
past_head k (y ∷ xs) h x (zero, lt, is) = λ e. elim (name_tells k y) [ inl p ↦ true≢false (sym p.0 ∙ h.0) | inr p ↦ p.1 (sym (is ∙ e)) ]
past_head k (y ∷ xs) h x (suc i, lt, is) = past_head k xs h.1 x (i, omega arith, is)

-- ---- depth_over reads the members alone
body_members : (f g : Name → ℕ) (o : Body) → ((m : Name) → Contains (member_names o) m → f m ≡ g m) → body_depth o f ≡ body_depth o g
body_members f g (Solid s) h = refl
body_members f g (Comb attr tree) h = ap (λ (l : List ℕ). greatest_of l + 1) (map_same f g (member_names (Comb attr tree)) h)

pub over_members : (f g : Name → ℕ) (o : Option Parts) → ((m : Name) → Contains (members_of o) m → f m ≡ g m) → depth_over o f ≡ depth_over o g
over_members f g None h = refl
over_members f g (Some o) h = body_members f g o.body h

pub over_same : (f g : Name → ℕ) → ((x : Name) → f x ≡ g x) → (o : Option Parts) → depth_over o f ≡ depth_over o g
over_same f g h o = over_members f g o (λ m _. h m)

-- ---- the depth of a combination over the depths of its nodes
pub over_tree : (o : Parts) (attr : Attr) (t : AnyTree) (nodes : List CombNode) (f : Name → ℕ) (most : ℕ) → o.body ≡ Comb attr t → nodes ≡ comb_nodes t
    → most ≡ greatest_of (map f (node_names nodes)) → most + 1 ≡ depth_over (Some o) f
over_tree o attr t nodes f most is at e =
    ap (λ (n : ℕ). n + 1) (e ∙ ap (λ (ns : List CombNode). greatest_of (map f (node_names ns))) at ∙ ap (λ (l : List Name). greatest_of (map f l)) (tree_names t))
    ∙ sym (ap (λ (b : Body). body_depth b f) is)

pub nodes_step : (f : Name → ℕ) (ns : List CombNode) (i : ℕ) (d item : CombNode) (most at next : ℕ) → i < length ns → item ≡ get_or ns i d
    → most ≡ greatest_of (map f (node_names (take i ns))) → at ≡ greatest_of (map f (name_of_node item)) → next ≡ max most at
    → next ≡ greatest_of (map f (node_names (take (i + 1) ns)))
nodes_step f ns i d item most at next lt is before here step =
    let same : greatest_of (map f (name_of_node item)) ≡ greatest_of (map f (name_of_node (get_or ns i d))) = ap (λ (n : CombNode). greatest_of (map f (name_of_node n))) is in
    omega (arith, step, before, here, same, nodes_more f ns i d lt)
