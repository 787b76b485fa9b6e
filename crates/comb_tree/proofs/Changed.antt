use Rattle.name_core.specs.Same.{same_name}
use Rattle.std.proofs.Common.{◌≡◌, ◌≤◌, ◌+◌, ◌*◌, ◌-◌, List, [], ◌∷◌, ◌++◌, Option, Some, None, Bool, true, false, cond, ◌&&◌, ◌||◌, not, refl, ap, sym, ◌∙◌, length, map, arith}
use Rattle.std.specs.List.{list_any, filter}
use Rattle.std.proofs.lemmas.List.{length-map, map-append, length-append}
use Rattle.std.proofs.lemmas.List.Elements.{filter-append}
use Rattle.tree_forms.specs.declared.Op.{Op}
use Rattle.tree_forms.specs.declared.Op.TheVariants.{U, N, Minus, X}
use Rattle.tree_forms.specs.Trees.{Tree, Leaf, Join, postfix, leaves, map_leaves}
use Rattle.name_core.specs.declared.name.Name.{Name}
use Rattle.comb_tree.specs.declared.node.ListEntry.{ListEntry}
use Rattle.comb_tree.specs.declared.node.CombNode.{CombNode}
use Rattle.comb_tree.specs.Nodes.{Member, Comb, comb_nodes, comb_of, members, leaf, apply}
use Rattle.comb_tree.specs.Steps.{is_leaf, is_at, rest_stays, head_from}
use Rattle.comb_tree.specs.Changes.{on_leaf, map_members, stays, or_next, first_lost, first_lost_head}
use Rattle.comb_tree.specs.Lists.{member, is_u, is_cut, onto, products, from_u, HasList}
use Rattle.comb_tree.proofs.Written.{members_of_list}
use Rattle.comb_tree.proofs.Reading.{comb_back}

nodes_of_leaves : (t : Tree Member) → length (postfix leaf apply t) + 1 ≡ 2 * length (leaves t)
nodes_of_leaves (Leaf m) = omega arith
nodes_of_leaves (Join op l r) =
    omega (
      arith,
      nodes_of_leaves l,
      nodes_of_leaves r,
      length-append (postfix leaf apply l) (postfix leaf apply r ++ apply op ∷ []),
      length-append (postfix leaf apply r) (apply op ∷ []),
      length-append (leaves l) (leaves r),
    )

-- a tree has one node less than twice its leaves
pub nodes_short : (t : Comb) → length (comb_nodes t) ≤ 2 * length (members t) - 1
nodes_short None = omega arith
nodes_short (Some t) = omega (arith, nodes_of_leaves t)

-- a tree's list is as long as it has leaves
pub list_length : (t : Comb) (l : List ListEntry) → HasList t l → length l ≡ length (members t)
list_length t l h = sym (length-map l member) ∙ ap length (sym (members_of_list l)) ∙ ap (λ x. length (members x)) h.tree

kept_op : (f : Member → Member) (op : Op) → on_leaf f (apply op) ≡ apply op
kept_op f U = refl
kept_op f N = refl
kept_op f Minus = refl
kept_op f X = refl

map_postfix : (f : Member → Member) (t : Tree Member) → postfix leaf apply (map_leaves f t) ≡ map (on_leaf f) (postfix leaf apply t)
map_postfix f (Leaf m) = refl
map_postfix f (Join op l r) =
    ap (λ xs. xs ++ (postfix leaf apply (map_leaves f r) ++ apply op ∷ [])) (map_postfix f l)
    ∙ ap (λ xs. map (on_leaf f) (postfix leaf apply l) ++ (xs ++ apply op ∷ [])) (map_postfix f r)
    ∙ ap (λ n. map (on_leaf f) (postfix leaf apply l) ++ (map (on_leaf f) (postfix leaf apply r) ++ n ∷ [])) (sym (kept_op f op))
    ∙ sym (map-append (on_leaf f) (postfix leaf apply l) (postfix leaf apply r ++ apply op ∷ []) ∙ ap (λ xs. map (on_leaf f) (postfix leaf apply l) ++ xs) (map-append (on_leaf f) (postfix leaf apply r) (apply op ∷ [])))

-- to change each leaf of the nodes is to change each member of the tree
pub map_nodes : (f : Member → Member) (t : Comb) → comb_nodes (map_members f t) ≡ map (on_leaf f) (comb_nodes t)
map_nodes f None = refl
map_nodes f (Some t) = map_postfix f t

map_leaves_of : (f : Member → Member) (t : Tree Member) → leaves (map_leaves f t) ≡ map f (leaves t)
map_leaves_of f (Leaf m) = refl
map_leaves_of f (Join op l r) = ap (λ xs. xs ++ leaves (map_leaves f r)) (map_leaves_of f l) ∙ ap (λ xs. map f (leaves l) ++ xs) (map_leaves_of f r) ∙ sym (map-append f (leaves l) (leaves r))

members_kept : (f : Member → Member) (t : Comb) → length (members (map_members f t)) ≡ length (members t)
members_kept f None = refl
members_kept f (Some t) = ap length (map_leaves_of f t) ∙ length-map (leaves t) f

-- the fields after each leaf was changed
pub changed_tree : (f : Member → Member) (t : Comb) (old new : List CombNode) → comb_of old ≡ t → comb_nodes (comb_of old) ≡ old → new ≡ map (on_leaf f) old → comb_of new ≡ map_members f t
changed_tree f t old new is whole made =
    ap comb_of (made ∙ ap (map (on_leaf f)) (sym whole ∙ ap comb_nodes is) ∙ sym (map_nodes f t)) ∙ comb_back (map_members f t)

pub changed_nodes : (f : Member → Member) (old new : List CombNode) → comb_nodes (comb_of old) ≡ old → new ≡ map (on_leaf f) old → comb_nodes (comb_of new) ≡ new
changed_nodes f old new whole made =
    ap comb_nodes (changed_tree f (comb_of old) old new refl whole made) ∙ map_nodes f (comb_of old) ∙ ap (map (on_leaf f)) whole ∙ sym made

pub changed_count : (f : Member → Member) (old new : List CombNode) → comb_nodes (comb_of old) ≡ old → new ≡ map (on_leaf f) old → length (members (comb_of new)) ≡ length (members (comb_of old))
changed_count f old new whole made = ap (λ t. length (members t)) (changed_tree f (comb_of old) old new refl whole made) ∙ members_kept f (comb_of old)

count_one : (b d : Bool) (n : CombNode) (m : Member) → b ≡ d → length (cond b (n ∷ []) []) ≡ length (cond d (m ∷ []) [])
count_one true true n m e = refl
count_one false false n m e = refl
count_one true false n m e = cc
count_one false true n m e = cc

-- what is counted among a tree's nodes is counted among its members, where no operator is counted
count_postfix : (p : CombNode → Bool) (q : Member → Bool) → ((m : Member) → p (leaf m) ≡ q m) → ((op : Op) → p (apply op) ≡ false)
    → (t : Tree Member) → length (filter p (postfix leaf apply t)) ≡ length (filter q (leaves t))
count_postfix p q same none (Leaf m) = count_one (p (leaf m)) (q m) (leaf m) m (same m)
count_postfix p q same none (Join op l r) =
    let one = filter-append p (postfix leaf apply l) (postfix leaf apply r ++ apply op ∷ []) in
    let two = filter-append p (postfix leaf apply r) (apply op ∷ []) in
    let zero : length (filter p (apply op ∷ [])) ≡ 0 = ap (λ b. length (cond b (apply op ∷ []) [])) (none op) in
    let both : length (filter q (leaves l ++ leaves r)) ≡ length (filter q (leaves l)) + length (filter q (leaves r)) =
    ap length (filter-append q (leaves l) (leaves r)) ∙ length-append (filter q (leaves l)) (filter q (leaves r)) in
    ap length one ∙ length-append (filter p (postfix leaf apply l)) (filter p (postfix leaf apply r ++ apply op ∷ []))
    ∙ omega (arith, count_postfix p q same none l, count_postfix p q same none r, ap length two, zero, both, length-append (filter p (postfix leaf apply r)) (filter p (apply op ∷ [])))

pub count_nodes : (p : CombNode → Bool) (q : Member → Bool) → ((m : Member) → p (leaf m) ≡ q m) → ((op : Op) → p (apply op) ≡ false)
    → (t : Comb) → length (filter p (comb_nodes t)) ≡ length (filter q (members t))
count_nodes p q same none None = refl
count_nodes p q same none (Some t) = count_postfix p q same none t

no_leaf : (op : Op) → is_leaf (apply op) ≡ false
no_leaf U = refl
no_leaf N = refl
no_leaf Minus = refl
no_leaf X = refl

all_pass : {A : Type 0} (xs : List A) → length (filter (λ x. true) xs) ≡ length xs
all_pass [] = refl
all_pass (x ∷ xs) = omega (arith, all_pass xs)

-- the leaves among a tree's nodes are its members
pub leaf_count : (t : Comb) → length (filter is_leaf (comb_nodes t)) ≡ length (members t)
leaf_count t = count_nodes is_leaf (λ m. true) (λ m. refl) no_leaf t ∙ all_pass (members t)

no_name : (name : Name) (op : Op) → is_at name (apply op) ≡ false
no_name name U = refl
no_name name N = refl
no_name name Minus = refl
no_name name X = refl

pub name_count : (name : Name) (t : Comb) → length (filter (is_at name) (comb_nodes t)) ≡ length (filter (λ m. same_name m.name name) (members t))
name_count name t = count_nodes (is_at name) (λ m. same_name m.name name) (λ m. refl) (no_name name) t

-- heads, one entry after the other: what stays in the product that goes on, and the products that begin later
abbrev pub going : (Name → Bool) → Bool → List (List ListEntry) → Bool
going gone true ps = false
going gone false [] = false
going gone false (p ∷ ps) = list_any (stays gone) p

abbrev pub later : Bool → List (List ListEntry) → List (List ListEntry)
later true ps = ps
later false [] = []
later false (p ∷ ps) = ps

onto_going : (gone : Name → Bool) (e : ListEntry) (b : Bool) (ps : List (List ListEntry)) → going gone false (cond b ((e ∷ []) ∷ ps) (onto e ps)) ≡ stays gone e || going gone b ps
onto_going gone e true ps = refl
onto_going gone e false [] = refl
onto_going gone e false (p ∷ ps) = refl

onto_later : (e : ListEntry) (b : Bool) (ps : List (List ListEntry)) → later false (cond b ((e ∷ []) ∷ ps) (onto e ps)) ≡ later b ps
onto_later e true ps = refl
onto_later e false [] = refl
onto_later e false (p ∷ ps) = refl

onto_lost : (gone : Name → Bool) (e : ListEntry) (b : Bool) (ps : List (List ListEntry))
    → first_lost gone (cond b ((e ∷ []) ∷ ps) (onto e ps)) ≡ or_next (cond (gone e.name && going gone b ps) (Some e.name) None) (first_lost gone (later b ps))
onto_lost gone e true ps = refl
onto_lost gone e false [] = refl
onto_lost gone e false (p ∷ ps) = refl

rest_step : (u g : Bool) (r r' whole : Bool) (gone : Name → Bool) (ps : List (List ListEntry)) → r ≡ r' → going gone false ps ≡ not g || r' → cond u false (cond g r true) ≡ going gone u ps
rest_step true g r r' whole gone ps same is = refl
rest_step false true r r' whole gone ps same is = same ∙ sym is
rest_step false false r r' whole gone ps same is = sym is

rest_is : (gone : Name → Bool) (es : List ListEntry) → rest_stays gone es ≡ going gone (is_cut es) (products es)
rest_is gone [] = refl
rest_is gone (e ∷ es) = rest_step (is_u e.op) (gone e.name) _ _ true gone (products (e ∷ es)) (rest_is gone es) (onto_going gone e (is_cut es) (products es))

taken : (x : Bool) (n : Name) (y : Option Name) → cond x (Some n) y ≡ or_next (cond x (Some n) None) y
taken true n y = refl
taken false n y = refl

head_step : (u x x' : Bool) (n : Name) (y : Option Name) (gone : Name → Bool) (ps qs : List (List ListEntry)) → x ≡ x' → y ≡ first_lost gone qs → later false ps ≡ qs
    → first_lost gone ps ≡ or_next (cond x' (Some n) None) (first_lost gone qs) → cond (u && x) (Some n) y ≡ first_lost gone (later u ps)
head_step true x x' n y gone ps qs same rest cut is = taken x n y ∙ ap (λ b. or_next (cond b (Some n) None) y) same ∙ ap (or_next (cond x' (Some n) None)) rest ∙ sym is
head_step false x x' n y gone ps qs same rest cut is = rest ∙ ap (first_lost gone) (sym cut)

head_is : (gone : Name → Bool) (es : List ListEntry) → head_from gone es ≡ first_lost gone (later (is_cut es) (products es))
head_is gone [] = refl
head_is gone (e ∷ es) =
    head_step (is_u e.op) (gone e.name && rest_stays gone es) _ e.name (head_from gone es) gone (products (e ∷ es)) (later (is_cut es) (products es))
    (ap (λ b. gone e.name && b) (rest_is gone es)) (head_is gone es) (onto_later e (is_cut es) (products es)) (onto_lost gone e (is_cut es) (products es))

cut_first : (l : List ListEntry) → is_cut (from_u l) ≡ true
cut_first [] = refl
cut_first (e ∷ es) = refl

-- the first head that is lost, found entry by entry
pub head_found : (gone : Name → Bool) (t : Comb) (l : List ListEntry) → HasList t l → head_from gone l ≡ first_lost_head gone l
head_found gone t l h = head_is gone l ∙ ap (λ b. first_lost gone (later b (products l))) (ap is_cut (sym h.first) ∙ cut_first l)

-- nodes that are a tree's
pub nodes_kept : (t : Comb) (ns : List CombNode) → comb_nodes t ≡ ns → comb_nodes (comb_of ns) ≡ ns
nodes_kept t ns e = ap comb_nodes (ap comb_of (sym e) ∙ comb_back t) ∙ e

pub count_is : (t : Comb) (ns : List CombNode) → comb_nodes t ≡ ns → length (filter is_leaf ns) ≡ length (members t)
count_is t ns e = ap (λ xs. length (filter is_leaf xs)) (sym e) ∙ leaf_count t

pub count_of : (t : Comb) (ns : List CombNode) → comb_nodes t ≡ ns → length (members (comb_of ns)) ≡ length (filter is_leaf ns)
count_of t ns e = sym (count_is (comb_of ns) ns (nodes_kept t ns e))

short_step : {A : Type 0} (b : Bool) (x : A) (ys xs : List A) → length ys ≤ length xs → length (cond b (x ∷ ys) ys) ≤ length (x ∷ xs)
short_step true x ys xs h = omega arith
short_step false x ys xs h = omega arith

pub filter_short : {A : Type 0} (p : A → Bool) (xs : List A) → length (filter p xs) ≤ length xs
filter_short p [] = omega arith
filter_short p (x ∷ xs) = short_step (p x) x (filter p xs) xs (filter_short p xs)

pub name_count_in : (name : Name) (t : Comb) (ns : List CombNode) → comb_of ns ≡ t → comb_nodes (comb_of ns) ≡ ns → length (filter (is_at name) ns) ≡ length (filter (λ m. same_name m.name name) (members t))
name_count_in name t ns is whole = ap (λ xs. length (filter (is_at name) xs)) (sym whole) ∙ name_count name (comb_of ns) ∙ ap (λ x. length (filter (λ m. same_name m.name name) (members x))) is
