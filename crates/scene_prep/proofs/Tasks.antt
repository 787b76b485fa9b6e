-- The stack of a walk: the tasks that a tree leaves on it, and what they come to.
use Rattle.std.proofs.Common.{◌≡◌, ◌∙◌, ◌+◌, ◌-◌, ◌*◌, ◌≤◌, ◌<◌, ℕ, List, [], ◌∷◌, ◌++◌, length, map, refl, ap, sym, subst, arith, vec_len, append_assoc, get_or, false}
use Rattle.std.specs.Prelude.{Some, All, reverse, flat_map, sum_by}
use Rattle.std.specs.Option.{option_to_list}
use Rattle.std.specs.Arc.{arc_value}
use Rattle.std.proofs.lemmas.List.{append-nil, map-append, length-map, reverse-append}
use Rattle.std.proofs.lemmas.List.Elements.{All-append, All-cons, All-nil}
use Rattle.std.proofs.lemmas.List.Sorted.{IsPermutation-reverse, sum_by-IsPermutation}
use Rattle.std.proofs.lemmas.List.Sums.{sum_by-append, sum_by_push}
use Rattle.std.proofs.lemmas.Grind.{flat_map-append}
use Rattle.lattice_core.specs.declared.placement.Placement.{Placement}
use Rattle.tree_forms.specs.Trees.{Tree, Leaf, Join}
use Rattle.name_core.specs.declared.name.Name.{Name}
use Rattle.region_attr.specs.declared.attr.Attr.{Attr}
use Rattle.comb_tree.specs.declared.node.CombNode.{CombNode}
use Rattle.comb_tree.specs.declared.node.CombNode.TheVariants as nodes
use Rattle.comb_tree.specs.Nodes.{Member, comb_nodes, leaf}
use Rattle.object_set.specs.declared.object.Body.TheVariants as bodies
use Rattle.directory.specs.Walks.{Entries, IsSound}
use Rattle.scene_prep.specs.declared.colour.Colour.{Colour}
use Rattle.scene_prep.specs.declared.context.Context.{Context}
use Rattle.scene_prep.specs.declared.part.Part.{Part}
use Rattle.scene_prep.specs.declared.walk.Walk.{Walk}
use Rattle.scene_prep.specs.declared.walk.Task.{Task}
use Rattle.scene_prep.specs.declared.walk.Task.TheVariants as tasks
use Rattle.scene_prep.specs.Expanding.{expanded}
use Rattle.scene_prep.specs.Regions.{NamedRegion, node_region, united_parts, regions_of_name}
use Rattle.scene_prep.specs.Parts.{shown, parts_from}
use Rattle.scene_prep.specs.Sizes.{size_of_name}
use Rattle.scene_prep.specs.Levels.{IsShallow, StandsWithin, nodes_size}
use Rattle.scene_prep.specs.Walking.{Content, settled, settled_in, contents_in, HasBody, HasNode, IsShare, IsWithinComb, node_of, own_region, Adds, IsNearNode, IsNearLeaf, IsLeafTask, IsNodeTask, IsTaskOf, AreTasksOf, PushesParts, task_contents, pending, IsSoundTask, task_size, tasks_size, task_weight, tasks_weight, ComesTo}
use Rattle.scene_prep.proofs.Counting.{name_some, name_counted, tree_some, parts_size, parts_first, parts_whole}
use Rattle.scene_prep.proofs.Settling.{adds_none, adds_more, adds_counted, adds_same}
use Rattle.scene_prep.proofs.Sizing.{tree_sized}
use Rattle.scene_prep.proofs.United.{all_left, all_right, EachTree, each_united, number_of, number_after, from_first, after_more, after_positive, same_tree, regions_first, own_first, numbered_part, regions_from, part_regions, IsPartOf}
use Rattle.scene_prep.proofs.Walking.{CombFacts, parts_contents, node_part, node_regions, leaf_contents, leaf_shallow, leaf_size}
use Rattle.scene_prep.proofs.Within.{sum_first}

-- ---- lists from behind
sum_by-reverse : {X : Type 0} (f : X → ℕ) (xs : List X) → sum_by f (reverse xs) ≡ sum_by f xs
sum_by-reverse f xs = sum_by-IsPermutation f xs (reverse xs) (IsPermutation-reverse xs)

turned : {X : Type 0} (x : X) (xs : List X) → reverse (x ∷ xs) ≡ reverse xs ++ x ∷ []
turned x xs = reverse-append (x ∷ []) xs

All-reverse : {X : Type 0} (P : X → Type 0) (xs : List X) → All P (reverse xs) → All P xs
All-reverse P [] h = All-nil P
All-reverse P (x ∷ xs) h =
    let split : All P (reverse xs ++ x ∷ []) = subst (All P) (turned x xs) h in
    let here : All P (x ∷ []) = all_right P (reverse xs) (x ∷ []) split in
    All-cons P x xs (here 0 x (omega arith)) (All-reverse P xs (all_left P (reverse xs) (x ∷ []) split))

tasks_push : (comb : Name) (context : Context) (parts : List Part) (stack : List Task) (part : Part) (task : Task) → AreTasksOf comb context parts stack → IsTaskOf comb context part task
    → AreTasksOf comb context (parts ++ part ∷ []) (stack ++ task ∷ [])
tasks_push comb context [] [] part task h k = (k, tt)
tasks_push comb context [] (t ∷ stack) part task h k = absurd h
tasks_push comb context (p ∷ parts) [] part task h k = absurd h
tasks_push comb context (p ∷ parts) (t ∷ stack) part task h k = (h.0, tasks_push comb context parts stack part task h.1 k)

tasks-reverse : (comb : Name) (context : Context) (parts : List Part) (stack : List Task) → AreTasksOf comb context parts stack → AreTasksOf comb context (reverse parts) (reverse stack)
tasks-reverse comb context [] [] h = tt
tasks-reverse comb context [] (t ∷ stack) h = absurd h
tasks-reverse comb context (p ∷ parts) [] h = absurd h
tasks-reverse comb context (p ∷ parts) (t ∷ stack) h =
    subst (λ (ps : List Part). AreTasksOf comb context ps (reverse (t ∷ stack))) (sym (turned p parts))
    (subst (λ (ts : List Task). AreTasksOf comb context (reverse parts ++ p ∷ []) ts) (sym (turned t stack))
    (tasks_push comb context (reverse parts) (reverse stack) p t (tasks-reverse comb context parts stack h.1) h.0))

-- ---- the parts of a tree, each of which has a task
pub record Pushed (comb : Name) (context : Context) (parts : List Part) (before after : List Task) : Type 0 where
  pub more : List Task
  pub after_is : after ≡ before ++ more
  pub each : AreTasksOf comb context parts more

pub pushed_none : (comb : Name) (context : Context) (before : List Task) → Pushed comb context [] before before
pushed_none comb context before = record { more = []; after_is = sym (append-nil before); each = tt }

pub pushed_next : (comb : Name) (context : Context) (parts : List Part) (before after next : List Task) (part : Part) (task : Task) → Pushed comb context parts before after → next ≡ after ++ task ∷ [] → IsTaskOf comb context part task
    → Pushed comb context (parts ++ part ∷ []) before next
pushed_next comb context parts before after next part task h is of = record {
  more = h.more ++ task ∷ [];
  after_is = is ∙ ap (λ (ts : List Task). ts ++ task ∷ []) h.after_is ∙ append_assoc before h.more (task ∷ []);
  each = tasks_push comb context parts h.more part task h.each of;
}

abbrev pub IsNearPart : Part → Type 0
IsNearPart part = part.number ≡ 0 → IsNearLeaf part.nodes.now

near_node : (directory : Entries) (levels : ℕ) (node : CombNode) → StandsWithin directory levels node → IsNearNode node
near_node directory levels (nodes.Leaf name placement) h = h.1
near_node directory levels nodes.U h = tt
near_node directory levels nodes.N h = tt
near_node directory levels nodes.Minus h = tt
near_node directory levels nodes.X h = tt

pub near_nodes : (directory : Entries) (levels : ℕ) (ns : List CombNode) → All (StandsWithin directory levels) ns → All IsNearNode ns
near_nodes directory levels ns h = λ k d lt. near_node directory levels (get_or ns k d) (h k d lt)

near_one : (number : ℕ) (tree : Tree Member) (part : Part) → 0 < number → comb_nodes (Some tree) ≡ part.nodes.now → part.number ≡ number_of number tree → All IsNearNode (comb_nodes (Some tree)) → IsNearPart part
near_one number (Leaf member) part some is at near = λ none. record { member = member; nodes_are = sym is; near = near 0 (leaf member) (omega arith) }
near_one number (Join op l r) part some is at near = λ none. absurd (omega (arith, some, at, none))

-- the first of the parts
record HasFirst (number : ℕ) (part : Part) (parts : List Part) (tree : Tree Member) (rest : List (Tree Member)) : Type 0 where
  nodes_are : comb_nodes (Some tree) ≡ part.nodes.now
  number_is : part.number ≡ number_of number tree
  rest_is : map shown parts ≡ parts_from (number_after number tree) rest

has_first : (number : ℕ) (part : Part) (parts : List Part) (tree : Tree Member) (rest : List (Tree Member)) → map shown (part ∷ parts) ≡ parts_from number (tree ∷ rest) → HasFirst number part parts tree rest
has_first number part parts tree rest e =
    let whole : shown part ∷ map shown parts ≡ (comb_nodes (Some tree), number_of number tree) ∷ parts_from (number_after number tree) rest = e ∙ from_first number tree rest in
    let first : shown part ≡ (comb_nodes (Some tree), number_of number tree) = cc in record {
      nodes_are = sym (ap (λ (p : List CombNode × ℕ). p.0) first);
      number_is = ap (λ (p : List CombNode × ℕ). p.1) first;
      rest_is = cc;
    }

none_first : (number : ℕ) (tree : Tree Member) (rest : List (Tree Member)) → ¬ ([] ≡ parts_from number (tree ∷ rest))
none_first number (Leaf member) rest e = cc
none_first number (Join op l r) rest e = cc

near_each : (number : ℕ) → 0 < number → (trees : List (Tree Member)) (parts : List Part) → map shown parts ≡ parts_from number trees → EachTree IsNearNode trees → All IsNearPart parts
near_each number some [] [] e near = All-nil IsNearPart
near_each number some [] (part ∷ parts) e near = absurd cc
near_each number some (tree ∷ trees) [] e near = absurd (none_first number tree trees e)
near_each number some (tree ∷ trees) (part ∷ parts) e near =
    let f = has_first number part parts tree trees e in
    All-cons IsNearPart part parts (near_one number tree part some f.nodes_are f.number_is near.0) (near_each (number_after number tree) (after_positive number tree some) trees parts f.rest_is near.1)

pub near_parts : (tree : Tree Member) (nodes : List CombNode) (parts : List Part) → comb_nodes (Some tree) ≡ nodes → map shown (reverse parts) ≡ parts_from 1 (united_parts tree) → All IsNearNode nodes → All IsNearPart parts
near_parts tree nodes parts is all near =
    let each : EachTree IsNearNode (united_parts tree) = each_united IsNearNode tree (subst (λ (ns : List CombNode). All IsNearNode ns) (sym is) near) in
    All-reverse IsNearPart parts (near_each 1 (omega arith) (united_parts tree) (reverse parts) all each)

-- ---- one task
share_contents : (context share : Context) → IsShare context share → (regions : List NamedRegion) → contents_in share regions ≡ contents_in context regions
share_contents context share h regions =
    ap (λ (p : List ℕ). map (settled p share.by share.colour) regions) h.path
    ∙ ap (λ (by : Placement). map (settled (arc_value context.path) by share.colour) regions) h.by
    ∙ ap (λ (c : Colour). map (settled (arc_value context.path) context.by c) regions) h.colour

-- what a task comes to, how large it is, and that it can be done
record IsOne (directory : Entries) (levels : ℕ) (task : Task) (contents : List Content) (size : ℕ) : Type 0 where
  contents_are : task_contents directory task ≡ contents
  sound : IsSoundTask directory task
  size_is : task_size directory task ≡ size
  weight_is : task_weight directory task ≡ size * levels

leaf_task : (directory : Entries) (comb : Name) (context : Context) (part : Part) (name : Name) (below : Context) → All (StandsWithin directory (context.levels - 1)) part.nodes.now → IsLeafTask context part name below
    → (tree : Tree Member) → comb_nodes (Some tree) ≡ part.nodes.now
    → IsOne directory context.levels (tasks.Name name below) (contents_in context (part_regions directory part.number tree)) (nodes_size directory part.nodes.now)
leaf_task directory comb context part name below within h tree is =
    let size : size_of_name directory name ≡ nodes_size directory part.nodes.now = ap (size_of_name directory) h.name_is ∙ sym (leaf_size directory h.member part.nodes.now h.nodes_are) in record {
      contents_are = ap (λ (n : Name). contents_in below (regions_of_name directory n)) h.name_is
          ∙ leaf_contents directory context below part.number h.member part.nodes.now h.nodes_are h.placed_is tree is;
      sound = subst (λ (n : Name). IsShallow directory below.levels n) (sym h.name_is)
          (leaf_shallow directory context.levels below.levels h.member part.nodes.now h.nodes_are within h.placed_is.levels);
      size_is = size;
      weight_is = ap (λ (n : ℕ). n * (below.levels + 1)) size ∙ ap (λ (n : ℕ). nodes_size directory part.nodes.now * n) h.placed_is.levels;
    }

node_task : (directory : Entries) (comb : Name) (context : Context) (part : Part) (owner : Name) (node : Part) (share : Context) → IsPartOf directory comb part → 0 < context.levels
    → All (StandsWithin directory (context.levels - 1)) part.nodes.now → IsNodeTask comb context part owner node share → (tree : Tree Member) → comb_nodes (Some tree) ≡ part.nodes.now
    → IsOne directory context.levels (tasks.Node owner node share) (contents_in context (part_regions directory part.number tree)) (nodes_size directory part.nodes.now)
node_task directory comb context part owner node share of deep within h tree is =
    let has : HasNode directory comb part.number part.nodes.now = node_part directory comb part of h.some in
    let own : own_region directory owner (Some node.number) ≡ Some (node_region (expanded directory) part.number has.tree) =
    ap (λ (n : Name). own_region directory n (Some node.number)) h.owner_is ∙ ap (λ (k : ℕ). own_region directory comb (Some k)) h.number_is ∙ has.own in
    let same : has.tree ≡ tree = same_tree has.tree tree (has.nodes_are ∙ sym is) in
    let size : nodes_size directory node.nodes.now ≡ nodes_size directory part.nodes.now = ap (nodes_size directory) h.nodes_are in
    let low : All (StandsWithin directory (share.levels - 1)) part.nodes.now = subst (λ (n : ℕ). All (StandsWithin directory (n - 1)) part.nodes.now) (sym h.share_is.levels) within in record {
      contents_are = ap (λ o. contents_in share (option_to_list o)) own
          ∙ share_contents context share h.share_is (node_region (expanded directory) part.number has.tree ∷ [])
          ∙ ap (λ (t : Tree Member). contents_in context (node_region (expanded directory) part.number t ∷ [])) same
          ∙ ap (λ (rs : List NamedRegion). contents_in context rs) (sym (node_regions directory comb part of h.some tree is));
      sound = record {
        own = record {
          tree = has.tree;
          nodes_are = has.nodes_are ∙ sym h.nodes_are;
          own = own ∙ ap (λ (k : ℕ). Some (node_region (expanded directory) k has.tree)) (sym h.number_is);
        };
        deep = omega (arith, deep, h.share_is.levels);
        within = subst (λ (ns : List CombNode). All (StandsWithin directory (share.levels - 1)) ns) (sym h.nodes_are) low;
      };
      size_is = size;
      weight_is = ap (λ (n : ℕ). n * share.levels) size ∙ ap (λ (n : ℕ). nodes_size directory part.nodes.now * n) h.share_is.levels;
    }

one_task : (directory : Entries) (comb : Name) (context : Context) (part : Part) (task : Task) → IsPartOf directory comb part → 0 < context.levels → All (StandsWithin directory (context.levels - 1)) part.nodes.now
    → IsTaskOf comb context part task → (tree : Tree Member) → comb_nodes (Some tree) ≡ part.nodes.now
    → IsOne directory context.levels task (contents_in context (part_regions directory part.number tree)) (nodes_size directory part.nodes.now)
one_task directory comb context part (tasks.Name name below) of deep within h tree is = leaf_task directory comb context part name below within h tree is
one_task directory comb context part (tasks.Node owner node share) of deep within h tree is = node_task directory comb context part owner node share of deep within h tree is

-- ---- the tasks of what a tree unites, from the left
record Covers (directory : Entries) (levels : ℕ) (stack : List Task) (contents : List Content) (size : ℕ) : Type 0 where
  contents_are : flat_map (task_contents directory) stack ≡ contents
  sound : All (IsSoundTask directory) stack
  size_is : tasks_size directory stack ≡ size
  weight_is : tasks_weight directory stack ≡ size * levels

cover_none : (directory : Entries) (levels : ℕ) → Covers directory levels [] [] 0
cover_none directory levels = record { contents_are = refl; sound = All-nil (IsSoundTask directory); size_is = refl; weight_is = omega arith }

times : (a b c : ℕ) → (a + b) * c ≡ a * c + b * c
times a b c = omega arith

cover_more : (directory : Entries) (levels : ℕ) (task : Task) (stack : List Task) (contents more : List Content) (size rest : ℕ) → IsOne directory levels task contents size → Covers directory levels stack more rest
    → Covers directory levels (task ∷ stack) (contents ++ more) (size + rest)
cover_more directory levels task stack contents more size rest h k = record {
  contents_are = ap (λ (cs : List Content). cs ++ flat_map (task_contents directory) stack) h.contents_are ∙ ap (λ (cs : List Content). contents ++ cs) k.contents_are;
  sound = All-cons (IsSoundTask directory) task stack h.sound k.sound;
  size_is = omega (arith, sum_first (task_size directory) task stack, h.size_is, k.size_is);
  weight_is = omega (arith, sum_first (task_weight directory) task stack, h.weight_is, k.weight_is, times size rest levels);
}

module _ (directory : Entries) (comb : Name) (context : Context) (attr : Attr) (tree : Tree Member) (there : HasBody directory comb (bodies.Comb attr (Some tree))) (deep : 0 < context.levels) where
  covers : (number : ℕ) → 0 < number → (trees : List (Tree Member)) (parts : List Part) (stack : List Task) → map shown parts ≡ parts_from number trees → AreTasksOf comb context parts stack
      → EachTree (StandsWithin directory (context.levels - 1)) trees → ((k : ℕ) → number ≤ k → node_of k 1 (united_parts tree) ≡ node_of k number trees)
      → Covers directory context.levels stack (contents_in context (regions_from directory number trees)) (parts_size directory trees)
  covers number some [] [] [] e each stands own = cover_none directory context.levels
  covers number some [] [] (task ∷ stack) e each stands own = absurd each
  covers number some [] (part ∷ parts) stack e each stands own = absurd cc
  covers number some (first ∷ rest) [] stack e each stands own = absurd (none_first number first rest e)
  covers number some (first ∷ rest) (part ∷ parts) [] e each stands own = absurd each
  covers number some (first ∷ rest) (part ∷ parts) (task ∷ stack) e each stands own =
      let f = has_first number part parts first rest e in
      let of : IsPartOf directory comb part = record {
        tree = first;
        nodes_are = f.nodes_are;
        numbered = numbered_part directory comb attr tree number there first rest own some part.number f.number_is;
      } in
      let within : All (StandsWithin directory (context.levels - 1)) part.nodes.now = subst (λ (ns : List CombNode). All (StandsWithin directory (context.levels - 1)) ns) f.nodes_are stands.0 in
      let one = one_task directory comb context part task of deep within each.0 first f.nodes_are in
      let more = covers (number_after number first) (after_positive number first some) rest parts stack f.rest_is each.1 stands.1
      (λ k le. own k (omega (arith, le, after_more number first)) ∙ own_first number first rest k le) in
      let split : contents_in context (part_regions directory part.number first) ++ contents_in context (regions_from directory (number_after number first) rest) ≡ contents_in context (regions_from directory number (first ∷ rest)) =
      sym (map-append (settled_in context) (part_regions directory part.number first) (regions_from directory (number_after number first) rest))
      ∙ ap (λ (rs : List NamedRegion). contents_in context rs) (sym (regions_first directory number part.number first rest f.number_is)) in
      let size : nodes_size directory part.nodes.now + parts_size directory rest ≡ parts_size directory (first ∷ rest) = omega (arith, parts_first directory first rest, ap (nodes_size directory) f.nodes_are) in
      let all = cover_more directory context.levels task stack (contents_in context (part_regions directory part.number first)) (contents_in context (regions_from directory (number_after number first) rest))
      (nodes_size directory part.nodes.now) (parts_size directory rest) one more in record {
        contents_are = all.contents_are ∙ split;
        sound = all.sound;
        size_is = all.size_is ∙ size;
        weight_is = all.weight_is ∙ ap (λ (n : ℕ). n * context.levels) size;
      }

-- ---- a task that is done
mul_next : (a b : ℕ) → a * (b + 1) ≡ a * b + a
mul_next a b = omega arith

product_some : (a b : ℕ) → 0 < a → 0 < b → 0 < a * b
product_some a b p q =
    let e : b ≡ b - 1 + 1 = omega (arith, q) in
    let f : a * b ≡ a * (b - 1 + 1) = ap (λ (n : ℕ). a * n) e in
    omega (arith, f, mul_next a (b - 1), p)

all_done : (directory : Entries) (task : Task) (old new : Walk) (before : List Task) (contents : List Content) → Adds old new contents → contents ≡ task_contents directory task → length contents ≤ task_size directory task
    → 0 < task_weight directory task → ComesTo directory task old new before before
all_done directory task old new before contents added is few heavy = record {
  done = contents;
  added = added;
  left = [];
  after_is = sym (append-nil before);
  whole = append-nil contents ∙ is;
  sound = All-nil (IsSoundTask directory);
  room = omega (arith, few);
  lighter = omega (arith, heavy);
}

pub name_done : (directory : Entries) (name : Name) (context : Context) (old new : Walk) (before : List Task) (contents : List Content) → Adds old new contents → contents ≡ contents_in context (regions_of_name directory name)
    → ComesTo directory (tasks.Name name context) old new before before
name_done directory name context old new before contents added is =
    all_done directory (tasks.Name name context) old new before contents added is
    (omega (arith, ap length is, length-map (regions_of_name directory name) (settled_in context), name_counted directory name))
    (product_some (size_of_name directory name) (context.levels + 1) (name_some directory name) (omega arith))

node_some : (directory : Entries) (comb : Name) (number : ℕ) (nodes : List CombNode) → HasNode directory comb number nodes → 0 < nodes_size directory nodes
node_some directory comb number nodes has = omega (arith, tree_some directory has.tree, tree_sized directory has.tree, ap (nodes_size directory) has.nodes_are)

pub node_room : (directory : Entries) (comb : Name) (node : Part) (context : Context) → IsSoundTask directory (tasks.Node comb node context) → 0 < task_size directory (tasks.Node comb node context)
node_room directory comb node context h = node_some directory comb node.number node.nodes.now h.own

pub node_done : (directory : Entries) (comb : Name) (node : Part) (context : Context) (old new : Walk) (before : List Task) → (h : IsSoundTask directory (tasks.Node comb node context))
    → Adds old new (settled_in context (node_region (expanded directory) node.number h.own.tree) ∷ []) → ComesTo directory (tasks.Node comb node context) old new before before
node_done directory comb node context old new before h added =
    let some = node_some directory comb node.number node.nodes.now h.own in
    all_done directory (tasks.Node comb node context) old new before (settled_in context (node_region (expanded directory) node.number h.own.tree) ∷ []) added
    (sym (ap (λ o. contents_in context (option_to_list o)) h.own.own)) (omega (arith, some)) (product_some (nodes_size directory node.nodes.now) context.levels some h.deep)

-- a combination that is no region leaves the tasks of what its tree unites
pub parts_left : (directory : Entries) (above below : Context) (name : Name) (attr : Attr) (nodes : List CombNode) (walk : Walk) (before after : List Task) → IsSound directory → CombFacts directory above.levels name attr nodes
    → IsWithinComb above name attr below → attr.region ≡ false → PushesParts name below nodes before after → ComesTo directory (tasks.Name name above) walk walk before after
parts_left directory above below name attr nodes walk before after sound f w marked p =
    let stands : All (StandsWithin directory (below.levels - 1)) nodes = subst (λ (n : ℕ). All (StandsWithin directory (n - 1)) nodes) (sym w.levels) f.within in
    let each : EachTree (StandsWithin directory (below.levels - 1)) (united_parts f.has.tree) =
    each_united (StandsWithin directory (below.levels - 1)) f.has.tree (subst (λ (ns : List CombNode). All (StandsWithin directory (below.levels - 1)) ns) (sym f.has.nodes_are) stands) in
    let all = covers directory name below attr f.has.tree f.has.there (omega (arith, f.deep, w.levels)) 1 (omega arith) (united_parts f.has.tree) (reverse p.parts) (reverse p.more)
    (p.parts_are f.has.tree f.has.nodes_are) (tasks-reverse name below p.parts p.more p.each) each (λ k le. refl) in
    let size : parts_size directory (united_parts f.has.tree) ≡ size_of_name directory name = omega (arith, parts_whole directory f.has.tree, ap (nodes_size directory) f.has.nodes_are, f.size) in
    let weight : tasks_weight directory p.more ≡ size_of_name directory name * above.levels =
    sym (sum_by-reverse (task_weight directory) p.more) ∙ all.weight_is ∙ ap (λ (n : ℕ). n * below.levels) size ∙ ap (λ (n : ℕ). size_of_name directory name * n) w.levels in record {
      done = [];
      added = adds_none walk;
      left = p.more;
      after_is = p.after_is;
      whole = all.contents_are ∙ parts_contents directory above below name attr nodes sound f.has w marked;
      sound = All-reverse (IsSoundTask directory) p.more all.sound;
      room = omega (arith, sum_by-reverse (task_size directory) p.more, all.size_is, size);
      lighter = omega (arith, weight, mul_next (size_of_name directory name) above.levels, name_some directory name);
    }

-- ---- all tasks
pending_last : (directory : Entries) (stack : List Task) (task : Task) → pending directory (stack ++ task ∷ []) ≡ task_contents directory task ++ pending directory stack
pending_last directory stack task = ap (flat_map (task_contents directory)) (reverse-append stack (task ∷ []))

pending-append : (directory : Entries) (stack more : List Task) → pending directory (stack ++ more) ≡ pending directory more ++ pending directory stack
pending-append directory stack more = ap (flat_map (task_contents directory)) (reverse-append stack more) ∙ flat_map-append (task_contents directory) (reverse more) (reverse stack)

-- what is done, and what is left to do of what was on the stack
pub record TasksLeft (directory : Entries) (most : ℕ) (before : List Task) (old new : Walk) (stack : List Task) : Type 0 where
  pub done : List Content
  pub added : Adds old new done
  pub whole : done ++ pending directory stack ≡ pending directory before
  pub sound : All (IsSoundTask directory) stack
  pub room : vec_len new.regions + tasks_size directory stack ≤ most

module _ (directory : Entries) (most : ℕ) where
  pub tasks_begin : (walk : Walk) (stack : List Task) → All (IsSoundTask directory) stack → vec_len walk.regions + tasks_size directory stack ≤ most → TasksLeft directory most stack walk walk stack
  tasks_begin walk stack sound room = record { done = []; added = adds_none walk; whole = refl; sound = sound; room = room }

  pub task_sound : (before : List Task) (old new : Walk) (stack : List Task) (task : Task) → TasksLeft directory most before old new (stack ++ task ∷ []) → IsSoundTask directory task
  task_sound before old new stack task h =
      let here : All (IsSoundTask directory) (task ∷ []) = all_right (IsSoundTask directory) stack (task ∷ []) h.sound in
      here 0 task (omega arith)

  pub task_room : (before : List Task) (old new : Walk) (stack : List Task) (task : Task) → TasksLeft directory most before old new (stack ++ task ∷ []) → vec_len new.regions + task_size directory task ≤ most
  task_room before old new stack task h = omega (arith, h.room, sum_by_push (task_size directory) stack task)

  pub tasks_next : (before : List Task) (old new newer : Walk) (stack after : List Task) (task : Task) → TasksLeft directory most before old new (stack ++ task ∷ []) → ComesTo directory task new newer stack after
      → TasksLeft directory most before old newer after
  tasks_next before old new newer stack after task h step = record {
    done = h.done ++ step.done;
    added = adds_more old new newer h.done step.done h.added step.added;
    whole = append_assoc h.done step.done (pending directory after)
        ∙ ap (λ (ts : List Task). h.done ++ (step.done ++ pending directory ts)) step.after_is
        ∙ ap (λ (cs : List Content). h.done ++ (step.done ++ cs)) (pending-append directory stack step.left)
        ∙ ap (λ (cs : List Content). h.done ++ cs) (sym (append_assoc step.done (pending directory step.left) (pending directory stack)))
        ∙ ap (λ (cs : List Content). h.done ++ (cs ++ pending directory stack)) step.whole
        ∙ ap (λ (cs : List Content). h.done ++ cs) (sym (pending_last directory stack task))
        ∙ h.whole;
    sound = subst (λ (ts : List Task). All (IsSoundTask directory) ts) (sym step.after_is)
        (All-append (IsSoundTask directory) stack step.left (all_left (IsSoundTask directory) stack (task ∷ []) h.sound) step.sound);
    room = omega (
      arith,
      h.room,
      step.room,
      adds_counted new newer step.done step.added,
      ap (tasks_size directory) step.after_is,
      sum_by-append (task_size directory) stack step.left,
      sum_by_push (task_size directory) stack task,
    );
  }

  pub tasks_lighter : (old new : Walk) (stack after : List Task) (task : Task) → ComesTo directory task old new stack after → tasks_weight directory after < tasks_weight directory (stack ++ task ∷ [])
  tasks_lighter old new stack after task step =
      omega (arith, step.lighter, ap (tasks_weight directory) step.after_is, sum_by-append (task_weight directory) stack step.left, sum_by_push (task_weight directory) stack task)

  pub tasks_end : (before : List Task) (old new : Walk) (stack : List Task) → stack ≡ [] → TasksLeft directory most before old new stack → Adds old new (pending directory before)
  tasks_end before old new stack none h =
      adds_same old new h.done (pending directory before) (sym (append-nil h.done) ∙ ap (λ (ts : List Task). h.done ++ pending directory ts) (sym none) ∙ h.whole) h.added

-- ---- a name that is given
-- the stack has the name's task alone
pub given_alone : (stack next : List Task) (task : Task) → stack ≡ [] → next ≡ stack ++ task ∷ [] → next ≡ task ∷ []
given_alone stack next task none is = is ∙ ap (λ (ts : List Task). ts ++ task ∷ []) none

module _ (directory : Entries) (top share : Context) (name : Name) (stack : List Task) where
  pub given_sound : IsShare top share → IsShallow directory top.levels name → stack ≡ tasks.Name name share ∷ [] → All (IsSoundTask directory) stack
  given_sound h shallow is =
      let low : IsShallow directory share.levels name = subst (λ (n : ℕ). IsShallow directory n name) (sym h.levels) shallow in
      subst (λ (ts : List Task). All (IsSoundTask directory) ts) (sym is) (All-cons (IsSoundTask directory) (tasks.Name name share) [] low (All-nil (IsSoundTask directory)))

  pub given_size : stack ≡ tasks.Name name share ∷ [] → tasks_size directory stack ≡ size_of_name directory name
  given_size is = omega (arith, ap (tasks_size directory) is, sum_first (task_size directory) (tasks.Name name share) [])

  pub given_contents : IsShare top share → stack ≡ tasks.Name name share ∷ [] → pending directory stack ≡ contents_in top (regions_of_name directory name)
  given_contents h is = ap (pending directory) is ∙ append-nil (contents_in share (regions_of_name directory name)) ∙ share_contents top share h (regions_of_name directory name)
