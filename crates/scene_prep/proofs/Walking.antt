-- What a name, a combination and a part of its tree come to in a walk.
use Rattle.std.proofs.Common.{◌≡◌, ◌∙◌, ◌+◌, ◌-◌, ◌*◌, ◌≤◌, ◌<◌, ℕ, List, [], ◌∷◌, ◌++◌, length, map, refl, ap, sym, subst, arith, vec_len, length-append, Bool, true, false, take, get_or}
use Rattle.std.specs.Prelude.{None, Some, All, cond}
use Rattle.std.proofs.lemmas.List.{append-nil, map-append, length-map, take_more}
use Rattle.std.proofs.lemmas.List.Sums.{sum_by-append, sum_by_more, sum_by-take-le}
use Rattle.std.proofs.lemmas.Grind.{flat_map-append}
use Rattle.tree_forms.specs.Trees.{Tree, Leaf, Join, leaves, postfix}
use Rattle.name_core.specs.declared.name.Name.{Name}
use Rattle.region_attr.specs.declared.attr.Attr.{Attr}
use Rattle.comb_tree.specs.declared.node.CombNode.{CombNode}
use Rattle.comb_tree.specs.Nodes.{Member, Comb as CombTree, comb_nodes, leaf, apply}
use Rattle.object_set.specs.declared.object.Body.{Body}
use Rattle.object_set.specs.declared.object.Body.TheVariants as bodies
use Rattle.directory.specs.Walks.{Entries, object_of, IsSound}
use Rattle.solid_set.specs.declared.solid.Solid.{Solid as AnySolid}
use Rattle.scene_prep.specs.declared.context.Context.{Context}
use Rattle.scene_prep.specs.declared.part.Part.{Part}
use Rattle.scene_prep.specs.declared.walk.Walk.{Walk}
use Rattle.scene_prep.specs.Expanding.{expanded}
use Rattle.scene_prep.specs.Regions.{NamedRegion, solid_region, whole_region, node_region, placed_region, regions_of_tree, regions_of_body, regions_of_object, regions_of_name, regions_of}
use Rattle.shot_core.specs.Regions.{Region}
use Rattle.scene_prep.specs.Scenes.{scene_of}
use Rattle.scene_prep.specs.Sizes.{size_of_name, names_size}
use Rattle.scene_prep.specs.Levels.{IsShallow, StandsWithin, nodes_size}
use Rattle.scene_prep.specs.Walking.{contents_in, settled_in, HasBody, HasComb, HasTree, HasNode, IsWithinComb, IsPlacedIn, placed_from, IsTop, Adds}
use Rattle.scene_prep.proofs.Counting.{name_some, name_counted}
use Rattle.scene_prep.proofs.Settling.{within_contents, placed_contents, top_placed, adds_counted}
use Rattle.scene_prep.proofs.Sizing.{comb_sized, comb_deep, comb_stands_below, postfix_some, tree_sized, one_size}
use Rattle.scene_prep.proofs.United.{same_tree, IsPartOf, IsNumbered, part_regions, united_regions}
use Rattle.scene_prep.proofs.Whole.{regions_whole}
use Rattle.scene_prep.proofs.Within.{tree_size, sum_first}

-- ---- the regions of a name, by what is there
pub missing_regions : (directory : Entries) (name : Name) → IsSound directory → object_of directory name ≡ None → regions_of_name directory name ≡ []
missing_regions directory name sound is = regions_whole directory sound name ∙ ap (regions_of_object (expanded directory) (regions_of_name directory) name) is

body_regions : (directory : Entries) (name : Name) (body : Body) → IsSound directory → HasBody directory name body → regions_of_name directory name ≡ regions_of_body (expanded directory) (regions_of_name directory) name body
body_regions directory name body sound there =
    regions_whole directory sound name
    ∙ ap (regions_of_object (expanded directory) (regions_of_name directory) name) there.there
    ∙ ap (regions_of_body (expanded directory) (regions_of_name directory) name) there.body_is

pub solid_regions : (directory : Entries) (name : Name) (solid : AnySolid) → IsSound directory → HasBody directory name (bodies.Solid solid) → regions_of_name directory name ≡ solid_region name solid ∷ []
solid_regions directory name solid sound there = body_regions directory name (bodies.Solid solid) sound there

-- ---- combinations
empty_of : (directory : Entries) (name : Name) (attr : Attr) (comb : CombTree) → IsSound directory → HasBody directory name (bodies.Comb attr comb) → length (comb_nodes comb) ≡ 0 → regions_of_name directory name ≡ []
empty_of directory name attr None sound there none = body_regions directory name (bodies.Comb attr None) sound there
empty_of directory name attr (Some tree) sound there none = absurd (omega (arith, none, postfix_some tree))

pub empty_regions : (directory : Entries) (name : Name) (attr : Attr) (nodes : List CombNode) → IsSound directory → HasComb directory name attr nodes → length nodes ≡ 0 → regions_of_name directory name ≡ []
empty_regions directory name attr nodes sound has none = empty_of directory name attr has.comb sound has.there (ap length has.nodes_are ∙ none)

tree_there : (directory : Entries) (name : Name) (attr : Attr) (nodes : List CombNode) (comb : CombTree) → comb_nodes comb ≡ nodes → HasBody directory name (bodies.Comb attr comb) → 0 < length nodes → HasTree directory name attr nodes
tree_there directory name attr nodes None is there some = absurd (omega (arith, some, ap length is))
tree_there directory name attr nodes (Some tree) is there some = record { tree = tree; nodes_are = is; there = there }

-- what a combination that has a tree is known to be
pub record CombFacts (directory : Entries) (levels : ℕ) (name : Name) (attr : Attr) (nodes : List CombNode) : Type 0 where
  pub has : HasTree directory name attr nodes
  pub deep : 0 < levels
  pub within : All (StandsWithin directory (levels - 1)) nodes
  pub size : size_of_name directory name ≡ nodes_size directory nodes

pub comb_facts : (directory : Entries) (levels : ℕ) (name : Name) (attr : Attr) (nodes : List CombNode) → IsSound directory → IsShallow directory levels name → HasComb directory name attr nodes → 0 < length nodes
    → CombFacts directory levels name attr nodes
comb_facts directory levels name attr nodes sound shallow has some =
    let deep : 0 < levels = comb_deep directory levels name has.there.object attr has.comb has.there.there has.there.body_is shallow in
    let there : 0 < length (comb_nodes has.comb) = omega (arith, some, ap length has.nodes_are) in record {
      has = tree_there directory name attr nodes has.comb has.nodes_are has.there some;
      deep = deep;
      within = comb_stands_below directory levels name has.there.object attr has.comb nodes has.there.there has.there.body_is has.lawful (sym has.nodes_are) shallow deep;
      size = comb_sized directory name has.there.object attr has.comb sound has.there.there has.there.body_is there ∙ ap (nodes_size directory) has.nodes_are;
    }

tree_contents : (directory : Entries) (above below : Context) (name : Name) (attr : Attr) (nodes : List CombNode) → IsSound directory → (has : HasTree directory name attr nodes) → IsWithinComb above name attr below
    → contents_in above (regions_of_name directory name) ≡ contents_in below (regions_of_tree (expanded directory) (regions_of_name directory) attr has.tree)
tree_contents directory above below name attr nodes sound has h =
    ap (contents_in above) (body_regions directory name (bodies.Comb attr (Some has.tree)) sound has.there)
    ∙ within_contents above below name attr h (regions_of_tree (expanded directory) (regions_of_name directory) attr has.tree)

pub region_contents : (directory : Entries) (above below : Context) (name : Name) (attr : Attr) (nodes : List CombNode) → IsSound directory → (has : HasTree directory name attr nodes) → IsWithinComb above name attr below → attr.region ≡ true
    → settled_in below (whole_region (expanded directory) attr has.tree) ∷ [] ≡ contents_in above (regions_of_name directory name)
region_contents directory above below name attr nodes sound has h marked =
    sym (tree_contents directory above below name attr nodes sound has h
    ∙ ap (λ (b : Bool). contents_in below (cond b (whole_region (expanded directory) attr has.tree ∷ []) (united_regions directory has.tree))) marked)

pub parts_contents : (directory : Entries) (above below : Context) (name : Name) (attr : Attr) (nodes : List CombNode) → IsSound directory → (has : HasTree directory name attr nodes) → IsWithinComb above name attr below → attr.region ≡ false
    → contents_in below (united_regions directory has.tree) ≡ contents_in above (regions_of_name directory name)
parts_contents directory above below name attr nodes sound has h marked =
    sym (tree_contents directory above below name attr nodes sound has h
    ∙ ap (λ (b : Bool). contents_in below (cond b (whole_region (expanded directory) attr has.tree ∷ []) (united_regions directory has.tree))) marked)

-- ---- parts
pub record IsLeafPart (nodes : List CombNode) : Type 0 where
  pub member : Member
  pub nodes_are : nodes ≡ leaf member ∷ []

leaf_of : (directory : Entries) (comb : Name) (number : ℕ) (nodes : List CombNode) (tree : Tree Member) → comb_nodes (Some tree) ≡ nodes → IsNumbered directory comb tree number → number ≤ 0 → IsLeafPart nodes
leaf_of directory comb number nodes (Leaf member) is numbered none = record { member = member; nodes_are = sym is }
leaf_of directory comb number nodes (Join op l r) is numbered none = absurd (omega (arith, numbered.0, none))

pub leaf_part : (directory : Entries) (comb : Name) (part : Part) → IsPartOf directory comb part → part.number ≤ 0 → IsLeafPart part.nodes.now
leaf_part directory comb part h none = leaf_of directory comb part.number part.nodes.now h.tree h.nodes_are h.numbered none

node_of_part : (directory : Entries) (comb : Name) (number : ℕ) (nodes : List CombNode) (tree : Tree Member) → comb_nodes (Some tree) ≡ nodes → IsNumbered directory comb tree number → 0 < number → HasNode directory comb number nodes
node_of_part directory comb number nodes (Leaf member) is numbered some = absurd (omega (arith, numbered, some))
node_of_part directory comb number nodes (Join op l r) is numbered some = record { tree = Join op l r; nodes_are = is; own = numbered.1 }

pub node_part : (directory : Entries) (comb : Name) (part : Part) → IsPartOf directory comb part → 0 < part.number → HasNode directory comb part.number part.nodes.now
node_part directory comb part h some = node_of_part directory comb part.number part.nodes.now h.tree h.nodes_are h.numbered some

node_alone : (directory : Entries) (comb : Name) (number : ℕ) (tree : Tree Member) → IsNumbered directory comb tree number → 0 < number → part_regions directory number tree ≡ node_region (expanded directory) number tree ∷ []
node_alone directory comb number (Leaf member) numbered some = absurd (omega (arith, numbered, some))
node_alone directory comb number (Join op l r) numbered some = refl

pub node_regions : (directory : Entries) (comb : Name) (part : Part) → (h : IsPartOf directory comb part) → 0 < part.number → (tree : Tree Member) → comb_nodes (Some tree) ≡ part.nodes.now
    → part_regions directory part.number tree ≡ node_region (expanded directory) part.number tree ∷ []
node_regions directory comb part h some tree is =
    let same : h.tree ≡ tree = same_tree h.tree tree (h.nodes_are ∙ sym is) in
    node_alone directory comb part.number tree (subst (λ (t : Tree Member). IsNumbered directory comb t part.number) same h.numbered) some

pub leaf_contents : (directory : Entries) (above below : Context) (number : ℕ) (member : Member) (nodes : List CombNode) → nodes ≡ leaf member ∷ [] → IsPlacedIn above member.placement below → (tree : Tree Member) → comb_nodes (Some tree) ≡ nodes
    → contents_in below (regions_of_name directory member.name) ≡ contents_in above (part_regions directory number tree)
leaf_contents directory above below number member nodes is h tree same =
    let one : Leaf member ≡ tree = same_tree (Leaf member) tree (sym is ∙ sym same) in
    sym (placed_contents above below member.placement h (regions_of_name directory member.name))
    ∙ ap (contents_in above) (sym (append-nil (map (placed_region member.placement) (regions_of_name directory member.name))))
    ∙ ap (λ (t : Tree Member). contents_in above (part_regions directory number t)) one

-- ---- how many there are
length-postfix : (t : Tree Member) → length (postfix leaf apply t) + 1 ≡ 2 * length (leaves t)
length-postfix (Leaf member) = refl
length-postfix (Join op l r) =
    omega (arith, length-append (postfix leaf apply l) (postfix leaf apply r ++ apply op ∷ []), length-append (postfix leaf apply r) (apply op ∷ []), length-append (leaves l) (leaves r), length-postfix l, length-postfix r)

leaves_within : (directory : Entries) (t : Tree Member) → length (leaves t) ≤ tree_size (size_of_name directory) t
leaves_within directory (Leaf member) = omega (arith, sum_first (λ (m : Member). size_of_name directory m.name) member [], name_some directory member.name)
leaves_within directory (Join op l r) =
    omega (arith, length-append (leaves l) (leaves r), sum_by-append (λ (m : Member). size_of_name directory m.name) (leaves l) (leaves r), leaves_within directory l, leaves_within directory r)

pub nodes_few : (directory : Entries) (t : Tree Member) (nodes : List CombNode) → comb_nodes (Some t) ≡ nodes → length nodes ≤ 2 * nodes_size directory nodes
nodes_few directory t nodes is = omega (arith, length-postfix t, leaves_within directory t, tree_sized directory t, ap (nodes_size directory) is, ap length is)

pub leaf_shallow : (directory : Entries) (levels under : ℕ) (member : Member) (nodes : List CombNode) → nodes ≡ leaf member ∷ [] → All (StandsWithin directory (levels - 1)) nodes → under + 1 ≡ levels → IsShallow directory under member.name
leaf_shallow directory levels under member nodes is within next =
    let all : All (StandsWithin directory (levels - 1)) (leaf member ∷ []) = subst (λ (ns : List CombNode). All (StandsWithin directory (levels - 1)) ns) is within in
    let same : levels - 1 ≡ under = omega (arith, next) in
    subst (λ (n : ℕ). IsShallow directory n member.name) same (all 0 (leaf member) (omega arith)).0

pub leaf_size : (directory : Entries) (member : Member) (nodes : List CombNode) → nodes ≡ leaf member ∷ [] → nodes_size directory nodes ≡ size_of_name directory member.name
leaf_size directory member nodes is = ap (nodes_size directory) is ∙ one_size directory (leaf member)

pub none_of : {A : Type 0} (xs : List A) → length xs ≡ 0 → xs ≡ []
none_of [] e = refl
none_of (x ∷ xs) e = absurd (omega (arith, e))

-- ---- the names that are given
pub next_contents : (directory : Entries) (context : Context) (names : List Name) (i : ℕ) (name : Name) → i < length names → name ≡ get_or names i name
    → contents_in context (regions_of directory (take i names)) ++ contents_in context (regions_of_name directory name) ≡ contents_in context (regions_of directory (take (i + 1) names))
next_contents directory context names i name lt is =
    let more : take (i + 1) names ≡ take i names ++ name ∷ [] = take_more names i name lt ∙ ap (λ (x : Name). take i names ++ x ∷ []) (sym is) in
    sym (map-append (settled_in context) (regions_of directory (take i names)) (regions_of_name directory name))
    ∙ ap (λ (rs : List NamedRegion). contents_in context (regions_of directory (take i names) ++ rs)) (sym (append-nil (regions_of_name directory name)))
    ∙ ap (λ (rs : List NamedRegion). contents_in context rs) (sym (flat_map-append (regions_of_name directory) (take i names) (name ∷ [])))
    ∙ ap (λ (ns : List Name). contents_in context (regions_of directory ns)) (sym more)

pub names_counted : (directory : Entries) (names : List Name) → length (regions_of directory names) ≤ names_size directory names
names_counted directory [] = omega arith
names_counted directory (name ∷ names) =
    omega (arith, length-append (regions_of_name directory name) (regions_of directory names), name_counted directory name, sum_first (size_of_name directory) name names, names_counted directory names)

pub room_next : (directory : Entries) (context : Context) (start walk : Walk) (names : List Name) (i most : ℕ) (name : Name) → i < length names → name ≡ get_or names i name → start.regions.items ≡ []
    → Adds start walk (contents_in context (regions_of directory (take i names))) → names_size directory names ≤ most → vec_len walk.regions + size_of_name directory name ≤ most
room_next directory context start walk names i most name lt is none h small =
    let same : size_of_name directory name ≡ size_of_name directory (get_or names i name) = ap (size_of_name directory) is in
    omega (
      arith,
      same,
      adds_counted start walk (contents_in context (regions_of directory (take i names))) h,
      ap length none,
      start.regions.ok.0,
      length-map (regions_of directory (take i names)) (settled_in context),
      names_counted directory (take i names),
      sum_by_more (size_of_name directory) names i name lt,
      sum_by-take-le (size_of_name directory) names (i + 1),
      small,
    )

pub all_come : (directory : Entries) (top : Context) (start walk : Walk) (names : List Name) → IsTop top → start.regions.items ≡ [] → Adds start walk (contents_in top (regions_of directory names)) → walk.regions.items ≡ scene_of directory names
all_come directory top start walk names h none added =
    let first : vec_len start.regions + 1 ≡ 1 = omega (arith, ap length none, start.regions.ok.0) in
    added
    ∙ ap (λ (rs : List Region). rs ++ placed_from (vec_len start.regions + 1) (contents_in top (regions_of directory names))) none
    ∙ ap (λ (n : ℕ). placed_from n (contents_in top (regions_of directory names))) first
    ∙ top_placed top h 1 (regions_of directory names)
