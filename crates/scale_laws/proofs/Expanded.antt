-- Larger directories come to larger trees and larger regions.
use Rattle.std.proofs.Common.{◌≡◌, ◌∙◌, ◌+◌, ℕ, zero, suc, List, [], ◌∷◌, ◌++◌, map, refl, ap, sym, Bool, true, false}
use Rattle.std.specs.Prelude.{None, Some, Option, cond, sum_by}
use Rattle.std.specs.Option.{option_map}
use Rattle.std.proofs.lemmas.List.{map-append}
use Rattle.std.proofs.lemmas.List.Sums.{sum_by-append, sum_by-cons}
use Rattle.std.proofs.lemmas.Map.Made.{lookup-map_values}
use Rattle.tree_forms.specs.declared.Op.{Op}
use Rattle.tree_forms.specs.declared.Op.TheVariants.{U, N, Minus, X}
use Rattle.tree_forms.specs.Trees.{Tree, Leaf, Join, leaves, map_leaves}
use Rattle.lattice_core.specs.declared.placement.Placement.{Placement}
use Rattle.name_core.specs.declared.name.Name.{Name}
use Rattle.name_core.specs.Same.{same_name}
use Rattle.region_attr.specs.declared.attr.Attr.{Attr}
use Rattle.comb_tree.specs.Nodes.{Member}
use Rattle.object_set.specs.declared.object.Body.{Body}
use Rattle.object_set.specs.declared.object.Body.TheVariants as bodies
use Rattle.object_set.specs.Objects.{Parts}
use Rattle.directory.specs.Walks.{Entries, object_of}
use Rattle.scene_prep.specs.Solids.{PlacedSolid, Expanded, placed_tree}
use Rattle.scene_prep.specs.Expanding.{expanded_tree, expanded_body, expanded_object, expanded_within, most_levels}
use Rattle.scene_prep.specs.Regions.{NamedRegion, within_comb, placed_region, whole_region, node_region, united_parts, regions_united, regions_of_tree, regions_of_body, regions_of_object, regions_within, regions_of_name, regions_of}
use Rattle.scene_prep.specs.Sizes.{body_size, object_size, size_within, size_of_name, names_size}
use Rattle.solid_set.specs.Larger.{larger_solid, larger_placement}
use Rattle.scale_laws.specs.Models.{larger_member, larger_body, larger_object, larger_directory}

-- a placed solid, a tree over such and a region with all lengths m times as large
abbrev pub larger_placed : ℕ → PlacedSolid → PlacedSolid
larger_placed m one = record { solid = larger_solid m one.solid; placements = map (larger_placement m) one.placements }

abbrev pub larger_leaf : ℕ → Option PlacedSolid → Option PlacedSolid
larger_leaf m leaf = option_map (larger_placed m) leaf

abbrev pub larger_expanded : ℕ → Expanded → Expanded
larger_expanded m tree = map_leaves (larger_leaf m) tree

abbrev pub larger_named : ℕ → NamedRegion → NamedRegion
larger_named m region = record region { tree = larger_expanded m region.tree }

abbrev larger_members : ℕ → Tree Member → Tree Member
larger_members m tree = map_leaves (larger_member m) tree

pub object_larger : (m : ℕ) (directory : Entries) (name : Name) → object_of (larger_directory m directory) name ≡ option_map (larger_object m) (object_of directory name)
object_larger m directory name = lookup-map_values (larger_object m) (same_name name) directory

-- two trees side by side
join_same : {A : Type 0} (op : Op) (l l' r r' : Tree A) → l ≡ l' → r ≡ r' → Join op l r ≡ Join op l' r'
join_same {A} op l l' r r' e f = ap (λ (t : Tree A). Join op t r) e ∙ ap (λ (t : Tree A). Join op l' t) f

-- ---- trees
placed_larger_tree : (m : ℕ) (by : Placement) (tree : Expanded) → placed_tree (larger_placement m by) (larger_expanded m tree) ≡ larger_expanded m (placed_tree by tree)
placed_larger_tree m by (Leaf None) = refl
placed_larger_tree m by (Leaf (Some one)) = refl
placed_larger_tree m by (Join op l r) =
    join_same op (placed_tree (larger_placement m by) (larger_expanded m l)) (larger_expanded m (placed_tree by l))
    (placed_tree (larger_placement m by) (larger_expanded m r)) (larger_expanded m (placed_tree by r)) (placed_larger_tree m by l) (placed_larger_tree m by r)

-- where names come to larger trees, so do trees of larger members
abbrev ExpandLarger : ℕ → (Name → Expanded) → (Name → Expanded) → Type 0
ExpandLarger m below larger = (name : Name) → larger name ≡ larger_expanded m (below name)

tree_larger : (m : ℕ) (below larger : Name → Expanded) (tree : Tree Member) → ExpandLarger m below larger → expanded_tree larger (larger_members m tree) ≡ larger_expanded m (expanded_tree below tree)
tree_larger m below larger (Leaf member) h = ap (placed_tree (larger_placement m member.placement)) (h member.name) ∙ placed_larger_tree m member.placement (below member.name)
tree_larger m below larger (Join op l r) h =
    join_same op (expanded_tree larger (larger_members m l)) (larger_expanded m (expanded_tree below l))
    (expanded_tree larger (larger_members m r)) (larger_expanded m (expanded_tree below r)) (tree_larger m below larger l h) (tree_larger m below larger r h)

body_expands : (m : ℕ) (below larger : Name → Expanded) (body : Body) → ExpandLarger m below larger → expanded_body larger (larger_body m body) ≡ larger_expanded m (expanded_body below body)
body_expands m below larger (bodies.Solid solid) h = refl
body_expands m below larger (bodies.Comb attr None) h = refl
body_expands m below larger (bodies.Comb attr (Some tree)) h = tree_larger m below larger tree h

object_expands : (m : ℕ) (below larger : Name → Expanded) (object : Option Parts) → ExpandLarger m below larger
    → expanded_object larger (option_map (larger_object m) object) ≡ larger_expanded m (expanded_object below object)
object_expands m below larger None h = refl
object_expands m below larger (Some object) h = body_expands m below larger object.body h

pub within_larger : (m levels : ℕ) (directory : Entries) → ExpandLarger m (expanded_within levels directory) (expanded_within levels (larger_directory m directory))
within_larger m zero directory name = refl
within_larger m (suc levels) directory name =
    ap (expanded_object (expanded_within levels (larger_directory m directory))) (object_larger m directory name)
    ∙ object_expands m (expanded_within levels directory) (expanded_within levels (larger_directory m directory)) (object_of directory name) (within_larger m levels directory)

-- ---- regions
united_moved : {A B : Type 0} (f : A → B) (tree : Tree A) → united_parts (map_leaves f tree) ≡ map (map_leaves f) (united_parts tree)
united_moved f (Leaf a) = refl
united_moved {A} {B} f (Join U l r) =
    ap (λ (ts : List (Tree B)). ts ++ united_parts (map_leaves f r)) (united_moved f l)
    ∙ (ap (λ (ts : List (Tree B)). map (map_leaves f) (united_parts l) ++ ts) (united_moved f r) ∙ sym (map-append (map_leaves f) (united_parts l) (united_parts r)))
united_moved f (Join N l r) = refl
united_moved f (Join Minus l r) = refl
united_moved f (Join X l r) = refl

abbrev RegionsLarger : ℕ → (Name → List NamedRegion) → (Name → List NamedRegion) → Type 0
RegionsLarger m below larger = (name : Name) → larger name ≡ map (larger_named m) (below name)

-- a map passes over another one, where they pass on each region
maps_pass : (m : ℕ) (f g : NamedRegion → NamedRegion) (regions : List NamedRegion) → ((region : NamedRegion) → f (larger_named m region) ≡ larger_named m (g region))
    → map f (map (larger_named m) regions) ≡ map (larger_named m) (map g regions)
maps_pass m f g [] h = refl
maps_pass m f g (region ∷ regions) h =
    ap (λ (r : NamedRegion). r ∷ map f (map (larger_named m) regions)) (h region) ∙ ap (λ (rs : List NamedRegion). larger_named m (g region) ∷ rs) (maps_pass m f g regions h)

placed_passes : (m : ℕ) (by : Placement) (region : NamedRegion) → placed_region (larger_placement m by) (larger_named m region) ≡ larger_named m (placed_region by region)
placed_passes m by region = ap (λ (t : Expanded). record region { tree = t }) (placed_larger_tree m by region.tree)

node_larger : (m : ℕ) (expand larger : Name → Expanded) (number : ℕ) (tree : Tree Member) → ExpandLarger m expand larger → node_region larger number (larger_members m tree) ≡ larger_named m (node_region expand number tree)
node_larger m expand larger number tree h = ap (λ (t : Expanded). record (node_region expand number tree) { tree = t }) (tree_larger m expand larger tree h)

whole_larger : (m : ℕ) (expand larger : Name → Expanded) (attr : Attr) (tree : Tree Member) → ExpandLarger m expand larger → whole_region larger attr (larger_members m tree) ≡ larger_named m (whole_region expand attr tree)
whole_larger m expand larger attr tree h = ap (λ (t : Expanded). record (whole_region expand attr tree) { tree = t }) (tree_larger m expand larger tree h)

parts_larger : (m : ℕ) (expand expand' : Name → Expanded) (below below' : Name → List NamedRegion) (number : ℕ) (parts : List (Tree Member)) → ExpandLarger m expand expand' → RegionsLarger m below below'
    → regions_united expand' below' number (map (larger_members m) parts) ≡ map (larger_named m) (regions_united expand below number parts)
parts_larger m expand expand' below below' number [] e h = refl
parts_larger m expand expand' below below' number (Leaf member ∷ parts) e h =
    let by = member.placement in
    let rest = regions_united expand' below' number (map (larger_members m) parts) in
    let first : map (placed_region (larger_placement m by)) (below' member.name) ≡ map (larger_named m) (map (placed_region by) (below member.name)) =
    ap (map (placed_region (larger_placement m by))) (h member.name) ∙ maps_pass m (placed_region (larger_placement m by)) (placed_region by) (below member.name) (placed_passes m by) in
    ap (λ (rs : List NamedRegion). rs ++ rest) first
    ∙ (ap (λ (rs : List NamedRegion). map (larger_named m) (map (placed_region by) (below member.name)) ++ rs) (parts_larger m expand expand' below below' number parts e h)
    ∙ sym (map-append (larger_named m) (map (placed_region by) (below member.name)) (regions_united expand below number parts)))
parts_larger m expand expand' below below' number (Join op l r ∷ parts) e h =
    let rest = regions_united expand' below' (number + 1) (map (larger_members m) parts) in
    ap (λ (region : NamedRegion). region ∷ rest) (node_larger m expand expand' number (Join op l r) e)
    ∙ ap (λ (rs : List NamedRegion). larger_named m (node_region expand number (Join op l r)) ∷ rs) (parts_larger m expand expand' below below' (number + 1) parts e h)

chosen_larger : (m : ℕ) (b : Bool) (xs ys xs' ys' : List NamedRegion) → xs' ≡ map (larger_named m) xs → ys' ≡ map (larger_named m) ys → cond b xs' ys' ≡ map (larger_named m) (cond b xs ys)
chosen_larger m true xs ys xs' ys' e f = e
chosen_larger m false xs ys xs' ys' e f = f

tree_regions : (m : ℕ) (expand expand' : Name → Expanded) (below below' : Name → List NamedRegion) (attr : Attr) (tree : Tree Member) → ExpandLarger m expand expand' → RegionsLarger m below below'
    → regions_of_tree expand' below' attr (larger_members m tree) ≡ map (larger_named m) (regions_of_tree expand below attr tree)
tree_regions m expand expand' below below' attr tree e h =
    chosen_larger m attr.region (whole_region expand attr tree ∷ []) (regions_united expand below 1 (united_parts tree))
    (whole_region expand' attr (larger_members m tree) ∷ []) (regions_united expand' below' 1 (united_parts (larger_members m tree)))
    (ap (λ (region : NamedRegion). region ∷ []) (whole_larger m expand expand' attr tree e))
    (ap (regions_united expand' below' 1) (united_moved (larger_member m) tree) ∙ parts_larger m expand expand' below below' 1 (united_parts tree) e h)

body_regions : (m : ℕ) (expand expand' : Name → Expanded) (below below' : Name → List NamedRegion) (name : Name) (body : Body) → ExpandLarger m expand expand' → RegionsLarger m below below'
    → regions_of_body expand' below' name (larger_body m body) ≡ map (larger_named m) (regions_of_body expand below name body)
body_regions m expand expand' below below' name (bodies.Solid solid) e h = refl
body_regions m expand expand' below below' name (bodies.Comb attr None) e h = refl
body_regions m expand expand' below below' name (bodies.Comb attr (Some tree)) e h =
    ap (map (within_comb name attr)) (tree_regions m expand expand' below below' attr tree e h)
    ∙ maps_pass m (within_comb name attr) (within_comb name attr) (regions_of_tree expand below attr tree) (λ region. refl)

object_regions : (m : ℕ) (expand expand' : Name → Expanded) (below below' : Name → List NamedRegion) (name : Name) (object : Option Parts) → ExpandLarger m expand expand' → RegionsLarger m below below'
    → regions_of_object expand' below' name (option_map (larger_object m) object) ≡ map (larger_named m) (regions_of_object expand below name object)
object_regions m expand expand' below below' name None e h = refl
object_regions m expand expand' below below' name (Some object) e h = body_regions m expand expand' below below' name object.body e h

regions_larger : (m levels : ℕ) (directory : Entries) → RegionsLarger m (regions_within levels directory) (regions_within levels (larger_directory m directory))
regions_larger m zero directory name = refl
regions_larger m (suc levels) directory name =
    let larger = larger_directory m directory in
    ap (regions_of_object (expanded_within levels larger) (regions_within levels larger) name) (object_larger m directory name)
    ∙ object_regions m (expanded_within levels directory) (expanded_within levels larger) (regions_within levels directory) (regions_within levels larger) name (object_of directory name)
    (within_larger m levels directory) (regions_larger m levels directory)

name_larger : (m : ℕ) (directory : Entries) (name : Name) → regions_of_name (larger_directory m directory) name ≡ map (larger_named m) (regions_of_name directory name)
unfolding regions_of_name
name_larger m directory name = regions_larger m most_levels directory name

pub names_larger : (m : ℕ) (directory : Entries) (names : List Name) → regions_of (larger_directory m directory) names ≡ map (larger_named m) (regions_of directory names)
names_larger m directory [] = refl
names_larger m directory (name ∷ names) =
    ap (λ (rs : List NamedRegion). rs ++ regions_of (larger_directory m directory) names) (name_larger m directory name)
    ∙ (ap (λ (rs : List NamedRegion). map (larger_named m) (regions_of_name directory name) ++ rs) (names_larger m directory names)
    ∙ sym (map-append (larger_named m) (regions_of_name directory name) (regions_of directory names)))

-- ---- sizes
tree_size : (m : ℕ) (below below' : Name → ℕ) (tree : Tree Member) → ((name : Name) → below' name ≡ below name)
    → sum_by (λ (member : Member). below' member.name) (leaves (larger_members m tree)) ≡ sum_by (λ (member : Member). below member.name) (leaves tree)
tree_size m below below' (Leaf member) h = ap (λ n. 0 + n) (h member.name)
tree_size m below below' (Join op l r) h =
    sum_by-append (λ (member : Member). below' member.name) (leaves (larger_members m l)) (leaves (larger_members m r))
    ∙ (ap (λ n. n + sum_by (λ (member : Member). below' member.name) (leaves (larger_members m r))) (tree_size m below below' l h)
    ∙ (ap (λ n. sum_by (λ (member : Member). below member.name) (leaves l) + n) (tree_size m below below' r h)
    ∙ sym (sum_by-append (λ (member : Member). below member.name) (leaves l) (leaves r))))

body_sizes : (m : ℕ) (below below' : Name → ℕ) (body : Body) → ((name : Name) → below' name ≡ below name) → body_size below' (larger_body m body) ≡ body_size below body
body_sizes m below below' (bodies.Solid solid) h = refl
body_sizes m below below' (bodies.Comb attr None) h = refl
body_sizes m below below' (bodies.Comb attr (Some tree)) h = tree_size m below below' tree h

object_sizes : (m : ℕ) (below below' : Name → ℕ) (object : Option Parts) → ((name : Name) → below' name ≡ below name) → object_size below' (option_map (larger_object m) object) ≡ object_size below object
object_sizes m below below' None h = refl
object_sizes m below below' (Some object) h = body_sizes m below below' object.body h

sizes_same : (m levels : ℕ) (directory : Entries) (name : Name) → size_within levels (larger_directory m directory) name ≡ size_within levels directory name
sizes_same m zero directory name = refl
sizes_same m (suc levels) directory name =
    ap (object_size (size_within levels (larger_directory m directory))) (object_larger m directory name)
    ∙ object_sizes m (size_within levels directory) (size_within levels (larger_directory m directory)) (object_of directory name) (sizes_same m levels directory)

size_same : (m : ℕ) (directory : Entries) (name : Name) → size_of_name (larger_directory m directory) name ≡ size_of_name directory name
unfolding size_of_name
size_same m directory name = sizes_same m most_levels directory name

-- the sum of the same numbers
sum_same : {A : Type 0} (f g : A → ℕ) (xs : List A) → ((x : A) → f x ≡ g x) → sum_by f xs ≡ sum_by g xs
sum_same f g [] h = refl
sum_same f g (x ∷ xs) h =
    sum_by-cons f x xs ∙ (ap (λ n. n + sum_by f xs) (h x) ∙ (ap (λ n. g x + n) (sum_same f g xs h) ∙ sym (sum_by-cons g x xs)))

pub names_size_same : (m : ℕ) (directory : Entries) (names : List Name) → names_size (larger_directory m directory) names ≡ names_size directory names
names_size_same m directory names = sum_same (size_of_name (larger_directory m directory)) (size_of_name directory) names (size_same m directory)
