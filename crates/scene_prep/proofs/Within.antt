-- The regions of names are together no larger than the names.
use Rattle.std.proofs.Common.{◌≡◌, ◌∙◌, ◌+◌, ◌≤◌, ℕ, zero, suc, List, [], ◌∷◌, ◌++◌, length, map, refl, ap, sym, arith, Bool, true, false}
use Rattle.std.specs.Prelude.{None, Some, Option, cond, sum_by}
use Rattle.std.proofs.lemmas.List.Sums.{sum_by-append}
use Rattle.std.specs.Option.{option_map}
use Rattle.tree_forms.specs.declared.Op.TheVariants.{U, N, Minus, X}
use Rattle.tree_forms.specs.Trees.{Tree, Leaf, Join, leaves}
use Rattle.lattice_core.specs.declared.placement.Placement.{Placement}
use Rattle.name_core.specs.declared.name.Name.{Name}
use Rattle.region_attr.specs.declared.attr.Attr.{Attr}
use Rattle.comb_tree.specs.Nodes.{Member}
use Rattle.object_set.specs.declared.object.Body.{Body}
use Rattle.object_set.specs.declared.object.Body.TheVariants as bodies
use Rattle.object_set.specs.Objects.{Parts}
use Rattle.directory.specs.Walks.{Entries, object_of}
use Rattle.scene_prep.specs.Solids.{placed_solid}
use Rattle.scene_prep.specs.Expanding.{expanded_within, expanded_tree, most_levels}
use Rattle.scene_prep.specs.Regions.{NamedRegion, within_comb, placed_region, whole_region, node_region, united_parts, regions_united, regions_of_tree, regions_of_body, regions_of_object, regions_within, regions_of_name, regions_of}
use Rattle.scene_prep.specs.Sizes.{size_of_name, names_size, size_within, body_size, object_size}
use Rattle.scene_prep.proofs.Numbers.{leaves-map, tree_count, within_count}

abbrev pub total : List NamedRegion → ℕ
total regions = sum_by (λ region. length (leaves region.tree)) regions

abbrev pub tree_size : (Name → ℕ) → Tree Member → ℕ
tree_size size t = sum_by (λ member. size member.name) (leaves t)

pub sum_first : {A : Type 0} (f : A → ℕ) (x : A) (xs : List A) → sum_by f (x ∷ xs) ≡ f x + sum_by f xs
sum_first f x xs =
    let one : sum_by f (x ∷ []) ≡ f x = omega arith in
    sum_by-append f (x ∷ []) xs ∙ ap (λ n. n + sum_by f xs) one

pub total_first : (region : NamedRegion) (regions : List NamedRegion) → total (region ∷ regions) ≡ length (leaves region.tree) + total regions
total_first region regions = sum_first (λ region. length (leaves region.tree)) region regions

total-append : (xs ys : List NamedRegion) → total (xs ++ ys) ≡ total xs + total ys
total-append xs ys = sum_by-append (λ region. length (leaves region.tree)) xs ys

total-placed : (by : Placement) (regions : List NamedRegion) → total (map (placed_region by) regions) ≡ total regions
total-placed by [] = refl
total-placed by (region ∷ regions) =
    total_first (placed_region by region) (map (placed_region by) regions)
    ∙ ap (λ n. n + total (map (placed_region by) regions)) (leaves-map (option_map (placed_solid by)) region.tree)
    ∙ ap (λ n. length (leaves region.tree) + n) (total-placed by regions)
    ∙ sym (total_first region regions)

total-within : (name : Name) (attr : Attr) (regions : List NamedRegion) → total (map (within_comb name attr) regions) ≡ total regions
total-within name attr [] = refl
total-within name attr (region ∷ regions) =
    total_first (within_comb name attr region) (map (within_comb name attr) regions)
    ∙ ap (λ n. length (leaves region.tree) + n) (total-within name attr regions)
    ∙ sym (total_first region regions)

pub of_united : (size : Name → ℕ) (t : Tree Member) → sum_by (tree_size size) (united_parts t) ≡ tree_size size t
of_united size (Leaf member) = omega arith
of_united size (Join U l r) = omega (arith, sum_by-append (tree_size size) (united_parts l) (united_parts r), sum_by-append (λ (member : Member). size member.name) (leaves l) (leaves r), of_united size l, of_united size r)
of_united size (Join N l r) = omega arith
of_united size (Join Minus l r) = omega arith
of_united size (Join X l r) = omega arith

of_parts : (levels : ℕ) (directory : Entries) (number : ℕ) (parts : List (Tree Member)) → ((name : Name) → total (regions_within levels directory name) ≤ size_within levels directory name)
    → total (regions_united (expanded_within levels directory) (regions_within levels directory) number parts) ≤ sum_by (tree_size (size_within levels directory)) parts
of_parts levels directory number [] each = omega arith
of_parts levels directory number (Leaf member ∷ parts) each =
    let whole : total (regions_united (expanded_within levels directory) (regions_within levels directory) number (Leaf member ∷ parts))
    ≡ total (map (placed_region member.placement) (regions_within levels directory member.name)) + total (regions_united (expanded_within levels directory) (regions_within levels directory) number parts) =
    total-append (map (placed_region member.placement) (regions_within levels directory member.name)) (regions_united (expanded_within levels directory) (regions_within levels directory) number parts) in
    let one : tree_size (size_within levels directory) (Leaf member) ≡ size_within levels directory member.name = omega arith in
    let sizes : sum_by (tree_size (size_within levels directory)) (Leaf member ∷ parts) ≡ tree_size (size_within levels directory) (Leaf member) + sum_by (tree_size (size_within levels directory)) parts = sum_first (tree_size (size_within levels directory)) (Leaf member) parts in
    omega (arith, whole, one, sizes, total-placed member.placement (regions_within levels directory member.name), each member.name, of_parts levels directory number parts each)
of_parts levels directory number (Join op l r ∷ parts) each =
    let whole : total (regions_united (expanded_within levels directory) (regions_within levels directory) number (Join op l r ∷ parts))
    ≡ length (leaves (expanded_tree (expanded_within levels directory) (Join op l r))) + total (regions_united (expanded_within levels directory) (regions_within levels directory) (number + 1) parts) =
    total_first (node_region (expanded_within levels directory) number (Join op l r)) (regions_united (expanded_within levels directory) (regions_within levels directory) (number + 1) parts) in
    let sizes : sum_by (tree_size (size_within levels directory)) (Join op l r ∷ parts) ≡ tree_size (size_within levels directory) (Join op l r) + sum_by (tree_size (size_within levels directory)) parts = sum_first (tree_size (size_within levels directory)) (Join op l r) parts in
    omega (arith, whole, sizes, tree_count (expanded_within levels directory) (size_within levels directory) (within_count levels directory) (Join op l r), of_parts levels directory (number + 1) parts each)

of_choice : (levels : ℕ) (directory : Entries) (attr : Attr) (t : Tree Member) (marked : Bool) → ((name : Name) → total (regions_within levels directory name) ≤ size_within levels directory name)
    → total (cond marked (whole_region (expanded_within levels directory) attr t ∷ []) (regions_united (expanded_within levels directory) (regions_within levels directory) 1 (united_parts t))) ≤ tree_size (size_within levels directory) t
of_choice levels directory attr t true each = omega (arith, tree_count (expanded_within levels directory) (size_within levels directory) (within_count levels directory) t)
of_choice levels directory attr t false each = omega (arith, of_parts levels directory 1 (united_parts t) each, of_united (size_within levels directory) t)

of_body : (levels : ℕ) (directory : Entries) (name : Name) (body : Body) → ((name : Name) → total (regions_within levels directory name) ≤ size_within levels directory name)
    → total (regions_of_body (expanded_within levels directory) (regions_within levels directory) name body) ≤ body_size (size_within levels directory) body
of_body levels directory name (bodies.Solid solid) each = omega arith
of_body levels directory name (bodies.Comb attr None) each = omega arith
of_body levels directory name (bodies.Comb attr (Some t)) each =
    omega (arith, total-within name attr (regions_of_tree (expanded_within levels directory) (regions_within levels directory) attr t), of_choice levels directory attr t attr.region each)

of_object : (levels : ℕ) (directory : Entries) (name : Name) (o : Option Parts) → ((name : Name) → total (regions_within levels directory name) ≤ size_within levels directory name)
    → total (regions_of_object (expanded_within levels directory) (regions_within levels directory) name o) ≤ object_size (size_within levels directory) o
of_object levels directory name None each = omega arith
of_object levels directory name (Some object) each = of_body levels directory name object.body each

within_levels : (levels : ℕ) (directory : Entries) (name : Name) → total (regions_within levels directory name) ≤ size_within levels directory name
within_levels zero directory name = omega arith
within_levels (suc levels) directory name = of_object levels directory name (object_of directory name) (within_levels levels directory)

pub within_name : (directory : Entries) (name : Name) → total (regions_of_name directory name) ≤ size_of_name directory name
unfolding regions_of_name size_of_name
within_name directory name = within_levels most_levels directory name

pub regions_within_size : (directory : Entries) (names : List Name) → sum_by (λ region. length (leaves region.tree)) (regions_of directory names) ≤ names_size directory names
regions_within_size directory [] = omega arith
regions_within_size directory (name ∷ names) =
    let whole : total (regions_of directory (name ∷ names)) ≡ total (regions_of_name directory name) + total (regions_of directory names) = total-append (regions_of_name directory name) (regions_of directory names) in
    omega (arith, whole, sum_first (size_of_name directory) name names, within_name directory name, regions_within_size directory names)
