-- The numbers and the count of the leaves of expanded trees.
use Rattle.std.proofs.Common.{◌≡◌, ◌∙◌, ◌+◌, ℕ, zero, suc, ◌∷◌, ◌++◌, length, refl, ap, sym, arith}
use Rattle.std.specs.Prelude.{filter_map, sum_by, None, Some, Option}
use Rattle.std.specs.Option.{option_map}
use Rattle.std.specs.List.{range_with_len}
use Rattle.std.proofs.lemmas.List.Sums.{sum_by-append}
use Rattle.std.proofs.lemmas.List.Elements.{filter_map-append}
use Rattle.std.proofs.Common.{length-append}
use Rattle.tree_forms.specs.Trees.{Tree, Leaf, Join, leaves, map_leaves}
use Rattle.name_core.specs.declared.name.Name.{Name}
use Rattle.comb_tree.specs.Nodes.{Member}
use Rattle.object_set.specs.declared.object.Body.{Body}
use Rattle.object_set.specs.declared.object.Body.TheVariants as bodies
use Rattle.object_set.specs.Objects.{Parts}
use Rattle.directory.specs.Walks.{Entries, object_of}
use Rattle.scene_prep.specs.Solids.{Expanded, solids_of, numbered, placed_solid}
use Rattle.scene_prep.specs.Expanding.{expanded, expanded_within, expanded_tree, expanded_object, expanded_body, most_levels}
use Rattle.scene_prep.specs.Sizes.{size_of_name, size_within, object_size, body_size}

-- a range in two parts
pub range_split : (a m n : ℕ) → range_with_len a (m + n) ≡ range_with_len a m ++ range_with_len (a + m) n
range_split a zero n =
    let count : 0 + n ≡ n = omega arith in
    let moved : a ≡ a + 0 = omega arith in
    ap (range_with_len a) count ∙ ap (λ b. range_with_len b n) moved
range_split a (suc m) n =
    let count : suc m + n ≡ suc (m + n) = omega arith in
    let moved : a + 1 + m ≡ a + suc m = omega arith in
    ap (range_with_len a) count ∙ ap (λ xs. a ∷ xs) (range_split (a + 1) m n ∙ ap (λ b. range_with_len (a + 1) m ++ range_with_len b n) moved)

pub numbers_follow : (first : ℕ) (tree : Expanded) → filter_map (λ leaf. leaf) (leaves (numbered first tree)) ≡ range_with_len first (length (solids_of tree))
numbers_follow first (Leaf None) = refl
numbers_follow first (Leaf (Some one)) = refl
numbers_follow first (Join op l r) =
    let n : ℕ = length (solids_of l) in
    filter_map-append (λ leaf. leaf) (leaves (numbered first l)) (leaves (numbered (first + n) r))
    ∙ ap (λ xs. xs ++ filter_map (λ leaf. leaf) (leaves (numbered (first + n) r))) (numbers_follow first l)
    ∙ ap (λ xs. range_with_len first n ++ xs) (numbers_follow (first + n) r)
    ∙ sym (range_split first n (length (solids_of r)))
    ∙ ap (range_with_len first) (sym (ap length (filter_map-append (λ leaf. leaf) (leaves l) (leaves r)) ∙ length-append (solids_of l) (solids_of r)))

pub leaves-map : {A B : Type 0} (f : A → B) (t : Tree A) → length (leaves (map_leaves f t)) ≡ length (leaves t)
leaves-map f (Leaf a) = refl
leaves-map f (Join op l r) = omega (arith, length-append (leaves (map_leaves f l)) (leaves (map_leaves f r)), length-append (leaves l) (leaves r), leaves-map f l, leaves-map f r)

-- a tree's leaves are as many as those of its members
pub tree_count : (below : Name → Expanded) (size : Name → ℕ) → ((name : Name) → size name ≡ length (leaves (below name)))
    → (t : Tree Member) → sum_by (λ member. size member.name) (leaves t) ≡ length (leaves (expanded_tree below t))
tree_count below size each (Leaf member) = omega (arith, each member.name, leaves-map (option_map (placed_solid member.placement)) (below member.name))
tree_count below size each (Join op l r) = omega (arith, sum_by-append (λ (member : Member). size member.name) (leaves l) (leaves r), length-append (leaves (expanded_tree below l)) (leaves (expanded_tree below r)), tree_count below size each l, tree_count below size each r)

body_count : (below : Name → Expanded) (size : Name → ℕ) → ((name : Name) → size name ≡ length (leaves (below name)))
    → (b : Body) → body_size size b ≡ length (leaves (expanded_body below b))
body_count below size each (bodies.Solid solid) = refl
body_count below size each (bodies.Comb attr None) = refl
body_count below size each (bodies.Comb attr (Some tree)) = tree_count below size each tree

object_count : (below : Name → Expanded) (size : Name → ℕ) → ((name : Name) → size name ≡ length (leaves (below name)))
    → (o : Option Parts) → object_size size o ≡ length (leaves (expanded_object below o))
object_count below size each None = refl
object_count below size each (Some object) = body_count below size each object.body

pub within_count : (levels : ℕ) (directory : Entries) (name : Name) → size_within levels directory name ≡ length (leaves (expanded_within levels directory name))
within_count zero directory name = refl
within_count (suc levels) directory name = object_count (expanded_within levels directory) (size_within levels directory) (within_count levels directory) (object_of directory name)

pub sizes_count_leaves : (directory : Entries) (name : Name) → size_of_name directory name ≡ length (leaves (expanded directory name))
unfolding size_of_name expanded
sizes_count_leaves directory name = within_count most_levels directory name
