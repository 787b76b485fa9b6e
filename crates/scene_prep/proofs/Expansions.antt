-- What is written of a name.
use Rattle.std.proofs.Common.{◌≡◌, ◌∙◌, ◌+◌, ◌<◌, ◌-◌, ℕ, List, [], ◌∷◌, ◌++◌, length, map, refl, ap, sym, subst, arith}
use Rattle.std.specs.Prelude.{None, Some}
use Rattle.std.proofs.lemmas.List.{map-append}
use Rattle.tree_forms.specs.Trees.{Tree, Leaf}
use Rattle.lattice_core.specs.declared.placement.Placement.{Placement}
use Rattle.name_core.specs.declared.name.Name.{Name}
use Rattle.region_attr.specs.declared.attr.Attr.{Attr}
use Rattle.comb_tree.specs.declared.node.CombNode.{CombNode}
use Rattle.comb_tree.specs.Nodes.{Member, Comb as CombTree, comb_nodes}
use Rattle.object_set.specs.declared.object.Body.{Body}
use Rattle.object_set.specs.declared.object.Body.TheVariants as bodies
use Rattle.object_set.specs.Objects.{Parts}
use Rattle.directory.specs.Walks.{Entries, object_of, IsSound}
use Rattle.solid_set.specs.declared.solid.Solid.{Solid as AnySolid}
use Rattle.solid_set.specs.declared.placed.Placed.{Placed}
use Rattle.solid_set.specs.declared.surface.Surface.{Surface}
use Rattle.lattice_core.specs.declared.boxes.Box3.{Box3}
use Rattle.solid_set.specs.Surfaces.{surface_of, bounds_of}
use Rattle.bool_weave.specs.declared.mask.MaskNode.TheVariants as mask
use Rattle.shot_core.specs.Regions.{Instance}
use Rattle.shot_core.specs.Prepared.{instance_of}
use Rattle.scene_prep.specs.Solids.{Expanded, placed_tree, in_world}
use Rattle.scene_prep.specs.Expanding.{expanded, expanded_tree, expanded_body, expanded_object}
use Rattle.scene_prep.specs.Levels.{IsPlacedAbove}
use Rattle.scene_prep.specs.Writing.{Writes, WritesOne}
use Rattle.scene_prep.specs.declared.expansion.Expansion.{Expansion}
use Rattle.scene_prep.proofs.Sizing.{postfix_some}
use Rattle.scene_prep.proofs.Whole.{trees_whole}
use Rattle.scene_prep.proofs.Worlds.{instance_by, world_of_one}

append_none : {A : Type 0} (xs : List A) → xs ++ [] ≡ xs
append_none [] = refl
append_none {A} (x ∷ xs) = ap (λ (ys : List A). x ∷ ys) (append_none xs)

never_written : (old new : Expansion) → WritesOne old new mask.Never → Writes old new (Leaf None)
never_written old new w = record { nodes = w.nodes; solids = w.solids ∙ sym (append_none (map instance_of old.solids.items)) }

-- a solid that is placed stands for its surface and its box
pub instance_is : (solid : AnySolid) (by : Placement) (placed : Placed) → placed.surface ≡ surface_of solid by → placed.bounds ≡ bounds_of solid by
    → instance_of placed ≡ in_world (record { solid = solid; placements = by ∷ [] })
instance_is solid by placed s b =
    ap (λ (x : Surface). instance_by x placed.bounds) s ∙ ap (λ (x : Box3). instance_by (surface_of solid by) x) b ∙ sym (world_of_one solid by)

pub one_more : (xs ys : List Placed) (placed : Placed) (i : Instance) → ys ≡ xs ++ placed ∷ [] → instance_of placed ≡ i → map instance_of ys ≡ map instance_of xs ++ i ∷ []
one_more xs ys placed i e is =
    ap (λ (zs : List Placed). map instance_of zs) e ∙ map-append instance_of xs (placed ∷ []) ∙ ap (λ (x : Instance). map instance_of xs ++ x ∷ []) is

body_expanded : (directory : Entries) (name : Name) (o : Parts) (body : Body) → IsSound directory → object_of directory name ≡ Some o → o.body ≡ body → expanded directory name ≡ expanded_body (expanded directory) body
body_expanded directory name o body sound is at =
    trees_whole directory sound name ∙ ap (expanded_object (expanded directory)) is ∙ ap (expanded_body (expanded directory)) at

pub missing_written : (directory : Entries) (name : Name) (by : Placement) (old new : Expansion) → IsSound directory → object_of directory name ≡ None → WritesOne old new mask.Never → Writes old new (placed_tree by (expanded directory name))
missing_written directory name by old new sound is w =
    subst (λ (t : Expanded). Writes old new (placed_tree by t)) (sym (trees_whole directory sound name ∙ ap (expanded_object (expanded directory)) is)) (never_written old new w)

pub solid_written : (directory : Entries) (name : Name) (o : Parts) (solid : AnySolid) (by : Placement) (old new : Expansion) → IsSound directory → object_of directory name ≡ Some o → o.body ≡ bodies.Solid solid
    → Writes old new (Leaf (Some (record { solid = solid; placements = by ∷ [] }))) → Writes old new (placed_tree by (expanded directory name))
solid_written directory name o solid by old new sound is at w =
    subst (λ (t : Expanded). Writes old new (placed_tree by t)) (sym (body_expanded directory name o (bodies.Solid solid) sound is at)) w

pub empty_written : (directory : Entries) (name : Name) (o : Parts) (attr : Attr) (tree : CombTree) (by : Placement) (old new : Expansion) → IsSound directory → object_of directory name ≡ Some o → o.body ≡ bodies.Comb attr tree
    → length (comb_nodes tree) ≡ 0 → WritesOne old new mask.Never → Writes old new (placed_tree by (expanded directory name))
empty_written directory name o attr None by old new sound is at none w =
    subst (λ (t : Expanded). Writes old new (placed_tree by t)) (sym (body_expanded directory name o (bodies.Comb attr None) sound is at)) (never_written old new w)
empty_written directory name o attr (Some t) by old new sound is at none w = absurd (omega (arith, none, postfix_some t))

pub comb_written : (directory : Entries) (name : Name) (o : Parts) (attr : Attr) (tree : CombTree) (nodes : List CombNode) (by : Placement) (old new : Expansion) → IsSound directory → object_of directory name ≡ Some o
    → o.body ≡ bodies.Comb attr tree → nodes ≡ comb_nodes tree → 0 < length nodes
    → ((t : Tree Member) → comb_nodes (Some t) ≡ nodes → Writes old new (placed_tree by (expanded_tree (expanded directory) t))) → Writes old new (placed_tree by (expanded directory name))
comb_written directory name o attr None nodes by old new sound is at same some h = absurd (omega (arith, some, ap length same))
comb_written directory name o attr (Some t) nodes by old new sound is at same some h =
    subst (λ (x : Expanded). Writes old new (placed_tree by x)) (sym (body_expanded directory name o (bodies.Comb attr (Some t)) sound is at)) (h t (sym same))

pub above_again : (levels : ℕ) (by : Placement) → 0 < levels → IsPlacedAbove levels by → IsPlacedAbove (levels - 1 + 1) by
above_again levels by deep h =
    let same : levels ≡ levels - 1 + 1 = omega (arith, deep) in
    subst (λ (n : ℕ). IsPlacedAbove n by) same h
