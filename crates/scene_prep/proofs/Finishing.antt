-- Bodies of trees that were written.
use Rattle.std.proofs.Common.{◌≡◌, ◌∙◌, ◌+◌, ◌≤◌, ◌<◌, ℕ, List, [], ◌∷◌, ◌++◌, length, map, ap, sym, arith, vec_len}
use Rattle.std.specs.Prelude.{None, Some, Option, IfSome}
use Rattle.std.proofs.lemmas.List.{length-map}
use Rattle.std.proofs.lemmas.List.Elements.{All-append, All-cons, All-nil}
use Rattle.tree_forms.specs.Trees.{Tree, Leaf, Join, leaves}
use Rattle.lattice_core.specs.declared.placement.Placement.{Placement}
use Rattle.region_attr.specs.declared.attr.Rgb.{Rgb}
use Rattle.comb_tree.specs.Nodes.{Member, comb_nodes}
use Rattle.directory.specs.Walks.{Entries}
use Rattle.solid_set.specs.declared.placed.Placed.{Placed}
use Rattle.solid_set.specs.declared.solid.Solid.{Solid as AnySolid}
use Rattle.bool_weave.specs.Masks.{Mask, mask_nodes, mask_of}
use Rattle.bool_weave.specs.declared.mask.MaskNode.{MaskNode}
use Rattle.bool_weave.proofs.Held.{mask_back}
use Rattle.shot_core.specs.Regions.{Instance, RegionBody, HasLeavesBelow}
use Rattle.shot_core.specs.Prepared.{instance_of}
use Rattle.scene_prep.specs.declared.expansion.Expansion.{Expansion}
use Rattle.scene_prep.specs.Solids.{Expanded, placed_solid, solids_of, numbered, placed_tree, in_world}
use Rattle.scene_prep.specs.Expanding.{expanded, expanded_tree}
use Rattle.scene_prep.specs.Sizes.{size_of_name}
use Rattle.scene_prep.specs.Levels.{nodes_size}
use Rattle.scene_prep.specs.Writing.{Writes}
use Rattle.scene_prep.specs.Walking.{IsWritten, finished, body_at}
use Rattle.scene_prep.proofs.Numbers.{leaves-map, tree_count, sizes_count_leaves}
use Rattle.scene_prep.proofs.Sizing.{tree_sized}
use Rattle.scene_prep.proofs.Writing.{count_joined, numbered_placed}
use Rattle.std.specs.Option.{option_map}

pub written_first : (old new : Expansion) (tree : Expanded) → old.nodes.items ≡ [] → old.solids.items ≡ [] → Writes old new tree → IsWritten new tree
written_first old new tree no_nodes no_solids w =
    let none : vec_len old.solids ≡ 0 = omega (arith, ap length no_solids, old.solids.ok.0) in record {
      nodes = w.nodes ∙ ap (λ (ns : List MaskNode). ns ++ mask_nodes (numbered (vec_len old.solids) tree)) no_nodes ∙ ap (λ (n : ℕ). mask_nodes (numbered n tree)) none;
      solids = w.solids ∙ ap (λ (ps : List Placed). map instance_of ps ++ map in_world (solids_of tree)) no_solids;
    }

pub mask_is : (out : Expansion) (tree : Expanded) (mask : Mask) → mask_nodes mask ≡ out.nodes.items → IsWritten out tree → mask ≡ numbered 0 tree
mask_is out tree mask is w = sym (mask_back mask) ∙ ap mask_of (is ∙ w.nodes) ∙ mask_back (numbered 0 tree)

pub below : (bound first : ℕ) (tree : Expanded) → first + length (solids_of tree) ≤ bound → HasLeavesBelow bound (numbered first tree)
below bound first (Leaf None) le = All-cons (λ (leaf : Option ℕ). IfSome leaf (λ i. i < bound)) None [] tt (All-nil (λ (leaf : Option ℕ). IfSome leaf (λ i. i < bound)))
below bound first (Leaf (Some one)) le =
    All-cons (λ (leaf : Option ℕ). IfSome leaf (λ i. i < bound)) (Some first) [] (omega (arith, le)) (All-nil (λ (leaf : Option ℕ). IfSome leaf (λ i. i < bound)))
below bound first (Join op l r) le =
    All-append (λ (leaf : Option ℕ). IfSome leaf (λ i. i < bound)) (leaves (numbered first l)) (leaves (numbered (first + length (solids_of l)) r))
    (below bound first l (omega (arith, le, count_joined op l r))) (below bound (first + length (solids_of l)) r (omega (arith, le, count_joined op l r)))

pub solids_counted : (out : Expansion) (tree : Expanded) → IsWritten out tree → length out.solids.items ≡ length (solids_of tree)
solids_counted out tree w = omega (arith, ap length w.solids, length-map out.solids.items instance_of, length-map (solids_of tree) in_world)

pub leaves_below : (out : Expansion) (tree : Expanded) (bound : ℕ) → IsWritten out tree → bound ≡ length out.solids.items → HasLeavesBelow bound (numbered 0 tree)
leaves_below out tree bound w is = below bound 0 tree (omega (arith, is, solids_counted out tree w))

abbrev body_with : Rgb → ℕ → ℕ → Mask → List Instance → RegionBody
body_with rgb id air tree instances = record { id = id; air = air; rgb = rgb; tree = tree; instances = instances }

pub finished_is : (out : Expansion) (tree : Expanded) (mask : Mask) (solids : List Placed) (rgb : Rgb) (id air : ℕ) → mask_nodes mask ≡ out.nodes.items → solids ≡ out.solids.items → IsWritten out tree
    → body_with rgb id air mask (map instance_of solids) ≡ finished rgb id air tree
finished_is out tree mask solids rgb id air is same w =
    ap (λ (m : Mask). body_with rgb id air m (map instance_of solids)) (mask_is out tree mask is w)
    ∙ ap (λ (is : List Instance). body_with rgb id air (numbered 0 tree) is) (ap (λ (ps : List Placed). map instance_of ps) same ∙ w.solids)

pub placed_finished : (by : Placement) (rgb : Rgb) (id air : ℕ) (tree : Expanded) → finished rgb id air (placed_tree by tree) ≡ body_at by rgb id air tree
placed_finished by rgb id air tree = ap (λ (m : Mask). body_with rgb id air m (map in_world (solids_of (placed_tree by tree)))) (numbered_placed 0 by tree)

-- a tree has as many leaves as its nodes have together
pub tree_leaves : (directory : Entries) (by : Placement) (t : Tree Member) → length (leaves (placed_tree by (expanded_tree (expanded directory) t))) ≡ nodes_size directory (comb_nodes (Some t))
tree_leaves directory by t =
    leaves-map (option_map (placed_solid by)) (expanded_tree (expanded directory) t) ∙ sym (tree_count (expanded directory) (size_of_name directory) (sizes_count_leaves directory) t) ∙ sym (tree_sized directory t)

-- a solid that is placed
abbrev pub one_solid : AnySolid → Placement → Expanded
one_solid solid by = Leaf (Some (record { solid = solid; placements = by ∷ [] }))
