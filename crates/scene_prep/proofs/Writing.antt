-- Trees as they are written, node by node.
use Rattle.std.proofs.Common.{◌≡◌, ◌∙◌, ◌+◌, ◌≤◌, ◌<◌, ◌-◌, ◌*◌, ℕ, ℤ, pos, ◌+ℤ◌, List, [], ◌∷◌, ◌++◌, length, map, refl, ap, sym, subst, arith, take, get_or, append_assoc, length-append, vec_len}
use Rattle.std.specs.Int.RustNames.{unsigned_abs}
use Rattle.std.specs.Prelude.{None, Some}
use Rattle.std.proofs.lemmas.List.{length-map, map-append, take_more}
use Rattle.std.proofs.lemmas.List.Elements.{filter_map-append}
use Rattle.std.proofs.lemmas.List.Sums.{sum_by-cons, sum_by_more, sum_by-take-le}
use Rattle.std.proofs.lemmas.Int.{ints}
use Rattle.tree_forms.specs.declared.Op.{Op}
use Rattle.tree_forms.specs.declared.Op.TheVariants as op
use Rattle.tree_forms.specs.Trees.{Tree, Leaf, Join, leaves, postfix}
use Rattle.lattice_core.specs.declared.limit.TheConstants.{COORD, SHIFT, REACH}
use Rattle.lattice_core.specs.declared.vector.V3.{V3}
use Rattle.lattice_core.specs.declared.placement.Placement.{Placement}
use Rattle.lattice_core.specs.Limits.{IsAtMost, IsUnder, IsWithin, IsBelow}
use Rattle.lattice_core.specs.Placements.{placed, IsComposed}
use Rattle.lattice_core.specs.Turns.{turned}
use Rattle.lattice_core.specs.Vectors.{vector_sum, zero_vector}
use Rattle.lattice_core.proofs.Turning.{turned_within}
use Rattle.name_core.specs.declared.name.Name.{Name}
use Rattle.comb_tree.specs.declared.node.CombNode.{CombNode}
use Rattle.comb_tree.specs.declared.node.CombNode.TheVariants as node
use Rattle.comb_tree.specs.Nodes.{Member, leaf, apply}
use Rattle.directory.specs.Walks.{Entries, most_depth}
use Rattle.bool_weave.specs.Masks.{mask_nodes, Mask}
use Rattle.bool_weave.specs.Masks as masks
use Rattle.bool_weave.specs.declared.mask.MaskNode.{MaskNode}
use Rattle.bool_weave.specs.declared.mask.MaskNode.TheVariants as mask
use Rattle.shot_core.specs.Regions.{Instance}
use Rattle.shot_core.specs.Prepared.{instance_of}
use Rattle.scene_prep.specs.Solids.{PlacedSolid, Expanded, solids_of, numbered, placed_tree, in_world}
use Rattle.scene_prep.specs.Expanding.{expanded, expanded_tree}
use Rattle.scene_prep.specs.Levels.{IsPlacedAbove, node_size, nodes_size}
use Rattle.scene_prep.specs.Writing.{Writes, WritesNode}
use Rattle.scene_prep.specs.declared.expansion.Expansion.{Expansion}
use Rattle.scene_prep.proofs.Numbers.{sizes_count_leaves}
use Rattle.solid_set.proofs.UnderPlacements.{turned_zero, zero_sum}
use Rattle.scene_prep.proofs.Worlds.{same_world}

-- ---- the solids of trees
pub solids_joined : (o : Op) (l r : Expanded) → solids_of (Join o l r) ≡ solids_of l ++ solids_of r
solids_joined o l r = filter_map-append (λ leaf. leaf) (leaves l) (leaves r)

pub worlds_joined : (o : Op) (l r : Expanded) → map in_world (solids_of (Join o l r)) ≡ map in_world (solids_of l) ++ map in_world (solids_of r)
worlds_joined o l r = ap (λ (xs : List PlacedSolid). map in_world xs) (solids_joined o l r) ∙ map-append in_world (solids_of l) (solids_of r)

pub count_joined : (o : Op) (l r : Expanded) → length (solids_of (Join o l r)) ≡ length (solids_of l) + length (solids_of r)
count_joined o l r = ap length (solids_joined o l r) ∙ length-append (solids_of l) (solids_of r)

pub count_placed : (by : Placement) (t : Expanded) → length (solids_of (placed_tree by t)) ≡ length (solids_of t)
count_placed by (Leaf None) = refl
count_placed by (Leaf (Some one)) = refl
count_placed by (Join o l r) = count_joined o (placed_tree by l) (placed_tree by r) ∙ omega (arith, count_placed by l, count_placed by r, count_joined o l r)

pub solids_within : (t : Expanded) → length (solids_of t) ≤ length (leaves t)
solids_within (Leaf None) = omega arith
solids_within (Leaf (Some one)) = omega arith
solids_within (Join o l r) = omega (arith, count_joined o l r, length-append (leaves l) (leaves r), solids_within l, solids_within r)

pub numbered_placed : (first : ℕ) (by : Placement) (t : Expanded) → numbered first (placed_tree by t) ≡ numbered first t
numbered_placed first by (Leaf None) = refl
numbered_placed first by (Leaf (Some one)) = refl
numbered_placed first by (Join o l r) =
    ap (λ (x : Mask). Join o x (numbered (first + length (solids_of (placed_tree by l))) (placed_tree by r))) (numbered_placed first by l)
    ∙ ap (λ (x : Mask). Join o (numbered first l) x) (numbered_placed (first + length (solids_of (placed_tree by l))) by r)
    ∙ ap (λ (n : ℕ). Join o (numbered first l) (numbered (first + n) r)) (count_placed by l)

pub worlds_composed : (both upper lower : Placement) → IsComposed both upper lower → (t : Expanded)
    → map in_world (solids_of (placed_tree both t)) ≡ map in_world (solids_of (placed_tree upper (placed_tree lower t)))
worlds_composed both upper lower composed (Leaf None) = refl
worlds_composed both upper lower composed (Leaf (Some one)) =
    ap (λ (i : Instance). i ∷ []) (same_world one.solid (both ∷ one.placements) (upper ∷ lower ∷ one.placements) (λ p. composed _))
worlds_composed both upper lower composed (Join o l r) =
    worlds_joined o (placed_tree both l) (placed_tree both r)
    ∙ ap (λ (xs : List Instance). xs ++ map in_world (solids_of (placed_tree both r))) (worlds_composed both upper lower composed l)
    ∙ ap (λ (xs : List Instance). map in_world (solids_of (placed_tree upper (placed_tree lower l))) ++ xs) (worlds_composed both upper lower composed r)
    ∙ sym (worlds_joined o (placed_tree upper (placed_tree lower l)) (placed_tree upper (placed_tree lower r)))

-- what is written of a tree that is placed by the composed placement is written of the tree that is placed by both
pub writes_composed : (old new : Expansion) (both upper lower : Placement) → IsComposed both upper lower → (t : Expanded) → Writes old new (placed_tree both t) → Writes old new (placed_tree upper (placed_tree lower t))
writes_composed old new both upper lower composed t w = record {
  nodes = w.nodes
      ∙ ap (λ (m : Mask). old.nodes.items ++ mask_nodes m)
      (numbered_placed (vec_len old.solids) both t ∙ sym (numbered_placed (vec_len old.solids) lower t) ∙ sym (numbered_placed (vec_len old.solids) upper (placed_tree lower t)));
  solids = w.solids ∙ ap (λ (xs : List Instance). map instance_of old.solids.items ++ xs) (worlds_composed both upper lower composed t);
}

-- ---- nodes of a combination, one after the other
module _ (directory : Entries) (by : Placement) where
  -- a leaf's member, placed
  abbrev member_tree : Name → Placement → Expanded
  member_tree name placement = placed_tree by (placed_tree placement (expanded directory name))

  abbrev node_solids : CombNode → List PlacedSolid
  node_solids (node.Leaf name placement) = solids_of (member_tree name placement)
  node_solids node.U = []
  node_solids node.N = []
  node_solids node.Minus = []
  node_solids node.X = []

  abbrev node_masks : ℕ → CombNode → List MaskNode
  node_masks first (node.Leaf name placement) = mask_nodes (numbered first (member_tree name placement))
  node_masks first node.U = mask.U ∷ []
  node_masks first node.N = mask.N ∷ []
  node_masks first node.Minus = mask.Minus ∷ []
  node_masks first node.X = mask.X ∷ []

  abbrev forest_solids : List CombNode → List PlacedSolid
  forest_solids [] = []
  forest_solids (n ∷ ns) = node_solids n ++ forest_solids ns

  abbrev forest_masks : ℕ → List CombNode → List MaskNode
  forest_masks first [] = []
  forest_masks first (n ∷ ns) = node_masks first n ++ forest_masks (first + length (node_solids n)) ns

  append_none : {A : Type 0} (xs : List A) → xs ++ [] ≡ xs
  append_none [] = refl
  append_none {A} (x ∷ xs) = ap (λ (ys : List A). x ∷ ys) (append_none xs)

  solids-append : (xs ys : List CombNode) → forest_solids (xs ++ ys) ≡ forest_solids xs ++ forest_solids ys
  solids-append [] ys = refl
  solids-append (x ∷ xs) ys = ap (λ (zs : List PlacedSolid). node_solids x ++ zs) (solids-append xs ys) ∙ sym (append_assoc (node_solids x) (forest_solids xs) (forest_solids ys))

  masks-append : (first : ℕ) (xs ys : List CombNode) → forest_masks first (xs ++ ys) ≡ forest_masks first xs ++ forest_masks (first + length (forest_solids xs)) ys
  masks-append first [] ys = ap (λ (n : ℕ). forest_masks n ys) (omega arith)
  masks-append first (x ∷ xs) ys =
      let count : length (node_solids x ++ forest_solids xs) ≡ length (node_solids x) + length (forest_solids xs) = length-append (node_solids x) (forest_solids xs) in
      ap (λ (zs : List MaskNode). node_masks first x ++ zs) (masks-append (first + length (node_solids x)) xs ys)
      ∙ ap (λ (n : ℕ). node_masks first x ++ (forest_masks (first + length (node_solids x)) xs ++ forest_masks n ys)) (omega (arith, count))
      ∙ sym (append_assoc (node_masks first x) (forest_masks (first + length (node_solids x)) xs) (forest_masks (first + length (node_solids x ++ forest_solids xs)) ys))

  op_solids : (o : Op) → node_solids (apply o) ≡ []
  op_solids op.U = refl
  op_solids op.N = refl
  op_solids op.Minus = refl
  op_solids op.X = refl

  op_masks : (first : ℕ) (o : Op) → node_masks first (apply o) ≡ masks.apply o ∷ []
  op_masks first op.U = refl
  op_masks first op.N = refl
  op_masks first op.Minus = refl
  op_masks first op.X = refl

  abbrev whole_tree : Tree Member → Expanded
  whole_tree t = placed_tree by (expanded_tree (expanded directory) t)

  forest_of_tree : (t : Tree Member) → forest_solids (postfix leaf apply t) ≡ solids_of (whole_tree t)
  forest_of_tree (Leaf m) = append_none (solids_of (member_tree m.name m.placement))
  forest_of_tree (Join o l r) =
      solids-append (postfix leaf apply l) (postfix leaf apply r ++ apply o ∷ [])
      ∙ ap (λ (xs : List PlacedSolid). forest_solids (postfix leaf apply l) ++ xs)
      (solids-append (postfix leaf apply r) (apply o ∷ []) ∙ ap (λ (xs : List PlacedSolid). forest_solids (postfix leaf apply r) ++ (xs ++ [])) (op_solids o) ∙ append_none (forest_solids (postfix leaf apply r)) ∙ forest_of_tree r)
      ∙ ap (λ (xs : List PlacedSolid). xs ++ solids_of (whole_tree r)) (forest_of_tree l)
      ∙ sym (solids_joined o (whole_tree l) (whole_tree r))

  right_masks : (first : ℕ) (o : Op) (r : Tree Member) → forest_masks first (postfix leaf apply r) ≡ mask_nodes (numbered first (whole_tree r))
      → forest_masks first (postfix leaf apply r ++ apply o ∷ []) ≡ mask_nodes (numbered first (whole_tree r)) ++ masks.apply o ∷ []
  right_masks first o r is =
      masks-append first (postfix leaf apply r) (apply o ∷ [])
      ∙ ap (λ (xs : List MaskNode). xs ++ (node_masks (first + length (forest_solids (postfix leaf apply r))) (apply o) ++ [])) is
      ∙ ap (λ (xs : List MaskNode). mask_nodes (numbered first (whole_tree r)) ++ (xs ++ [])) (op_masks (first + length (forest_solids (postfix leaf apply r))) o)

  masks_of_tree : (first : ℕ) (t : Tree Member) → forest_masks first (postfix leaf apply t) ≡ mask_nodes (numbered first (whole_tree t))
  masks_of_tree first (Leaf m) = append_none (mask_nodes (numbered first (member_tree m.name m.placement)))
  masks_of_tree first (Join o l r) =
      masks-append first (postfix leaf apply l) (postfix leaf apply r ++ apply o ∷ [])
      ∙ ap (λ (xs : List PlacedSolid). forest_masks first (postfix leaf apply l) ++ forest_masks (first + length xs) (postfix leaf apply r ++ apply o ∷ [])) (forest_of_tree l)
      ∙ ap (λ (xs : List MaskNode). xs ++ forest_masks (first + length (solids_of (whole_tree l))) (postfix leaf apply r ++ apply o ∷ [])) (masks_of_tree first l)
      ∙ ap (λ (xs : List MaskNode). mask_nodes (numbered first (whole_tree l)) ++ xs) (right_masks (first + length (solids_of (whole_tree l))) o r (masks_of_tree (first + length (solids_of (whole_tree l))) r))

  -- what these nodes come to stands behind what was there before
  pub record HasWritten (old new : Expansion) (nodes : List CombNode) : Type 0 where
    pub nodes_are : new.nodes.items ≡ old.nodes.items ++ forest_masks (vec_len old.solids) nodes
    pub solids_are : map instance_of new.solids.items ≡ map instance_of old.solids.items ++ map in_world (forest_solids nodes)

  pub none_written : (old : Expansion) → HasWritten old old []
  none_written old = record { nodes_are = sym (append_none old.nodes.items); solids_are = sym (append_none (map instance_of old.solids.items)) }

  solids_counted : (old new : Expansion) (nodes : List CombNode) → HasWritten old new nodes → vec_len new.solids ≡ vec_len old.solids + length (forest_solids nodes)
  solids_counted old new nodes h =
      let all : length (map instance_of new.solids.items) ≡ length (map instance_of old.solids.items ++ map in_world (forest_solids nodes)) = ap length h.solids_are in
      let parts : length (map instance_of old.solids.items ++ map in_world (forest_solids nodes)) ≡ length (map instance_of old.solids.items) + length (map in_world (forest_solids nodes)) =
      length-append (map instance_of old.solids.items) (map in_world (forest_solids nodes)) in
      let a : length (map instance_of new.solids.items) ≡ length new.solids.items = length-map new.solids.items instance_of in
      let b : length (map instance_of old.solids.items) ≡ length old.solids.items = length-map old.solids.items instance_of in
      let d : length (map in_world (forest_solids nodes)) ≡ length (forest_solids nodes) = length-map (forest_solids nodes) in_world in
      omega (arith, all, parts, a, b, d, old.solids.ok.0, new.solids.ok.0)

  one_written : (old new : Expansion) (n : CombNode) → WritesNode directory by old new n
      → (new.nodes.items ≡ old.nodes.items ++ node_masks (vec_len old.solids) n) × (map instance_of new.solids.items ≡ map instance_of old.solids.items ++ map in_world (node_solids n))
  one_written old new (node.Leaf name placement) w = (w.nodes, w.solids)
  one_written old new node.U w = (w.nodes, w.solids ∙ sym (append_none (map instance_of old.solids.items)))
  one_written old new node.N w = (w.nodes, w.solids ∙ sym (append_none (map instance_of old.solids.items)))
  one_written old new node.Minus w = (w.nodes, w.solids ∙ sym (append_none (map instance_of old.solids.items)))
  one_written old new node.X w = (w.nodes, w.solids ∙ sym (append_none (map instance_of old.solids.items)))

  pub more_written : (old mid new : Expansion) (nodes : List CombNode) (n : CombNode) → HasWritten old mid nodes → WritesNode directory by mid new n → HasWritten old new (nodes ++ n ∷ [])
  more_written old mid new nodes n h w =
      let one = one_written mid new n w in record {
        nodes_are = one.0
            ∙ ap (λ (xs : List MaskNode). xs ++ node_masks (vec_len mid.solids) n) h.nodes_are
            ∙ append_assoc old.nodes.items (forest_masks (vec_len old.solids) nodes) (node_masks (vec_len mid.solids) n)
            ∙ ap (λ (k : ℕ). old.nodes.items ++ (forest_masks (vec_len old.solids) nodes ++ node_masks k n)) (solids_counted old mid nodes h)
            ∙ ap (λ (xs : List MaskNode). old.nodes.items ++ (forest_masks (vec_len old.solids) nodes ++ xs)) (sym (append_none (node_masks (vec_len old.solids + length (forest_solids nodes)) n)))
            ∙ ap (λ (xs : List MaskNode). old.nodes.items ++ xs) (sym (masks-append (vec_len old.solids) nodes (n ∷ [])));
        solids_are = one.1
            ∙ ap (λ (xs : List Instance). xs ++ map in_world (node_solids n)) h.solids_are
            ∙ append_assoc (map instance_of old.solids.items) (map in_world (forest_solids nodes)) (map in_world (node_solids n))
            ∙ ap (λ (xs : List Instance). map instance_of old.solids.items ++ xs)
            (sym (map-append in_world (forest_solids nodes) (node_solids n))
            ∙ ap (λ (xs : List PlacedSolid). map in_world (forest_solids nodes ++ xs)) (sym (append_none (node_solids n)))
            ∙ ap (λ (xs : List PlacedSolid). map in_world xs) (sym (solids-append nodes (n ∷ []))));
      }

  pub next_written : (old mid new : Expansion) (nodes : List CombNode) (i : ℕ) (n : CombNode) → i < length nodes → n ≡ get_or nodes i n → HasWritten old mid (take i nodes) → WritesNode directory by mid new n
      → HasWritten old new (take (i + 1) nodes)
  next_written old mid new nodes i n lt is h w =
      subst (λ (xs : List CombNode). HasWritten old new xs) (ap (λ (x : CombNode). take i nodes ++ x ∷ []) is ∙ sym (take_more nodes i n lt)) (more_written old mid new (take i nodes) n h w)

  pub all_written : (old new : Expansion) (nodes : List CombNode) (t : Tree Member) → postfix leaf apply t ≡ nodes → HasWritten old new nodes → Writes old new (whole_tree t)
  all_written old new nodes t is h = record {
    nodes = h.nodes_are ∙ ap (λ (ns : List CombNode). old.nodes.items ++ forest_masks (vec_len old.solids) ns) (sym is) ∙ ap (λ (xs : List MaskNode). old.nodes.items ++ xs) (masks_of_tree (vec_len old.solids) t);
    solids = h.solids_are ∙ ap (λ (ns : List CombNode). map instance_of old.solids.items ++ map in_world (forest_solids ns)) (sym is) ∙ ap (λ (xs : List PlacedSolid). map instance_of old.solids.items ++ map in_world xs) (forest_of_tree t);
  }

  -- ---- the solids are no more than the size
  node_within : (n : CombNode) → length (node_solids n) ≤ node_size directory n
  node_within (node.Leaf name placement) =
      omega (arith, count_placed by (placed_tree placement (expanded directory name)), count_placed placement (expanded directory name), solids_within (expanded directory name), sizes_count_leaves directory name)
  node_within node.U = omega arith
  node_within node.N = omega arith
  node_within node.Minus = omega arith
  node_within node.X = omega arith

  forest_within : (ns : List CombNode) → length (forest_solids ns) ≤ nodes_size directory ns
  forest_within [] = omega arith
  forest_within (n ∷ ns) = omega (arith, length-append (node_solids n) (forest_solids ns), sum_by-cons (node_size directory) n ns, node_within n, forest_within ns)

  pub room_next : (old mid : Expansion) (nodes : List CombNode) (i most : ℕ) (n : CombNode) → i < length nodes → n ≡ get_or nodes i n → HasWritten old mid (take i nodes)
      → vec_len old.solids + nodes_size directory nodes ≤ most → vec_len mid.solids + node_size directory n ≤ most
  room_next old mid nodes i most n lt is h room =
      let same : node_size directory n ≡ node_size directory (get_or nodes i n) = ap (node_size directory) is in
      omega (arith, same, solids_counted old mid (take i nodes) h, forest_within (take i nodes), sum_by_more (node_size directory) nodes i n lt, sum_by-take-le (node_size directory) nodes (i + 1), room)

-- ---- how far something is placed
shift_is : (both upper lower : Placement) → IsComposed both upper lower → both.shift ≡ vector_sum (turned upper.turn.number lower.shift) upper.shift
shift_is both upper lower composed =
    sym (zero_sum both.shift)
    ∙ ap (λ (v : V3). vector_sum v both.shift) (sym (turned_zero both.turn.number))
    ∙ composed zero_vector
    ∙ ap (placed upper) (ap (λ (v : V3). vector_sum v lower.shift) (turned_zero lower.turn.number) ∙ zero_sum lower.shift)

at_most_sum : (n : ℕ) (a b : ℤ) → IsAtMost COORD a → IsAtMost (pos (n * unsigned_abs COORD)) b → IsAtMost (pos ((n + 1) * unsigned_abs COORD)) (a +ℤ b)
at_most_sum n a b p q = (omega (arith, ints, p.0, q.0), omega (arith, ints, p.1, q.1))

within_sum : (n : ℕ) (a b : V3) → IsWithin COORD a → IsWithin (pos (n * unsigned_abs COORD)) b → IsWithin (pos ((n + 1) * unsigned_abs COORD)) (vector_sum a b)
within_sum n a b p q = record { x = at_most_sum n a.x b.x p.x q.x; y = at_most_sum n a.y b.y p.y q.y; z = at_most_sum n a.z b.z p.z q.z }

pub placed_near : (levels : ℕ) (both upper lower : Placement) → IsComposed both upper lower → IsPlacedAbove (levels + 1) upper → IsWithin COORD lower.shift → IsPlacedAbove levels both
placed_near levels both upper lower composed above near =
    let next : (most_depth - (levels + 1)) + 1 ≡ most_depth - levels = omega (arith, above.few) in
    let sum : IsWithin (pos (((most_depth - (levels + 1)) + 1) * unsigned_abs COORD)) (vector_sum (turned upper.turn.number lower.shift) upper.shift) =
    within_sum (most_depth - (levels + 1)) (turned upper.turn.number lower.shift) upper.shift (turned_within COORD upper.turn.number lower.shift upper.turn.in_range near) above.near in
    let here : IsWithin (pos ((most_depth - levels) * unsigned_abs COORD)) (vector_sum (turned upper.turn.number lower.shift) upper.shift) =
    subst (λ (n : ℕ). IsWithin (pos (n * unsigned_abs COORD)) (vector_sum (turned upper.turn.number lower.shift) upper.shift)) next sum in
    record {
      few = omega (arith, above.few);
      near = subst (IsWithin (pos ((most_depth - levels) * unsigned_abs COORD))) (sym (shift_is both upper lower composed)) here;
    }

weaker : (m k : ℕ) (z : ℤ) → m ≤ k → IsAtMost (pos m) z → IsAtMost (pos k) z
weaker m k z le h = (omega (arith, ints, h.0, le), omega (arith, ints, h.1, le))

pub above_within : (levels : ℕ) (by : Placement) → IsPlacedAbove levels by → IsWithin SHIFT by.shift
above_within levels by h =
    let le : (most_depth - levels) * unsigned_abs COORD ≤ unsigned_abs SHIFT = omega arith in
    record { x = weaker _ (unsigned_abs SHIFT) _ le h.near.x; y = weaker _ (unsigned_abs SHIFT) _ le h.near.y; z = weaker _ (unsigned_abs SHIFT) _ le h.near.z }

under : (m : ℕ) (z : ℤ) → m < unsigned_abs REACH → IsAtMost (pos m) z → IsUnder REACH z
under m z lt h = (omega (arith, ints, h.0, lt), omega (arith, ints, h.1, lt))

within_under : (m : ℕ) (v : V3) → m < unsigned_abs REACH → IsWithin (pos m) v → IsBelow REACH v
within_under m v lt h = record { x = under m v.x lt h.x; y = under m v.y lt h.y; z = under m v.z lt h.z }

pub above_below : (levels : ℕ) (by : Placement) → IsPlacedAbove levels by → IsBelow REACH by.shift
above_below levels by h = within_under (unsigned_abs SHIFT) by.shift (omega arith) (above_within levels by h)

pub leaf_below : (v : V3) → IsWithin COORD v → IsBelow REACH v
leaf_below v h = within_under (unsigned_abs COORD) v (omega arith) h
