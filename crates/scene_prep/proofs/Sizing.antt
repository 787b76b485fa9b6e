-- The sizes of nodes, and how deep they lie.
use Rattle.std.proofs.Common.{◌≡◌, ◌∙◌, ◌+◌, ◌≤◌, ◌<◌, ◌-◌, ℕ, zero, suc, List, [], ◌∷◌, ◌++◌, length, map, refl, ap, sym, subst, arith}
use Rattle.std.specs.Prelude.{None, Some, sum_by, All, Contains}
use Rattle.std.proofs.lemmas.List.Sums.{sum_by-append}
use Rattle.std.proofs.lemmas.List.Elements.{All-append, All-cons, All-nil, All-contains, Contains-append_left, Contains-append_right}
use Rattle.std.proofs.Common.{length-append}
use Rattle.lattice_core.specs.declared.limit.TheConstants.{COORD}
use Rattle.lattice_core.specs.Limits.{IsWithin}
use Rattle.tree_forms.specs.declared.Op.{Op}
use Rattle.tree_forms.specs.declared.Op.TheVariants as op
use Rattle.tree_forms.specs.Trees.{Tree, Leaf, Join, leaves, postfix}
use Rattle.name_core.specs.declared.name.Name.{Name}
use Rattle.region_attr.specs.declared.attr.Attr.{Attr}
use Rattle.comb_tree.specs.declared.node.CombNode.{CombNode}
use Rattle.comb_tree.specs.Nodes.{Member, Comb as CombTree, comb_nodes, leaf, apply}
use Rattle.object_set.specs.declared.object.Body.{Body}
use Rattle.object_set.specs.declared.object.Body.TheVariants as bodies
use Rattle.object_set.specs.Objects.{Parts, IsComb, member_names}
use Rattle.directory.specs.Walks.{Entries, object_of, body_weight, comb_weight, IsSound}
use Rattle.scene_prep.specs.Sizes.{size_of_name, body_size, object_size}
use Rattle.scene_prep.specs.Levels.{IsShallow, StandsWithin, node_size, nodes_size}
use Rattle.scene_prep.proofs.Whole.{member_shallow, sizes_whole}

op_size : (directory : Entries) (o : Op) → node_size directory (apply o) ≡ 0
op_size directory op.U = refl
op_size directory op.N = refl
op_size directory op.Minus = refl
op_size directory op.X = refl

pub one_size : (directory : Entries) (node : CombNode) → nodes_size directory (node ∷ []) ≡ node_size directory node
one_size directory node = omega arith

pub tree_sized : (directory : Entries) (t : Tree Member) → nodes_size directory (postfix leaf apply t) ≡ sum_by (λ member. size_of_name directory member.name) (leaves t)
tree_sized directory (Leaf member) = refl
tree_sized directory (Join o l r) =
    omega (
      arith,
      sum_by-append (node_size directory) (postfix leaf apply l) (postfix leaf apply r ++ apply o ∷ []),
      sum_by-append (node_size directory) (postfix leaf apply r) (apply o ∷ []),
      one_size directory (apply o),
      op_size directory o,
      sum_by-append (λ (member : Member). size_of_name directory member.name) (leaves l) (leaves r),
      tree_sized directory l,
      tree_sized directory r,
    )

-- what is there under the name of a solid, an empty combination or another one
pub missing_sized : (directory : Entries) (name : Name) → IsSound directory → object_of directory name ≡ None → size_of_name directory name ≡ 1
missing_sized directory name sound is = sizes_whole directory sound name ∙ ap (object_size (size_of_name directory)) is

body_sized : (directory : Entries) (name : Name) (o : Parts) (body : Body) → IsSound directory → object_of directory name ≡ Some o → o.body ≡ body → size_of_name directory name ≡ body_size (size_of_name directory) body
body_sized directory name o body sound is at =
    sizes_whole directory sound name ∙ ap (object_size (size_of_name directory)) is ∙ ap (body_size (size_of_name directory)) at

pub solid_sized : (directory : Entries) (name : Name) (o : Parts) (body : Body) → IsSound directory → object_of directory name ≡ Some o → o.body ≡ body → body_weight body ≡ 0 → size_of_name directory name ≡ 1
solid_sized directory name o (bodies.Solid solid) sound is at light = body_sized directory name o (bodies.Solid solid) sound is at
solid_sized directory name o (bodies.Comb attr tree) sound is at light = absurd (omega (arith, light))

pub postfix_some : (t : Tree Member) → 0 < length (postfix leaf apply t)
postfix_some (Leaf member) = omega arith
postfix_some (Join o l r) = rw (length-append, length-append) (omega arith)

pub empty_sized : (directory : Entries) (name : Name) (o : Parts) (attr : Attr) (tree : CombTree) → IsSound directory → object_of directory name ≡ Some o → o.body ≡ bodies.Comb attr tree → length (comb_nodes tree) ≡ 0
    → size_of_name directory name ≡ 1
empty_sized directory name o attr None sound is at none = body_sized directory name o (bodies.Comb attr None) sound is at
empty_sized directory name o attr (Some t) sound is at none = absurd (omega (arith, none, postfix_some t))

pub comb_sized : (directory : Entries) (name : Name) (o : Parts) (attr : Attr) (tree : CombTree) → IsSound directory → object_of directory name ≡ Some o → o.body ≡ bodies.Comb attr tree → 0 < length (comb_nodes tree)
    → size_of_name directory name ≡ nodes_size directory (comb_nodes tree)
comb_sized directory name o attr None sound is at some = absurd (omega (arith, some))
comb_sized directory name o attr (Some t) sound is at some = body_sized directory name o (bodies.Comb attr (Some t)) sound is at ∙ sym (tree_sized directory t)

-- ---- a combination's nodes lie one level below it
pub comb_deep : (directory : Entries) (levels : ℕ) (name : Name) (o : Parts) (attr : Attr) (tree : CombTree) → object_of directory name ≡ Some o → o.body ≡ bodies.Comb attr tree → IsShallow directory levels name → 0 < levels
comb_deep directory levels name o attr tree is at shallow =
    let weight : comb_weight (object_of directory name) ≡ 1 = ap comb_weight is ∙ ap body_weight at in
    let all : comb_weight (object_of directory name) + 0 ≤ levels = shallow [] (tt, tt) in
    omega (arith, weight, all)

op_stands : (directory : Entries) (levels : ℕ) (o : Op) → StandsWithin directory levels (apply o)
op_stands directory levels op.U = tt
op_stands directory levels op.N = tt
op_stands directory levels op.Minus = tt
op_stands directory levels op.X = tt

tree_stands : (directory : Entries) (levels : ℕ) (t : Tree Member) → ((m : Member) → Contains (leaves t) m → StandsWithin directory levels (leaf m)) → All (StandsWithin directory levels) (postfix leaf apply t)
tree_stands directory levels (Leaf member) each = All-cons (StandsWithin directory levels) (leaf member) [] (each member (0, omega arith, refl)) (All-nil (StandsWithin directory levels))
tree_stands directory levels (Join o l r) each =
    All-append (StandsWithin directory levels) (postfix leaf apply l) (postfix leaf apply r ++ apply o ∷ [])
    (tree_stands directory levels l (λ m has. each m (Contains-append_left (leaves l) (leaves r) m has)))
    (All-append (StandsWithin directory levels) (postfix leaf apply r) (apply o ∷ [])
    (tree_stands directory levels r (λ m has. each m (Contains-append_right (leaves l) (leaves r) m has)))
    (All-cons (StandsWithin directory levels) (apply o) [] (op_stands directory levels o) (All-nil (StandsWithin directory levels))))

name_among : (ms : List Member) (m : Member) → Contains ms m → Contains (map (λ m. m.name) ms) m.name
name_among [] m has = absurd (omega (arith, has.1))
name_among (x ∷ ms) m (zero, lt, is) = (0, omega arith, ap (λ (y : Member). y.name) is)
name_among (x ∷ ms) m (suc k, lt, is) = let rest = name_among ms m (k, omega (arith, lt), is) in (suc rest.0, omega (arith, rest.1), rest.2)

pub comb_stands : (directory : Entries) (levels : ℕ) (name : Name) (o : Parts) (attr : Attr) (tree : CombTree) → object_of directory name ≡ Some o → o.body ≡ bodies.Comb attr tree → IsComb attr tree → IsShallow directory (suc levels) name
    → All (StandsWithin directory levels) (comb_nodes tree)
comb_stands directory levels name o attr None is at lawful shallow = All-nil (StandsWithin directory levels)
comb_stands directory levels name o attr (Some t) is at lawful shallow =
    tree_stands directory levels t (λ m has. (
      member_shallow levels directory name o m.name is (ap body_weight at) shallow (subst (λ (x : Body). Contains (member_names x) m.name) (sym at) (name_among (leaves t) m has)),
      All-contains (λ (m : Member). IsWithin COORD m.placement.shift) (leaves t) m lawful.near has,
    ))

pub comb_stands_below : (directory : Entries) (levels : ℕ) (name : Name) (o : Parts) (attr : Attr) (tree : CombTree) (nodes : List CombNode) → object_of directory name ≡ Some o → o.body ≡ bodies.Comb attr tree → IsComb attr tree
    → nodes ≡ comb_nodes tree → IsShallow directory levels name → 0 < levels → All (StandsWithin directory (levels - 1)) nodes
comb_stands_below directory zero name o attr tree nodes is at lawful same shallow deep = absurd (omega (arith, deep))
comb_stands_below directory (suc levels) name o attr tree nodes is at lawful same shallow deep =
    let one : levels ≡ suc levels - 1 = omega arith in
    subst (λ (n : ℕ). All (StandsWithin directory n) nodes) one
    (subst (λ (ns : List CombNode). All (StandsWithin directory levels) ns) (sym same) (comb_stands directory levels name o attr tree is at lawful shallow))

pub some_of : (n : ℕ) → ¬ (n ≡ 0) → 0 < n
some_of zero h = absurd (h refl)
some_of (suc n) h = omega arith
