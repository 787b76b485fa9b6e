-- `==` on nodes says whether they are one.
use Rattle.std.proofs.Common.{◌≡◌, ◌<◌, ℕ, ap, ◌∙◌}
use Rattle.std.specs.Bool.{Decides}
use Rattle.std.specs.Coded.{le_prop}
use mathlib.Core.HLevel.{Σ_prop_path}
use Rattle.std.proofs.lemmas.Bool.Decides.{Decides-eqb, Decides-int_eq, Decides-and, Decides-like}
use Rattle.name_core.specs.Same.{same_name_decides}
use Rattle.name_core.specs.declared.name.Name.{Name}
use Rattle.lattice_core.specs.declared.turn.Turn.{Turn}
use Rattle.lattice_core.specs.declared.vector.V3.{V3}
use Rattle.lattice_core.specs.declared.placement.Placement.{Placement}
use Rattle.lattice_core.specs.contracts.turn.TurnPartialEq.TheImpl as turns
use Rattle.lattice_core.specs.contracts.vector.V3PartialEq.TheImpl as vectors
use Rattle.lattice_core.specs.contracts.placement.PlacementPartialEq.TheImpl as placements
use Rattle.comb_tree.specs.declared.node.CombNode.{CombNode}
use Rattle.comb_tree.specs.declared.node.CombNode.TheVariants as node
use Rattle.comb_tree.specs.contracts.node.CombNodePartialEq.TheImpl as nodes

turn_made : (n : ℕ) × (n < 48) → Turn
turn_made u = record { number = u.0; in_range = u.1 }

same_turn : (a b : Turn) → a.number ≡ b.number → a ≡ b
unfolding turn_made
same_turn a b e = ap turn_made (Σ_prop_path {B = λ n. n < 48} (λ n. le_prop) {u = (a.number, a.in_range)} {v = (b.number, b.in_range)} e)

pub turn_decides : (a b : Turn) → Decides (turns.eq-value.it a b) (a ≡ b)
turn_decides a b = Decides-like _ (same_turn a b) (λ e. ap (λ (t : Turn). t.number) e) (Decides-eqb a.number b.number)

same_vector : (a b : V3) → a.x ≡ b.x → a.y ≡ b.y → a.z ≡ b.z → a ≡ b
same_vector a b p q r = λ i. record { x = p i; y = q i; z = r i }

pub vector_decides : (a b : V3) → Decides (vectors.eq-value.it a b) (a ≡ b)
vector_decides a b =
    Decides-like _ (λ h. same_vector a b h.0 h.1.0 h.1.1) (λ e. (ap (λ (v : V3). v.x) e, (ap (λ (v : V3). v.y) e, ap (λ (v : V3). v.z) e)))
    (Decides-and _ _ (Decides-int_eq a.x b.x) (Decides-and _ _ (Decides-int_eq a.y b.y) (Decides-int_eq a.z b.z)))

same_placement : (a b : Placement) → a.turn ≡ b.turn → a.shift ≡ b.shift → a ≡ b
same_placement a b p q = λ i. record { turn = p i; shift = q i }

pub placement_decides : (a b : Placement) → Decides (placements.eq-value.it a b) (a ≡ b)
placement_decides a b =
    Decides-like _ (λ h. same_placement a b h.0 h.1) (λ e. (ap (λ (p : Placement). p.turn) e, ap (λ (p : Placement). p.shift) e))
    (Decides-and _ _ (turn_decides a.turn b.turn) (vector_decides a.shift b.shift))

-- the parts of a leaf
abbrev name_at : Name → CombNode → Name
name_at n (node.Leaf name placement) = name
name_at n node.U = n
name_at n node.N = n
name_at n node.Minus = n
name_at n node.X = n

abbrev place_at : Placement → CombNode → Placement
place_at p (node.Leaf name placement) = placement
place_at p node.U = p
place_at p node.N = p
place_at p node.Minus = p
place_at p node.X = p

leaf_decides : (n m : Name) (p q : Placement) → Decides (nodes.eq-value.it (node.Leaf n p) (node.Leaf m q)) (node.Leaf n p ≡ node.Leaf m q)
leaf_decides n m p q =
    Decides-like _ (λ h. ap (λ x. node.Leaf x p) h.0 ∙ ap (λ x. node.Leaf m x) h.1) (λ e. (ap (name_at n) e, ap (place_at p) e))
    (Decides-and _ _ (same_name_decides n m) (placement_decides p q))

pub node_decides : (a b : CombNode) → Decides (nodes.eq-value.it a b) (a ≡ b)
node_decides (node.Leaf n p) (node.Leaf m q) = leaf_decides n m p q
node_decides (node.Leaf n p) node.U = (λ h. cc, λ e. cc)
node_decides (node.Leaf n p) node.N = (λ h. cc, λ e. cc)
node_decides (node.Leaf n p) node.Minus = (λ h. cc, λ e. cc)
node_decides (node.Leaf n p) node.X = (λ h. cc, λ e. cc)
node_decides node.U (node.Leaf m q) = (λ h. cc, λ e. cc)
node_decides node.U node.U = (λ h. cc, λ e. cc)
node_decides node.U node.N = (λ h. cc, λ e. cc)
node_decides node.U node.Minus = (λ h. cc, λ e. cc)
node_decides node.U node.X = (λ h. cc, λ e. cc)
node_decides node.N (node.Leaf m q) = (λ h. cc, λ e. cc)
node_decides node.N node.U = (λ h. cc, λ e. cc)
node_decides node.N node.N = (λ h. cc, λ e. cc)
node_decides node.N node.Minus = (λ h. cc, λ e. cc)
node_decides node.N node.X = (λ h. cc, λ e. cc)
node_decides node.Minus (node.Leaf m q) = (λ h. cc, λ e. cc)
node_decides node.Minus node.U = (λ h. cc, λ e. cc)
node_decides node.Minus node.N = (λ h. cc, λ e. cc)
node_decides node.Minus node.Minus = (λ h. cc, λ e. cc)
node_decides node.Minus node.X = (λ h. cc, λ e. cc)
node_decides node.X (node.Leaf m q) = (λ h. cc, λ e. cc)
node_decides node.X node.U = (λ h. cc, λ e. cc)
node_decides node.X node.N = (λ h. cc, λ e. cc)
node_decides node.X node.Minus = (λ h. cc, λ e. cc)
node_decides node.X node.X = (λ h. cc, λ e. cc)
