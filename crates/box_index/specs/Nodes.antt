-- What stands in a tree of bounding boxes.
use Rattle.std.specs.Prelude.{◌≡◌, ◌≤◌, ℕ, List, [], ◌∷◌, ◌++◌, length, take, filter, Bool, ◌&&◌, not, All, slice_index_or}
use Rattle.std.specs.List.Sorted.{IsPermutation}
use Rattle.lattice_core.specs.declared.boxes.Box3.{Box3}
use Rattle.lattice_core.specs.declared.boxes.Box3.TheVariants.{Empty}
use Rattle.box_index.specs.declared.cut.Cut.{Cut}
use Rattle.box_index.specs.declared.part.Part.{Part}
use Rattle.box_index.specs.declared.part.Part.TheVariants.{Here, Low, High}
use Rattle.box_index.specs.declared.node.Node.{Node}
use Rattle.box_index.specs.Places.{places_where}
use Rattle.box_index.specs.Reaches.{has_points, do_touch}
use Rattle.box_index.specs.declared.line.Line.{Line}
use Rattle.box_index.specs.Lines.{is_crossed, whole_line}
use Rattle.box_index.specs.Cuts.{is_below, is_above}
use Rattle.box_index.specs.Bounds.{Holds}

-- the box at a place, or the empty one
abbrev pub box_at : List Box3 → ℕ → Box3
box_at boxes i = slice_index_or boxes i Empty

-- whether the box at a place and another box, both with points, share one
abbrev pub is_touched : List Box3 → Box3 → ℕ → Bool
is_touched boxes window i = do_touch (box_at boxes i) window

-- whether a line crosses the box at a place
abbrev pub is_crossed_at : List Box3 → Line → ℕ → Bool
is_crossed_at boxes line i = is_crossed line whole_line (box_at boxes i)

-- whether a box lies so by a cut
abbrev pub lies : Box3 → Cut → Part → Bool
lies b cut Here = not (is_below b cut) && not (is_above b cut)
lies b cut Low = is_below b cut
lies b cut High = not (is_below b cut) && is_above b cut

abbrev pub has_part : List Box3 → Cut → Part → ℕ → Bool
has_part boxes cut part i = lies (box_at boxes i) cut part

-- the places at all nodes
abbrev pub content : List Node → List ℕ
content [] = []
content (node ∷ nodes) = node.here.items ++ content nodes

-- the bounds of the boxes at all nodes of a tree
abbrev pub root_bounds : List Node → Box3
root_bounds [] = Empty
root_bounds (node ∷ nodes) = node.bounds

-- bounds hold the boxes at the places
abbrev pub AreHeld : List Box3 → Box3 → List ℕ → Type 0
AreHeld boxes bounds places = All (λ i. Holds bounds (box_at boxes i)) places

-- the nodes below each node are there, and its bounds hold the boxes at it and below it
abbrev pub AreSound : List Box3 → List Node → Type 0
AreSound boxes [] = Unit {0}
AreSound boxes (node ∷ nodes) = (node.below ≤ length nodes) × AreHeld boxes node.bounds (node.here.items ++ content (take node.below nodes)) × AreSound boxes nodes

-- a node with those below it
pub record IsForked (bounds : Box3) (here : List ℕ) (below nodes : List Node) : Type 0 where
  pub root : Node
  pub is : nodes ≡ root ∷ below
  pub in_bounds : root.bounds ≡ bounds
  pub places : root.here.items ≡ here
  pub count : root.below ≡ length below

-- nodes have the places, each as often as it is given, and the first one's bounds hold the boxes at all of them
pub record AreNodesOf (boxes : List Box3) (places : List ℕ) (nodes : List Node) : Type 0 where
  pub sound : AreSound boxes nodes
  pub has_all : IsPermutation places (content nodes)
  pub held : AreHeld boxes (root_bounds nodes) (content nodes)

-- nodes have the places of the boxes with points
abbrev pub IsIndexOf : List Box3 → List Node → Type 0
IsIndexOf boxes nodes = AreNodesOf boxes (places_where has_points boxes) nodes

-- a node was asked for the boxes that pass a test: what was found with what the nodes that are left have is what was found before
-- with what all had
pub record IsLeft (boxes : List Box3) (test : ℕ → Bool) (node : Node) (behind rest : List Node) (old new : List ℕ) : Type 0 where
  pub sound : AreSound boxes rest
  pub fewer : length rest ≤ length behind
  pub found : new ++ filter test (content rest) ≡ old ++ filter test (content (node ∷ behind))
