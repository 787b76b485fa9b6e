-- Nodes: what is asked of them, and what is made.
use Rattle.std.proofs.Common.{◌≡◌, ◌∙◌, ℕ, zero, suc, List, [], ◌∷◌, ◌++◌, length, take, drop, filter, Bool, true, false, cond, ◌&&◌, not, ap, sym, subst, refl, append_assoc, length-append, arith}
use Rattle.std.specs.List.Sorted.{IsPermutation}
use Rattle.std.proofs.lemmas.List.{take-append-le, take-append-drop, take_all, length-drop, append-nil}
use Rattle.std.proofs.lemmas.List.Elements.{filter-append, All-nil, All-append, All-weaker}
use Rattle.std.proofs.lemmas.List.Sorted.{IsPermutation-refl, IsPermutation-sym, IsPermutation-cons, IsPermutation-trans, IsPermutation-middle, IsPermutation-append, IsPermutation-append_right}
use Rattle.lattice_core.specs.declared.boxes.Box3.{Box3}
use Rattle.box_index.specs.declared.cut.Cut.{Cut}
use Rattle.box_index.specs.declared.part.Part.TheVariants.{Here, Low, High}
use Rattle.box_index.specs.declared.node.Node.{Node}
use Rattle.lattice_core.specs.declared.boxes.Box3.TheVariants.{Empty}
use Rattle.box_index.specs.declared.line.Line.{Line}
use Rattle.box_index.specs.Cuts.{is_below, is_above}
use Rattle.box_index.specs.Lines.{is_crossed, whole_line, IsLine}
use Rattle.box_index.specs.Bounds.{Holds, around}
use Rattle.box_index.specs.Nodes.{box_at, is_crossed_at, has_part, content, root_bounds, AreHeld, AreSound, IsForked, AreNodesOf, IsLeft}
use Rattle.box_index.proofs.Members.{none_pass}
use Rattle.box_index.proofs.Bounding.{around_left, around_right, held_in, point_held}
use Rattle.box_index.proofs.Crossing.{missed_within}

-- ---- nodes behind one another
pub content_append : (xs ys : List Node) → content (xs ++ ys) ≡ content xs ++ content ys
content_append [] ys = refl
content_append (x ∷ xs) ys = ap (λ (l : List ℕ). x.here.items ++ l) (content_append xs ys) ∙ sym (append_assoc x.here.items (content xs) (content ys))

sound_append : (boxes : List Box3) (xs ys : List Node) → AreSound boxes xs → AreSound boxes ys → AreSound boxes (xs ++ ys)
sound_append boxes [] ys h k = k
sound_append boxes (x ∷ xs) ys h k =
    (omega (arith, h.0, length-append xs ys), subst (λ (l : List Node). AreHeld boxes x.bounds (x.here.items ++ content l)) (sym (take-append-le x.below xs ys h.0)) h.1, sound_append boxes xs ys h.2 k)

sound_drop : (boxes : List Box3) (n : ℕ) (xs : List Node) → AreSound boxes xs → AreSound boxes (drop n xs)
sound_drop boxes zero xs h = h
sound_drop boxes (suc n) [] h = tt
sound_drop boxes (suc n) (x ∷ xs) h = sound_drop boxes n xs h.2

-- ---- what is asked of a node
module _ (boxes : List Box3) (t : ℕ → Bool) (node : Node) (behind : List Node) (sound : AreSound boxes (node ∷ behind)) where
  pub visited : (old new : List ℕ) → new ≡ old ++ filter t node.here.items → IsLeft boxes t node behind behind old new
  visited old new e = record {
    sound = sound.2;
    fewer = omega arith;
    found =
        ap (λ (l : List ℕ). l ++ filter t (content behind)) e ∙ append_assoc old (filter t node.here.items) (filter t (content behind))
        ∙ ap (λ (l : List ℕ). old ++ l) (sym (filter-append t node.here.items (content behind)));
  }

  pub passed : (rest : List Node) (old : List ℕ) → filter t (node.here.items ++ content (take node.below behind)) ≡ [] → rest ≡ drop node.below behind → IsLeft boxes t node behind rest old old
  passed rest old none e =
      let here : List ℕ = node.here.items in
      let below = take node.below behind in
      let left = drop node.below behind in
      let all : content behind ≡ content below ++ content left = ap content (sym (take-append-drop node.below behind)) ∙ content_append below left in
      record {
        sound = subst (AreSound boxes) (sym e) (sound_drop boxes node.below behind sound.2);
        fewer = omega (arith, ap length e, length-drop node.below behind);
        found =
            ap (λ (l : List Node). old ++ filter t (content l)) e
            ∙ ap (λ (l : List ℕ). old ++ (l ++ filter t (content left))) (sym none)
            ∙ ap (λ (l : List ℕ). old ++ l) (sym (filter-append t (here ++ content below) (content left)))
            ∙ ap (λ (l : List ℕ). old ++ filter t l) (append_assoc here (content below) (content left))
            ∙ ap (λ (l : List ℕ). old ++ filter t (here ++ l)) (sym all);
      }

-- a line that doesn't cross bounds crosses none of the boxes that they hold
pub none_crossed : (boxes : List Box3) (line : Line) → IsLine line → (bounds : Box3) (places : List ℕ) → AreHeld boxes bounds places → is_crossed line whole_line bounds ≡ false → filter (is_crossed_at boxes line) places ≡ []
none_crossed boxes line is bounds places held none =
    none_pass (is_crossed_at boxes line) places
    (All-weaker (λ i. Holds bounds (box_at boxes i)) (λ i. is_crossed_at boxes line i ≡ false) (λ i h. missed_within line is bounds (box_at boxes i) (point_held bounds (box_at boxes i) h) none) places held)

-- ---- what is made of places
parted : (boxes : List Box3) (cut : Cut) (places : List ℕ) → IsPermutation places (filter (has_part boxes cut Here) places ++ (filter (has_part boxes cut Low) places ++ filter (has_part boxes cut High) places))
parted boxes cut [] = IsPermutation-refl []
parted boxes cut (x ∷ xs) =
    let H = filter (has_part boxes cut Here) xs in
    let L = filter (has_part boxes cut Low) xs in
    let G = filter (has_part boxes cut High) xs in
    let rest = IsPermutation-cons x xs (H ++ (L ++ G)) (parted boxes cut xs) in
    let low : IsPermutation (x ∷ xs) (H ++ (x ∷ (L ++ G))) =
    IsPermutation-trans (x ∷ xs) (x ∷ (H ++ (L ++ G))) (H ++ (x ∷ (L ++ G))) rest (IsPermutation-sym (H ++ (x ∷ (L ++ G))) (x ∷ (H ++ (L ++ G))) (IsPermutation-middle H x (L ++ G))) in
    let high : IsPermutation (x ∷ xs) (H ++ (L ++ x ∷ G)) =
    IsPermutation-trans (x ∷ xs) (H ++ (x ∷ (L ++ G))) (H ++ (L ++ x ∷ G)) low
    (IsPermutation-append_right H (x ∷ (L ++ G)) (L ++ x ∷ G) (IsPermutation-sym (L ++ x ∷ G) (x ∷ (L ++ G)) (IsPermutation-middle L x G))) in
    let P = λ (b : Bool) (a : Bool). IsPermutation (x ∷ xs) (cond (not b && not a) (x ∷ H) H ++ (cond b (x ∷ L) L ++ cond (not b && a) (x ∷ G) G)) in
    elim (is_below (box_at boxes x) cut) as (λ (b : Bool). P b (is_above (box_at boxes x) cut)) [
      | true ↦ low
      | false ↦ elim (is_above (box_at boxes x) cut) as (λ (a : Bool). P false a) [ true ↦ high | false ↦ rest ]
    ]

-- a node with the places at it and below it, in bounds that hold their boxes
rooted : (boxes : List Box3) (bounds : Box3) (places here : List ℕ) (below nodes : List Node) → AreHeld boxes bounds (here ++ content below) → AreSound boxes below → IsForked bounds here below nodes → IsPermutation places (here ++ content below)
    → AreNodesOf boxes places nodes
rooted boxes bounds places here below nodes held sound forked moved =
    let root = forked.root in
    let given : IsPermutation places (root.here.items ++ content below) = subst (λ (l : List ℕ). IsPermutation places (l ++ content below)) (sym forked.places) moved in
    let whole : take root.below below ≡ below = take_all root.below below (omega (arith, forked.count)) in
    let all : AreHeld boxes root.bounds (root.here.items ++ content below) =
    subst (λ (r : Box3). AreHeld boxes r (root.here.items ++ content below)) (sym forked.in_bounds) (subst (λ (l : List ℕ). AreHeld boxes bounds (l ++ content below)) (sym forked.places) held) in
    subst (AreNodesOf boxes places) (sym forked.is)
    (record { sound = (omega (arith, forked.count), subst (λ (l : List Node). AreHeld boxes root.bounds (root.here.items ++ content l)) (sym whole) all, sound); has_all = given; held = all })

pub none_made : (boxes : List Box3) (places : List ℕ) (nodes : List Node) → places ≡ [] → nodes ≡ [] → AreNodesOf boxes places nodes
none_made boxes places nodes is e =
    subst (λ (l : List ℕ). AreNodesOf boxes l nodes) (sym is) (subst (AreNodesOf boxes []) (sym e) (record { sound = tt; has_all = IsPermutation-refl []; held = All-nil (λ i. Holds Empty (box_at boxes i)) }))

pub leaf_made : (boxes : List Box3) (bounds : Box3) (places : List ℕ) (nodes : List Node) → AreHeld boxes bounds places → IsForked bounds places [] nodes → AreNodesOf boxes places nodes
leaf_made boxes bounds places nodes held forked =
    rooted boxes bounds places places [] nodes (subst (AreHeld boxes bounds) (sym (append-nil places)) held) tt forked (subst (λ (l : List ℕ). IsPermutation places l) (sym (append-nil places)) (IsPermutation-refl places))

module _ (boxes : List Box3) (cut : Cut) (places : List ℕ) (middle low high nodes : List Node) (zero : AreNodesOf boxes (filter (has_part boxes cut Here) places) middle) (one : AreNodesOf boxes (filter (has_part boxes cut Low) places) low) (two : AreNodesOf boxes (filter (has_part boxes cut High) places) high) where
  abbrev sides : Box3
  sides = around (root_bounds low) (root_bounds high)

  abbrev all_of : Box3
  all_of = around (root_bounds middle) sides

  sides_held : AreHeld boxes all_of (content low ++ content high)
  sides_held =
      held_in boxes all_of sides (content low ++ content high) (around_right (root_bounds middle) sides)
      (All-append (λ i. Holds sides (box_at boxes i)) (content low) (content high)
      (held_in boxes sides (root_bounds low) (content low) (around_left (root_bounds low) (root_bounds high)) one.held)
      (held_in boxes sides (root_bounds high) (content high) (around_right (root_bounds low) (root_bounds high)) two.held))

  content_of : content (middle ++ (low ++ high)) ≡ content middle ++ (content low ++ content high)
  content_of = content_append middle (low ++ high) ∙ ap (λ (l : List ℕ). content middle ++ l) (content_append low high)

  pub fork_made : IsForked all_of [] (middle ++ (low ++ high)) nodes → AreNodesOf boxes places nodes
  fork_made forked =
      let H = filter (has_part boxes cut Here) places in
      let L = filter (has_part boxes cut Low) places in
      let G = filter (has_part boxes cut High) places in
      let sides_moved : IsPermutation (L ++ G) (content low ++ content high) = IsPermutation-append L (content low) G (content high) one.has_all two.has_all in
      let moved : IsPermutation places (content middle ++ (content low ++ content high)) =
      IsPermutation-trans places (H ++ (L ++ G)) (content middle ++ (content low ++ content high)) (parted boxes cut places)
      (IsPermutation-append H (content middle) (L ++ G) (content low ++ content high) zero.has_all sides_moved) in
      let held : AreHeld boxes all_of (content middle ++ (content low ++ content high)) =
      All-append (λ i. Holds all_of (box_at boxes i)) (content middle) (content low ++ content high)
      (held_in boxes all_of (root_bounds middle) (content middle) (around_left (root_bounds middle) sides) zero.held) sides_held in
      rooted boxes all_of places [] (middle ++ (low ++ high)) nodes (subst (AreHeld boxes all_of) (sym content_of) held)
      (sound_append boxes middle (low ++ high) zero.sound (sound_append boxes low high one.sound two.sound)) forked
      (subst (λ (l : List ℕ). IsPermutation places l) (sym content_of) moved)
