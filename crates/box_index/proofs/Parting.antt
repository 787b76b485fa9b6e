-- Where boxes lie by a cut: each lies one way alone, so that a place goes into one list.
use Rattle.std.proofs.Common.{◌≡◌, ◌<◌, ◌+◌, ◌++◌, ◌∷◌, [], ◌∙◌, ℕ, List, length, take, filter, Bool, true, false, cond, ◌&&◌, not, IsTrue, slice_index_or, refl, ap, sym}
use Rattle.std.proofs.lemmas.Bool.{true≢false}
use Rattle.std.proofs.lemmas.List.Elements.{filter_more}
use Rattle.lattice_core.specs.declared.boxes.Box3.{Box3}
use Rattle.box_index.specs.declared.cut.Cut.{Cut}
use Rattle.box_index.specs.declared.part.Part.{Part}
use Rattle.box_index.specs.declared.part.Part.TheVariants.{Here, Low, High}
use Rattle.box_index.specs.Cuts.{is_below, is_above}
use Rattle.box_index.specs.Nodes.{box_at, lies, has_part}

-- the two parts are the same
abbrev pub is_same : Part → Part → Bool
is_same Here Here = true
is_same Here Low = false
is_same Here High = false
is_same Low Here = false
is_same Low Low = true
is_same Low High = false
is_same High Here = false
is_same High Low = false
is_same High High = true

-- by whether a box lies below and above
abbrev lies_by : Bool → Bool → Part → Bool
lies_by below above Here = not below && not above
lies_by below above Low = below
lies_by below above High = not below && above

one_by : (below above : Bool) (found part : Part) → IsTrue (lies_by below above found) → lies_by below above part ≡ is_same found part
one_by true above Here part h = absurd (true≢false (sym h))
one_by false true Here part h = absurd (true≢false (sym h))
one_by false false Here Here h = refl
one_by false false Here Low h = refl
one_by false false Here High h = refl
one_by false above Low part h = absurd (true≢false (sym h))
one_by true above Low Here h = refl
one_by true above Low Low h = refl
one_by true above Low High h = refl
one_by true above High part h = absurd (true≢false (sym h))
one_by false false High part h = absurd (true≢false (sym h))
one_by false true High Here h = refl
one_by false true High Low h = refl
one_by false true High High h = refl

lies_is : (b : Box3) (cut : Cut) (part : Part) → lies b cut part ≡ lies_by (is_below b cut) (is_above b cut) part
lies_is b cut Here = refl
lies_is b cut Low = refl
lies_is b cut High = refl

one_part : (b : Box3) (cut : Cut) (found part : Part) → IsTrue (lies b cut found) → lies b cut part ≡ is_same found part
one_part b cut found part h = lies_is b cut part ∙ one_by (is_below b cut) (is_above b cut) found part (sym (lies_is b cut found) ∙ h)

-- one more place, of a box that was found to lie so: the list of that part takes it in, and the others stay
pub one_more : (boxes : List Box3) (cut : Cut) (found part : Part) (places : List ℕ) (k : ℕ) (kept new : List ℕ) → k < length places → IsTrue (has_part boxes cut found (slice_index_or places k 0))
    → kept ≡ filter (has_part boxes cut part) (take k places) → new ≡ kept ++ cond (is_same found part) (slice_index_or places k 0 ∷ []) [] → new ≡ filter (has_part boxes cut part) (take (k + 1) places)
one_more boxes cut found part places k kept new below lies_so before grown =
    let x = slice_index_or places k 0 in
    let one = one_part (box_at boxes x) cut found part lies_so in
    grown ∙ ap (λ (l : List ℕ). l ++ cond (is_same found part) (x ∷ []) []) before
    ∙ ap (λ (t : Bool). filter (has_part boxes cut part) (take k places) ++ cond t (x ∷ []) []) (sym one)
    ∙ sym (filter_more (has_part boxes cut part) places k 0 below)
