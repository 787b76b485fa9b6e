use Rattle.std.proofs.Common.{◌+◌, subst, sym, take, slice_index_or, arith}
use Rattle.std.proofs.lemmas.List.{take_all}
use Rattle.std.proofs.lemmas.List.Elements.{All-more}
use Rattle.lattice_core.specs.declared.boxes.Box3.{Box3}
use Rattle.box_index.specs.Bounds.{Holds, around}
use Rattle.box_index.specs.Nodes.{box_at, AreHeld}
use Rattle.box_index.proofs.Bounding.{around_left, around_right, held_in}
use Rattle.box_index.proofs.bounds.bounds_of.Goals as goal

pub loop-place-preserved : goal.loop-place-preserved
loop-place-preserved c =
    let boxes = c.args.boxes.now in
    let places = c.args.places.now in
    let k = c.loop-place.place-index in
    let bounds = c.loop-place.bounds in
    let b = box_at boxes (slice_index_or places k 0) in
    subst (λ (r : Box3). AreHeld boxes r (take (k + 1) places)) (sym c.widened-bounds.ensures)
    (All-more (λ i. Holds (around bounds b) (box_at boxes i)) places k 0 c.loop-place-test.true (held_in boxes (around bounds b) bounds (take k places) (around_left bounds b) c.loop-place.invariant) (around_right bounds b))

pub returns : goal.returns
returns c =
    let places = c.args.places.now in
    subst (AreHeld c.args.boxes.now c.loop-place.bounds) (take_all c.loop-place.place-index places (omega (arith, c.loop-place-test.false))) c.loop-place.invariant
