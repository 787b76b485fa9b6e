use Rattle.std.proofs.Common.{◌≡◌, ◌++◌, ◌∷◌, [], cond, ℕ, List, slice_index_or, sym, take, filter, ◌+◌}
use Rattle.std.proofs.lemmas.List.{append-nil}
use Rattle.box_index.specs.declared.part.Part.{Part}
use Rattle.box_index.specs.declared.part.Part.TheVariants.{Here, Low, High}
use Rattle.box_index.specs.Nodes.{has_part}
use Rattle.box_index.proofs.Parting.{is_same, one_more}
use Rattle.box_index.proofs.part.divided.Goals as goal
use Rattle.box_index.proofs.part.divided.Goals.{in-Here+in_ok-push-in-Here, in-Low+in_ok-push-in-Low, in-High+in_ok-push-in-High}

pub loop-place-preserved : goal.loop-place-preserved
loop-place-preserved c =
    let boxes = c.args.boxes.now in
    let cut = c.args.cut in
    let places = c.args.places.now in
    let k = c.loop-place.place-index in
    let old = c.loop-place in
    let more : (part : Part) (kept new : List ℕ) → kept ≡ filter (has_part boxes cut part) (take k places) → new ≡ kept ++ cond (is_same c.part_at.result part) (slice_index_or places k 0 ∷ []) [] → new ≡ filter (has_part boxes cut part) (take (k + 1) places) =
    λ part kept new before grown. one_more boxes cut c.part_at.result part places k kept new c.loop-place-test.true c.part_at.ensures before grown in
    elim c.match-part_at.branch [
      | in-Here+in_ok-push-in-Here w ↦ record {
        here = more Here _ _ old.invariant.here (rw (w.here-is, w.in-Here.is) w.in_ok-push-in-Here.ensures.items);
        low = more Low _ _ old.invariant.low (rw (w.low-is, w.in-Here.is) (sym (append-nil _)));
        high = more High _ _ old.invariant.high (rw (w.high-is, w.in-Here.is) (sym (append-nil _)));
      }
      | in-Low+in_ok-push-in-Low w ↦ record {
        here = more Here _ _ old.invariant.here (rw (w.here-is, w.in-Low.is) (sym (append-nil _)));
        low = more Low _ _ old.invariant.low (rw (w.low-is, w.in-Low.is) w.in_ok-push-in-Low.ensures.items);
        high = more High _ _ old.invariant.high (rw (w.high-is, w.in-Low.is) (sym (append-nil _)));
      }
      | in-High+in_ok-push-in-High w ↦ record {
        here = more Here _ _ old.invariant.here (rw (w.here-is, w.in-High.is) (sym (append-nil _)));
        low = more Low _ _ old.invariant.low (rw (w.low-is, w.in-High.is) (sym (append-nil _)));
        high = more High _ _ old.invariant.high (rw (w.high-is, w.in-High.is) w.in_ok-push-in-High.ensures.items);
      }
    ]
