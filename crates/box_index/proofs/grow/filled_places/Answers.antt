use Rattle.std.proofs.Common.{sym}
use Rattle.std.proofs.lemmas.List.{append-nil}
use Rattle.box_index.specs.Reaches.{has_points}
use Rattle.box_index.proofs.Placing.{places_more}
use Rattle.box_index.proofs.grow.filled_places.Goals as goal
use Rattle.box_index.proofs.grow.filled_places.Goals.{then-has_points+in_ok-push, else-has_points}

pub loop-i-preserved : goal.loop-i-preserved
loop-i-preserved c =
    let more = places_more has_points c.args.boxes.now c.loop-i.i c.loop-i.places.items c.if-has_points.places.items c.has_points.result c.loop-i-test.true c.has_points.ensures c.loop-i.invariant in
    elim c.if-has_points.branch [
      | then-has_points+in_ok-push w ↦ more (rw (w.places-is, w.if-has_points.true) w.in_ok-push.ensures.items)
      | else-has_points w ↦ more (rw (w.places-is, w.if-has_points.false) (sym (append-nil c.loop-i.places.items)))
    ]
