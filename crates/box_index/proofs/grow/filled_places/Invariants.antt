use Rattle.std.proofs.Common.{◌≡◌, take}
use Rattle.box_index.specs.Reaches.{has_points}
use Rattle.box_index.specs.Places.{places_where}
use Rattle.box_index.proofs.grow.filled_places.Given as goal

abbrev pub invariant-loop-i : goal.invariant-loop-i
invariant-loop-i l = l.places.items ≡ places_where has_points (take l.i l.boxes)
