use Rattle.std.proofs.Common.{take}
use Rattle.box_index.specs.Nodes.{AreHeld}
use Rattle.box_index.proofs.bounds.bounds_of.Given as goal

abbrev pub invariant-loop-place : goal.invariant-loop-place
invariant-loop-place l = AreHeld l.boxes l.bounds (take l.place-index l.places)
