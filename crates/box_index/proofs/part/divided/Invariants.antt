use Rattle.std.proofs.Common.{◌≡◌, filter, take}
use Rattle.box_index.specs.declared.part.Part.TheVariants.{Here, Low, High}
use Rattle.box_index.specs.Nodes.{has_part}
use Rattle.box_index.proofs.part.divided.Given as goal

abbrev pub invariant-loop-place : goal.invariant-loop-place
invariant-loop-place l = record {
  here : l.here.items ≡ filter (has_part l.boxes l.cut Here) (take l.place-index l.places);
  low : l.low.items ≡ filter (has_part l.boxes l.cut Low) (take l.place-index l.places);
  high : l.high.items ≡ filter (has_part l.boxes l.cut High) (take l.place-index l.places);
}
