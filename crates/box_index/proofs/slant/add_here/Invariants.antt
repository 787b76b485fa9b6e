use Rattle.std.proofs.Common.{◌≡◌, ◌++◌, filter, take}
use Rattle.box_index.specs.Nodes.{is_crossed_at}
use Rattle.box_index.proofs.slant.add_here.Given as goal

abbrev pub invariant-loop-place : goal.invariant-loop-place
invariant-loop-place l = l.out.items ≡ l.initial.out.items ++ filter (is_crossed_at l.boxes l.line) (take l.place-index l.here)
