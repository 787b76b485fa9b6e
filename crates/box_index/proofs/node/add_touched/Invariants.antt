use Rattle.std.proofs.Common.{◌≡◌, ◌++◌, filter, take}
use Rattle.box_index.specs.Nodes.{is_touched}
use Rattle.box_index.proofs.node.add_touched.Given as goal

abbrev pub invariant-loop-place : goal.invariant-loop-place
invariant-loop-place l = l.out.items ≡ l.initial.out.items ++ filter (is_touched l.boxes l.window) (take l.place-index l.here)
