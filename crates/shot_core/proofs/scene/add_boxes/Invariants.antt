use Rattle.std.proofs.Common.{◌≡◌, ◌++◌, map, take}
use Rattle.solid_set.specs.declared.placed.Placed.{Placed}
use Rattle.shot_core.proofs.scene.add_boxes.Given as goal

abbrev pub invariant-loop-solid : goal.invariant-loop-solid
invariant-loop-solid l = l.boxes.items ≡ l.initial.boxes.items ++ map (λ (p : Placed). p.bounds) (take l.solid-index l.solids)
