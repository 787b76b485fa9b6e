use Rattle.std.proofs.Common.{◌≡◌, map, drop}
use Rattle.std.specs.Arc.{arc_value}
use Rattle.std.specs.Cmp.Lexicographic.{pointwise}
use Rattle.tile_shot.specs.Same.{same_body}
use Rattle.tile_shot.proofs.same.same_bodies.Given as goal

abbrev pub invariant-loop-i : goal.invariant-loop-i
invariant-loop-i l = pointwise same_body (map arc_value (drop l.i l.a)) (map arc_value (drop l.i l.b)) ≡ pointwise same_body (map arc_value l.a) (map arc_value l.b)
