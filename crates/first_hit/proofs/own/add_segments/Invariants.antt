use Rattle.std.proofs.Common.{◌≡◌, ◌+◌, ◌++◌, All, map, drop}
use Rattle.bool_weave.specs.Cuts.{IsSegment}
use Rattle.shot_core.specs.Prepared.{instance_of}
use Rattle.shot_core.specs.Shots.{woven_from}
use Rattle.first_hit.proofs.own.add_segments.Given as goal

abbrev pub invariant-loop-i : goal.invariant-loop-i
invariant-loop-i l = record {
  segments : l.segments.items ++ woven_from l.ray (l.first + l.i) (map instance_of (drop l.i l.solids)) ≡ l.initial.segments.items ++ woven_from l.ray l.first (map instance_of l.solids);
  sound : All (λ w. IsSegment w.seg) l.segments.items;
}
