use Rattle.std.proofs.Common.{◌≡◌, drop, None}
use Rattle.first_hit.specs.FirstSteps.{lowest_hit}
use Rattle.first_hit.proofs.hit.lowest_hit.Given as goal

abbrev pub invariant-loop-part : goal.invariant-loop-part
invariant-loop-part l = lowest_hit l.scene l.segments l.front.start l.best (drop l.part-index l.parts) ≡ lowest_hit l.scene l.segments l.front.start None l.parts
