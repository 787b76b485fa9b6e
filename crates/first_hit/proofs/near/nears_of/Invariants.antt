use Rattle.first_hit.specs.NearFirst.{AreNears}
use Rattle.first_hit.proofs.near.nears_of.Given as goal

abbrev pub invariant-loop-i : goal.invariant-loop-i
invariant-loop-i l = AreNears l.dir l.scene l.i l.nears.items
