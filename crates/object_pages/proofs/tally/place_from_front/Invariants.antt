use Rattle.std.specs.Prelude.{nat_eq}
use Rattle.shared_pages.specs.Named.{AreOther}
use Rattle.object_pages.proofs.tally.place_from_front.Given as goal

abbrev pub invariant-loop-place : goal.invariant-loop-place
invariant-loop-place l = AreOther (nat_eq l.page) l.counts l.place
