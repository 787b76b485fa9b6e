use Rattle.name_core.specs.Same.{same_name}
use Rattle.shared_pages.specs.Named.{AreOther}
use Rattle.shared_pages.proofs.bucket.place_in.Given as goal

abbrev pub invariant-loop-place : goal.invariant-loop-place
invariant-loop-place g l = AreOther (same_name l.name) l.entries l.place
