use Rattle.std.proofs.Common.{◌≡◌, drop}
use Rattle.object_set.specs.Noting.{noted_after}
use Rattle.object_set.proofs.keeping.note_all.Given as goal

abbrev pub invariant-loop-pair : goal.invariant-loop-pair
invariant-loop-pair l = noted_after l.noted.entries (drop l.pair-index l.pairs) ≡ noted_after l.initial.noted.entries l.pairs
