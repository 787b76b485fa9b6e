use Rattle.std.proofs.Common.{◌<◌, ℕ, take}
use Rattle.std.specs.Prelude.{slice_index}
use Rattle.directory.specs.Walks.{unbounded}
use Rattle.directory.specs.Places.{AreFound}
use Rattle.directory.proofs.walk.find_first.Given as goal

abbrev pub invariant-loop-place : goal.invariant-loop-place
invariant-loop-place l = record {
  found : AreFound (take l.count l.objects) l.depths;
  before : (j : ℕ) → j < l.place → slice_index l.depths j < unbounded;
}
