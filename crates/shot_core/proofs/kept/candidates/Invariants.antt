use Rattle.std.proofs.Common.{◌≡◌, filter, take}
use Rattle.shot_core.specs.Candidates.{is_candidate}
use Rattle.shot_core.proofs.kept.candidates.Given as goal

abbrev pub invariant-loop-region : goal.invariant-loop-region
invariant-loop-region l = l.kept.items ≡ filter (is_candidate l.regions) (take l.region-index l.regions)
