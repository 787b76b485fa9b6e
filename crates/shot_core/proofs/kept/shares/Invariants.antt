use Rattle.std.proofs.Common.{◌≡◌, take}
use Rattle.shot_core.proofs.kept.shares.Given as goal

abbrev pub invariant-loop-region : goal.invariant-loop-region
invariant-loop-region l = l.all.items ≡ take l.region-index l.regions
