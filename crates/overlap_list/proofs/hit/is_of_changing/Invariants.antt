use Rattle.std.proofs.Common.{◌≡◌, ◌&&◌, false, take}
use Rattle.std.specs.List.{list_any}
use Rattle.overlap_list.specs.Hits.{changes_at, is_of}
use Rattle.overlap_list.proofs.hit.is_of_changing.Given as goal

abbrev pub invariant-loop-region : goal.invariant-loop-region
invariant-loop-region l = list_any (λ r. is_of r l.woven && changes_at l.interval r) (take l.region-index l.regions) ≡ false
