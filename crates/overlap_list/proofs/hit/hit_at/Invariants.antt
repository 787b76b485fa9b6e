use Rattle.std.proofs.Common.{◌≡◌, drop, filter}
use Rattle.overlap_list.specs.Hits.{is_candidate, lowest}
use Rattle.overlap_list.proofs.hit.hit_at.Given as goal

abbrev pub invariant-loop-one : goal.invariant-loop-one
invariant-loop-one l = lowest (filter (is_candidate l.regions l.interval l.place) (drop l.one-index l.woven)) ≡ lowest (filter (is_candidate l.regions l.interval l.place) l.woven)
