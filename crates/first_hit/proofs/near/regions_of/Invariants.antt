use Rattle.std.proofs.Common.{◌≡◌, map, take}
use Rattle.first_hit.specs.declared.near.Near.{Near}
use Rattle.first_hit.proofs.near.regions_of.Given as goal

abbrev pub invariant-loop-near : goal.invariant-loop-near
invariant-loop-near l = l.numbers.items ≡ map (λ (n : Near). n.region) (take l.near-index l.nears)
