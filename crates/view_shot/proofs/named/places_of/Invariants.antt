use Rattle.std.proofs.Common.{◌≡◌, take}
use Rattle.view_shot.specs.Named.{places_of}
use Rattle.view_shot.proofs.named.places_of.Given as goal

abbrev pub invariant-loop-region : goal.invariant-loop-region
invariant-loop-region l = l.places.items ≡ places_of (take l.region-index l.listed)
