use Rattle.std.proofs.Common.{◌≡◌, take}
use Rattle.shared_pages.proofs.bucket.with_room.Given as goal

abbrev pub invariant-loop-pair : goal.invariant-loop-pair
invariant-loop-pair g l = l.entries.items ≡ take l.pair-index l.pairs
