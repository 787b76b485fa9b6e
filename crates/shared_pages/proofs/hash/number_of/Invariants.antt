use Rattle.std.proofs.Common.{◌≡◌, ◌<◌, take}
use Rattle.std.specs.Prelude.{fold}
use Rattle.shared_pages.specs.Buckets.{next_number}
use Rattle.shared_pages.proofs.hash.number_of.Given as goal

abbrev pub invariant-loop-byte : goal.invariant-loop-byte
invariant-loop-byte l = record {
  so_far : l.number ≡ fold next_number 0 (take l.byte-index l.byte-items);
  small : l.number < 65521;
}
