-- Kept attributes whose keys differ.
use Rattle.std.proofs.Common.{[]}
use Rattle.std.specs.List.{IsDistinct}
use Rattle.std.proofs.lemmas.List.Elements.{All-nil}
use Rattle.object_set.specs.Objects.{IsKept}

pub none_kept : IsKept []
unfolding IsDistinct
none_kept = record { distinct = tt; texts = All-nil _ }
