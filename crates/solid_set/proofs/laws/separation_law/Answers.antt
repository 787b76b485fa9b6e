use Rattle.solid_set.proofs.Separated.{places_are_separated}
use Rattle.solid_set.proofs.laws.separation_law.Goals as goal

pub returns : goal.returns
returns c = places_are_separated
