use Rattle.quotient_laws.proofs.Separated.{quotients_are_separated}
use Rattle.quotient_laws.proofs.separation_law.Goals as goal

pub returns : goal.returns
returns c = quotients_are_separated
