use Rattle.solid_set.proofs.PlacedAlike.{stands_under_one, stand_alike}
use Rattle.solid_set.proofs.laws.placing_law.Goals as goal

pub returns-clause-one : goal.returns-clause-one
returns-clause-one c = stands_under_one

pub returns-clause-alike : goal.returns-clause-alike
returns-clause-alike c = stand_alike
