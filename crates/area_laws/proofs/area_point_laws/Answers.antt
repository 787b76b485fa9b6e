use Rattle.area_laws.proofs.OnePlace.{places_tell_points}
use Rattle.area_laws.proofs.area_point_laws.Goals as goal

pub returns : goal.returns
returns c = places_tell_points
