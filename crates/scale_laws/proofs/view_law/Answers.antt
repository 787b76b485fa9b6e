use Rattle.scale_laws.proofs.Seen.{pictures_stay}
use Rattle.scale_laws.proofs.view_law.Goals as goal

pub returns : goal.returns
returns c = pictures_stay
