use Rattle.scale_laws.proofs.Seen.{rays_scale_to_tenths, pictures_stay_in_tenths}
use Rattle.scale_laws.proofs.tenths_law.Goals as goal

pub returns-clause-rays : goal.returns-clause-rays
returns-clause-rays c = rays_scale_to_tenths

pub returns-clause-pictures : goal.returns-clause-pictures
returns-clause-pictures c = pictures_stay_in_tenths
