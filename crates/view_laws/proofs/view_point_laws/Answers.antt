use Rattle.view_laws.proofs.OnePixel.{pixels_tell_points}
use Rattle.view_laws.proofs.OneReport.{reports_tell_points}
use Rattle.view_laws.proofs.view_point_laws.Goals as goal

pub returns-clause-pixels : goal.returns-clause-pixels
returns-clause-pixels c = pixels_tell_points

pub returns-clause-reports : goal.returns-clause-reports
returns-clause-reports c = reports_tell_points
