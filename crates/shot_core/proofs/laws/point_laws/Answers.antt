use Rattle.shot_core.proofs.OverlapTruth.{overlaps_tell_points}
use Rattle.shot_core.proofs.PointTruth.{true_of_points}
use Rattle.shot_core.proofs.SeenTruth.{seen_tells_points}
use Rattle.shot_core.proofs.laws.point_laws.Goals as goal

pub returns-clause-partitions : goal.returns-clause-partitions
returns-clause-partitions c = true_of_points

pub returns-clause-overlaps : goal.returns-clause-overlaps
returns-clause-overlaps c = overlaps_tell_points

pub returns-clause-seen : goal.returns-clause-seen
returns-clause-seen c = seen_tells_points
