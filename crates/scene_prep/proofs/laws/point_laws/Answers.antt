use Rattle.scene_prep.proofs.Pointing.{partitions_tell_points, overlaps_tell, seen_tells}
use Rattle.scene_prep.proofs.laws.point_laws.Goals as goal

pub returns-clause-partitions : goal.returns-clause-partitions
returns-clause-partitions c = partitions_tell_points

pub returns-clause-overlaps : goal.returns-clause-overlaps
returns-clause-overlaps c = overlaps_tell

pub returns-clause-seen : goal.returns-clause-seen
returns-clause-seen c = seen_tells
