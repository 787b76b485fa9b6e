use Rattle.shot_core.proofs.TileMeeting.{sharing_tells, tells_whether_tile_met}
use Rattle.shot_core.proofs.KeptLaws.{kept_see_the_same, kept_overlap_the_same}
use Rattle.shot_core.proofs.Candidates.{candidates_overlap_the_same}
use Rattle.shot_core.proofs.laws.kept_laws.Goals as goal

pub returns-clause-shared : goal.returns-clause-shared
returns-clause-shared c = sharing_tells

pub returns-clause-tile : goal.returns-clause-tile
returns-clause-tile c = tells_whether_tile_met

pub returns-clause-seen : goal.returns-clause-seen
returns-clause-seen c = kept_see_the_same

pub returns-clause-overlaps : goal.returns-clause-overlaps
returns-clause-overlaps c = kept_overlap_the_same

pub returns-clause-candidates : goal.returns-clause-candidates
returns-clause-candidates c = candidates_overlap_the_same
