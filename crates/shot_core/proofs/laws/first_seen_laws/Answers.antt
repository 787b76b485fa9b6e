use Rattle.shot_core.proofs.FirstShots.{seen_at_first_place, nothing_seen_else, own_segments_tell}
use Rattle.shot_core.proofs.laws.first_seen_laws.Goals as goal

pub returns-clause-first : goal.returns-clause-first
returns-clause-first c = seen_at_first_place

pub returns-clause-none : goal.returns-clause-none
returns-clause-none c = nothing_seen_else

pub returns-clause-own : goal.returns-clause-own
returns-clause-own c = own_segments_tell
