use Rattle.bool_weave.proofs.Behind.{claims_are_beside_places, nothing_beyond_the_cuts, own_instances_tell, claims_begin_at_ends}
use Rattle.bool_weave.proofs.laws.place_laws.Goals as goal

pub returns-clause-beside : goal.returns-clause-beside
returns-clause-beside c = claims_are_beside_places

pub returns-clause-nothing : goal.returns-clause-nothing
returns-clause-nothing c = nothing_beyond_the_cuts

pub returns-clause-own : goal.returns-clause-own
returns-clause-own c = own_instances_tell

pub returns-clause-ends : goal.returns-clause-ends
returns-clause-ends c = claims_begin_at_ends
