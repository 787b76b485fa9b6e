use Rattle.bool_weave.proofs.Claimed.{nothing_from_nothing}
use Rattle.bool_weave.proofs.LawProofs.{covers_by_places}
use Rattle.bool_weave.proofs.laws.claim_laws.Goals as goal

pub returns-clause-covers : goal.returns-clause-covers
returns-clause-covers c = covers_by_places

pub returns-clause-nothing : goal.returns-clause-nothing
returns-clause-nothing c = nothing_from_nothing
