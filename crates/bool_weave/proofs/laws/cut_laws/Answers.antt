use Rattle.bool_weave.proofs.Cutting.{are_cuts, one_list_of_cuts}
use Rattle.bool_weave.proofs.LawProofs.{cuts_within}
use Rattle.bool_weave.proofs.laws.cut_laws.Goals as goal

pub returns-clause-there : goal.returns-clause-there
returns-clause-there c = are_cuts

pub returns-clause-alone : goal.returns-clause-alone
returns-clause-alone c = one_list_of_cuts

pub returns-clause-within : goal.returns-clause-within
returns-clause-within c = cuts_within
