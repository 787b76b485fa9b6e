use Rattle.view_laws.proofs.LeftOut.{partitions_without_the_rest}
use Rattle.view_laws.proofs.Kept.{kept_have_the_same_partitions}
use Rattle.view_laws.proofs.pruning_laws.Goals as goal

pub returns-clause-left_out : goal.returns-clause-left_out
returns-clause-left_out c = partitions_without_the_rest

pub returns-clause-kept : goal.returns-clause-kept
returns-clause-kept c = kept_have_the_same_partitions
