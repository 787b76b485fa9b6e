use Rattle.overlap_list.proofs.LawProofs.{winners_are_right, runs_are_maximal}
use Rattle.overlap_list.proofs.Parts.{partitions_are_in_order, partitions_are_won}
use Rattle.overlap_list.proofs.Placing.{partitions_are_on_the_ray}
use Rattle.overlap_list.proofs.Covering.{claims_are_partitioned}
use Rattle.overlap_list.proofs.Hitting.{hits_are_there}
use Rattle.overlap_list.proofs.laws.partition_laws.Goals as goal

pub returns-clause-winners : goal.returns-clause-winners
returns-clause-winners c = winners_are_right

pub returns-clause-runs : goal.returns-clause-runs
returns-clause-runs c = runs_are_maximal

pub returns-clause-order : goal.returns-clause-order
returns-clause-order c = partitions_are_in_order

pub returns-clause-places : goal.returns-clause-places
returns-clause-places c = partitions_are_on_the_ray

pub returns-clause-won : goal.returns-clause-won
returns-clause-won c = partitions_are_won

pub returns-clause-all : goal.returns-clause-all
returns-clause-all c = claims_are_partitioned

pub returns-clause-hits : goal.returns-clause-hits
returns-clause-hits c = hits_are_there
