use Rattle.overlap_list.proofs.Parts.{overlaps_are_in_order}
use Rattle.overlap_list.proofs.FirstRuns.{overlaps_are_first}
use Rattle.overlap_list.proofs.Placing.{overlaps_are_on_the_ray}
use Rattle.overlap_list.proofs.laws.overlap_laws.Goals as goal

pub returns-clause-order : goal.returns-clause-order
returns-clause-order c = overlaps_are_in_order

pub returns-clause-first : goal.returns-clause-first
returns-clause-first c = overlaps_are_first

pub returns-clause-places : goal.returns-clause-places
returns-clause-places c = overlaps_are_on_the_ray
