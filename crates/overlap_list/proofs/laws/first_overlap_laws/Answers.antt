use Rattle.overlap_list.proofs.ByPlaces.{overlaps_are_by_places, first_stretch_is_overlap, no_overlap_without_stretch}
use Rattle.overlap_list.proofs.laws.first_overlap_laws.Goals as goal

pub returns-clause-places : goal.returns-clause-places
returns-clause-places c = overlaps_are_by_places

pub returns-clause-stretch : goal.returns-clause-stretch
returns-clause-stretch c = first_stretch_is_overlap

pub returns-clause-none : goal.returns-clause-none
returns-clause-none c = no_overlap_without_stretch
