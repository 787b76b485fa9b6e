use Rattle.overlap_list.proofs.Firsts.{first_starts_at_first_place, none_without_place}
use Rattle.overlap_list.proofs.laws.first_laws.Goals as goal

pub returns-clause-first : goal.returns-clause-first
returns-clause-first c = first_starts_at_first_place

pub returns-clause-none : goal.returns-clause-none
returns-clause-none c = none_without_place
