use Rattle.tile_shot.proofs.Listing.{reported, kinds_are_pairs, parts_have_fewer}
use Rattle.tile_shot.proofs.Parting.{tiles_are_parts, tiles_are_apart, tiles_follow, tiles_are_all, tiles_make_reports}
use Rattle.tile_shot.proofs.Keeping.{kept_have_the_same, candidates_have_the_same}
use Rattle.tile_shot.proofs.report_law.report_laws.Goals as goal

pub returns-clause-regions : goal.returns-clause-regions
returns-clause-regions c = reported

pub returns-clause-pairs : goal.returns-clause-pairs
returns-clause-pairs c = kinds_are_pairs

pub returns-clause-fewer : goal.returns-clause-fewer
returns-clause-fewer c = λ regions view a rising. parts_have_fewer regions view a

pub returns-clause-tiles : goal.returns-clause-tiles
returns-clause-tiles c = tiles_are_parts

pub returns-clause-apart : goal.returns-clause-apart
returns-clause-apart c = tiles_are_apart

pub returns-clause-follow : goal.returns-clause-follow
returns-clause-follow c = tiles_follow

pub returns-clause-all : goal.returns-clause-all
returns-clause-all c = tiles_are_all

pub returns-clause-made : goal.returns-clause-made
returns-clause-made c = tiles_make_reports

pub returns-clause-kept : goal.returns-clause-kept
returns-clause-kept c = kept_have_the_same c.kept_laws.ensures.overlaps

pub returns-clause-candidates : goal.returns-clause-candidates
returns-clause-candidates c = candidates_have_the_same c.kept_laws.ensures.candidates
