use Rattle.scene_prep.proofs.Numbers.{numbers_follow, sizes_count_leaves}
use Rattle.scene_prep.proofs.Within.{regions_within_size}
use Rattle.scene_prep.proofs.Whole.{trees_whole, regions_whole, sizes_whole}
use Rattle.scene_prep.proofs.Together.{regions_together}
use Rattle.scene_prep.proofs.Worlds.{placements_one}
use Rattle.scene_prep.proofs.laws.region_laws.Goals as goal

pub returns-clause-leaves : goal.returns-clause-leaves
returns-clause-leaves c = sizes_count_leaves

pub returns-clause-numbers : goal.returns-clause-numbers
returns-clause-numbers c = numbers_follow

pub returns-clause-together : goal.returns-clause-together
returns-clause-together c = regions_together

pub returns-clause-trees : goal.returns-clause-trees
returns-clause-trees c = trees_whole

pub returns-clause-regions : goal.returns-clause-regions
returns-clause-regions c = regions_whole

pub returns-clause-sizes : goal.returns-clause-sizes
returns-clause-sizes c = sizes_whole

pub returns-clause-within : goal.returns-clause-within
returns-clause-within c = regions_within_size

pub returns-clause-placements : goal.returns-clause-placements
returns-clause-placements c = placements_one
