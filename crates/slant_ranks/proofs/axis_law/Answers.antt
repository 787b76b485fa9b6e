use Rattle.slant_ranks.proofs.Axes.{plain_rays_are_slants, plain_rays_have_slant_parts}
use Rattle.slant_ranks.proofs.axis_law.Goals as goal

pub returns-clause-rows : goal.returns-clause-rows
returns-clause-rows c = plain_rays_are_slants

pub returns-clause-parts : goal.returns-clause-parts
returns-clause-parts c = plain_rays_have_slant_parts
