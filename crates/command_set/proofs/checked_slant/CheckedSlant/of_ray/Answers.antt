use Rattle.slant_ray.specs.Rays.{slant_fault}
use Rattle.command_set.proofs.ViewLaws.{slant_taken, slant_refused}
use Rattle.command_set.proofs.checked_slant.CheckedSlant.of_ray.Goals as goal

pub returns-in-Ok-clause-value : goal.returns-in-Ok-clause-value
returns-in-Ok-clause-value c = slant_taken c.args.ray (slant_fault c.args.ray) c.in-Ok.ensures.value

pub returns-in-Err-clause-value : goal.returns-in-Err-clause-value
returns-in-Err-clause-value c = slant_refused c.args.ray c.in-Err.fault (slant_fault c.args.ray) c.in-Err.ensures.value
