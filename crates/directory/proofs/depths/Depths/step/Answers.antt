use Rattle.std.proofs.Common.{◌∙◌, ap, min}
use Rattle.directory.specs.Depths.{depth_kept}
use Rattle.directory.specs.Walks.{depth_over, unbounded}
use Rattle.directory.proofs.depths.Depths.step.Goals as goal

pub returns-in-Some : goal.returns-in-Some
returns-in-Some c = c.over.ensures ∙ ap (λ p. min unbounded (depth_over p (depth_kept c.args.self.now))) c.in-Some.ensures
