use Rattle.std.proofs.Common.{Option, sym, subst}
use Rattle.std.specs.Option.{ForSome}
use Rattle.oblique_ray.specs.Segments.{Stretch}
use Rattle.oblique_ray.specs.Sizes.{AreEndsInRange}
use Rattle.oblique_ray.proofs.Runs.{between_range}
use Rattle.oblique_ray.proofs.run.Run.ended.Goals as goal

pub returns-else-self-clause-range : goal.returns-else-self-clause-range
returns-else-self-clause-range c = subst (λ (found : Option Stretch). ForSome found AreEndsInRange) (sym c.between.ensures) (between_range c.args.self.start c.args.self.end c.requires.start c.requires.end)
