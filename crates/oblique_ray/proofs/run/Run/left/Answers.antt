use Rattle.std.proofs.Common.{sym, subst}
use Rattle.oblique_ray.specs.Runs.{IsKnown}
use Rattle.oblique_ray.specs.Segments.{comes_before}
use Rattle.oblique_ray.proofs.Runs.{known_ahead}
use Rattle.oblique_ray.proofs.run.Run.left.Goals as goal

pub returns-clause-known : goal.returns-clause-known
returns-clause-known c = record {
  start = c.requires.run.start;
  end = subst IsKnown (sym c.earlier.ensures.value) (known_ahead comes_before c.args.self.end c.args.place c.requires.run.end c.requires.place);
}
