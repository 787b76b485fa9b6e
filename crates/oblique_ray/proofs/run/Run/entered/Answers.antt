use Rattle.std.proofs.Common.{sym, subst}
use Rattle.oblique_ray.specs.Runs.{IsKnown}
use Rattle.oblique_ray.specs.Segments.{comes_after}
use Rattle.oblique_ray.proofs.Runs.{known_ahead}
use Rattle.oblique_ray.proofs.run.Run.entered.Goals as goal

pub returns-clause-known : goal.returns-clause-known
returns-clause-known c = record {
  start = subst IsKnown (sym c.later.ensures.value) (known_ahead comes_after c.args.self.start c.args.place c.requires.run.start c.requires.place);
  end = c.requires.run.end;
}
