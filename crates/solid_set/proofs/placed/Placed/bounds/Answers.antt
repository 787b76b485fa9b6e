use Rattle.solid_set.proofs.Enclosed.{enclosed, enclosed_along}
use Rattle.solid_set.proofs.placed.Placed.bounds.Goals as goal

pub returns-clause-holds : goal.returns-clause-holds
returns-clause-holds c = enclosed c.args.self.now.surface c.args.self.now.bounds c.args.self.now.made

pub returns-clause-along : goal.returns-clause-along
returns-clause-along c = enclosed_along c.args.self.now.surface c.args.self.now.bounds c.args.self.now.made
