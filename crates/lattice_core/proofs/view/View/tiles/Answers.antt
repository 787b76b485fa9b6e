use Rattle.lattice_core.proofs.Tiling.{tiled}
use Rattle.lattice_core.proofs.view.View.tiles.Goals as goal

pub returns-clause-tiled : goal.returns-clause-tiled
returns-clause-tiled c = tiled c.args.self.now
