use Rattle.lattice_core.proofs.Turning.{turned_zero}
use Rattle.lattice_core.proofs.turn.Turn.identity.Goals as goal

pub returns-clause-value : goal.returns-clause-value
returns-clause-value c = turned_zero
