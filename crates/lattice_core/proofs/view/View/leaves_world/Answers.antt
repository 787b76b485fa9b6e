use Rattle.std.proofs.Common.{refl}
use Rattle.lattice_core.proofs.Viewing.{world_answer}
use Rattle.lattice_core.proofs.view.View.leaves_world.Goals as goal

pub returns : goal.returns
returns c = world_answer c.args.self.now c.is_within-2.result c.origin.result (c.if-not-is_within.ensures.0 refl) c.origin.ensures c.is_within-2.ensures
