use Rattle.lattice_core.proofs.Viewing.{corner_within, world_number, pixel_under}
use Rattle.lattice_core.proofs.view.View.ray.Goals as goal

pub origin-requires-clause-corner : goal.origin-requires-clause-corner
origin-requires-clause-corner c = world_number _ (corner_within c.args.self.now c.requires.view)

pub origin-requires-clause-across : goal.origin-requires-clause-across
origin-requires-clause-across c = (pixel_under c.args.self.now c.args.column c.args.row c.requires.view c.requires.column c.requires.row).0

pub origin-requires-clause-down : goal.origin-requires-clause-down
origin-requires-clause-down c = (pixel_under c.args.self.now c.args.column c.args.row c.requires.view c.requires.column c.requires.row).1
