use Rattle.std.proofs.Common.{◌+◌}
use Rattle.scene_prep.proofs.Writing.{placed_near, above_below}
use Rattle.scene_prep.proofs.expand.placed_below.Goals as goal

pub compose-requires-clause-upper : goal.compose-requires-clause-upper
compose-requires-clause-upper c = above_below (c.args.levels + 1) c.args.by.now c.requires.by

pub returns-clause-near : goal.returns-clause-near
returns-clause-near c = placed_near c.args.levels c.compose.result c.args.by.now c.args.member.now c.compose.ensures c.requires.by c.requires.member
