use Rattle.std.proofs.Common.{◌-◌}
use Rattle.scene_prep.proofs.Expansions.{above_again}
use Rattle.scene_prep.proofs.Writing.{placed_near}
use Rattle.scene_prep.proofs.context.Context.placed.Goals as goal

pub invariant_of-result-clause-near : goal.invariant_of-result-clause-near
invariant_of-result-clause-near c =
    placed_near (c.args.self.now.levels - 1) c.compose.result c.args.self.now.by c.args.member.now c.compose.ensures (above_again c.args.self.now.levels c.args.self.now.by c.requires.deep c.args.self.now.near) c.requires.member
