use Rattle.std.proofs.Common.{◌≡◌, rules}
use Rattle.scene_make.specs.Draws.{draw}
use Rattle.scene_make.proofs.TurnLaws.{drawn}
use Rattle.scene_make.proofs.draws.Draws.sphere.Goals as goal

pub returns-clause-turn : goal.returns-clause-turn
returns-clause-turn c =
    let number : c.turn-turn.result.number ≡ draw c.args.self.now.last 1 48 = search rules in
    drawn c.turn-turn.result c.args.self.now.last number
