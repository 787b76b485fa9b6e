use Rattle.std.proofs.Common.{◌∙◌}
use Rattle.tile_shot.specs.Sameness.{instances_are}
use Rattle.tile_shot.proofs.same.same_solids.Goals as goal

pub returns : goal.returns
returns c = c.eq.ensures ∙ instances_are c.args.a.now c.args.b.now
