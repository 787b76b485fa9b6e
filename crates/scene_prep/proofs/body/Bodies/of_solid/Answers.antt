use Rattle.std.proofs.Common.{◌∙◌, ap, sym}
use Rattle.std.specs.Arc.{arc_value}
use Rattle.std.specs.Option.{option_map}
use Rattle.scene_prep.specs.Regions.{solid_region}
use Rattle.scene_prep.proofs.body.Bodies.of_solid.Goals as goal

pub returns-in-Some-clause-body : goal.returns-in-Some-clause-body
returns-in-Some-clause-body c =
    c.requires.known c.args.key.now (arc_value c.in-Some.body) (solid_region c.args.key.now.name c.args.solid.now) (sym c.in_ok-body.ensures ∙ ap (option_map arc_value) c.in-Some.is) c.requires.own
