use Rattle.std.proofs.Common.{◌∙◌, Some, ap}
use Rattle.std.specs.Arc.{arc_value}
use Rattle.std.specs.Option.{option_map}
use Rattle.std.specs.HashMap.{get}
use Rattle.scene_prep.specs.contracts.body.BodyKeyPartialEq.TheImpl as keys
use Rattle.scene_prep.proofs.Coming.{map_cond, kept}
use Rattle.scene_prep.proofs.body.Bodies.keep.Goals as goal

pub returns : goal.returns
returns c =
    kept c.args.directory.now.objects c.args.self.now (record { known = c.insert.new.self }) c.args.key.now (arc_value c.in_ok-share.share)
    (λ q. ap (option_map arc_value) (c.in_ok-insert.ensures.updates.0 q) ∙ map_cond arc_value (keys.eq-value.it c.args.key.now q) (Some c.in_ok-share.share) (get keys.eq-value.it c.args.self.now.known q))
    c.requires.known (λ region own. c.in_ok-share.ensures ∙ c.requires.body region own)
