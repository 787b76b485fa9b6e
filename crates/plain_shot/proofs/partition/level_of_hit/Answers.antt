use Rattle.std.proofs.Common.{◌≡◌, ◌∙◌, Option, Some, slice_get, Bor, ap, sym}
use Rattle.std.specs.Option.{option_map, option_copied}
use Rattle.solid_set.specs.declared.placed.Placed.{Placed}
use Rattle.shot_core.specs.Prepared.{instance_of}
use Rattle.shot_core.specs.Regions.{instances_of}
use Rattle.plain_shot.proofs.partition.level_of_hit.Goals as goal

pub level-requires-clause-face : goal.level-requires-clause-face
level-requires-clause-face c =
    let at : slice_get (instances_of c.args.scene.now) c.args.hit.now.instance ≡ Some (instance_of c.in-Some.solid.now) =
    sym c.instance.ensures ∙ ap (λ (o : Option (Bor Placed)). option_map instance_of (option_copied o)) c.in-Some.is in
    c.requires.hit (instance_of c.in-Some.solid.now) at
