use Rattle.std.proofs.Common.{◌≡◌, rules, None, Some, false, cond, ap, sym}
use Rattle.tile_shot.specs.Named.{TileName, are_small}
use Rattle.view_shot.specs.Kept.{tile_name}
use Rattle.view_shot.proofs.KeptLaws.{large_not_kept}
use Rattle.view_shot.proofs.plan.look_up.Goals as goal

pub returns-then-not-are_small : goal.returns-then-not-are_small
returns-then-not-are_small c =
    let name : TileName = tile_name c.args.scene.now c.args.view.now c.args.tile in
    let large : are_small name.bodies ≡ false = search rules in
    sym (ap (λ b. cond b (Some name) None) (large_not_kept c.args.kept.now name c.is_empty.ensures.small large))
