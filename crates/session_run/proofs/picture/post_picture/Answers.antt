use Rattle.std.proofs.Common.{◌∙◌, ap, sym, subst}
use Rattle.lattice_core.specs.Tiles.{tiles_of}
use Rattle.view_shot.specs.Kept.{tile_name}
use Rattle.view_shot.proofs.TileLaws.{plan_long}
use Rattle.session_run.specs.Pictures.{IsPlan}
use Rattle.session_run.proofs.picture.post_picture.Goals as goal

pub post_view-requires-clause-plan : goal.post_view-requires-clause-plan
post_view-requires-clause-plan g c = λ κs h.
    let plan = subst (IsPlan c.args.used c.args.tiles.now c.deref.result.now c.args.file.now c.args.view.now) c.in-Ok.is c.in_ok-planned.ensures in
    plan_long (tile_name c.deref.result.now c.args.view.now) c.args.tiles.now (tiles_of c.args.view.now) c.in-Ok.planned.plan.names.items plan.plan ∙ ap tiles_of (sym c.view-shown.ensures.value)
