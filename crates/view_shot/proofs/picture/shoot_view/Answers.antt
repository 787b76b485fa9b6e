use Rattle.std.proofs.Common.{OnErr, List, subst}
use Rattle.std.specs.Arc.{arc_value}
use Rattle.lattice_core.specs.Tiles.{tiles_of}
use Rattle.shot_core.specs.Regions.{Region}
use Rattle.view_shot.specs.Kept.{IsPartWay, tile_name, tile_names}
use Rattle.view_shot.proofs.KeptLaws.{on_err}
use Rattle.view_shot.proofs.StopLaws.{none_moved}
use Rattle.view_shot.proofs.TileLaws.{plan_long}
use Rattle.view_shot.proofs.picture.shoot_view.Goals as goal

pub shoot_lacking-requires-clause-plan : goal.shoot_lacking-requires-clause-plan
shoot_lacking-requires-clause-plan g c = λ κs h.
    plan_long (tile_name (arc_value c.args.scene.now) c.args.view.now) c.args.kept.now (tiles_of c.args.view.now) c.args.plan.now.names.items c.requires.plan

pub returns-in_err-shot-clause-memory : goal.returns-in_err-shot-clause-memory
returns-in_err-shot-clause-memory g c = on_err c.from_residual.result (none_moved c.args.kept.now (tile_names (arc_value c.args.scene.now) c.args.view.now))

pub returns-clause-memory : goal.returns-clause-memory
returns-clause-memory g c =
    subst (λ (s : List Region). OnErr c.join_view.result (IsPartWay c.args.kept.now (tile_names s c.args.view.now) c.join_view.new.kept)) c.deref.ensures c.join_view.ensures.memory
