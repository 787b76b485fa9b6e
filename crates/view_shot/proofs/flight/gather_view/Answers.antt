use Rattle.std.proofs.Common.{OnErr, ◌≡◌, List, length, sym, subst, arith}
use Rattle.std.specs.Arc.{arc_value}
use Rattle.shot_core.specs.Regions.{Region}
use Rattle.tile_shot.specs.Named.{NamedTile}
use Rattle.view_shot.specs.Flights.{pieces_of}
use Rattle.view_shot.specs.Kept.{IsPartWay, tile_names}
use Rattle.view_shot.specs.Steps.{AreLacking}
use Rattle.view_shot.proofs.FlightLaws.{are_lacking, are_tiles}
use Rattle.view_shot.proofs.KeptLaws.{on_err}
use Rattle.view_shot.proofs.StopLaws.{none_moved}
use Rattle.view_shot.proofs.flight.gather_view.Goals as goal

pub into_tiles-requires : goal.into_tiles-requires
into_tiles-requires g c =
    let long : length c.in_ok-shots.shots.items ≡ pieces_of c.args.flight.ticket.work = omega (arith, c.in_ok-shots.ensures.len, c.in_ok-shots.shots.ok.0) in
    are_tiles (arc_value c.args.flight.scene) c.args.flight.view c.args.flight.plan.names.items c.args.flight.ticket.work c.in_ok-shots.shots.items c.args.flight.posted long c.in_ok-shots.ensures.each

pub join_view-requires-clause-shot : goal.join_view-requires-clause-shot
join_view-requires-clause-shot g c =
    let long : length c.in_ok-shots.shots.items ≡ pieces_of c.args.flight.ticket.work = omega (arith, c.in_ok-shots.ensures.len, c.in_ok-shots.shots.ok.0) in
    let all : AreLacking (arc_value c.args.flight.scene) c.args.flight.view c.args.flight.plan.names.items c.in_ok-tiles.tiles.items =
    are_lacking (arc_value c.args.flight.scene) c.args.flight.view c.args.flight.plan.names.items c.args.flight.ticket.work c.in_ok-shots.shots.items c.in_ok-tiles.tiles.items c.args.flight.posted long
    c.in_ok-shots.ensures.each c.in_ok-tiles.ensures in
    subst (λ (s : List Region). AreLacking s c.args.flight.view c.args.flight.plan.names.items c.deref-2.result.now) (sym c.deref.ensures)
    (subst (λ (l : List NamedTile). AreLacking (arc_value c.args.flight.scene) c.args.flight.view c.args.flight.plan.names.items l) (sym c.deref-2.ensures.value) all)

pub returns-in_err-shots-clause-memory : goal.returns-in_err-shots-clause-memory
returns-in_err-shots-clause-memory g c = on_err c.from_residual.result (none_moved c.args.kept.now (tile_names (arc_value c.args.flight.scene) c.args.flight.view))

pub returns-in_err-tiles-clause-memory : goal.returns-in_err-tiles-clause-memory
returns-in_err-tiles-clause-memory g c = on_err c.from_residual-in_err-tiles.result (none_moved c.args.kept.now (tile_names (arc_value c.args.flight.scene) c.args.flight.view))

pub returns-clause-memory : goal.returns-clause-memory
returns-clause-memory g c =
    subst (λ (s : List Region). OnErr c.join_view.result (IsPartWay c.args.kept.now (tile_names s c.args.flight.view) c.join_view.new.kept)) c.deref.ensures c.join_view.ensures.memory
