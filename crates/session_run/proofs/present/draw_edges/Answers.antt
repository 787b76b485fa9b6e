use Rattle.std.proofs.Common.{◌∙◌, List, Ok, ap, arith, sym}
use Rattle.std.specs.Arc.{arc_value}
use Rattle.shot_core.specs.Regions.{Region}
use Rattle.area_tool.specs.Presented.{view_presents}
use Rattle.session_run.specs.Replies.{edged, within_quota}
use Rattle.session_run.proofs.PresentLaws.{edges_found, file_past, lines_past}
use Rattle.session_run.proofs.present.draw_edges.Goals as goal

pub returns-then-room-size : goal.returns-then-room-size
returns-then-room-size g c =
    file_past (arc_value c.args.scene.now) c.args.file.now c.view-view.result c.args.view.now c.view-view.ensures.value c.args.used c.file_bytes-size.result c.requires c.file_bytes-size.ensures (omega (arith, c.if-room-size.true))

pub edges_of-requires-clause-all : goal.edges_of-requires-clause-all
edges_of-requires-clause-all g c = c.deref-2.ensures.value ∙ c.in_ok-all.ensures ∙ ap (λ (scene : List Region). view_presents scene c.view-view.result) (sym c.deref.ensures)

pub returns-then-room-size-2 : goal.returns-then-room-size-2
returns-then-room-size-2 g c =
    lines_past c.deref.result.now c.args.file.now c.view-view.result c.args.view.now c.view-view.ensures.value c.args.used c.file_bytes-size.result c.requires c.file_bytes-size.ensures
    c.in_ok-body.body c.text.result.now c.in_ok-drawn.drawn.white c.in_ok-drawn.ensures.white c.in_ok-body.ensures c.text.ensures (omega (arith, c.if-room-size-2.true)) (omega (arith, c.if-room-size.false))
    ∙ ap (λ (scene : List Region). within_quota c.args.used (Ok (edged scene c.args.file.now c.args.view.now))) c.deref.ensures

pub returns : goal.returns
returns g c =
    edges_found c.deref.result.now c.args.file.now c.view-view.result c.args.view.now c.view-view.ensures.value c.args.used c.file_bytes-size.result c.requires c.file_bytes-size.ensures
    c.in_ok-body.body c.text.result.now c.in_ok-drawn.drawn.white c.in_ok-drawn.ensures.white c.in_ok-body.ensures c.text.ensures
    c.in_ok-filled.field-0 c.deref-3.result.now c.in_ok-filled.ensures (c.deref-3.ensures.value ∙ c.in_ok-drawn.ensures.pixels) (omega (arith, c.if-room-size-2.false)) (omega (arith, c.if-room-size.false))
    ∙ ap (λ (scene : List Region). within_quota c.args.used (Ok (edged scene c.args.file.now c.args.view.now))) c.deref.ensures
