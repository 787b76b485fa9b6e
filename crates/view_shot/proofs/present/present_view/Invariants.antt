use Rattle.std.specs.Arc.{arc_value}
use Rattle.area_tool.specs.Numbers.{IsOnePerPixel}
use Rattle.view_shot.proofs.Presents.{IsLedList}
use Rattle.view_shot.proofs.present.present_view.Given as goal

abbrev pub invariant-loop-tile : goal.invariant-loop-tile
invariant-loop-tile g l = record {
  size : IsOnePerPixel l.view.w l.view.h l.all.items;
  led : IsLedList (arc_value l.scene) l.view l.tile l.all.items;
}
