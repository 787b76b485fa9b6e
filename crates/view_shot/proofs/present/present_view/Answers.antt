use Rattle.std.proofs.Common.{◌≡◌, ◌<◌, ◌∙◌, ℕ, List, get_or, ap, subst, arith}
use Rattle.std.specs.Arc.{arc_value}
use Rattle.lattice_core.specs.declared.view.View.{View}
use Rattle.lattice_core.specs.Tiles.{tiles_of}
use Rattle.shot_core.specs.Regions.{Region}
use Rattle.area_tool.specs.Numbers.{IsCopied, IsOnePerPixel}
use Rattle.area_tool.specs.Presented.{tile_presents}
use Rattle.view_shot.specs.Jobs.{ArePresented}
use Rattle.view_shot.specs.declared.present_job.SharedPresents.{SharedPresents}
use Rattle.view_shot.proofs.Led.{led_more, led_none}
use Rattle.view_shot.proofs.Presents.{IsLedList, IsTilePut, led_list, presents_long}
use Rattle.view_shot.proofs.present.present_view.Goals as goal

pub loop-tile-init : goal.loop-tile-init
loop-tile-init g c = record {
  size = c.in_ok-all.ensures;
  led = led_none (IsTilePut (arc_value c.args.scene.now) c.args.view.now) (IsOnePerPixel c.args.view.now.w c.args.view.now.h) c.in_ok-all.all.items c.in_ok-all.ensures;
}

presented : (scene job_scene : List Region) (view : View) (shots : List SharedPresents) (tile : ℕ) (shared : SharedPresents) → job_scene ≡ scene → ArePresented job_scene view (tiles_of view) shots → tile < tiles_of view
    → shared ≡ get_or shots tile shared → (arc_value shared.named).presents ≡ tile_presents scene view tile
presented scene job_scene view shots tile shared same are lt at =
    ap (λ (s : SharedPresents). (arc_value s.named).presents) at ∙ are tile shared lt ∙ ap (λ (rs : List Region). tile_presents rs view tile) same

pub put_presents-requires-clause-shared : goal.put_presents-requires-clause-shared
put_presents-requires-clause-shared g c =
    presents_long (arc_value c.args.scene.now) c.args.view.now c.loop-tile.tile (arc_value c.index.result.now.named).presents
    (presented (arc_value c.args.scene.now) _ c.args.view.now c.in_ok-shots.shots.items c.loop-tile.tile c.index.result.now c.in_ok-clone.ensures.cases c.in_ok-shots.ensures.each (omega (arith, c.loop-tile-test.true, c.loop-tile.auto.tile-end, c.tiles-tile-end.ensures.count)) c.index.ensures)

pub loop-tile-preserved : goal.loop-tile-preserved
loop-tile-preserved g c =
    let scene : List Region = arc_value c.args.scene.now in
    let view : View = c.args.view.now in
    let is : (arc_value c.index.result.now.named).presents ≡ tile_presents scene view c.loop-tile.tile =
    presented scene _ view c.in_ok-shots.shots.items c.loop-tile.tile c.index.result.now c.in_ok-clone.ensures.cases c.in_ok-shots.ensures.each (omega (arith, c.loop-tile-test.true, c.loop-tile.auto.tile-end, c.tiles-tile-end.ensures.count)) c.index.ensures in
    record {
      size = c.put_presents.ensures.size ∙ c.loop-tile.invariant.size;
      led = led_more (IsTilePut scene view) (IsOnePerPixel view.w view.h) c.loop-tile.tile c.loop-tile.all.items c.put_presents.new.all.items c.loop-tile.invariant.led
          (subst (λ (part : List ℕ). IsCopied view c.loop-tile.tile part c.loop-tile.all.items c.put_presents.new.all.items) is c.put_presents.ensures);
    }

pub returns : goal.returns
returns g c =
    let end : c.loop-tile.tile ≡ tiles_of c.args.view.now = omega (arith, c.loop-tile-test.false, c.loop-tile.auto.tile-end, c.tiles-tile-end.ensures.count) in
    led_list (arc_value c.args.scene.now) c.args.view.now c.loop-tile.all.items (c.tile_laws.ensures.numbers c.args.view.now)
    (subst (λ (n : ℕ). IsLedList (arc_value c.args.scene.now) c.args.view.now n c.loop-tile.all.items) end c.loop-tile.invariant.led)
