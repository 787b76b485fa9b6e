use Rattle.std.proofs.Common.{◌≡◌, map, filter, take}
use Rattle.ppm_write.specs.Pictures.{IsPictureOf}
use Rattle.tile_shot.specs.Named.{is_small_name}
use Rattle.view_shot.specs.Kept.{in_turn, moved, put_in, tile_name}
use Rattle.view_shot.specs.Steps.{found, lacking}
use Rattle.view_shot.proofs.StopLaws.{small_of}
use Rattle.view_shot.proofs.TileLaws.{IsLeft}
use Rattle.view_shot.proofs.PictureLaws.{IsLedPicture}
use Rattle.view_shot.proofs.picture.join_view.Given as goal

abbrev pub invariant-loop-tile : goal.invariant-loop-tile
invariant-loop-tile l = record {
  left : IsLeft (tile_name l.scene l.view) l.plan.names.items l.shot
      (in_turn put_in (in_turn moved l.fn.kept (found l.plan.names.items)) (filter is_small_name (map (tile_name l.scene l.view) (lacking l.plan.names.items 0))))
      l.tile l.next l.kept;
  so_far : l.kept ≡ in_turn put_in (in_turn moved l.fn.kept (found l.plan.names.items)) (small_of (tile_name l.scene l.view) (take l.tile l.plan.names.items) 0);
  size : IsPictureOf l.view.w l.view.h l.picture.items;
  led : IsLedPicture l.scene l.view l.tile l.picture.items;
}
