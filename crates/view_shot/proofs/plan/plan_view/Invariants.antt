use Rattle.std.proofs.Common.{◌≡◌, map}
use Rattle.std.specs.List.{range_with_len}
use Rattle.view_shot.specs.Kept.{tile_name}
use Rattle.view_shot.specs.Steps.{if_kept}
use Rattle.view_shot.proofs.plan.plan_view.Given as goal

abbrev pub invariant-loop-tile : goal.invariant-loop-tile
invariant-loop-tile l = l.names.items ≡ map (if_kept l.kept) (map (tile_name l.scene l.view) (range_with_len 0 l.tile))
