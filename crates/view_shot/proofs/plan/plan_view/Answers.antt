use Rattle.std.proofs.Common.{◌≡◌, ◌∙◌, ◌++◌, ◌∷◌, [], ℕ, List, Option, map, ap, ap₂, sym, arith}
use Rattle.std.specs.List.{range_with_len}
use Rattle.std.proofs.lemmas.List.{map_push}
use Rattle.std.proofs.lemmas.List.FromFn.{map-range_with_len_more}
use Rattle.lattice_core.specs.Tiles.{tiles_of}
use Rattle.tile_shot.specs.Named.{TileName}
use Rattle.view_shot.specs.Kept.{tile_name}
use Rattle.view_shot.specs.Steps.{if_kept}
use Rattle.view_shot.proofs.plan.plan_view.Goals as goal

pub loop-tile-preserved : goal.loop-tile-preserved
loop-tile-preserved c =
    c.in_ok-push.ensures.items
    ∙ ap₂ (λ (l : List (Option TileName)) (o : Option TileName). l ++ o ∷ []) c.loop-tile.invariant c.in_ok-look_up.ensures
    ∙ sym (map_push (if_kept c.args.kept.now) (map (tile_name c.args.scene.now c.args.view.now) (range_with_len 0 c.loop-tile.tile)) (tile_name c.args.scene.now c.args.view.now c.loop-tile.tile))
    ∙ ap (map (if_kept c.args.kept.now)) (sym (map-range_with_len_more (tile_name c.args.scene.now c.args.view.now) 0 c.loop-tile.tile c.loop-tile.tile (omega arith)))

pub returns : goal.returns
returns c =
    let end : c.loop-tile.tile ≡ tiles_of c.args.view.now = omega (arith, c.loop-tile-test.false, c.loop-tile.auto.tile-end, c.tiles-tile-end.ensures.count) in
    c.loop-tile.invariant ∙ ap (λ (n : ℕ). map (if_kept c.args.kept.now) (map (tile_name c.args.scene.now c.args.view.now) (range_with_len 0 n))) end
