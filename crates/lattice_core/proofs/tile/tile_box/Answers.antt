use Rattle.std.proofs.Common.{◌≡◌, ◌∙◌, ◌+◌, ◌-◌, ap, subst}
use Rattle.lattice_core.specs.declared.tile.TileSpan.{TileSpan}
use Rattle.lattice_core.specs.Boxes.{IsRayBox}
use Rattle.lattice_core.specs.Views.{pixel_ray}
use Rattle.lattice_core.proofs.Tiling.{span_part}
use Rattle.lattice_core.proofs.TileBoxes.{first_ray, last_ray, tile_box_is}
use Rattle.lattice_core.proofs.tile.tile_box.Goals as goal

pub returns : goal.returns
returns c =
    let view = c.args.view.now in
    let tile = c.args.tile in
    let f : c.ray-first.result ≡ first_ray view tile = c.ray-first.ensures.value ∙ ap (λ (s : TileSpan). pixel_ray view s.column s.row) c.span-span.ensures.value in
    let l : c.ray-last.result ≡ last_ray view tile = c.ray-last.ensures.value ∙ ap (λ (s : TileSpan). pixel_ray view (s.column + (s.w - 1)) (s.row + (s.h - 1))) c.span-span.ensures.value in
    tile_box_is view tile c.ray_box.result c.ray_box-2.result c.hull.result c.requires.view.cell (span_part view tile c.requires.tile)
    (subst (IsRayBox c.ray_box.result) f c.ray_box.ensures) (subst (IsRayBox c.ray_box-2.result) l c.ray_box-2.ensures) c.hull.ensures.hull
