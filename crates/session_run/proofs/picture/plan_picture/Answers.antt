use Rattle.std.proofs.Common.{◌≡◌, ◌+◌, ◌-◌, ◌<◌, ◌∙◌, ◌++◌, List, Option, length, map, ap, sym, arith}
use Rattle.std.proofs.lemmas.List.{length-map}
use Rattle.std.proofs.lemmas.List.FromFn.{length-map-range_with_len}
use Rattle.lattice_core.specs.declared.view.View.{View}
use Rattle.lattice_core.specs.Tiles.{tiles_of}
use Rattle.ppm_write.specs.Pictures.{header_text}
use Rattle.tile_shot.specs.Pixels.{view_bytes}
use Rattle.shot_core.specs.Regions.{Region}
use Rattle.tile_shot.specs.Named.{TileName}
use Rattle.view_shot.specs.Kept.{reused, tile_name, tile_names}
use Rattle.view_shot.specs.Steps.{if_kept}
use Rattle.view_shot.proofs.TileLaws.{few_found}
use Rattle.session_run.specs.Replies.{size_of, picture_bytes, pictured}
use Rattle.session_run.proofs.PictureLaws.{AreCounted, counts, found_counts, picture_told, picture_is, some_head, past_quota, in_quota}
use Rattle.session_run.proofs.picture.plan_picture.Goals as goal

pub reused-reused-requires : goal.reused-reused-requires
reused-reused-requires c =
    let names : List (Option TileName) = c.in_ok-plan.plan.names.items in
    let long : length names ≡ tiles_of c.view-view.result =
    ap (length {A = Option TileName}) c.in_ok-plan.ensures ∙ length-map (tile_names c.args.scene.now c.view-view.result) (if_kept c.args.tiles.now) ∙ length-map-range_with_len (tile_name c.args.scene.now c.view-view.result) 0 (tiles_of c.view-view.result) in
    omega (arith, long, c.tiles-count.ensures.count, c.tiles-count.type_inv)

pub overflow_sub-count : goal.overflow_sub-count
overflow_sub-count c =
    let names : List (Option TileName) = c.in_ok-plan.plan.names.items in
    let long : length names ≡ tiles_of c.view-view.result =
    ap (length {A = Option TileName}) c.in_ok-plan.ensures ∙ length-map (tile_names c.args.scene.now c.view-view.result) (if_kept c.args.tiles.now) ∙ length-map-range_with_len (tile_name c.args.scene.now c.view-view.result) 0 (tiles_of c.view-view.result) in
    omega (arith, long, few_found names, c.reused-reused.ensures, c.tiles-count.ensures.count)

pub returns-then-left-size : goal.returns-then-left-size
returns-then-left-size c =
    let scene : List Region = c.args.scene.now in
    let names : List (Option TileName) = c.in_ok-plan.plan.names.items in
    let are : names ≡ map (if_kept c.args.tiles.now) (tile_names scene c.view-view.result) = c.in_ok-plan.ensures in
    let many : c.reused-reused.result ≡ length (reused c.args.tiles.now (tile_names scene c.view-view.result)) = c.reused-reused.ensures ∙ found_counts c.args.tiles.now scene c.view-view.result names are in
    let counted : AreCounted c.args.tiles.now scene c.args.file.now c.view-view.result c.args.view.now (c.tiles-count.result - c.reused-reused.result) c.reused-reused.result = record {
      few_are = omega (arith, counts c.args.tiles.now scene c.view-view.result, many, c.tiles-count.ensures.count);
      many_are = many;
    } in
    let told : length c.text.result.now + (length c.bytes.result.now + c.pixel_bytes.result) ≡ size_of (pictured c.args.tiles.now scene c.args.file.now c.args.view.now) =
    picture_told c.args.tiles.now scene c.args.file.now c.view-view.result c.args.view.now (c.tiles-count.result - c.reused-reused.result) c.reused-reused.result c.in_ok-body.body c.text.result.now c.bytes.result.now c.pixel_bytes.result
    counted c.view-view.ensures.value c.tiles_make_the_picture.ensures.whole c.in_ok-body.ensures c.text.ensures (c.bytes.ensures ∙ c.header.ensures) c.pixel_bytes.ensures.value in
    past_quota c.args.used (pictured c.args.tiles.now scene c.args.file.now c.args.view.now) c.requires (omega (arith, told, c.if-left-size.true, c.saturating_sub-left.ensures, c.from.ensures, c.requires))

pub returns : goal.returns
returns c =
    let scene : List Region = c.args.scene.now in
    let names : List (Option TileName) = c.in_ok-plan.plan.names.items in
    let are : names ≡ map (if_kept c.args.tiles.now) (tile_names scene c.view-view.result) = c.in_ok-plan.ensures in
    let many : c.reused-reused.result ≡ length (reused c.args.tiles.now (tile_names scene c.view-view.result)) = c.reused-reused.ensures ∙ found_counts c.args.tiles.now scene c.view-view.result names are in
    let counted : AreCounted c.args.tiles.now scene c.args.file.now c.view-view.result c.args.view.now (c.tiles-count.result - c.reused-reused.result) c.reused-reused.result = record {
      few_are = omega (arith, counts c.args.tiles.now scene c.view-view.result, many, c.tiles-count.ensures.count);
      many_are = many;
    } in
    let told : length c.text.result.now + (length c.bytes.result.now + c.pixel_bytes.result) ≡ size_of (pictured c.args.tiles.now scene c.args.file.now c.args.view.now) =
    picture_told c.args.tiles.now scene c.args.file.now c.view-view.result c.args.view.now (c.tiles-count.result - c.reused-reused.result) c.reused-reused.result c.in_ok-body.body c.text.result.now c.bytes.result.now c.pixel_bytes.result
    counted c.view-view.ensures.value c.tiles_make_the_picture.ensures.whole c.in_ok-body.ensures c.text.ensures (c.bytes.ensures ∙ c.header.ensures) c.pixel_bytes.ensures.value in
    let some : 0 < length c.bytes.result.now = some_head c.view-view.result c.bytes.result.now (c.bytes.ensures ∙ c.header.ensures) in
    let shown : View = c.view-view.result in
    let whole : header_text shown.w shown.h ++ view_bytes scene c.args.view.now ≡ picture_bytes scene shown = ap (λ (v : View). header_text shown.w shown.h ++ view_bytes scene v) (sym c.view-view.ensures.value) in
    record {
      view_is = c.view-view.ensures.value;
      plan = are ∙ ap (λ (v : View). map (if_kept c.args.tiles.now) (tile_names scene v)) c.view-view.ensures.value;
      outcome = picture_is c.args.tiles.now scene c.args.file.now shown c.args.view.now (c.tiles-count.result - c.reused-reused.result) c.reused-reused.result c.in_ok-body.body (header_text shown.w shown.h ++ view_bytes scene c.args.view.now) counted
          c.view-view.ensures.value c.in_ok-body.ensures whole
          ∙ in_quota c.args.used (pictured c.args.tiles.now scene c.args.file.now c.args.view.now) c.requires (omega (arith, told, some, c.if-left-size.false, c.saturating_sub-left.ensures, c.from.ensures, c.requires));
    }
