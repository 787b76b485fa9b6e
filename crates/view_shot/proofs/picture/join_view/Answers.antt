use Rattle.std.proofs.Common.{◌≡◌, ◌+◌, ◌∷◌, [], ◌∙◌, ℕ, List, Option, drop, filter, length, map, ap, refl, sym, subst, arith}
use Rattle.std.specs.Option.{option_map}
use Rattle.std.proofs.lemmas.List.{drop_all, length-map}
use Rattle.std.proofs.lemmas.List.FromFn.{length-map-range_with_len}
use Rattle.lattice_core.specs.Tiles.{tiles_of}
use Rattle.ppm_write.specs.Pictures.{IsPictureOf}
use Rattle.tile_shot.specs.Named.{TileName, is_small_name}
use Rattle.view_shot.specs.Kept.{in_turn, moved, put_in, tile_name, tile_names}
use Rattle.view_shot.specs.Steps.{AreKept, found, if_kept, lacking}
use Rattle.view_shot.proofs.KeptLaws.{on_err}
use Rattle.view_shot.proofs.Led.{led_more, led_none}
use Rattle.view_shot.proofs.PictureLaws.{IsLedPicture, IsTileCopied, led_whole, put_bytes}
use Rattle.view_shot.proofs.StopLaws.{moved_all, part_moved, part_put, one_more, put_more, taken_long, taken_next}
use Rattle.view_shot.proofs.TileLaws.{IsLeft, can_put, found_kept, gone, kept_after, key_of, left_first, left_last, slot_at, slots_long}
use Rattle.view_shot.proofs.picture.join_view.Goals as goal

pub reuse_all-requires : goal.reuse_all-requires
reuse_all-requires c =
    subst (λ (l : List (Option TileName)). AreKept c.args.kept.now (found l)) (sym c.requires.plan) (found_kept c.args.kept.now (tile_names c.args.scene.now c.args.view.now))

pub loop-tile-init : goal.loop-tile-init
loop-tile-init c =
    let name : ℕ → TileName = tile_name c.args.scene.now c.args.view.now in
    let names : List (Option TileName) = c.args.plan.now.names.items in
    let keys : map key_of c.args.shot.now ≡ map name (lacking names 0) = c.requires.shot in
    let end : List TileName = in_turn put_in (in_turn moved c.args.kept.now (found names)) (filter is_small_name (map name (lacking names 0))) in
    record {
      left = subst (λ (k : List TileName). IsLeft name names c.args.shot.now end 0 0 k) (sym c.in_ok-slots.ensures.moved)
          (left_first name c.args.kept.now (found names) (tiles_of c.args.view.now) names c.args.shot.now c.requires.plan keys);
      so_far = c.in_ok-slots.ensures.moved;
      size = c.in_ok-picture.ensures;
      led = led_none (IsTileCopied c.args.scene.now c.args.view.now) (IsPictureOf c.args.view.now.w c.args.view.now.h) c.in_ok-picture.picture.items c.in_ok-picture.ensures;
    }

pub index-slot-requires : goal.index-slot-requires
index-slot-requires c =
    let long : length c.in_ok-slots.slots.items ≡ tiles_of c.args.view.now =
    slots_long (tile_name c.args.scene.now c.args.view.now) c.args.kept.now (tiles_of c.args.view.now) c.args.plan.now.names.items c.in_ok-slots.slots.items c.in_ok-slots.ensures.named c.requires.plan in
    omega (arith, long, c.in_ok-slots.slots.ok, c.loop-tile-test.true, c.tiles-tile-end.ensures.count)

pub put_next-requires-clause-there : goal.put_next-requires-clause-there
put_next-requires-clause-there c =
    let name : ℕ → TileName = tile_name c.args.scene.now c.args.view.now in
    let names : List (Option TileName) = c.args.plan.now.names.items in
    let long : length c.in_ok-slots.slots.items ≡ tiles_of c.args.view.now =
    slots_long name c.args.kept.now (tiles_of c.args.view.now) names c.in_ok-slots.slots.items c.in_ok-slots.ensures.named c.requires.plan in
    let is : drop c.loop-tile.tile names ≡ option_map key_of c.index-slot.result.now ∷ drop (c.loop-tile.tile + 1) names =
    slot_at c.in_ok-slots.slots.items names c.loop-tile.tile c.index-slot.result.now c.in_ok-slots.ensures.named c.index-slot.ensures (omega (arith, long, c.loop-tile-test.true, c.tiles-tile-end.ensures.count)) in
    (can_put name c.args.view.now names c.args.shot.now _ c.loop-tile.tile c.loop-tile.next c.loop-tile.kept c.index-slot.result.now (drop (c.loop-tile.tile + 1) names) refl refl is c.loop-tile.invariant.left)

pub loop-tile-preserved : goal.loop-tile-preserved
loop-tile-preserved c =
    let name : ℕ → TileName = tile_name c.args.scene.now c.args.view.now in
    let names : List (Option TileName) = c.args.plan.now.names.items in
    let long : length c.in_ok-slots.slots.items ≡ tiles_of c.args.view.now =
    slots_long name c.args.kept.now (tiles_of c.args.view.now) names c.in_ok-slots.slots.items c.in_ok-slots.ensures.named c.requires.plan in
    let is : drop c.loop-tile.tile names ≡ option_map key_of c.index-slot.result.now ∷ drop (c.loop-tile.tile + 1) names =
    slot_at c.in_ok-slots.slots.items names c.loop-tile.tile c.index-slot.result.now c.in_ok-slots.ensures.named c.index-slot.ensures (omega (arith, long, c.loop-tile-test.true, c.tiles-tile-end.ensures.count)) in
    let put = c.in_ok-put_next.ensures.put in
    let went = gone name c.args.view.now names c.args.shot.now _ (λ n. refl) c.loop-tile.tile c.loop-tile.next c.put_next.new.next c.loop-tile.kept c.put_next.new.kept c.index-slot.result.now
    (drop (c.loop-tile.tile + 1) names) c.loop-tile.picture.items c.put_next.new.picture.items is refl c.loop-tile.invariant.left put in
    record {
      left = went.left;
      so_far = put_more name names (in_turn moved c.args.kept.now (found names)) c.loop-tile.tile c.loop-tile.kept c.put_next.new.kept (option_map key_of c.index-slot.result.now)
          (taken_next names c.loop-tile.tile _ _ is) (taken_long names c.loop-tile.tile _ _ is) c.loop-tile.invariant.so_far
          (one_more name names c.args.shot.now _ c.args.view.now c.loop-tile.tile c.loop-tile.next c.put_next.new.next c.loop-tile.kept c.put_next.new.kept c.index-slot.result.now
          (drop (c.loop-tile.tile + 1) names) c.loop-tile.picture.items c.put_next.new.picture.items is c.loop-tile.invariant.left put);
      size = went.is_put.copied.size ∙ c.loop-tile.invariant.size;
      led = led_more (IsTileCopied c.args.scene.now c.args.view.now) (IsPictureOf c.args.view.now.w c.args.view.now.h) c.loop-tile.tile c.loop-tile.picture.items c.put_next.new.picture.items
          c.loop-tile.invariant.led (put_bytes c.args.scene.now c.args.view.now c.loop-tile.tile went.one c.loop-tile.picture.items c.put_next.new.picture.items went.named went.is_put);
    }

pub returns-clause-pixels : goal.returns-clause-pixels
returns-clause-pixels c =
    let end : c.loop-tile.tile ≡ tiles_of c.args.view.now = omega (arith, c.loop-tile-test.false, c.loop-tile.auto.tile-end, c.tiles-tile-end.ensures.count) in
    led_whole c.args.scene.now c.args.view.now c.loop-tile.picture.items c.pixel_laws.ensures.picture
    (record { instances = c.regions-regions.ensures.leaves; placed = c.regions-regions.ensures.placed; checked = c.requires.view })
    (subst (λ (n : ℕ). IsLedPicture c.args.scene.now c.args.view.now n c.loop-tile.picture.items) end c.loop-tile.invariant.led)

pub returns-clause-kept : goal.returns-clause-kept
returns-clause-kept c =
    let name : ℕ → TileName = tile_name c.args.scene.now c.args.view.now in
    let names : List (Option TileName) = c.args.plan.now.names.items in
    let long : length names ≡ tiles_of c.args.view.now =
    ap (length {A = Option TileName}) c.requires.plan ∙ length-map (tile_names c.args.scene.now c.args.view.now) (if_kept c.args.kept.now) ∙ length-map-range_with_len name 0 (tiles_of c.args.view.now) in
    let none : drop c.loop-tile.tile names ≡ [] = drop_all c.loop-tile.tile names (omega (arith, long, c.loop-tile-test.false, c.loop-tile.auto.tile-end, c.tiles-tile-end.ensures.count)) in
    left_last name names c.args.shot.now _ c.loop-tile.tile c.loop-tile.next c.loop-tile.kept none c.loop-tile.invariant.left ∙ kept_after name c.args.kept.now (tiles_of c.args.view.now) names c.requires.plan

pub returns-in_err-slots-clause-memory : goal.returns-in_err-slots-clause-memory
returns-in_err-slots-clause-memory c =
    on_err c.from_residual.result (part_moved c.args.kept.now (tile_names c.args.scene.now c.args.view.now) c.args.plan.now.names.items c.reuse_all.new.kept c.requires.plan c.in_err-slots.ensures.memory)

pub returns-in_err-picture-clause-memory : goal.returns-in_err-picture-clause-memory
returns-in_err-picture-clause-memory c =
    on_err c.from_residual-in_err-picture.result
    (part_moved c.args.kept.now (tile_names c.args.scene.now c.args.view.now) c.args.plan.now.names.items c.reuse_all.new.kept c.requires.plan
    (moved_all c.args.kept.now (found c.args.plan.now.names.items) c.reuse_all.new.kept c.in_ok-slots.ensures.moved))

pub returns-in_err-put_next-clause-memory : goal.returns-in_err-put_next-clause-memory
returns-in_err-put_next-clause-memory c =
    let name : ℕ → TileName = tile_name c.args.scene.now c.args.view.now in
    let names : List (Option TileName) = c.args.plan.now.names.items in
    let long : length c.in_ok-slots.slots.items ≡ tiles_of c.args.view.now =
    slots_long name c.args.kept.now (tiles_of c.args.view.now) names c.in_ok-slots.slots.items c.in_ok-slots.ensures.named c.requires.plan in
    let is : drop c.loop-tile.tile names ≡ option_map key_of c.index-slot.result.now ∷ drop (c.loop-tile.tile + 1) names =
    slot_at c.in_ok-slots.slots.items names c.loop-tile.tile c.index-slot.result.now c.in_ok-slots.ensures.named c.index-slot.ensures (omega (arith, long, c.loop-tile-test.true, c.tiles-tile-end.ensures.count)) in
    on_err c.from_residual-in_err-put_next.result
    (part_put name c.args.kept.now (tiles_of c.args.view.now) names c.args.shot.now _ c.loop-tile.tile c.loop-tile.next c.loop-tile.kept c.put_next.new.kept c.index-slot.result.now (drop (c.loop-tile.tile + 1) names)
    c.requires.plan is (taken_long names c.loop-tile.tile _ _ is) c.loop-tile.invariant.left c.loop-tile.invariant.so_far c.in_err-put_next.ensures.memory)
