use Rattle.std.proofs.Common.{◌≡◌, ◌<◌, ◌∙◌, ℕ, List, All, length, get_or, map, ap, sym, subst}
use Rattle.std.proofs.lemmas.Result.{IfOk-weaker}
use Rattle.shot_core.specs.Regions.{Region, IsScene}
use Rattle.shot_core.specs.RegionBoxes.{region_box}
use Rattle.shot_core.specs.Pruned.{meets_tile, kept_for}
use Rattle.shot_core.specs.Steps.{no_region}
use Rattle.shot_core.proofs.Missing.{scene_left}
use Rattle.shot_core.proofs.TilePicking.{picked_regions, places_within}
use Rattle.shot_core.proofs.kept.kept_regions.Goals as goal

pub shares_of-requires : goal.shares_of-requires
shares_of-requires c =
    let scene = c.args.scene.now in
    let places = c.reach_tile.new.out.items in
    let within : All (λ i. i < length scene) places = places_within c.args.view.now c.args.tile c.requires.view c.requires.tile scene places c.in_ok-reach_tile.ensures in
    subst (λ (l : List ℕ). All (λ i. i < length c.regions.result.now) l) (sym c.deref.ensures.value)
    (subst (λ (rs : List Region). All (λ i. i < length rs) places) (sym c.regions.ensures.value) within)

pub unindexed-requires : goal.unindexed-requires
unindexed-requires c =
    let scene = c.args.scene.now in
    let view = c.args.view.now in
    let tile = c.args.tile in
    let places = c.reach_tile.new.out.items in
    let kept : c.in_ok-kept.kept.items ≡ kept_for scene view tile =
    c.in_ok-kept.ensures ∙ ap (λ (rs : List Region). map (λ i. get_or rs i no_region) c.deref.result.now) c.regions.ensures.value
    ∙ ap (map (λ i. get_or scene i no_region)) c.deref.ensures.value ∙ picked_regions view tile c.requires.view c.requires.tile scene places c.in_ok-reach_tile.ensures in
    subst IsScene (sym kept) (scene_left (λ r. meets_tile (region_box r.body) view tile) scene c.regions.ensures.sound)

pub returns : goal.returns
returns c =
    let scene = c.args.scene.now in
    let view = c.args.view.now in
    let tile = c.args.tile in
    let places = c.reach_tile.new.out.items in
    let kept : c.in_ok-kept.kept.items ≡ kept_for scene view tile =
    c.in_ok-kept.ensures ∙ ap (λ (rs : List Region). map (λ i. get_or rs i no_region) c.deref.result.now) c.regions.ensures.value
    ∙ ap (map (λ i. get_or scene i no_region)) c.deref.ensures.value ∙ picked_regions view tile c.requires.view c.requires.tile scene places c.in_ok-reach_tile.ensures in
    IfOk-weaker c.unindexed.result _ _ (λ s e. e ∙ kept) c.unindexed.ensures
