use Rattle.std.proofs.Common.{◌<◌, ◌∙◌, ℕ, List, All, length, get_or, map, ap, sym, subst}
use Rattle.std.proofs.lemmas.Simd.{map-map}
use Rattle.std.proofs.lemmas.Result.{IfOk-weaker}
use Rattle.shot_core.specs.Regions.{Region}
use Rattle.shot_core.specs.Steps.{no_region}
use Rattle.shot_core.proofs.TilePicking.{picked_regions, places_within}
use Rattle.shot_core.proofs.kept.kept_bodies.Goals as goal

pub bodies_at-requires : goal.bodies_at-requires
bodies_at-requires c =
    let scene = c.args.scene.now in
    let places = c.reach_tile.new.out.items in
    let within : All (λ i. i < length scene) places = places_within c.args.view.now c.args.tile c.requires.view c.requires.tile scene places c.in_ok-reach_tile.ensures in
    subst (λ (l : List ℕ). All (λ i. i < length c.regions.result.now) l) (sym c.deref.ensures.value)
    (subst (λ (rs : List Region). All (λ i. i < length rs) places) (sym c.regions.ensures.value) within)

pub returns : goal.returns
returns c =
    let scene = c.args.scene.now in
    let places = c.reach_tile.new.out.items in
    IfOk-weaker c.bodies_at.result _ _
    (λ bodies e. e ∙ ap (λ (rs : List Region). map (λ i. (get_or rs i no_region).body) c.deref.result.now) c.regions.ensures.value
    ∙ ap (map (λ i. (get_or scene i no_region).body)) c.deref.ensures.value
    ∙ sym (map-map (λ (r : Region). r.body) (λ i. get_or scene i no_region) places)
    ∙ ap (map (λ (r : Region). r.body)) (picked_regions c.args.view.now c.args.tile c.requires.view c.requires.tile scene places c.in_ok-reach_tile.ensures)) c.bodies_at.ensures
