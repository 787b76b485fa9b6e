use Rattle.std.proofs.Common.{◌≡◌, ◌∙◌, ◌+◌, Some, slice_get, length, ap, sym, subst, arith, refl}
use Rattle.std.proofs.lemmas.Option.{slice_get-get_or}
use Rattle.first_hit.specs.declared.near.Near.{Near}
use Rattle.first_hit.specs.NearFirst.{AreNears, begins_at, from_origin}
use Rattle.first_hit.specs.FirstSteps.{side_of}
use Rattle.shot_core.specs.RegionBoxes.{near_side, region_box}
use Rattle.shot_core.proofs.Claiming.{regions_within}
use Rattle.first_hit.proofs.NearFirst.{nears_none, nears_next}
use Rattle.first_hit.proofs.near.nears_of.Goals as goal

pub overflow_cast-i : goal.overflow_cast-i
overflow_cast-i c = omega (arith, c.loop-i-test.true, ap length c.regions-regions.ensures.value, regions_within c.args.scene.now, c.regions-regions.ensures.sound.size)

pub loop-i-init : goal.loop-i-init
loop-i-init c = subst (AreNears c.args.dir c.args.scene.now 0) (sym c.new-nears.ensures.items) (nears_none c.args.dir c.args.scene.now)

pub loop-i-preserved : goal.loop-i-preserved
loop-i-preserved c =
    let next : Near = record { side = c.near_side.result; region = c.loop-i.i } in
    let there : slice_get c.args.scene.now c.loop-i.i ≡ Some c.index-regions-i.result =
    ap (λ rs. slice_get rs c.loop-i.i) (sym c.regions-regions.ensures.value)
    ∙ slice_get-get_or c.regions-regions.result.now c.loop-i.i c.index-regions-i.result (omega (arith, c.loop-i-test.true)) ∙ ap Some (sym c.index-regions-i.is) in
    let own : c.deref.result.now ≡ c.index-regions-i.result.body = c.deref.ensures ∙ c.body.ensures in
    let bounds : c.bounds-bounds.result ≡ region_box c.index-regions-i.result.body = c.bounds-bounds.ensures ∙ ap region_box own in
    let side : side_of next.side ≡ begins_at c.args.dir (slice_get c.args.scene.now c.loop-i.i) =
    c.near_side.ensures ∙ ap (λ b. near_side b (from_origin c.args.dir)) bounds ∙ ap (begins_at c.args.dir) (sym there) in
    subst (AreNears c.args.dir c.args.scene.now (c.loop-i.i + 1)) (sym c.in_ok-push.ensures.items) (nears_next c.args.dir c.args.scene.now c.loop-i.i c.loop-i.nears.items next c.loop-i.invariant refl side)
