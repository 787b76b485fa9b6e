use Rattle.std.proofs.Common.{rules, ◌≡◌, ◌<◌, ◌∙◌, ℕ, List, All, IfErr, length, map, ap, sym, subst, refl}
use Rattle.std.proofs.lemmas.List.{length-map}
use Rattle.bool_weave.specs.Cuts.{IsWoven}
use Rattle.bool_weave.specs.Claims.{intervals_of}
use Rattle.overlap_list.specs.declared.region.RegionClaims.{RegionClaims}
use Rattle.overlap_list.specs.declared.overlap.OverlapRun.{OverlapRun}
use Rattle.overlap_list.specs.Overlaps.{overlaps_of, IsTooMany}
use Rattle.overlap_list.specs.Laws.{IsPartOfRay, AreByPlace}
use Rattle.shot_core.specs.Laws.{AreFirstOverlaps}
use Rattle.shot_core.specs.OverlapPoints.{AreTrueOverlaps}
use Rattle.shot_core.specs.Shots.{woven_of, overlaps_on}
use Rattle.shot_core.specs.Steps.{numbered_claims, renumbered_run}
use Rattle.shot_core.proofs.OverlapTruth.{overlaps_tell_points}
use Rattle.shot_core.proofs.ResultLaws.{runs_on_ray, runs_by_place, runs_are_first}
use Rattle.shot_core.proofs.Shooting.{empty_from, runs_none, overlaps_picked, rows, few, runs_within, numbers_below}
use Rattle.shot_core.proofs.shot.check_uncounted.Goals as goal

pub claims_of_all-requires : goal.claims_of_all-requires
claims_of_all-requires g c =
    subst (All (λ n. n < length c.args.scene.now)) (sym c.deref.ensures.value)
    (numbers_below c.args.scene.now c.args.ray.now c.weave_scene.new.weave c.in-Ok-weave_scene.numbers.items (map (numbered_claims c.weave_scene.new.weave c.args.scene.now) c.in-Ok-weave_scene.numbers.items)
    c.in-Ok-weave_scene.ensures.woven c.in-Ok-weave_scene.ensures.hit refl c.in-Ok-weave_scene.ensures.leaves)

pub overlaps-requires-clause-few : goal.overlaps-requires-clause-few
overlaps-requires-clause-few g c =
    let regions_are : c.in-Ok-claims_of_all.regions.items ≡ map (numbered_claims c.weave_scene.new.weave c.args.scene.now) c.in-Ok-weave_scene.numbers.items =
    c.in-Ok-claims_of_all.ensures ∙ ap (map (numbered_claims c.weave_scene.new.weave c.args.scene.now)) c.deref.ensures.value in
    subst (λ (l : List RegionClaims). length l < 2147483648) (sym c.deref-2.ensures.value)
    (few c.args.scene.now c.args.ray.now c.weave_scene.new.weave c.in-Ok-weave_scene.numbers.items c.in-Ok-claims_of_all.regions.items c.in-Ok-weave_scene.ensures.woven c.in-Ok-weave_scene.ensures.hit regions_are c.in-Ok-weave_scene.ensures.leaves c.in-Ok-weave_scene.ensures.sound)

pub overlaps-requires-clause-rows : goal.overlaps-requires-clause-rows
overlaps-requires-clause-rows g c =
    let regions_are : c.in-Ok-claims_of_all.regions.items ≡ map (numbered_claims c.weave_scene.new.weave c.args.scene.now) c.in-Ok-weave_scene.numbers.items =
    c.in-Ok-claims_of_all.ensures ∙ ap (map (numbered_claims c.weave_scene.new.weave c.args.scene.now)) c.deref.ensures.value in
    subst (All (λ (r : RegionClaims). length r.claims ≡ length (intervals_of c.weave_scene.new.weave))) (sym c.deref-2.ensures.value)
    (rows c.args.scene.now c.args.ray.now c.weave_scene.new.weave c.in-Ok-weave_scene.numbers.items c.in-Ok-claims_of_all.regions.items c.in-Ok-weave_scene.ensures.woven c.in-Ok-weave_scene.ensures.hit regions_are c.in-Ok-weave_scene.ensures.leaves)

pub returns-in_err-runs-clause-fault : goal.returns-in_err-runs-clause-fault
returns-in_err-runs-clause-fault g c =
    let regions_are : c.in-Ok-claims_of_all.regions.items ≡ map (numbered_claims c.weave_scene.new.weave c.args.scene.now) c.in-Ok-weave_scene.numbers.items =
    c.in-Ok-claims_of_all.ensures ∙ ap (map (numbered_claims c.weave_scene.new.weave c.args.scene.now)) c.deref.ensures.value in
    let count : length (overlaps_of c.weave_scene.new.weave c.deref-2.result.now) ≡ length (overlaps_on c.args.scene.now c.args.ray.now) =
    ap (λ l. length (overlaps_of c.weave_scene.new.weave l)) c.deref-2.ensures.value
    ∙ sym (length-map (overlaps_of c.weave_scene.new.weave c.in-Ok-claims_of_all.regions.items) (renumbered_run c.in-Ok-weave_scene.numbers.items))
    ∙ ap length (overlaps_picked c.args.scene.now c.args.ray.now c.weave_scene.new.weave c.in-Ok-weave_scene.numbers.items c.in-Ok-claims_of_all.regions.items c.in-Ok-weave_scene.ensures.woven c.in-Ok-weave_scene.ensures.hit regions_are c.in-Ok-weave_scene.ensures.leaves) in
    let raw : IfErr c.from_residual.result (IsTooMany (length (overlaps_of c.weave_scene.new.weave c.deref-2.result.now))) = search rules in
    subst (λ n. IfErr c.from_residual.result (IsTooMany n)) count raw

pub renumber_all-requires : goal.renumber_all-requires
renumber_all-requires g c =
    let regions_are : c.in-Ok-claims_of_all.regions.items ≡ map (numbered_claims c.weave_scene.new.weave c.args.scene.now) c.in-Ok-weave_scene.numbers.items =
    c.in-Ok-claims_of_all.ensures ∙ ap (map (numbered_claims c.weave_scene.new.weave c.args.scene.now)) c.deref.ensures.value in
    let runs : c.in_ok-runs.runs.items ≡ overlaps_of c.weave_scene.new.weave c.in-Ok-claims_of_all.regions.items = c.in_ok-runs.ensures.runs ∙ ap (overlaps_of c.weave_scene.new.weave) c.deref-2.ensures.value in
    subst (λ (ns : List ℕ). All (λ (r : OverlapRun). (r.one < length ns) × (r.two < length ns)) c.in_ok-runs.runs.items) (sym c.deref-3.ensures.value)
    (subst (All (λ (r : OverlapRun). (r.one < length c.in-Ok-weave_scene.numbers.items) × (r.two < length c.in-Ok-weave_scene.numbers.items))) (sym runs)
    (runs_within c.args.scene.now c.args.ray.now c.weave_scene.new.weave c.in-Ok-weave_scene.numbers.items c.in-Ok-claims_of_all.regions.items c.in-Ok-weave_scene.ensures.woven c.in-Ok-weave_scene.ensures.hit regions_are c.in-Ok-weave_scene.ensures.leaves))

pub returns-clause-runs : goal.returns-clause-runs
returns-clause-runs g c =
    let regions_are : c.in-Ok-claims_of_all.regions.items ≡ map (numbered_claims c.weave_scene.new.weave c.args.scene.now) c.in-Ok-weave_scene.numbers.items =
    c.in-Ok-claims_of_all.ensures ∙ ap (map (numbered_claims c.weave_scene.new.weave c.args.scene.now)) c.deref.ensures.value in
    let runs : c.in_ok-runs.runs.items ≡ overlaps_of c.weave_scene.new.weave c.in-Ok-claims_of_all.regions.items = c.in_ok-runs.ensures.runs ∙ ap (overlaps_of c.weave_scene.new.weave) c.deref-2.ensures.value in
    c.renumber_all.ensures
    ∙ ap (λ ns. map (renumbered_run ns) c.in_ok-runs.runs.items) c.deref-3.ensures.value
    ∙ ap (map (renumbered_run c.in-Ok-weave_scene.numbers.items)) runs
    ∙ overlaps_picked c.args.scene.now c.args.ray.now c.weave_scene.new.weave c.in-Ok-weave_scene.numbers.items c.in-Ok-claims_of_all.regions.items c.in-Ok-weave_scene.ensures.woven c.in-Ok-weave_scene.ensures.hit regions_are c.in-Ok-weave_scene.ensures.leaves

pub returns-then-is_empty-clause-runs : goal.returns-then-is_empty-clause-runs
returns-then-is_empty-clause-runs g c =
    let none : length c.woven.result.now ≡ 0 = search rules in
    c.new-then-is_empty.ensures.items
    ∙ runs_none c.args.scene.now c.args.ray.now c.weave_scene.new.weave c.in-Ok-weave_scene.ensures.woven c.in-Ok-weave_scene.ensures.leaves
    (sym c.woven.ensures.woven ∙ empty_from c.woven.result.now none)

pub returns-then-is_empty-clause-order : goal.returns-then-is_empty-clause-order
returns-then-is_empty-clause-order g c =
    let sound : IsWoven (woven_of c.args.scene.now c.args.ray.now) = subst IsWoven c.in-Ok-weave_scene.ensures.woven c.woven.ensures.sound in
    subst (λ (os : List OverlapRun). AreByPlace (length c.args.scene.now) os) (sym (returns-then-is_empty-clause-runs g c)) (runs_by_place c.args.scene.now c.args.ray.now c.in-Ok-weave_scene.ensures.leaves sound)

pub returns-clause-order : goal.returns-clause-order
returns-clause-order g c =
    let sound : IsWoven (woven_of c.args.scene.now c.args.ray.now) = subst IsWoven c.in-Ok-weave_scene.ensures.woven c.woven.ensures.sound in
    subst (λ (os : List OverlapRun). AreByPlace (length c.args.scene.now) os) (sym (returns-clause-runs g c)) (runs_by_place c.args.scene.now c.args.ray.now c.in-Ok-weave_scene.ensures.leaves sound)

pub returns-then-is_empty-clause-first : goal.returns-then-is_empty-clause-first
returns-then-is_empty-clause-first g c =
    let sound : IsWoven (woven_of c.args.scene.now c.args.ray.now) = subst IsWoven c.in-Ok-weave_scene.ensures.woven c.woven.ensures.sound in
    subst (λ (os : List OverlapRun). AreFirstOverlaps c.args.scene.now c.args.ray.now os) (sym (returns-then-is_empty-clause-runs g c)) (runs_are_first c.args.scene.now c.args.ray.now c.in-Ok-weave_scene.ensures.leaves sound)

pub returns-clause-first : goal.returns-clause-first
returns-clause-first g c =
    let sound : IsWoven (woven_of c.args.scene.now c.args.ray.now) = subst IsWoven c.in-Ok-weave_scene.ensures.woven c.woven.ensures.sound in
    subst (λ (os : List OverlapRun). AreFirstOverlaps c.args.scene.now c.args.ray.now os) (sym (returns-clause-runs g c)) (runs_are_first c.args.scene.now c.args.ray.now c.in-Ok-weave_scene.ensures.leaves sound)

pub returns-then-is_empty-clause-places : goal.returns-then-is_empty-clause-places
returns-then-is_empty-clause-places g c =
    let sound : IsWoven (woven_of c.args.scene.now c.args.ray.now) = subst IsWoven c.in-Ok-weave_scene.ensures.woven c.woven.ensures.sound in
    subst (λ (os : List OverlapRun). All (λ (r : OverlapRun). IsPartOfRay r.start r.end) os) (sym (returns-then-is_empty-clause-runs g c)) (runs_on_ray c.args.scene.now c.args.ray.now c.in-Ok-weave_scene.ensures.leaves sound)

pub returns-clause-places : goal.returns-clause-places
returns-clause-places g c =
    let sound : IsWoven (woven_of c.args.scene.now c.args.ray.now) = subst IsWoven c.in-Ok-weave_scene.ensures.woven c.woven.ensures.sound in
    subst (λ (os : List OverlapRun). All (λ (r : OverlapRun). IsPartOfRay r.start r.end) os) (sym (returns-clause-runs g c)) (runs_on_ray c.args.scene.now c.args.ray.now c.in-Ok-weave_scene.ensures.leaves sound)

pub returns-then-is_empty-clause-segments : goal.returns-then-is_empty-clause-segments
returns-then-is_empty-clause-segments g c = subst IsWoven c.in-Ok-weave_scene.ensures.woven c.woven.ensures.sound

pub returns-clause-segments : goal.returns-clause-segments
returns-clause-segments g c = subst IsWoven c.in-Ok-weave_scene.ensures.woven c.woven.ensures.sound

pub returns-then-is_empty-clause-points : goal.returns-then-is_empty-clause-points
returns-then-is_empty-clause-points g c =
    subst (λ (os : List OverlapRun). AreTrueOverlaps c.args.scene.now c.args.ray.now os) (sym (returns-then-is_empty-clause-runs g c)) (overlaps_tell_points c.args.scene.now c.args.ray.now c.in-Ok-weave_scene.ensures.leaves)

pub returns-clause-points : goal.returns-clause-points
returns-clause-points g c =
    subst (λ (os : List OverlapRun). AreTrueOverlaps c.args.scene.now c.args.ray.now os) (sym (returns-clause-runs g c)) (overlaps_tell_points c.args.scene.now c.args.ray.now c.in-Ok-weave_scene.ensures.leaves)
