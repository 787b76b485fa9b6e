use Rattle.std.proofs.Common.{rules, ◌≡◌, ◌<◌, ◌∙◌, ℕ, List, All, length, map, ap, sym, subst, refl, arith}
use Rattle.std.proofs.lemmas.Result.{IfOk-weaker}
use Rattle.bool_weave.specs.Cuts.{IsWoven}
use Rattle.bool_weave.specs.Claims.{intervals_of}
use Rattle.overlap_list.specs.declared.region.RegionClaims.{RegionClaims}
use Rattle.overlap_list.specs.declared.partition.Partition.{Partition}
use Rattle.overlap_list.specs.Partitions.{partitions_of}
use Rattle.overlap_list.specs.Laws.{AreInOrder, IsPartOfRay, IsWonPart, HasHit}
use Rattle.shot_core.specs.declared.shot.Lit.{Lit}
use Rattle.shot_core.specs.Laws.{parts_of, IsHitInScene, HoldsAllClaims}
use Rattle.shot_core.specs.Points.{stretches_of, IsTrueOfPoints}
use Rattle.shot_core.specs.Shots.{woven_of, claims_on, lit_by, lit_of}
use Rattle.shot_core.specs.Steps.{numbered_claims, IsHitOn, renumbered}
use Rattle.shot_core.proofs.PointTruth.{true_of_points}
use Rattle.shot_core.proofs.Shooting.{empty_from, lit_none, lit_picked, lit_within, rows, few, parts_within, hits_on, numbers_below}
use Rattle.shot_core.proofs.ResultLaws.{lit_in_order, lit_on_ray, lit_won, lit_all, lit_hits, lit_hits_in_scene}
use Rattle.shot_core.proofs.shot.shoot.Goals as goal

pub returns-then-is_empty-clause-lit : goal.returns-then-is_empty-clause-lit
returns-then-is_empty-clause-lit g c =
    let none : length c.woven.result.now ≡ 0 = search rules in
    c.new-then-is_empty.ensures.items
    ∙ lit_none c.args.scene.now c.args.ray.now c.weave_scene.new.weave c.in_ok-numbers.ensures.woven c.in_ok-numbers.ensures.leaves
    (sym c.woven.ensures.woven ∙ empty_from c.woven.result.now none)

pub claims_of_all-requires : goal.claims_of_all-requires
claims_of_all-requires g c =
    subst (All (λ n. n < length c.args.scene.now)) (sym c.deref.ensures.value)
    (numbers_below c.args.scene.now c.args.ray.now c.weave_scene.new.weave c.in_ok-numbers.numbers.items (map (numbered_claims c.weave_scene.new.weave c.args.scene.now) c.in_ok-numbers.numbers.items)
    c.in_ok-numbers.ensures.woven c.in_ok-numbers.ensures.hit refl c.in_ok-numbers.ensures.leaves)

pub settle-requires-clause-few : goal.settle-requires-clause-few
settle-requires-clause-few g c =
    let regions_are : c.in_ok-regions.regions.items ≡ map (numbered_claims c.weave_scene.new.weave c.args.scene.now) c.in_ok-numbers.numbers.items =
    c.in_ok-regions.ensures ∙ ap (map (numbered_claims c.weave_scene.new.weave c.args.scene.now)) c.deref.ensures.value in
    subst (λ (l : List RegionClaims). length l < 2147483648) (sym c.deref-2.ensures.value)
    (few c.args.scene.now c.args.ray.now c.weave_scene.new.weave c.in_ok-numbers.numbers.items c.in_ok-regions.regions.items c.in_ok-numbers.ensures.woven c.in_ok-numbers.ensures.hit regions_are c.in_ok-numbers.ensures.leaves
    c.in_ok-numbers.ensures.sound)

pub settle-requires-clause-rows : goal.settle-requires-clause-rows
settle-requires-clause-rows g c =
    let regions_are : c.in_ok-regions.regions.items ≡ map (numbered_claims c.weave_scene.new.weave c.args.scene.now) c.in_ok-numbers.numbers.items =
    c.in_ok-regions.ensures ∙ ap (map (numbered_claims c.weave_scene.new.weave c.args.scene.now)) c.deref.ensures.value in
    subst (All (λ (r : RegionClaims). length r.claims ≡ length (intervals_of c.weave_scene.new.weave))) (sym c.deref-2.ensures.value)
    (rows c.args.scene.now c.args.ray.now c.weave_scene.new.weave c.in_ok-numbers.numbers.items c.in_ok-regions.regions.items c.in_ok-numbers.ensures.woven c.in_ok-numbers.ensures.hit regions_are c.in_ok-numbers.ensures.leaves)

pub lit_by_all-requires-clause-regions : goal.lit_by_all-requires-clause-regions
lit_by_all-requires-clause-regions g c =
    let regions_are : c.in_ok-regions.regions.items ≡ map (numbered_claims c.weave_scene.new.weave c.args.scene.now) c.in_ok-numbers.numbers.items =
    c.in_ok-regions.ensures ∙ ap (map (numbered_claims c.weave_scene.new.weave c.args.scene.now)) c.deref.ensures.value in
    let parts : c.deref-4.result.now ≡ partitions_of c.weave_scene.new.weave c.in_ok-regions.regions.items =
    c.deref-4.ensures.value ∙ c.in_ok-partitions.ensures ∙ ap (partitions_of c.weave_scene.new.weave) c.deref-2.ensures.value in
    subst (λ (ns : List ℕ). All (λ (p : Partition). p.region < length ns) c.deref-4.result.now) (sym c.deref-3.ensures.value)
    (subst (All (λ (p : Partition). p.region < length c.in_ok-numbers.numbers.items)) (sym parts)
    (parts_within c.args.scene.now c.args.ray.now c.weave_scene.new.weave c.in_ok-numbers.numbers.items c.in_ok-regions.regions.items c.in_ok-numbers.ensures.woven c.in_ok-numbers.ensures.hit regions_are c.in_ok-numbers.ensures.leaves))

pub lit_by_all-requires-clause-hits : goal.lit_by_all-requires-clause-hits
lit_by_all-requires-clause-hits g c =
    let regions_are : c.in_ok-regions.regions.items ≡ map (numbered_claims c.weave_scene.new.weave c.args.scene.now) c.in_ok-numbers.numbers.items =
    c.in_ok-regions.ensures ∙ ap (map (numbered_claims c.weave_scene.new.weave c.args.scene.now)) c.deref.ensures.value in
    let parts : c.deref-4.result.now ≡ partitions_of c.weave_scene.new.weave c.in_ok-regions.regions.items =
    c.deref-4.ensures.value ∙ c.in_ok-partitions.ensures ∙ ap (partitions_of c.weave_scene.new.weave) c.deref-2.ensures.value in
    subst (All (λ (p : Partition). IsHitOn c.args.scene.now c.args.ray.now p.hit)) (sym parts)
    (hits_on c.args.scene.now c.args.ray.now c.weave_scene.new.weave c.in_ok-numbers.numbers.items c.in_ok-regions.regions.items c.in_ok-numbers.ensures.woven c.in_ok-numbers.ensures.hit regions_are c.in_ok-numbers.ensures.leaves
    c.woven.ensures.sound)

pub returns-clause-lit : goal.returns-clause-lit
returns-clause-lit g c =
    let regions_are : c.in_ok-regions.regions.items ≡ map (numbered_claims c.weave_scene.new.weave c.args.scene.now) c.in_ok-numbers.numbers.items =
    c.in_ok-regions.ensures ∙ ap (map (numbered_claims c.weave_scene.new.weave c.args.scene.now)) c.deref.ensures.value in
    let parts : c.deref-4.result.now ≡ partitions_of c.weave_scene.new.weave c.in_ok-regions.regions.items =
    c.deref-4.ensures.value ∙ c.in_ok-partitions.ensures ∙ ap (partitions_of c.weave_scene.new.weave) c.deref-2.ensures.value in
    let whole : map (λ (p : Partition). lit_by c.args.scene.now c.args.ray.now (renumbered c.deref-3.result.now p)) c.deref-4.result.now ≡ lit_of c.args.scene.now c.args.ray.now =
    ap (λ ns. map (λ (p : Partition). lit_by c.args.scene.now c.args.ray.now (renumbered ns p)) c.deref-4.result.now) c.deref-3.ensures.value
    ∙ ap (map (λ (p : Partition). lit_by c.args.scene.now c.args.ray.now (renumbered c.in_ok-numbers.numbers.items p))) parts
    ∙ lit_picked c.args.scene.now c.args.ray.now c.weave_scene.new.weave c.in_ok-numbers.numbers.items c.in_ok-regions.regions.items c.in_ok-numbers.ensures.woven c.in_ok-numbers.ensures.hit regions_are c.in_ok-numbers.ensures.leaves in
    IfOk-weaker c.lit_by_all.result (λ v. v.items ≡ map (λ (p : Partition). lit_by c.args.scene.now c.args.ray.now (renumbered c.deref-3.result.now p)) c.deref-4.result.now) (λ v. v.items ≡ lit_of c.args.scene.now c.args.ray.now)
    (λ v h. h ∙ whole) c.lit_by_all.ensures

pub returns-then-is_empty-clause-regions : goal.returns-then-is_empty-clause-regions
returns-then-is_empty-clause-regions g c = λ k d lt. absurd (omega (arith, lt, ap length c.new-then-is_empty.ensures.items))

pub returns-clause-regions : goal.returns-clause-regions
returns-clause-regions g c =
    let regions_are : c.in_ok-regions.regions.items ≡ map (numbered_claims c.weave_scene.new.weave c.args.scene.now) c.in_ok-numbers.numbers.items =
    c.in_ok-regions.ensures ∙ ap (map (numbered_claims c.weave_scene.new.weave c.args.scene.now)) c.deref.ensures.value in
    let parts : c.deref-4.result.now ≡ partitions_of c.weave_scene.new.weave c.in_ok-regions.regions.items =
    c.deref-4.ensures.value ∙ c.in_ok-partitions.ensures ∙ ap (partitions_of c.weave_scene.new.weave) c.deref-2.ensures.value in
    let below : All (λ n. n < length c.args.scene.now) c.in_ok-numbers.numbers.items =
    numbers_below c.args.scene.now c.args.ray.now c.weave_scene.new.weave c.in_ok-numbers.numbers.items c.in_ok-regions.regions.items c.in_ok-numbers.ensures.woven c.in_ok-numbers.ensures.hit regions_are c.in_ok-numbers.ensures.leaves in
    let within : All (λ (p : Partition). p.region < length c.in_ok-numbers.numbers.items) c.deref-4.result.now =
    subst (All (λ (p : Partition). p.region < length c.in_ok-numbers.numbers.items)) (sym parts)
    (parts_within c.args.scene.now c.args.ray.now c.weave_scene.new.weave c.in_ok-numbers.numbers.items c.in_ok-regions.regions.items c.in_ok-numbers.ensures.woven c.in_ok-numbers.ensures.hit regions_are c.in_ok-numbers.ensures.leaves) in
    IfOk-weaker c.lit_by_all.result (λ v. v.items ≡ map (λ (p : Partition). lit_by c.args.scene.now c.args.ray.now (renumbered c.deref-3.result.now p)) c.deref-4.result.now) (λ v. All (λ (l : Lit). l.region < length c.args.scene.now) v.items)
    (λ v h. subst (All (λ (l : Lit). l.region < length c.args.scene.now))
    (sym (h ∙ ap (λ ns. map (λ (p : Partition). lit_by c.args.scene.now c.args.ray.now (renumbered ns p)) c.deref-4.result.now) c.deref-3.ensures.value))
    (lit_within c.args.scene.now c.args.ray.now c.in_ok-numbers.numbers.items c.deref-4.result.now below within)) c.lit_by_all.ensures

pub returns-then-is_empty-clause-order : goal.returns-then-is_empty-clause-order
returns-then-is_empty-clause-order g c =
    let sound : IsWoven (woven_of c.args.scene.now c.args.ray.now) = subst IsWoven c.in_ok-numbers.ensures.woven c.woven.ensures.sound in
    subst (λ (ls : List Lit). AreInOrder (parts_of ls)) (sym (returns-then-is_empty-clause-lit g c)) (lit_in_order c.args.scene.now c.args.ray.now c.in_ok-numbers.ensures.leaves sound)

pub returns-clause-order : goal.returns-clause-order
returns-clause-order g c =
    let sound : IsWoven (woven_of c.args.scene.now c.args.ray.now) = subst IsWoven c.in_ok-numbers.ensures.woven c.woven.ensures.sound in
    IfOk-weaker c.lit_by_all.result (λ v. v.items ≡ lit_of c.args.scene.now c.args.ray.now) (λ v. AreInOrder (parts_of v.items))
    (λ v h. subst (λ (ls : List Lit). AreInOrder (parts_of ls)) (sym h) (lit_in_order c.args.scene.now c.args.ray.now c.in_ok-numbers.ensures.leaves sound)) (returns-clause-lit g c)

pub returns-then-is_empty-clause-places : goal.returns-then-is_empty-clause-places
returns-then-is_empty-clause-places g c =
    let sound : IsWoven (woven_of c.args.scene.now c.args.ray.now) = subst IsWoven c.in_ok-numbers.ensures.woven c.woven.ensures.sound in
    subst (λ (ls : List Lit). All (λ (l : Lit). IsPartOfRay l.start l.end) ls) (sym (returns-then-is_empty-clause-lit g c)) (lit_on_ray c.args.scene.now c.args.ray.now c.in_ok-numbers.ensures.leaves sound)

pub returns-clause-places : goal.returns-clause-places
returns-clause-places g c =
    let sound : IsWoven (woven_of c.args.scene.now c.args.ray.now) = subst IsWoven c.in_ok-numbers.ensures.woven c.woven.ensures.sound in
    IfOk-weaker c.lit_by_all.result (λ v. v.items ≡ lit_of c.args.scene.now c.args.ray.now) (λ v. All (λ (l : Lit). IsPartOfRay l.start l.end) v.items)
    (λ v h. subst (λ (ls : List Lit). All (λ (l : Lit). IsPartOfRay l.start l.end) ls) (sym h) (lit_on_ray c.args.scene.now c.args.ray.now c.in_ok-numbers.ensures.leaves sound)) (returns-clause-lit g c)

pub returns-then-is_empty-clause-won : goal.returns-then-is_empty-clause-won
returns-then-is_empty-clause-won g c =
    let sound : IsWoven (woven_of c.args.scene.now c.args.ray.now) = subst IsWoven c.in_ok-numbers.ensures.woven c.woven.ensures.sound in
    subst (λ (ls : List Lit). All (IsWonPart (woven_of c.args.scene.now c.args.ray.now) (claims_on c.args.scene.now c.args.ray.now)) (parts_of ls)) (sym (returns-then-is_empty-clause-lit g c)) (lit_won c.args.scene.now c.args.ray.now c.in_ok-numbers.ensures.leaves sound)

pub returns-clause-won : goal.returns-clause-won
returns-clause-won g c =
    let sound : IsWoven (woven_of c.args.scene.now c.args.ray.now) = subst IsWoven c.in_ok-numbers.ensures.woven c.woven.ensures.sound in
    IfOk-weaker c.lit_by_all.result (λ v. v.items ≡ lit_of c.args.scene.now c.args.ray.now) (λ v. All (IsWonPart (woven_of c.args.scene.now c.args.ray.now) (claims_on c.args.scene.now c.args.ray.now)) (parts_of v.items))
    (λ v h. subst (λ (ls : List Lit). All (IsWonPart (woven_of c.args.scene.now c.args.ray.now) (claims_on c.args.scene.now c.args.ray.now)) (parts_of ls)) (sym h) (lit_won c.args.scene.now c.args.ray.now c.in_ok-numbers.ensures.leaves sound)) (returns-clause-lit g c)

pub returns-then-is_empty-clause-all : goal.returns-then-is_empty-clause-all
returns-then-is_empty-clause-all g c =
    let sound : IsWoven (woven_of c.args.scene.now c.args.ray.now) = subst IsWoven c.in_ok-numbers.ensures.woven c.woven.ensures.sound in
    subst (λ (ls : List Lit). HoldsAllClaims c.args.scene.now c.args.ray.now ls) (sym (returns-then-is_empty-clause-lit g c)) (lit_all c.args.scene.now c.args.ray.now c.in_ok-numbers.ensures.leaves sound)

pub returns-clause-all : goal.returns-clause-all
returns-clause-all g c =
    let sound : IsWoven (woven_of c.args.scene.now c.args.ray.now) = subst IsWoven c.in_ok-numbers.ensures.woven c.woven.ensures.sound in
    IfOk-weaker c.lit_by_all.result (λ v. v.items ≡ lit_of c.args.scene.now c.args.ray.now) (λ v. HoldsAllClaims c.args.scene.now c.args.ray.now v.items)
    (λ v h. subst (λ (ls : List Lit). HoldsAllClaims c.args.scene.now c.args.ray.now ls) (sym h) (lit_all c.args.scene.now c.args.ray.now c.in_ok-numbers.ensures.leaves sound)) (returns-clause-lit g c)

pub returns-then-is_empty-clause-hits : goal.returns-then-is_empty-clause-hits
returns-then-is_empty-clause-hits g c =
    let sound : IsWoven (woven_of c.args.scene.now c.args.ray.now) = subst IsWoven c.in_ok-numbers.ensures.woven c.woven.ensures.sound in
    subst (λ (ls : List Lit). All (HasHit (woven_of c.args.scene.now c.args.ray.now) (claims_on c.args.scene.now c.args.ray.now)) (parts_of ls)) (sym (returns-then-is_empty-clause-lit g c)) (lit_hits c.args.scene.now c.args.ray.now c.in_ok-numbers.ensures.leaves sound)

pub returns-clause-hits : goal.returns-clause-hits
returns-clause-hits g c =
    let sound : IsWoven (woven_of c.args.scene.now c.args.ray.now) = subst IsWoven c.in_ok-numbers.ensures.woven c.woven.ensures.sound in
    IfOk-weaker c.lit_by_all.result (λ v. v.items ≡ lit_of c.args.scene.now c.args.ray.now) (λ v. All (HasHit (woven_of c.args.scene.now c.args.ray.now) (claims_on c.args.scene.now c.args.ray.now)) (parts_of v.items))
    (λ v h. subst (λ (ls : List Lit). All (HasHit (woven_of c.args.scene.now c.args.ray.now) (claims_on c.args.scene.now c.args.ray.now)) (parts_of ls)) (sym h) (lit_hits c.args.scene.now c.args.ray.now c.in_ok-numbers.ensures.leaves sound)) (returns-clause-lit g c)

pub returns-then-is_empty-clause-real : goal.returns-then-is_empty-clause-real
returns-then-is_empty-clause-real g c =
    let sound : IsWoven (woven_of c.args.scene.now c.args.ray.now) = subst IsWoven c.in_ok-numbers.ensures.woven c.woven.ensures.sound in
    subst (λ (ls : List Lit). All (IsHitInScene c.args.scene.now c.args.ray.now) ls) (sym (returns-then-is_empty-clause-lit g c)) (lit_hits_in_scene c.args.scene.now c.args.ray.now c.in_ok-numbers.ensures.leaves sound)

pub returns-clause-real : goal.returns-clause-real
returns-clause-real g c =
    let sound : IsWoven (woven_of c.args.scene.now c.args.ray.now) = subst IsWoven c.in_ok-numbers.ensures.woven c.woven.ensures.sound in
    IfOk-weaker c.lit_by_all.result (λ v. v.items ≡ lit_of c.args.scene.now c.args.ray.now) (λ v. All (IsHitInScene c.args.scene.now c.args.ray.now) v.items)
    (λ v h. subst (λ (ls : List Lit). All (IsHitInScene c.args.scene.now c.args.ray.now) ls) (sym h) (lit_hits_in_scene c.args.scene.now c.args.ray.now c.in_ok-numbers.ensures.leaves sound)) (returns-clause-lit g c)

pub returns-then-is_empty-clause-segments : goal.returns-then-is_empty-clause-segments
returns-then-is_empty-clause-segments g c = subst IsWoven c.in_ok-numbers.ensures.woven c.woven.ensures.sound

pub returns-clause-segments : goal.returns-clause-segments
returns-clause-segments g c =
    let sound : IsWoven (woven_of c.args.scene.now c.args.ray.now) = subst IsWoven c.in_ok-numbers.ensures.woven c.woven.ensures.sound in
    IfOk-weaker c.lit_by_all.result (λ v. v.items ≡ lit_of c.args.scene.now c.args.ray.now) (λ _. IsWoven (woven_of c.args.scene.now c.args.ray.now)) (λ v h. sound) (returns-clause-lit g c)

pub returns-then-is_empty-clause-points : goal.returns-then-is_empty-clause-points
returns-then-is_empty-clause-points g c =
    subst (λ (ls : List Lit). IsTrueOfPoints c.args.scene.now c.args.ray.now (stretches_of ls)) (sym (returns-then-is_empty-clause-lit g c))
    (true_of_points c.args.scene.now c.args.ray.now c.in_ok-numbers.ensures.sound.rising c.in_ok-numbers.ensures.leaves)

pub returns-clause-points : goal.returns-clause-points
returns-clause-points g c =
    IfOk-weaker c.lit_by_all.result (λ v. v.items ≡ lit_of c.args.scene.now c.args.ray.now) (λ v. IsTrueOfPoints c.args.scene.now c.args.ray.now (stretches_of v.items))
    (λ v h. subst (λ (ls : List Lit). IsTrueOfPoints c.args.scene.now c.args.ray.now (stretches_of ls)) (sym h)
    (true_of_points c.args.scene.now c.args.ray.now c.in_ok-numbers.ensures.sound.rising c.in_ok-numbers.ensures.leaves)) (returns-clause-lit g c)
