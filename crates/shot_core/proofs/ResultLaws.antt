-- What is lit and what overlaps keeps the laws of partitions, of hits and of overlaps.
use Rattle.std.proofs.Common.{◌≡◌, ◌<◌, ◌+◌, ℕ, zero, suc, List, [], ◌∷◌, length, map, slice_get, Option, Some, All, Any, ap, sym, subst, ◌∙◌, refl, inl, inr, arith}
use Rattle.std.proofs.lemmas.List.{length-map}
use Rattle.std.proofs.lemmas.List.Elements.{All-map, All-weaker}
use Rattle.lattice_core.specs.declared.ray.Ray.{Ray}
use Rattle.surd_order.specs.declared.position.Pos.{Pos}
use Rattle.surd_order.specs.Order.{SamePlace}
use Rattle.surd_order.specs.Spelling.{IsSpelled}
use Rattle.surd_order.proofs.LawProofs.{places_have_one_spelling}
use Rattle.bool_weave.specs.declared.woven.Woven.{Woven}
use Rattle.bool_weave.specs.Cuts.{IsSegment, IsWoven, cuts_of}
use Rattle.bool_weave.specs.Claims.{intervals_of, claims_interval}
use Rattle.bool_weave.proofs.Sorted.{has_from_contains}
use Rattle.bool_weave.proofs.Cutting.{segment_of as woven_segment}
use Rattle.bool_weave.proofs.Claimed.{intervals_length}
use Rattle.overlap_list.specs.declared.region.RegionClaims.{RegionClaims}
use Rattle.overlap_list.specs.declared.partition.Partition.{Partition}
use Rattle.overlap_list.specs.declared.overlap.OverlapRun.{OverlapRun}
use Rattle.overlap_list.specs.Hits.{cut_at}
use Rattle.overlap_list.specs.Partitions.{partitions_of}
use Rattle.overlap_list.specs.Laws.{AreInOrder, IsPartOfRay, IsWonPart, LiesIn, HasTree, HasHit, AreByPlace}
use Rattle.overlap_list.proofs.Parts.{partitions_are_in_order, partitions_are_won, overlaps_are_in_order}
use Rattle.overlap_list.proofs.Covering.{claims_are_partitioned}
use Rattle.overlap_list.proofs.Hitting.{hits_are_there}
use Rattle.overlap_list.proofs.FirstRuns.{overlaps_are_first}
use Rattle.overlap_list.proofs.Placing.{cut_good, partitions_are_on_the_ray, overlaps_are_on_the_ray}
use Rattle.shot_core.specs.declared.shot.Lit.{Lit}
use Rattle.shot_core.specs.Laws.{part_of, parts_of, IsHitInScene, HoldsAllClaims, AreFirstOverlaps}
use Rattle.shot_core.specs.Regions.{Instance, Region, HaveInstances, instances_of}
use Rattle.shot_core.specs.Shots.{woven_of, claims_from, claims_on, level_on, lit_by, lit_of, overlaps_on}
use Rattle.shot_core.proofs.Claiming.{claims_length}
use Rattle.shot_core.proofs.Weaving.{has_woven}

-- the level of a partition can be taken away again
parts_back : (rs : List Region) (ray : Ray) (parts : List Partition) → map part_of (map (lit_by rs ray) parts) ≡ parts
parts_back rs ray [] = refl
parts_back rs ray (p ∷ ps) = ap (λ l. p ∷ l) (parts_back rs ray ps)

-- what regions claim is what their trees do, interval by interval
trees_from : (woven : List Woven) (first : ℕ) (rs : List Region) → HaveInstances rs → All (HasTree woven) (claims_from woven first rs)
trees_from woven first [] leaves k d lt = absurd (omega (arith, lt))
trees_from woven first (r ∷ rs) leaves zero d lt = record { tree = r.body.tree; below = leaves 0 r (omega arith); claims = refl }
trees_from woven first (r ∷ rs) leaves (suc k) d lt =
    trees_from woven (first + length r.body.instances) rs (λ j e in_rest. leaves (suc j) e (omega (arith, in_rest))) k d (omega (arith, lt))

pub rows_from : (woven : List Woven) (first : ℕ) (rs : List Region) → All (λ (r : RegionClaims). length r.claims ≡ length (intervals_of woven)) (claims_from woven first rs)
rows_from woven first [] k d lt = absurd (omega (arith, lt))
rows_from woven first (r ∷ rs) zero d lt = length-map (intervals_of woven) (claims_interval woven r.body.tree first)
rows_from woven first (r ∷ rs) (suc k) d lt = rows_from woven (first + length r.body.instances) rs k d (omega (arith, lt))

module _ (rs : List Region) (ray : Ray) (leaves : HaveInstances rs) (sound : IsWoven (woven_of rs ray)) where
  abbrev woven : List Woven
  woven = woven_of rs ray

  abbrev claimed : List RegionClaims
  claimed = claims_on rs ray

  abbrev parts : List Partition
  parts = partitions_of woven claimed

  parts_are : parts_of (lit_of rs ray) ≡ parts
  parts_are = parts_back rs ray parts

  trees : All (HasTree woven) claimed
  trees = trees_from woven 0 rs leaves

  rows : All (λ (r : RegionClaims). length r.claims ≡ length (intervals_of woven)) claimed
  rows = rows_from woven 0 rs

  pub lit_in_order : AreInOrder (parts_of (lit_of rs ray))
  lit_in_order = subst AreInOrder (sym parts_are) (partitions_are_in_order woven claimed sound)

  pub lit_on_ray : All (λ (l : Lit). IsPartOfRay l.start l.end) (lit_of rs ray)
  lit_on_ray = All-map (λ (l : Lit). IsPartOfRay l.start l.end) (lit_by rs ray) parts (partitions_are_on_the_ray woven claimed sound)

  pub lit_won : All (IsWonPart woven claimed) (parts_of (lit_of rs ray))
  lit_won = subst (All (IsWonPart woven claimed)) (sym parts_are) (partitions_are_won woven claimed)

  pub lit_hits : All (HasHit woven claimed) (parts_of (lit_of rs ray))
  lit_hits = subst (All (HasHit woven claimed)) (sym parts_are) (hits_are_there woven claimed sound trees)

  pub lit_all : HoldsAllClaims rs ray (lit_of rs ray)
  lit_all k lt some = subst (Any (LiesIn woven k)) (sym parts_are) (claims_are_partitioned woven claimed sound rows k lt some)

  -- an end that is where a cut is, is that cut
  at_cut : (k : ℕ) (x : Pos) → k < length (intervals_of woven) → IsSpelled x → SamePlace x (cut_at woven k) → cut_at woven k ≡ x
  at_cut k x lt spelled same =
      sym (places_have_one_spelling x (cut_at woven k) spelled (cut_good woven sound k (omega (arith, lt, intervals_length (cuts_of woven)))).spelled same)

  hit_in_scene : (p : Partition) → HasHit woven claimed p → IsHitInScene rs ray (lit_by rs ray p)
  hit_in_scene p has =
      let there = has_from_contains woven has.hit.one has.hit.candidate.there in
      let w = has_woven ray 0 (instances_of rs) has.hit.one there in
      let seg : IsSegment has.hit.one.seg = woven_segment woven has.hit.one sound there in
      let place : p.hit.instance ≡ w.place = omega (arith, has.hit.instance, w.number) in
      let at : slice_get (instances_of rs) p.hit.instance ≡ Some w.one = ap (slice_get (instances_of rs)) place ∙ w.there in
      record {
        one = w.one;
        seg = has.hit.one.seg;
        there = at;
        segment = w.segment;
        end = elim has.hit.candidate.ends [
          | inl s ↦ inl (has.start ∙ at_cut has.k has.hit.one.seg.start has.within seg.start_spelled s, has.hit.start_face s)
          | inr t ↦ inr (has.start ∙ at_cut has.k has.hit.one.seg.end has.within seg.end_spelled t, has.hit.end_face t)
        ];
        level = ap (λ (o : Option Instance). level_on o p.hit.face ray) at;
      }

  pub lit_hits_in_scene : All (IsHitInScene rs ray) (lit_of rs ray)
  lit_hits_in_scene =
      All-map (IsHitInScene rs ray) (lit_by rs ray) parts
      (All-weaker (HasHit woven claimed) (λ (p : Partition). IsHitInScene rs ray (lit_by rs ray p)) hit_in_scene parts (hits_are_there woven claimed sound trees))

  pub runs_on_ray : All (λ (o : OverlapRun). IsPartOfRay o.start o.end) (overlaps_on rs ray)
  runs_on_ray = overlaps_are_on_the_ray woven claimed sound rows

  pub runs_by_place : AreByPlace (length rs) (overlaps_on rs ray)
  runs_by_place = subst (λ n. AreByPlace n (overlaps_on rs ray)) (claims_length woven 0 rs) (overlaps_are_in_order woven claimed)

  pub runs_are_first : AreFirstOverlaps rs ray (overlaps_on rs ray)
  runs_are_first = overlaps_are_first woven claimed rows
