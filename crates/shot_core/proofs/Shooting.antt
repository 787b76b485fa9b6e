-- What is lit and what overlaps, from the regions that a ray hits.
use Rattle.std.proofs.Common.{◌≡◌, ◌<◌, ◌^◌, ℕ, zero, suc, List, [], ◌∷◌, length, map, get_or, slice_get, Option, Some, All, ap, sym, subst, ◌∙◌, refl, inl, inr, arith}
use Rattle.std.proofs.lemmas.List.{length-map}
use Rattle.std.proofs.lemmas.List.Elements.{All-map, All-weaker}
use Rattle.lattice_core.specs.declared.ray.Ray.{Ray}
use Rattle.surd_order.specs.declared.position.Seg.{Seg}
use Rattle.solid_set.specs.Levels.{IsEndFace}
use Rattle.solid_set.specs.Segments.{segment_of}
use Rattle.bool_weave.specs.declared.woven.Woven.{Woven}
use Rattle.bool_weave.specs.Cuts.{IsWoven}
use Rattle.bool_weave.specs.Claims.{intervals_of, claims_interval}
use Rattle.bool_weave.proofs.Sorted.{Has, has_from_contains}
use Rattle.overlap_list.specs.declared.region.RegionClaims.{RegionClaims}
use Rattle.overlap_list.specs.declared.partition.Partition.{Partition}
use Rattle.overlap_list.specs.Partitions.{partitions_of}
use Rattle.overlap_list.specs.Overlaps.{overlaps_of}
use Rattle.overlap_list.specs.Laws.{HasTree, IsWonPart, HasHit}
use Rattle.overlap_list.proofs.Hitting.{hits_are_there}
use Rattle.overlap_list.proofs.Ordered.{all_from_has}
use Rattle.overlap_list.proofs.Parts.{partitions_are_won, overlaps_are_in_order}
use Rattle.shot_core.specs.Regions.{Instance, Region, HaveInstances, IsScene, instances_of, firsts_from}
use Rattle.shot_core.specs.declared.shot.Lit.{Lit}
use Rattle.shot_core.specs.Shots.{woven_of, claims_on, lit_by, lit_of, overlaps_on}
use Rattle.shot_core.specs.Steps.{is_hit, hit_from, no_region, numbered_claims, IsHitOn, renumbered, renumbered_run}
use Rattle.shot_core.proofs.Picking.{kept, map_twice, partitions_kept}
use Rattle.shot_core.proofs.PickingOverlaps.{overlaps_kept}
use Rattle.shot_core.proofs.Claiming.{claims_left_out, numbered_kept, marked_below, marked_short, regions_within}
use Rattle.shot_core.proofs.Weaving.{has_woven, nothing_hit}

all_mapped : {X Y : Type 0} (P : Y → Type 0) (f : X → Y) (xs : List X) → ((x : X) → Has xs x → P (f x)) → All P (map f xs)
all_mapped P f [] h k d lt = absurd (omega (arith, lt))
all_mapped P f (x ∷ xs) h zero d lt = h x (inl refl)
all_mapped P f (x ∷ xs) h (suc k) d lt = all_mapped P f xs (λ y there. h y (inr there)) k d (omega (arith, lt))

pub empty_from : {X : Type 0} (xs : List X) → length xs ≡ 0 → xs ≡ []
empty_from [] e = refl
empty_from (x ∷ xs) e = absurd (omega (arith, e))

all_none : {X : Type 0} (P : X → Type 0) (xs : List X) → ((x : X) → P x → ⊥) → All P xs → xs ≡ []
all_none P [] never all = refl
all_none P (x ∷ xs) never all = absurd (never x (all zero x (omega arith)))

part_within : (woven : List Woven) (regions : List RegionClaims) (p : Partition) → IsWonPart woven regions p → p.region < length regions
part_within woven regions p part = (part.won part.run.from (omega arith) part.some).there

no_partitions : (woven : List Woven) → partitions_of woven [] ≡ []
no_partitions woven = all_none (IsWonPart woven []) (partitions_of woven []) (λ p part. omega (arith, part_within woven [] p part)) (partitions_are_won woven [])

same_some : {X : Type 0} (x y : X) → Some x ≡ Some y → x ≡ y
same_some x y e = cc

-- the regions of a scene, the weave of a ray, the numbers of the regions that are hit, and what these claim
module _ (rs : List Region) (ray : Ray) (woven : List Woven) (numbers : List ℕ) (regions : List RegionClaims) (woven_is : woven ≡ woven_of rs ray) (numbers_are : numbers ≡ hit_from ray 0 rs)
    (regions_are : regions ≡ map (numbered_claims woven rs) numbers) (leaves : HaveInstances rs) where
  picked : regions ≡ kept (map (is_hit ray) rs) (claims_on rs ray)
  picked =
      regions_are ∙ ap (λ w. map (numbered_claims w rs) numbers) woven_is ∙ ap (map (numbered_claims (woven_of rs ray) rs)) numbers_are
      ∙ numbered_kept (woven_of rs ray) rs (map (is_hit ray) rs) (length-map rs (is_hit ray))

  pub lit_picked : map (λ p. lit_by rs ray (renumbered numbers p)) (partitions_of woven regions) ≡ lit_of rs ray
  lit_picked =
      ap (λ ns. map (λ p. lit_by rs ray (renumbered ns p)) (partitions_of woven regions)) numbers_are
      ∙ ap (λ w. map (λ p. lit_by rs ray (renumbered (hit_from ray 0 rs) p)) (partitions_of w regions)) woven_is
      ∙ ap (λ l. map (λ p. lit_by rs ray (renumbered (hit_from ray 0 rs) p)) (partitions_of (woven_of rs ray) l)) picked
      ∙ sym (map_twice (lit_by rs ray) (renumbered (hit_from ray 0 rs)) (partitions_of (woven_of rs ray) (kept (map (is_hit ray) rs) (claims_on rs ray))))
      ∙ ap (map (lit_by rs ray)) (sym (partitions_kept (map (is_hit ray) rs) (claims_on rs ray) (claims_left_out rs ray leaves) (woven_of rs ray)))

  pub overlaps_picked : map (renumbered_run numbers) (overlaps_of woven regions) ≡ overlaps_on rs ray
  overlaps_picked =
      ap (λ ns. map (renumbered_run ns) (overlaps_of woven regions)) numbers_are
      ∙ ap (λ w. map (renumbered_run (hit_from ray 0 rs)) (overlaps_of w regions)) woven_is
      ∙ ap (λ l. map (renumbered_run (hit_from ray 0 rs)) (overlaps_of (woven_of rs ray) l)) picked
      ∙ sym (overlaps_kept (woven_of rs ray) (map (is_hit ray) rs) (claims_on rs ray) (claims_left_out rs ray leaves))

  count : length regions ≡ length numbers
  count = ap length regions_are ∙ length-map numbers (numbered_claims woven rs)

  pub rows : All (λ r. length r.claims ≡ length (intervals_of woven)) regions
  rows =
      subst (λ l. All (λ r. length r.claims ≡ length (intervals_of woven)) l) (sym regions_are)
      (all_mapped (λ r. length r.claims ≡ length (intervals_of woven)) (numbered_claims woven rs) numbers
      (λ n there. length-map (intervals_of woven) (claims_interval woven (get_or rs n no_region).body.tree (get_or (firsts_from 0 rs) n 0))))

  pub parts_within : All (λ p. p.region < length numbers) (partitions_of woven regions)
  parts_within =
      All-weaker (IsWonPart woven regions) (λ p. p.region < length numbers) (λ p part. omega (arith, part_within woven regions p part, count)) (partitions_of woven regions) (partitions_are_won woven regions)

  pub runs_within : All (λ r. (r.one < length numbers) × (r.two < length numbers)) (overlaps_of woven regions)
  runs_within =
      All-weaker (λ r. (r.one < r.two) × (r.two < length regions)) (λ r. (r.one < length numbers) × (r.two < length numbers)) (λ r h. (omega (arith, h.0, h.1, count), omega (arith, h.1, count)))
      (overlaps_of woven regions) (overlaps_are_in_order woven regions).pairs

  number_below : (n : ℕ) → Has numbers n → n < length rs
  number_below n there =
      omega (arith, marked_below (map (is_hit ray) rs) 0 n (subst (λ l. Has l n) numbers_are there), length-map rs (is_hit ray))

  pub numbers_below : All (λ n. n < length rs) numbers
  numbers_below = all_from_has (λ n. n < length rs) numbers number_below

  pub few : IsScene rs → length regions < 2 ^ 31
  few scene =
      omega (arith, count, ap length numbers_are, marked_short (map (is_hit ray) rs) 0, length-map rs (is_hit ray), regions_within rs, scene.size)

  has_trees : All (HasTree woven) regions
  has_trees =
      subst (All (HasTree woven)) (sym regions_are)
      (all_mapped (HasTree woven) (numbered_claims woven rs) numbers
      (λ n there. record { tree = (get_or rs n no_region).body.tree; below = leaves n no_region (number_below n there); claims = refl }))

  hit_is_on : (p : Partition) → HasHit woven regions p → IsHitOn rs ray p.hit
  hit_is_on p has i e =
      let w = has_woven ray 0 (instances_of rs) has.hit.one (subst (λ l. Has l has.hit.one) woven_is (has_from_contains woven has.hit.one has.hit.candidate.there)) in
      let place : p.hit.instance ≡ w.place = omega (arith, has.hit.instance, w.number) in
      let same : i ≡ w.one = same_some i w.one (sym e ∙ ap (slice_get (instances_of rs)) place ∙ w.there) in
      inr (subst (λ (o : Option Seg). IsEndFace p.hit.face o) (sym (ap (λ (x : Instance). segment_of x.surface ray) same ∙ w.segment))
      (elim has.hit.candidate.ends [ inl s ↦ inl (has.hit.start_face s) | inr t ↦ inr (has.hit.end_face t) ]))

  pub hits_on : IsWoven woven → All (λ p. IsHitOn rs ray p.hit) (partitions_of woven regions)
  hits_on sound = All-weaker (HasHit woven regions) (λ p. IsHitOn rs ray p.hit) hit_is_on (partitions_of woven regions) (hits_are_there woven regions sound has_trees)

  lit_when_none : regions ≡ [] → [] ≡ lit_of rs ray
  lit_when_none none =
      ap (map (λ p. lit_by rs ray (renumbered numbers p))) (sym (no_partitions woven)) ∙ ap (λ l. map (λ p. lit_by rs ray (renumbered numbers p)) (partitions_of woven l)) (sym none) ∙ lit_picked

  runs_when_none : regions ≡ [] → [] ≡ overlaps_on rs ray
  runs_when_none none = ap (λ l. map (renumbered_run numbers) (overlaps_of woven l)) (sym none) ∙ overlaps_picked

-- nothing overlaps where nothing is woven
pub runs_none : (rs : List Region) (ray : Ray) (woven : List Woven) → woven ≡ woven_of rs ray → HaveInstances rs → woven ≡ [] → [] ≡ overlaps_on rs ray
runs_none rs ray woven woven_is leaves none =
    runs_when_none rs ray woven (hit_from ray 0 rs) (map (numbered_claims woven rs) (hit_from ray 0 rs)) woven_is refl refl leaves
    (ap (map (numbered_claims woven rs)) (nothing_hit ray rs (sym woven_is ∙ none)))

-- nothing is lit where nothing is woven
pub lit_none : (rs : List Region) (ray : Ray) (woven : List Woven) → woven ≡ woven_of rs ray → HaveInstances rs → woven ≡ [] → [] ≡ lit_of rs ray
lit_none rs ray woven woven_is leaves none =
    lit_when_none rs ray woven (hit_from ray 0 rs) (map (numbered_claims woven rs) (hit_from ray 0 rs)) woven_is refl refl leaves
    (ap (map (numbered_claims woven rs)) (nothing_hit ray rs (sym woven_is ∙ none)))

-- the regions of what is lit are those of the scene
pub lit_within : (rs : List Region) (ray : Ray) (numbers : List ℕ) (parts : List Partition) → All (λ n. n < length rs) numbers → All (λ (p : Partition). p.region < length numbers) parts
    → All (λ (l : Lit). l.region < length rs) (map (λ (p : Partition). lit_by rs ray (renumbered numbers p)) parts)
lit_within rs ray numbers parts below within =
    All-map (λ (l : Lit). l.region < length rs) (λ (p : Partition). lit_by rs ray (renumbered numbers p)) parts
    (All-weaker (λ (p : Partition). p.region < length numbers) (λ (p : Partition). get_or numbers p.region 0 < length rs) (λ (p : Partition) h. below p.region 0 h) parts within)
