-- What is seen first, by the trees of regions and the segments of their own instances.
use mathlib.Core.Path.{fun_ext}
use Rattle.std.proofs.Common.{◌≡◌, ◌≢◌, ◌<◌, ◌≤◌, ◌+◌, ℕ, zero, suc, List, [], ◌∷◌, ◌++◌, length, get_or, map, find, slice_get, Bool, true, false, ◌&&◌, ◌||◌, eqb, Option, Some, None, ap, sym, ◌∙◌, refl, arith}
use Rattle.std.specs.List.{list_any}
use Rattle.std.specs.Option.{option_map}
use Rattle.std.proofs.lemmas.Bool.{ne_eqb}
use Rattle.std.proofs.lemmas.List.Folds.{list_any-append}
use Rattle.lattice_core.specs.declared.ray.Ray.{Ray}
use Rattle.surd_order.specs.declared.position.Pos.{Pos}
use Rattle.surd_order.specs.declared.position.Seg.{Seg}
use Rattle.solid_set.specs.Segments.{segment_of}
use Rattle.solid_set.proofs.SurfaceLaws.{segment_spelled}
use Rattle.bool_weave.specs.declared.woven.Woven.{Woven}
use Rattle.bool_weave.specs.Behind.{covers_behind, covers_before, HasSpelledEnds, AreSpelled}
use Rattle.bool_weave.proofs.Behind.{mask_within}
use Rattle.overlap_list.specs.declared.partition.Partition.{Partition}
use Rattle.overlap_list.specs.Partitions.{partitions_of}
use Rattle.overlap_list.specs.Firsts.{claims_by, partitions_by, has_no_air, first_solid, start_of, some_solid_behind, IsFirstPlace}
use Rattle.overlap_list.proofs.Firsts.{find_mapped, first_starts_at_first_place, none_without_place}
use Rattle.overlap_list.proofs.Ordered.{all_from_has}
use Rattle.shot_core.specs.Regions.{Instance, Region, instances_of, firsts_from}
use Rattle.shot_core.specs.Shots.{woven_if, woven_from, woven_of, claims_from, claims_on, lit_by}
use Rattle.shot_core.specs.FirstShots.{is_solid, first_seen, seen_of, tree_region, trees_from, trees_of, seen_by, seen_at, SeenAtFirstPlace, NothingSeenElse, OwnSegmentsTell}
use Rattle.shot_core.proofs.Numbering.{firsts_least}
use Rattle.shot_core.proofs.Weaving.{woven_append, has_woven}

pub woven_spelled : (regions : List Region) (ray : Ray) → AreSpelled (woven_of regions ray)
woven_spelled regions ray =
    all_from_has (λ (w : Woven). HasSpelledEnds w.seg) (woven_of regions ray) (λ w h.
    let i = has_woven ray 0 (instances_of regions) w h in
    let s = segment_spelled i.one.surface ray w.seg i.segment in
    record { start = s.0; end = s.1 })

pub claims_by_trees : (woven : List Woven) (first : ℕ) (rs : List Region) → claims_from woven first rs ≡ map (claims_by woven) (trees_from first rs)
claims_by_trees woven first [] = refl
claims_by_trees woven first (r ∷ rs) = ap (λ l. claims_by woven (tree_region first r.body) ∷ l) (claims_by_trees woven (first + length r.body.instances) rs)

airs_alike : (first : ℕ) (rs : List Region) (n : ℕ) → has_no_air (slice_get (trees_from first rs) n) ≡ is_solid (slice_get rs n)
airs_alike first [] n = refl
airs_alike first (r ∷ rs) zero = refl
airs_alike first (r ∷ rs) (suc n) = airs_alike (first + length r.body.instances) rs n

without_ends : (regions : List Region) (ray : Ray) (o : Option Partition) → option_map seen_of (option_map (lit_by regions ray) o) ≡ option_map (seen_by regions ray) (option_map start_of o)
without_ends regions ray None = refl
without_ends regions ray (Some p) = refl

-- the first lit partition is the first of all partitions
module _ (regions : List Region) (ray : Ray) where
  found : first_seen regions ray ≡ option_map (lit_by regions ray) (first_solid (woven_of regions ray) (trees_of regions))
  found =
      find_mapped (λ lit. is_solid (slice_get regions lit.region)) (lit_by regions ray) (partitions_of (woven_of regions ray) (claims_on regions ray))
      ∙ ap (λ l. option_map (lit_by regions ray) (find (λ (p : Partition). is_solid (slice_get regions p.region)) (partitions_of (woven_of regions ray) l))) (claims_by_trees (woven_of regions ray) 0 regions)
      ∙ ap (λ (f : Partition → Bool). option_map (lit_by regions ray) (find f (partitions_by (woven_of regions ray) (trees_of regions)))) (fun_ext (λ p. sym (airs_alike 0 regions p.region)))

  seen_first : (x : Pos) → IsFirstPlace (woven_of regions ray) (trees_of regions) x → option_map seen_of (first_seen regions ray) ≡ seen_at regions ray x
  seen_first x p =
      ap (option_map seen_of) found ∙ without_ends regions ray (first_solid (woven_of regions ray) (trees_of regions))
      ∙ ap (option_map (seen_by regions ray)) (first_starts_at_first_place (woven_of regions ray) (trees_of regions) x (woven_spelled regions ray) p)

  seen_none : ((x : Pos) → some_solid_behind (woven_of regions ray) (trees_of regions) x ≡ false) → first_seen regions ray ≡ None
  seen_none none = found ∙ ap (option_map (lit_by regions ray)) (none_without_place (woven_of regions ray) (trees_of regions) (woven_spelled regions ray) none)

pub seen_at_first_place : SeenAtFirstPlace
seen_at_first_place regions ray x p = seen_first regions ray x p

pub nothing_seen_else : NothingSeenElse
nothing_seen_else regions ray none = seen_none regions ray none

pub none_right : (b : Bool) → (b || false) ≡ b
none_right true = refl
none_right false = refl

-- whether some segment of an instance passes
module _ (f : Seg → Bool) where
  abbrev pub some_passes : List Woven → ℕ → Bool
  some_passes ws m = list_any (λ (w : Woven). eqb w.instance m && f w.seg) ws

  pub other : (n m : ℕ) (o : Option Seg) (ws : List Woven) → n ≢ m → some_passes (woven_if n o ++ ws) m ≡ some_passes ws m
  other n m None ws ne = refl
  other n m (Some seg) ws ne = ap (λ b. (b && f seg) || some_passes ws m) (ne_eqb n m ne)

  pub under : (ray : Ray) (n m : ℕ) (xs : List Instance) → m < n → some_passes (woven_from ray n xs) m ≡ false
  under ray n m [] lt = refl
  under ray n m (x ∷ xs) lt =
      other n m (segment_of x.surface ray) (woven_from ray (n + 1) xs) (λ e. omega (arith, lt, e)) ∙ under ray (n + 1) m xs (omega (arith, lt))

  past : (ray : Ray) (n m : ℕ) (xs : List Instance) → n + length xs ≤ m → some_passes (woven_from ray n xs) m ≡ false
  past ray n m [] le = refl
  past ray n m (x ∷ xs) le =
      other n m (segment_of x.surface ray) (woven_from ray (n + 1) xs) (λ e. omega (arith, le, e)) ∙ past ray (n + 1) m xs (omega (arith, le))

  parted : (ray : Ray) (n m : ℕ) (xs ys : List Instance) → some_passes (woven_from ray n (xs ++ ys)) m ≡ (some_passes (woven_from ray n xs) m || some_passes (woven_from ray (n + length xs) ys) m)
  parted ray n m xs ys =
      ap (λ ws. some_passes ws m) (woven_append ray n xs ys) ∙ list_any-append (λ (w : Woven). eqb w.instance m && f w.seg) (woven_from ray n xs) (woven_from ray (n + length xs) ys)

  own : (ray : Ray) (n : ℕ) (rs : List Region) (k i : ℕ) (d : Region) → k < length rs → i < length (get_or rs k d).body.instances
      → some_passes (woven_from ray (get_or (firsts_from n rs) k 0) (get_or rs k d).body.instances) (get_or (firsts_from n rs) k 0 + i) ≡ some_passes (woven_from ray n (instances_of rs)) (get_or (firsts_from n rs) k 0 + i)
  own ray n [] k i d lt within = absurd (omega (arith, lt))
  own ray n (r ∷ rs) zero i d lt within =
      sym (parted ray n (n + i) r.body.instances (instances_of rs)
      ∙ ap (λ b. some_passes (woven_from ray n r.body.instances) (n + i) || b) (under ray (n + length r.body.instances) (n + i) (instances_of rs) (omega (arith, within)))
      ∙ none_right (some_passes (woven_from ray n r.body.instances) (n + i)))
  own ray n (r ∷ rs) (suc k) i d lt within =
      let next = n + length r.body.instances in
      let first = get_or (firsts_from (n + length r.body.instances) rs) k 0 in
      let least : n + length r.body.instances ≤ get_or (firsts_from (n + length r.body.instances) rs) k 0 = firsts_least (n + length r.body.instances) rs k 0 (omega (arith, lt)) in
      own ray next rs k i d (omega (arith, lt)) within
      ∙ sym (parted ray n (first + i) r.body.instances (instances_of rs)
      ∙ ap (λ b. b || some_passes (woven_from ray next (instances_of rs)) (first + i)) (past ray n (first + i) r.body.instances (omega (arith, least))))

pub own_segments_tell : OwnSegmentsTell
own_segments_tell regions ray n d x leaves lt =
    let first = get_or (firsts_from 0 regions) n 0 in
    let body = (get_or regions n d).body in
    record {
      behind = mask_within body.tree (λ i. some_passes (covers_behind x) (woven_from ray first body.instances) (first + i)) (λ i. some_passes (covers_behind x) (woven_of regions ray) (first + i)) (length body.instances) (leaves n d lt)
          (λ i within. own (covers_behind x) ray 0 regions n i d lt within);
      before = mask_within body.tree (λ i. some_passes (covers_before x) (woven_from ray first body.instances) (first + i)) (λ i. some_passes (covers_before x) (woven_of regions ray) (first + i)) (length body.instances) (leaves n d lt)
          (λ i within. own (covers_before x) ray 0 regions n i d lt within);
    }
