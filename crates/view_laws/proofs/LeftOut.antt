-- Regions that hold nowhere on a ray are left out, and the stretches of the others, by their numbers in the whole list, tell the points.
use Rattle.std.proofs.Common.{◌≡◌, ◌<◌, zero, suc, ℕ, ℤ, List, [], ◌∷◌, length, get_or, slice_get, map, filter, Bool, true, false, cond, Option, Some, None, All, AllPairs, Contains, ap, sym, subst, ◌∙◌, refl, inl, inr, arith}
use Rattle.std.proofs.lemmas.Bool.{cases_Bool, cases_lt, cond-false}
use Rattle.std.proofs.lemmas.List.Elements.{All-nil, All-cons, All-head, All-tail, All-filter}
use Rattle.std.proofs.lemmas.List.Kept.{AllPairs-cons, AllPairs-filter}
use Rattle.std.proofs.lemmas.Option.{slice_get_within, get_or_from_slice_get}
use Rattle.lattice_core.specs.declared.ray.Ray.{Ray}
use Rattle.lattice_core.specs.Rays.{IsOnRay}
use Rattle.surd_order.specs.declared.position.Pos.{Pos}
use Rattle.surd_order.specs.declared.position.Pos.TheVariants.{Frac}
use Rattle.bool_weave.proofs.Sorted.{Has, has_from_contains, contains_from_has, has_append_left, has_append_right, has_append_cases}
use Rattle.shot_core.specs.declared.shot.Lit.{Lit}
use Rattle.shot_core.specs.Regions.{Instance, Region, HaveInstances, HasLeavesBelow, instances_of}
use Rattle.shot_core.specs.Shots.{level_on, lit_of}
use Rattle.shot_core.specs.Points.{IsRayHitPlace, HoldsPoint, LiesAt, Stretch, stretch_of, stretches_of, HasPosition, HasRegionAt, TellsPoints, IsStretch, EndsBefore, AreStretches, IsTrueOfPoints}
use Rattle.shot_core.specs.Pruned.{place_of}
use Rattle.overlap_list.proofs.Overlapping.{first_of}
use Rattle.shot_core.proofs.KeptSeen.{flat_left}
use Rattle.shot_core.proofs.FirstHits.{Ending, ends_among, hits_of, hits_among, face_of}
use Rattle.shot_core.proofs.OwnClaims.{changes_on, IsSilent, silent_changes}
use Rattle.shot_core.proofs.Picking.{map_same_on, map_twice}
use Rattle.shot_core.proofs.PointTruth.{true_of_points}
use Rattle.shot_core.proofs.Pointing.{any_from, any_to, has_mapped}
use Rattle.view_laws.specs.Pruning.{PlacedPartition, placed_partition, partitions_by_place, HoldsNowhere, PartitionsWithoutTheRest}
use Rattle.view_laws.proofs.Hits.{first_hit}
use Rattle.view_laws.proofs.Silent.{at_some, some_at, silent}
use Rattle.view_laws.proofs.Numbers.{numbers, kept_as, among_kept, numbers_rise, numbers_length}

all_mapped : {X Y : Type 0} (P : Y → Type 0) (f : X → Y) (xs : List X) → All (λ x. P (f x)) xs → All P (map f xs)
all_mapped P f [] h = All-nil P
all_mapped P f (x ∷ xs) h = All-cons P (f x) (map f xs) (All-head (λ x. P (f x)) x xs h) (all_mapped P f xs (All-tail (λ x. P (f x)) x xs h))

pairs_mapped : {X Y : Type 0} (R : Y → Y → Type 0) (f : X → Y) (xs : List X) → AllPairs (λ a b. R (f a) (f b)) xs → AllPairs R (map f xs)
pairs_mapped R f [] h = λ i j d lt within. absurd (omega (arith, within))
pairs_mapped R f (x ∷ xs) h =
    AllPairs-cons R (f x) (map f xs) (all_mapped (R (f x)) f xs (λ k d lt. h zero (suc k) d (omega arith) (omega (arith, lt))))
    (pairs_mapped R f xs (λ i j d lt within. h (suc i) (suc j) d (omega (arith, lt)) (omega (arith, within))))

pub mapped_has : {X Y : Type 0} (f : X → Y) (xs : List X) (x : X) → Has xs x → Has (map f xs) (f x)
mapped_has f [] x h = elim h [ ]
mapped_has f (y ∷ ys) x (inl e) = inl (ap f e)
mapped_has f (y ∷ ys) x (inr h) = inr (mapped_has f ys x h)

contains_at : {X : Type 0} (xs : List X) (n : ℕ) (x : X) → slice_get xs n ≡ Some x → Contains xs x
contains_at xs n x e = (n, slice_get_within xs n x e, get_or_from_slice_get xs n x x e)

-- what passes a test
has_one : {X : Type 0} (b : Bool) (y x : X) (ys all : List X) → (Has ys x → Has all x) → Has (cond b (y ∷ ys) ys) x → Has (y ∷ all) x
has_one true y x ys all rest (inl e) = inl e
has_one true y x ys all rest (inr h) = inr (rest h)
has_one false y x ys all rest h = inr (rest h)

has_filtered : {X : Type 0} (keep : X → Bool) (xs : List X) (x : X) → Has (filter keep xs) x → Has xs x
has_filtered keep [] x h = elim h [ ]
has_filtered keep (y ∷ ys) x h = has_one (keep y) y x (filter keep ys) ys (λ more. has_filtered keep ys x more) h

has_first : {X : Type 0} (b : Bool) (y : X) (ys : List X) → b ≡ true → Has (cond b (y ∷ ys) ys) y
has_first true y ys e = inl refl
has_first false y ys e = let wrong : false ≡ true = e in absurd cc

has_more : {X : Type 0} (b : Bool) (y x : X) (ys : List X) → Has ys x → Has (cond b (y ∷ ys) ys) x
has_more true y x ys h = inr h
has_more false y x ys h = h

filtered_has : {X : Type 0} (keep : X → Bool) (xs : List X) (x : X) → Has xs x → keep x ≡ true → Has (filter keep xs) x
filtered_has keep [] x h kept = elim h [ ]
filtered_has {X = X} keep (y ∷ ys) x (inl e) kept =
    subst (λ (z : X). Has (filter keep (y ∷ ys)) z) e (has_first (keep y) y (filter keep ys) (subst (λ (z : X). keep z ≡ true) (sym e) kept))
filtered_has keep (y ∷ ys) x (inr h) kept = has_more (keep y) y x (filter keep ys) (filtered_has keep ys x h kept)

-- the instances of those that are kept are among all
one : (b : Bool) (r : Region) (rs kept : List Region) (i : Instance) → (Has (instances_of kept) i → Has (instances_of rs) i) → Has (instances_of (cond b (r ∷ kept) kept)) i → Has (instances_of (r ∷ rs)) i
one true r rs kept i rest h = elim (has_append_cases r.body.instances (instances_of kept) i h) [ inl own ↦ has_append_left r.body.instances (instances_of rs) i own | inr other ↦ has_append_right r.body.instances (instances_of rs) i (rest other) ]
one false r rs kept i rest h = has_append_right r.body.instances (instances_of rs) i (rest h)

instances_among : (keep : Region → Bool) (rs : List Region) (i : Instance) → Has (instances_of (filter keep rs)) i → Has (instances_of rs) i
instances_among keep [] i h = h
instances_among keep (r ∷ rs) i h = one (keep r) r rs (filter keep rs) i (λ more. instances_among keep rs i more) h

-- a hit place of those that are kept is one of all
hit_among : (keep : Region → Bool) (rs : List Region) (ray : Ray) (x : Pos) → IsRayHitPlace (filter keep rs) ray x → IsRayHitPlace rs ray x
hit_among keep rs ray x (inl h) = inl h
hit_among keep rs ray x (inr (inl h)) = inr (inl h)
hit_among keep rs ray x (inr (inr h)) = let s = at_some ray (instances_of (filter keep rs)) x h in inr (inr (some_at ray (instances_of rs) x s.one (instances_among keep rs s.one s.there) s.at))

record IsPart (keep : Region → Bool) (regions : List Region) (s : Stretch) : Type 0 where
  offset : ℕ
  number : get_or (numbers keep 0 regions) s.region 0 ≡ offset
  within : offset < length regions
  there : slice_get regions offset ≡ slice_get (filter keep regions) s.region

-- a part with what is hit where it starts, if anything is
abbrev shown : Ray → Option Region → Pos → Pos → Option Ending → PlacedPartition
shown ray o start end None = record { place = place_of o; start = start; end = end; instance = None; face = 0; level = 0 }
shown ray o start end (Some e) = record { place = place_of o; start = start; end = end; instance = e.0; face = face_of start e; level = level_on e.0 (face_of start e) ray }

alike : (place : ℕ) (start end : Pos) (i j : Option Instance) (f g v w : ℕ) → i ≡ j → f ≡ g → v ≡ w
    → ◌≡◌ {A = PlacedPartition} (record { place = place; start = start; end = end; instance = i; face = f; level = v }) (record { place = place; start = start; end = end; instance = j; face = g; level = w })
alike place start end i j f g v w a b c = cc

part_is : (regions : List Region) (ray : Ray) → HaveInstances regions → (l : Lit) → Has (lit_of regions ray) l
    → placed_partition regions l ≡ shown ray (slice_get regions l.region) l.start l.end (first_of (hits_among ray l.start regions))
part_is regions ray below l has =
    let h = first_hit regions ray below l has in
    alike (place_of (slice_get regions l.region)) l.start l.end (slice_get (instances_of regions) l.hit.instance) h.first.0 l.hit.face (face_of l.start h.first) l.level (level_on h.first.0 (face_of l.start h.first) ray)
    h.instance h.face h.level
    ∙ sym (ap (shown ray (slice_get regions l.region) l.start l.end) h.there)

module _ (regions : List Region) (ray : Ray) (keep : Region → Bool)
    (rising : AllPairs (λ (r s : Region). r.place < s.place) regions) (below : HaveInstances regions)
    (nowhere : (r : Region) → Contains regions r → keep r ≡ false → HoldsNowhere regions ray r) where
  abbrev kept : List Region
  kept = filter keep regions

  abbrev ns : List ℕ
  ns = numbers keep 0 regions

  abbrev own : List Stretch
  own = stretches_of (lit_of kept ray)

  abbrev renamed : Stretch → Stretch
  renamed s = record { region = get_or ns s.region 0; start = s.start; end = s.end }

  told : IsTrueOfPoints kept ray own
  told = true_of_points kept ray (AllPairs-filter (λ (r s : Region). r.place < s.place) keep regions rising)
      (All-filter keep (λ (r : Region). HasLeavesBelow (length r.body.instances) r.body.tree) regions below)

  in_range : (s : Stretch) → Has own s → s.region < length kept
  in_range s h = let c = contains_from_has own s h in subst (λ (t : Stretch). t.region < length kept) c.2 (told.ordered.numbers c.0 s c.1)

  part : (s : Stretch) → s.region < length kept → IsPart keep regions s
  part s lt = let is = kept_as keep 0 regions s.region lt in record { offset = is.offset; number = omega (arith, is.number); within = is.within; there = is.there }

  same_number : (a b : ℕ) → a < length kept → b < length kept → get_or ns a 0 ≡ get_or ns b 0 → a ≡ b
  same_number a b la lb e =
      let many = numbers_length keep 0 regions in
      elim (cases_lt a b) [
        | inl lt ↦ let rise = numbers_rise keep 0 regions a b lt (omega (arith, many, lb)) in absurd (omega (arith, e, rise))
        | inr ge ↦ elim (cases_lt b a) [
          | inl lt ↦ let rise = numbers_rise keep 0 regions b a lt (omega (arith, many, la)) in absurd (omega (arith, e, rise))
          | inr le ↦ omega (arith, ge, le)
        ]
      ]

  apart_still : (s t : Stretch) → s.region < length kept → t.region < length kept → EndsBefore s t → EndsBefore (renamed s) (renamed t)
  apart_still s t ls lt (inl before) = inl before
  apart_still s t ls lt (inr h) = inr (h.0, λ e. h.1 (same_number s.region t.region ls lt e))

  ordered : AreStretches (length regions) (map renamed own)
  ordered = record {
    numbers = all_mapped (λ (s : Stretch). s.region < length regions) renamed own (λ k d lt. let is = part (get_or own k d) (told.ordered.numbers k d lt) in omega (arith, is.number, is.within));
    each = all_mapped IsStretch renamed own (λ k d lt. let it = told.ordered.each k d lt in record { forward = it.forward; begun = it.begun; not_ended = it.not_ended; start_spelled = it.start_spelled; end_spelled = it.end_spelled });
    apart = pairs_mapped EndsBefore renamed own (λ i j d lt within. apart_still (get_or own i d) (get_or own j d) (told.ordered.numbers i d (omega (arith, lt, within))) (told.ordered.numbers j d within) (told.ordered.apart i j d lt within));
  }

  holding : (r : Region) → Contains regions r → (p q : ℤ) → IsOnRay p q → ¬ (IsRayHitPlace regions ray (Frac p q)) → HoldsPoint r.body ray p q → keep r ≡ true
  holding r there p q on free holds = elim (cases_Bool (keep r)) [ inl passed ↦ passed | inr failed ↦ absurd (nowhere r there failed p q on free holds) ]

  kept_has : (r : Region) → Contains regions r → keep r ≡ true → Contains kept r
  kept_has r there passed = contains_from_has kept r (filtered_has keep regions r (has_from_contains regions r there) passed)

  has_kept : (r : Region) → Contains kept r → Contains regions r
  has_kept r there = contains_from_has regions r (has_filtered keep regions r (has_from_contains kept r there))

  module _ (p q : ℤ) (n : ℕ) (on : IsOnRay p q) (free : ¬ (IsRayHitPlace regions ray (Frac p q))) where
    free_still : ¬ (IsRayHitPlace kept ray (Frac p q))
    free_still = λ h. free (hit_among keep regions ray (Frac p q) h)

    lies_of : (s : Stretch) → Has own s → HasPosition s (Frac p q) → get_or ns s.region 0 ≡ n → LiesAt regions ray p q n
    lies_of s has position is =
        let lies = (told.tells p q s.region on free_still).0 (any_from (λ (t : Stretch). (t.region ≡ s.region) × HasPosition t (Frac p q)) own s has (refl, position)) in
        let at = part s (in_range s has) in
        record {
          region = lies.region;
          there = subst (λ m. slice_get regions m ≡ Some lies.region) (sym at.number ∙ is) (at.there ∙ lies.there);
          holds = lies.holds;
          wins = λ r there w holds. lies.wins r (kept_has r there (holding r there p q on free holds)) w holds;
        }

    to : HasRegionAt (map renamed own) n (Frac p q) → LiesAt regions ray p q n
    to any =
        let s' = any_to (λ (t : Stretch). (t.region ≡ n) × HasPosition t (Frac p q)) (map renamed own) any in
        let s = has_mapped renamed own s'.0 s'.1 in
        let back : (renamed s.0).region ≡ n = subst (λ (t : Stretch). t.region ≡ n) (sym s.2) s'.2.0 in
        let position : HasPosition (renamed s.0) (Frac p q) = subst (λ (t : Stretch). HasPosition t (Frac p q)) (sym s.2) s'.2.1 in
        lies_of s.0 s.1 (record { begun = position.begun; not_ended = position.not_ended }) back

    from : LiesAt regions ray p q n → HasRegionAt (map renamed own) n (Frac p q)
    from lies =
        let passed = holding lies.region (contains_at regions n lies.region lies.there) p q on free lies.holds in
        let am = among_kept keep 0 regions n n lies.region lies.there passed (omega arith) in
        let any = (told.tells p q am.k on free_still).1 (record { region = lies.region; there = am.there; holds = lies.holds; wins = λ r there w holds. lies.wins r (has_kept r there) w holds }) in
        let s = any_to (λ (t : Stretch). (t.region ≡ am.k) × HasPosition t (Frac p q)) own any in
        any_from (λ (t : Stretch). (t.region ≡ n) × HasPosition t (Frac p q)) (map renamed own) (renamed s.0) (mapped_has renamed own s.0 s.1)
        (subst (λ k. get_or ns k 0 ≡ n) (sym s.2.0) am.number, record { begun = s.2.1.begun; not_ended = s.2.1.not_ended })

  tells : TellsPoints regions ray (map renamed own)
  tells p q n on free = (to p q n on free, from p q n on free)

  same : map renamed own ≡ stretches_of (lit_of regions ray)
  same = (true_of_points regions ray rising below).alone (map renamed own) ordered tells

  kept_below : HaveInstances kept
  kept_below = All-filter keep (λ (r : Region). HasLeavesBelow (length r.body.instances) r.body.tree) regions below

  silent_left : (r : Region) → Has regions r → keep r ≡ false → IsSilent ray r
  silent_left r has off =
      let c = contains_from_has regions r has in
      silent regions ray r (subst (λ (s : Region). HasLeavesBelow (length s.body.instances) s.body.tree) c.2 (below c.0 r c.1)) (nowhere r c off)

  hits_same : (x : Pos) → hits_among ray x kept ≡ hits_among ray x regions
  hits_same x = flat_left keep (hits_of ray x) regions (λ r has off. cond-false (changes_on ray x r) (ends_among ray x r.body.instances) [] (silent_changes ray x r (silent_left r has off)))

  abbrev placed : Stretch → PlacedPartition
  placed s = shown ray (slice_get regions s.region) s.start s.end (first_of (hits_among ray s.start regions))

  one_part : (l : Lit) → Has (lit_of kept ray) l → placed_partition kept l ≡ placed (renamed (stretch_of l))
  one_part l has =
      let is = part (stretch_of l) (in_range (stretch_of l) (mapped_has stretch_of (lit_of kept ray) l has)) in
      let there : slice_get kept l.region ≡ slice_get regions (get_or ns l.region 0) = sym (subst (λ m. slice_get regions m ≡ slice_get kept l.region) (sym is.number) is.there) in
      part_is kept ray kept_below l has
      ∙ ap (λ o. shown ray o l.start l.end (first_of (hits_among ray l.start kept))) there
      ∙ ap (λ hits. shown ray (slice_get regions (get_or ns l.region 0)) l.start l.end (first_of hits)) (hits_same l.start)

  parts_same : partitions_by_place kept ray ≡ partitions_by_place regions ray
  parts_same =
      map_same_on (placed_partition kept) (λ l. placed (renamed (stretch_of l))) (lit_of kept ray) one_part
      ∙ sym (map_twice placed renamed own ∙ map_twice (λ s. placed (renamed s)) stretch_of (lit_of kept ray))
      ∙ ap (map placed) same
      ∙ map_twice placed stretch_of (lit_of regions ray)
      ∙ sym (map_same_on (placed_partition regions) (λ l. placed (stretch_of l)) (lit_of regions ray) (part_is regions ray below))

pub partitions_without_the_rest : PartitionsWithoutTheRest
partitions_without_the_rest regions ray keep rising below nowhere = parts_same regions ray keep rising below nowhere
