-- At each point that is no hit the partitions of a ray have the region that lies there.
use Rattle.std.proofs.Common.{◌≡◌, ◌↔◌, ◌⊎◌, ◌<◌, ◌≤◌, ◌+◌, ◌==◌, ℕ, zero, suc, ℤ, List, [], ◌∷◌, ◌++◌, length, map, flat_map, get_or, slice_get, Bool, true, false, ◌&&◌, ◌||◌, not, Option, Some, None, IfSome, MatchOption, All, Any, Contains, ap, sym, subst, ◌∙◌, refl, inl, inr, arith}
use Rattle.std.proofs.lemmas.Bool.{cases_lt, cases_Bool, and_parts, and_from, or_cases, eq-eqb, true≢false}
use Rattle.std.proofs.lemmas.List.{get_or-map, get_or_default}
use Rattle.std.proofs.lemmas.Option.{slice_get_within, get_or_from_slice_get}
use Rattle.lattice_core.specs.declared.ray.Ray.{Ray}
use Rattle.lattice_core.specs.Rays.{IsOnRay}
use Rattle.surd_order.specs.declared.position.Pos.{Pos}
use Rattle.surd_order.specs.declared.position.Pos.TheVariants.{Frac}
use Rattle.surd_order.specs.declared.position.Seg.{Seg}
use Rattle.surd_order.specs.Order.{Precedes, SamePlace, IsPlace}
use Rattle.surd_order.proofs.LawProofs.{outcome}
use Rattle.surd_order.proofs.OrderLaws.{asymmetric, between, same_refl, same_symm, same_trans, transitive}
use Rattle.tree_forms.specs.declared.Op.TheVariants.{U, N, Minus, X}
use Rattle.tree_forms.specs.Trees.{Leaf, Join, leaves}
use Rattle.solid_set.specs.HitPlaces.{surface_places, IsAtOneOf, IsHitPlace, LiesBetweenEnds, EndsAreHitPlaces}
use Rattle.solid_set.specs.Segments.{segment_of}
use Rattle.solid_set.specs.Surfaces.{IsInside}
use Rattle.solid_set.proofs.HitPlaceLaws.{ends_are_hits, inside_exactly}
use Rattle.solid_set.proofs.InsideLaws.{on_ray_within}
use Rattle.bool_weave.specs.declared.woven.Woven.{Woven}
use Rattle.bool_weave.specs.Cuts.{ray_start, ray_end, places_of, cuts_of}
use Rattle.bool_weave.specs.Masks.{Mask, mask_holds}
use Rattle.bool_weave.specs.Claims.{Interval, intervals_of, covers, spans, claims_interval, claims_of}
use Rattle.bool_weave.specs.Tables.{interval_at}
use Rattle.bool_weave.proofs.Claimed.{intervals_length, intervals_at}
use Rattle.bool_weave.proofs.Cutting.{end_of_some, start_is_place, end_is_place, from_order}
use Rattle.bool_weave.proofs.LawProofs.{covers_by_places}
use Rattle.bool_weave.proofs.Sorted.{Has, has_at, has_from_contains, contains_from_has, has_append_left, has_append_right}
use Rattle.overlap_list.specs.declared.partition.Partition.{Partition}
use Rattle.overlap_list.specs.declared.region.RegionClaims.{RegionClaims}
use Rattle.overlap_list.specs.Hits.{cut_at}
use Rattle.overlap_list.specs.Laws.{IsWinner, IsWonPart}
use Rattle.overlap_list.specs.Partitions.{or_zero, won_runs, partition_of, partitions_of}
use Rattle.overlap_list.specs.Runs.{IntervalRun}
use Rattle.overlap_list.specs.Winners.{claims_at, winner_of}
use Rattle.overlap_list.proofs.Covering.{run_about, nobody_past}
use Rattle.overlap_list.proofs.LawProofs.{winners_are_right, runs_are_maximal}
use Rattle.overlap_list.proofs.Overlapping.{slice_at}
use Rattle.overlap_list.proofs.Parts.{winner_is, partitions_are_won}
use Rattle.shot_core.specs.Points.{ray_places, IsRayHitPlace, TreeHolds, IsInInstance, HoldsPoint, WinsAgainst, LiesAt, Stretch, stretch_of, stretches_of, HasPosition, HasRegionAt, TellsPoints}
use Rattle.shot_core.specs.Regions.{Instance, Region, HasLeavesBelow, HaveInstances, has_air, instances_of}
use Rattle.shot_core.specs.Shots.{woven_if, woven_from, woven_of, body_claims, claims_on, lit_by, lit_of}
use Rattle.shot_core.specs.Steps.{no_region}
use Rattle.shot_core.proofs.Claiming.{claims_length, no_claims}
use Rattle.shot_core.proofs.InBoxes.{spanning, inside_covered, IsRegionAt, region_at, same_some}
use Rattle.shot_core.proofs.OnRay.{IsRayPlace, AreSegmentsOf, place_is, woven_on_ray, cut_on_ray, cuts_rise, place_is_cut}
use Rattle.shot_core.proofs.ResultLaws.{rows_from}
use Rattle.shot_core.proofs.Weaving.{has_woven}

-- positions at the place of one of a list
pub at_of : (ys : List Pos) (x y : Pos) → Has ys y → SamePlace x y → IsAtOneOf ys x
at_of [] x y has same = absurd has
at_of (z ∷ zs) x y has same = elim has [ inl e ↦ inl (subst (SamePlace x) (sym e) same) | inr more ↦ inr (at_of zs x y more same) ]

at_same : (ys : List Pos) (x y : Pos) → SamePlace x y → IsAtOneOf ys y → IsAtOneOf ys x
at_same [] x y same at = at
at_same (z ∷ zs) x y same at = elim at [ inl here ↦ inl (same_trans x y z same here) | inr more ↦ inr (at_same zs x y same more) ]

pub at_left : (xs ys : List Pos) (x : Pos) → IsAtOneOf xs x → IsAtOneOf (xs ++ ys) x
at_left [] ys x at = absurd at
at_left (z ∷ zs) ys x at = elim at [ inl here ↦ inl here | inr more ↦ inr (at_left zs ys x more) ]

pub at_right : (xs ys : List Pos) (x : Pos) → IsAtOneOf ys x → IsAtOneOf (xs ++ ys) x
at_right [] ys x at = at
at_right (z ∷ zs) ys x at = inr (at_right zs ys x at)

-- the hits of an instance are hits of the ray
at_instance : (ray : Ray) (xs : List Instance) (i : ℕ) (one : Instance) (x : Pos) → slice_get xs i ≡ Some one → IsAtOneOf (surface_places one.surface ray) x
    → IsAtOneOf (flat_map (λ (i : Instance). surface_places i.surface ray) xs) x
at_instance ray [] i one x there at = absurd (let e : None ≡ Some one = there in cc)
at_instance ray (y ∷ ys) zero one x there at =
    let same : y ≡ one = same_some y one there in
    at_left (surface_places y.surface ray) (flat_map (λ (i : Instance). surface_places i.surface ray) ys) x (subst (λ (o : Instance). IsAtOneOf (surface_places o.surface ray) x) (sym same) at)
at_instance ray (y ∷ ys) (suc i) one x there at =
    at_right (surface_places y.surface ray) (flat_map (λ (i : Instance). surface_places i.surface ray) ys) x (at_instance ray ys i one x there at)

hit_of_ray : (regions : List Region) (ray : Ray) (i : ℕ) (one : Instance) (x : Pos) → slice_get (instances_of regions) i ≡ Some one → IsHitPlace one.surface ray x → IsRayHitPlace regions ray x
hit_of_ray regions ray i one x there hit = elim hit [
  | inl start ↦ inl start
  | inr rest ↦ elim rest [ inl end ↦ inr (inl end) | inr more ↦ inr (inr (at_instance ray (instances_of regions) i one x there more)) ]
]

-- so are the cuts
end_hit : (regions : List Region) (ray : Ray) (w : Woven) (x : Pos) → Has (woven_of regions ray) w → (w.seg.start ≡ x) ⊎ (w.seg.end ≡ x) → IsRayHitPlace regions ray x
end_hit regions ray w x there which =
    let i = has_woven ray 0 (instances_of regions) w there in
    let ends : EndsAreHitPlaces i.one.surface ray w.seg = ends_are_hits i.one.surface ray w.seg i.segment in
    hit_of_ray regions ray i.place i.one x i.there (elim which [ inl e ↦ subst (IsHitPlace i.one.surface ray) e ends.start | inr e ↦ subst (IsHitPlace i.one.surface ray) e ends.end ])

place_hit : (regions : List Region) (ray : Ray) (x : Pos) → Has (places_of (woven_of regions ray)) x → IsRayHitPlace regions ray x
place_hit regions ray x has = elim has [
  | inl e ↦ inl (subst (λ (z : Pos). SamePlace z ray_start) e (same_refl ray_start))
  | inr rest ↦ elim rest [
    | inl e ↦ inr (inl (subst (λ (z : Pos). SamePlace z ray_end) e (same_refl ray_end)))
    | inr more ↦ let w = end_of_some (woven_of regions ray) x more in end_hit regions ray w.0 x w.1 w.2
  ]
]

-- a tree holds where what its leaves say does
not_iff : (b : Bool) (P : Type 0) → (b ≡ true) ↔ P → (not b ≡ true) ↔ ¬ P
not_iff true P h = (λ e. absurd (true≢false (sym e)), λ none. absurd (none (h.0 refl)))
not_iff false P h = (λ e p. true≢false (sym (h.1 p)), λ none. refl)

or_iff : (a b : Bool) (P Q : Type 0) → (a ≡ true) ↔ P → (b ≡ true) ↔ Q → ((a || b) ≡ true) ↔ (P ⊎ Q)
or_iff a b P Q h g = (
  λ e. elim (or_cases a b e) [ inl left ↦ inl (h.0 left) | inr right ↦ inr (g.0 right) ],
  λ some. elim some [ inl p ↦ left_or a b (h.1 p) | inr q ↦ right_or a b (g.1 q) ],
)
  where
    left_or : (a b : Bool) → a ≡ true → (a || b) ≡ true
    left_or true b e = refl
    left_or false b e = absurd (true≢false (sym e))

    right_or : (a b : Bool) → b ≡ true → (a || b) ≡ true
    right_or true b e = refl
    right_or false b e = e

and_iff : (a b : Bool) (P Q : Type 0) → (a ≡ true) ↔ P → (b ≡ true) ↔ Q → ((a && b) ≡ true) ↔ (P × Q)
and_iff a b P Q h g = (λ e. let both = and_parts a b e in (h.0 both.0, g.0 both.1), λ both. and_from a b (h.1 both.0) (g.1 both.1))

tree_iff : (t : Mask) (values : ℕ → Bool) (says : ℕ → Type 0) → ((i : ℕ) → Has (leaves t) (Some i) → (values i ≡ true) ↔ says i) → (mask_holds t values ≡ true) ↔ TreeHolds t says
tree_iff (Leaf None) values says each = (λ e. true≢false (sym e), λ none. absurd none)
tree_iff (Leaf (Some i)) values says each = each i (inl refl)
tree_iff (Join U l r) values says each =
    or_iff (mask_holds l values) (mask_holds r values) (TreeHolds l says) (TreeHolds r says)
    (tree_iff l values says (λ i there. each i (has_append_left (leaves l) (leaves r) (Some i) there)))
    (tree_iff r values says (λ i there. each i (has_append_right (leaves l) (leaves r) (Some i) there)))
tree_iff (Join N l r) values says each =
    and_iff (mask_holds l values) (mask_holds r values) (TreeHolds l says) (TreeHolds r says)
    (tree_iff l values says (λ i there. each i (has_append_left (leaves l) (leaves r) (Some i) there)))
    (tree_iff r values says (λ i there. each i (has_append_right (leaves l) (leaves r) (Some i) there)))
tree_iff (Join Minus l r) values says each =
    and_iff (mask_holds l values) (not (mask_holds r values)) (TreeHolds l says) (¬ (TreeHolds r says))
    (tree_iff l values says (λ i there. each i (has_append_left (leaves l) (leaves r) (Some i) there)))
    (not_iff (mask_holds r values) (TreeHolds r says) (tree_iff r values says (λ i there. each i (has_append_right (leaves l) (leaves r) (Some i) there))))
tree_iff (Join X l r) values says each =
    let left = tree_iff l values says (λ i there. each i (has_append_left (leaves l) (leaves r) (Some i) there)) in
    let right = tree_iff r values says (λ i there. each i (has_append_right (leaves l) (leaves r) (Some i) there)) in
    or_iff (mask_holds l values && not (mask_holds r values)) (not (mask_holds l values) && mask_holds r values)
    (TreeHolds l says × ¬ (TreeHolds r says)) (¬ (TreeHolds l says) × TreeHolds r says)
    (and_iff (mask_holds l values) (not (mask_holds r values)) (TreeHolds l says) (¬ (TreeHolds r says)) left (not_iff (mask_holds r values) (TreeHolds r says) right))
    (and_iff (not (mask_holds l values)) (mask_holds r values) (¬ (TreeHolds l says)) (TreeHolds r says) (not_iff (mask_holds l values) (TreeHolds l says) left) right)

-- an instance that has a segment is woven in
woven_has : (ray : Ray) (n : ℕ) (xs : List Instance) (i m : ℕ) (one : Instance) (seg : Seg) → m ≡ n + i → slice_get xs i ≡ Some one → segment_of one.surface ray ≡ Some seg
    → Has (woven_from ray n xs) (let w : Woven = record { instance = m; seg = seg } in w)
woven_has ray n [] i m one seg number there is = absurd (let e : None ≡ Some one = there in cc)
woven_has ray n (x ∷ xs) zero m one seg number there is =
    let same : x ≡ one = same_some x one there in
    let found : segment_of x.surface ray ≡ Some seg = ap (λ (o : Instance). segment_of o.surface ray) same ∙ is in
    let w : Woven = record { instance = m; seg = seg } in
    has_append_left (woven_if n (segment_of x.surface ray)) (woven_from ray (n + 1) xs) w
    (subst (λ (o : Option Seg). Has (woven_if n o) w) (sym found) (inl (ap (λ (k : ℕ). let v : Woven = record { instance = k; seg = seg } in v) (let e : n ≡ m = omega (arith, number) in e))))
woven_has ray n (x ∷ xs) (suc i) m one seg number there is =
    has_append_right (woven_if n (segment_of x.surface ray)) (woven_from ray (n + 1) xs) (record { instance = m; seg = seg })
    (woven_has ray (n + 1) xs i m one seg (omega (arith, number)) there is)

spans_from : (woven : List Woven) (interval : Interval) (w : Woven) (m : ℕ) → m ≡ w.instance → Has woven w → covers w.seg interval ≡ true → spans woven interval m ≡ true
spans_from [] interval w m is has covered = absurd has
spans_from (v ∷ vs) interval w m is has covered = elim has [
  | inl e ↦
      let number : (v.instance == m) ≡ true = eq-eqb v.instance m (ap (λ (u : Woven). u.instance) e ∙ sym is) in
      let over : covers v.seg interval ≡ true = ap (λ (u : Woven). covers u.seg interval) e ∙ covered in
      first ((v.instance == m) && covers v.seg interval) (spans vs interval m) (and_from (v.instance == m) (covers v.seg interval) number over)
  | inr more ↦ second ((v.instance == m) && covers v.seg interval) (spans vs interval m) (spans_from vs interval w m is more covered)
]
  where
    first : (a b : Bool) → a ≡ true → (a || b) ≡ true
    first true b e = refl
    first false b e = absurd (true≢false (sym e))

    second : (a b : Bool) → b ≡ true → (a || b) ≡ true
    second true b e = refl
    second false b e = e

-- lists by membership
pub has_mapped : {A Y : Type 0} (f : A → Y) (xs : List A) (y : Y) → Has (map f xs) y → (x : A) × Has xs x × (f x ≡ y)
has_mapped f [] y has = absurd has
has_mapped f (x ∷ xs) y has = elim has [ inl e ↦ (x, inl refl, e) | inr more ↦ let m = has_mapped f xs y more in (m.0, inr m.1, m.2) ]

mapped_has : {A Y : Type 0} (f : A → Y) (xs : List A) (x : A) → Has xs x → Has (map f xs) (f x)
mapped_has f [] x has = absurd has
mapped_has f (y ∷ ys) x has = elim has [ inl e ↦ inl (ap f e) | inr more ↦ inr (mapped_has f ys x more) ]

pub any_from : {A : Type 0} (P : A → Type 0) (xs : List A) (x : A) → Has xs x → P x → Any P xs
any_from P xs x has p = let c = contains_from_has xs x has in (c.0, x, c.1, c.2, p)

pub any_to : {A : Type 0} (P : A → Type 0) (xs : List A) → Any P xs → (x : A) × Has xs x × P x
any_to P xs any = (any.1, has_at xs any.1 any.1 any.0 any.2 any.3, any.4)

all_to : {A : Type 0} (P : A → Type 0) (xs : List A) (x : A) → All P xs → Has xs x → P x
all_to P xs x all has = let c = contains_from_has xs x has in subst P c.2 (all c.0 x c.1)

-- the ray of a scene, and a point of it that is no hit
module _ (regions : List Region) (ray : Ray) (below : HaveInstances regions) where
  abbrev woven : List Woven
  woven = woven_of regions ray

  abbrev claimed : List RegionClaims
  claimed = claims_on regions ray

  abbrev parts : List Partition
  parts = partitions_of woven claimed

  abbrev count : ℕ
  count = length (intervals_of woven)

  of : AreSegmentsOf ray (instances_of regions) woven
  of w there = has_woven ray 0 (instances_of regions) w there

  -- a place of the ray is one of the cuts
  record IsCut (z : Pos) : Type 0 where
    at : ℕ
    within : at < length (cuts_of woven)
    is : cut_at woven at ≡ z

  cut_of : (z : Pos) → Has (places_of woven) z → IsCut z
  cut_of z has =
      let c = contains_from_has (cuts_of woven) z (place_is_cut ray (instances_of regions) woven of z has) in
      record { at = c.0; within = c.1; is = get_or_default (cuts_of woven) c.0 ray_start z c.1 ∙ c.2 }

  pub cuts_count : length (cuts_of woven) ≡ count + 1
  cuts_count = omega (arith, intervals_length (cuts_of woven), (cut_of ray_start (inl refl)).within)

  pub on_ray : (k : ℕ) → k ≤ count → IsRayPlace (cut_at woven k)
  on_ray k le = cut_on_ray ray (instances_of regions) woven of k (omega (arith, le, cuts_count))

  pub place : (k : ℕ) → k ≤ count → IsPlace (cut_at woven k)
  place k le = place_is (cut_at woven k) (on_ray k le)

  pub rises : (i j : ℕ) → i < j → j ≤ count → Precedes (cut_at woven i) (cut_at woven j)
  rises i j lt within = cuts_rise ray (instances_of regions) woven of i j lt (omega (arith, within, cuts_count))

  pub not_back : (i j : ℕ) → i ≤ j → j ≤ count → ¬ (Precedes (cut_at woven j) (cut_at woven i))
  not_back i j le within before =
      elim (cases_lt i j) [
        | inl lt ↦ asymmetric (cut_at woven i) (cut_at woven j) (place i (omega (arith, le, within))) (place j within) (rises i j lt within) before
        | inr ge ↦ let e : i ≡ j = omega (arith, le, ge) in (same_refl (cut_at woven j)).not_before (subst (λ n. Precedes (cut_at woven j) (cut_at woven n)) e before)
      ]

  first_cut : cut_at woven 0 ≡ ray_start
  first_cut =
      let c = cut_of ray_start (inl refl) in
      elim (cases_lt 0 c.at) [
        | inl behind ↦ absurd ((on_ray 0 (omega arith)).begun (subst (Precedes (cut_at woven 0)) c.is (rises 0 c.at behind (omega (arith, c.within, cuts_count)))))
        | inr here ↦ ap (λ n. cut_at woven n) (let e : 0 ≡ c.at = omega (arith, here) in e) ∙ c.is
      ]

  pub last_cut : cut_at woven count ≡ ray_end
  last_cut =
      let c = cut_of ray_end (inr (inl refl)) in
      elim (cases_lt c.at count) [
        | inl before ↦ absurd ((on_ray count (omega arith)).not_ended (subst (λ (z : Pos). Precedes z (cut_at woven count)) c.is (rises c.at count before (omega arith))))
        | inr here ↦ ap (λ n. cut_at woven n) (let e : count ≡ c.at = omega (arith, here, c.within, cuts_count) in e) ∙ c.is
      ]

  cut_hit : (k : ℕ) → k ≤ count → IsRayHitPlace regions ray (cut_at woven k)
  cut_hit k le = place_hit regions ray (cut_at woven k) (from_order (cut_at woven k) (places_of woven) (has_at (cuts_of woven) (cut_at woven k) ray_start k (omega (arith, le, cuts_count)) refl))

  module _ (p q : ℤ) (on : IsOnRay p q) (no_hit : ¬ (IsRayHitPlace regions ray (Frac p q))) where
    abbrev x : Pos
    x = Frac p q

    -- the interval in which the point lies
    pub record IsLocated : Type 0 where
      pub k : ℕ
      pub within : k < count
      pub after : Precedes (cut_at woven k) (Frac p q)
      pub before : Precedes (Frac p q) (cut_at woven (k + 1))

    apart : (k : ℕ) → k ≤ count → ¬ (SamePlace (Frac p q) (cut_at woven k))
    apart k le same = no_hit (at_same (ray_places regions ray) (Frac p q) (cut_at woven k) same (cut_hit k le))

    search_from : (n k : ℕ) → k + n ≡ count → Precedes (cut_at woven k) (Frac p q) → IsLocated
    search_from zero k e after =
        let last : cut_at woven k ≡ ray_end = ap (λ n. cut_at woven n) (let f : k ≡ count = omega (arith, e) in f) ∙ last_cut in
        absurd (((on_ray_within p q on.positive).0 on).1 (subst (λ (z : Pos). Precedes z (Frac p q)) last after))
    search_from (suc n) k e after = elim (outcome (Frac p q) (cut_at woven (k + 1)) on.positive (place (k + 1) (omega (arith, e)))) [
      | inl before ↦ record { k = k; within = omega (arith, e); after = after; before = before }
      | inr rest ↦ elim rest [ inl same ↦ absurd (apart (k + 1) (omega (arith, e)) same) | inr behind ↦ search_from n (k + 1) (omega (arith, e)) behind ]
    ]

    pub located : IsLocated
    located =
        search_from count 0 (omega arith) (elim (outcome (cut_at woven 0) (Frac p q) (place 0 (omega arith)) on.positive) [
          | inl after ↦ after
          | inr rest ↦ elim rest [
            | inl same ↦ absurd (apart 0 (omega arith) (same_symm (cut_at woven 0) (Frac p q) same))
            | inr early ↦ absurd (((on_ray_within p q on.positive).0 on).0 (subst (λ (z : Pos). Precedes (Frac p q) z) first_cut early))
          ]
        ])

    -- an end of a segment that is not behind the point is not behind the interval's start, and likewise for its end
    start_early : (z : Pos) → Has (places_of woven) z → Precedes z (Frac p q) → ¬ (Precedes (cut_at woven located.k) z)
    start_early z has before late =
        let c = cut_of z has in
        elim (cases_lt located.k c.at) [
          | inl behind ↦
              not_back (located.k + 1) c.at (omega (arith, behind)) (omega (arith, c.within, cuts_count))
              (transitive (cut_at woven c.at) (Frac p q) (cut_at woven (located.k + 1)) on.positive (place (located.k + 1) (omega (arith, located.within))) (subst (λ (y : Pos). Precedes y (Frac p q)) (sym c.is) before) located.before)
          | inr early ↦ not_back c.at located.k (omega (arith, early)) (omega (arith, located.within)) (subst (Precedes (cut_at woven located.k)) (sym c.is) late)
        ]

    end_late : (z : Pos) → Has (places_of woven) z → Precedes (Frac p q) z → ¬ (Precedes z (cut_at woven (located.k + 1)))
    end_late z has after early =
        let c = cut_of z has in
        elim (cases_lt located.k c.at) [
          | inl behind ↦ not_back (located.k + 1) c.at (omega (arith, behind)) (omega (arith, c.within, cuts_count)) (subst (λ (y : Pos). Precedes y (cut_at woven (located.k + 1))) (sym c.is) early)
          | inr before ↦
              not_back c.at located.k (omega (arith, before)) (omega (arith, located.within))
              (transitive (cut_at woven located.k) (Frac p q) (cut_at woven c.at) on.positive (place c.at (omega (arith, c.within, cuts_count))) located.after (subst (Precedes (Frac p q)) (sym c.is) after))
        ]

    start_placed : IsPlace (cut_at woven located.k)
    start_placed = place located.k (omega (arith, located.within))

    end_placed : IsPlace (cut_at woven (located.k + 1))
    end_placed = place (located.k + 1) (omega (arith, located.within))

    -- an instance spans the interval just where the point lies inside of it
    spanned_inside : (number place_of : ℕ) (one : Instance) → number ≡ place_of → slice_get (instances_of regions) place_of ≡ Some one → spans woven (interval_at (cuts_of woven) located.k) number ≡ true → IsInside one.surface ray p q
    spanned_inside number place_of one e there spanned =
        let s = spanning woven (interval_at (cuts_of woven) located.k) number spanned in
        let w = has_woven ray 0 (instances_of regions) s.one s.there in
        let seg = woven_on_ray ray (instances_of regions) woven of s.one s.there in
        let number_is : w.place ≡ place_of = omega (arith, w.number, s.number, e) in
        let same : w.one ≡ one = same_some w.one one (sym w.there ∙ ap (slice_get (instances_of regions)) number_is ∙ there) in
        let inside = inside_covered s.one.seg (interval_at (cuts_of woven) located.k) p q (place_is s.one.seg.start seg.start) (place_is s.one.seg.end seg.end) start_placed end_placed s.covered located.after located.before in
        let found : segment_of one.surface ray ≡ Some s.one.seg = ap (λ (o : Instance). segment_of o.surface ray) (sym same) ∙ w.segment in
        (inside_exactly one.surface ray p q on (λ hit. no_hit (hit_of_ray regions ray place_of one (Frac p q) there hit))).1 (subst (λ (o : Option Seg). LiesBetweenEnds o (Frac p q)) (sym found) inside)

    spanned_by : (number place_of : ℕ) (one : Instance) → number ≡ place_of → slice_get (instances_of regions) place_of ≡ Some one → (o : Option Seg) → segment_of one.surface ray ≡ o → LiesBetweenEnds o (Frac p q)
        → spans woven (interval_at (cuts_of woven) located.k) number ≡ true
    spanned_by number place_of one e there None is within = absurd within
    spanned_by number place_of one e there (Some seg) is within =
        let w : Woven = record { instance = number; seg = seg } in
        let has : Has woven w = woven_has ray 0 (instances_of regions) place_of number one seg (omega (arith, e)) there is in
        let ends = woven_on_ray ray (instances_of regions) woven of w has in
        spans_from woven (interval_at (cuts_of woven) located.k) w number refl has
        ((covers_by_places seg (interval_at (cuts_of woven) located.k) (place_is seg.start ends.start) (place_is seg.end ends.end) start_placed end_placed).1 (
          start_early seg.start (inr (inr (start_is_place woven w has))) within.0,
          end_late seg.end (inr (inr (end_is_place woven w has))) within.1,
        ))

    inside_spanned : (number place_of : ℕ) (one : Instance) → number ≡ place_of → slice_get (instances_of regions) place_of ≡ Some one → IsInside one.surface ray p q → spans woven (interval_at (cuts_of woven) located.k) number ≡ true
    inside_spanned number place_of one e there inside =
        spanned_by number place_of one e there (segment_of one.surface ray) refl
        ((inside_exactly one.surface ray p q on (λ hit. no_hit (hit_of_ray regions ray place_of one (Frac p q) there hit))).0 inside)

    -- so a region claims the interval just where its tree holds at the point
    leaf_iff : (number place_of : ℕ) (o : Option Instance) → number ≡ place_of → slice_get (instances_of regions) place_of ≡ o → IsInInstance o ray p q → spans woven (interval_at (cuts_of woven) located.k) number ≡ true
    leaf_iff number place_of None e there inside = absurd inside
    leaf_iff number place_of (Some one) e there inside = inside_spanned number place_of one e there inside

    leaf_to : (number place_of : ℕ) (o : Option Instance) → number ≡ place_of → slice_get (instances_of regions) place_of ≡ o → spans woven (interval_at (cuts_of woven) located.k) number ≡ true → IsInInstance o ray p q
    leaf_to number place_of None e there spanned =
        let s = spanning woven (interval_at (cuts_of woven) located.k) number spanned in
        let w = has_woven ray 0 (instances_of regions) s.one s.there in
        let number_is : w.place ≡ place_of = omega (arith, w.number, s.number, e) in
        absurd (let f : Some w.one ≡ None = sym w.there ∙ ap (slice_get (instances_of regions)) number_is ∙ there in cc)
    leaf_to number place_of (Some one) e there spanned = spanned_inside number place_of one e there spanned

    pub record IsRegionOf (n : ℕ) (region : Region) : Type 0 where
      pub claims : (d : RegionClaims) → (claims_at (get_or claimed n d) located.k ≡ true) ↔ HoldsPoint region.body ray p q
      pub air : (d : RegionClaims) → (get_or claimed n d).air ≡ has_air region.body

    claims_row : (tree : Mask) (first : ℕ) → get_or (claims_of woven tree first) located.k false ≡ claims_interval woven tree first (interval_at (cuts_of woven) located.k)
    claims_row tree first =
        let within : located.k + 1 < length (cuts_of woven) = omega (arith, located.within, cuts_count) in
        let d = interval_at (cuts_of woven) located.k in
        get_or-map (claims_interval woven tree first) (intervals_of woven) located.k d false located.within ∙ ap (claims_interval woven tree first) (intervals_at (cuts_of woven) located.k d within)

    pub region_of : (n : ℕ) (region : Region) → slice_get regions n ≡ Some region → IsRegionOf n region
    region_of n region there =
        let lt : n < length regions = slice_get_within regions n region there in
        let is : get_or regions n region ≡ region = get_or_from_slice_get regions n region region there in
        let leaves_below : HasLeavesBelow (length region.body.instances) region.body.tree = subst (λ (r : Region). HasLeavesBelow (length r.body.instances) r.body.tree) is (below n region lt) in
        let row : (d : RegionClaims) → IsRegionAt woven 0 regions n d region = λ d. region_at woven 0 regions n d region lt in
        let body_is : (d : RegionClaims) → get_or claimed n d ≡ body_claims woven (0 + (row d).past) region.body = λ d. (row d).claims_are ∙ ap (λ (r : Region). body_claims woven (0 + (row d).past) r.body) is in
        record {
          claims = λ d.
              let r = region_at woven 0 regions n d region lt in
              let leaf : (i : ℕ) → Has (leaves region.body.tree) (Some i) → (spans woven (interval_at (cuts_of woven) located.k) (0 + r.past + i) ≡ true) ↔ IsInInstance (slice_get region.body.instances i) ray p q =
              λ i has.
              let c = contains_from_has (leaves region.body.tree) (Some i) has in
              let within : i < length region.body.instances = subst (λ (o : Option ℕ). IfSome o (λ i. i < length region.body.instances)) c.2 (leaves_below c.0 (Some i) c.1) in
              let at : slice_get (instances_of regions) (r.past + i) ≡ slice_get region.body.instances i =
              subst (λ (s : Region). i < length s.body.instances → slice_get (instances_of regions) (r.past + i) ≡ slice_get s.body.instances i) is (r.among i) within in
              let number : 0 + r.past + i ≡ r.past + i = omega arith in
              (leaf_to (0 + r.past + i) (r.past + i) (slice_get region.body.instances i) number at, leaf_iff (0 + r.past + i) (r.past + i) (slice_get region.body.instances i) number at) in
              let tree = tree_iff region.body.tree (λ i. spans woven (interval_at (cuts_of woven) located.k) (0 + r.past + i)) (λ i. IsInInstance (slice_get region.body.instances i) ray p q) leaf in
              let to_row : claims_at (get_or claimed n d) located.k ≡ claims_interval woven region.body.tree (0 + r.past) (interval_at (cuts_of woven) located.k) =
              ap (λ (x : RegionClaims). claims_at x located.k) (r.claims_are ∙ ap (λ (s : Region). body_claims woven (0 + r.past) s.body) is) ∙ claims_row region.body.tree (0 + r.past) in
              (λ e. tree.0 (sym to_row ∙ e), λ holds. to_row ∙ tree.1 holds);
          air = λ d. ap (λ (x : RegionClaims). x.air) (body_is d);
        }

    -- a partition that has the point is made of intervals among which is the one in which the point lies
    part_in : (p' : Partition) → IsWonPart woven claimed p' → ¬ (Precedes (Frac p q) p'.start) → ¬ (Precedes p'.end (Frac p q)) → IsWinner claimed located.k p'.region
    part_in p' won begun not_ended =
        won.won located.k
        (elim (cases_lt located.k won.run.from) [
          | inl late ↦ absurd (elim (between (Frac p q) (cut_at woven won.run.from) (cut_at woven (located.k + 1)) located.before) [
            | inl early ↦ begun (subst (Precedes (Frac p q)) (sym won.start) early)
            | inr back ↦ not_back (located.k + 1) won.run.from (omega (arith, late)) (omega (arith, won.some, won.within)) back
          ])
          | inr le ↦ omega (arith, le)
        ])
        (elim (cases_lt located.k won.run.to) [
          | inl lt ↦ lt
          | inr past ↦ absurd (elim (between (cut_at woven located.k) (cut_at woven won.run.to) (Frac p q) located.after) [
            | inl back ↦ not_back won.run.to located.k (omega (arith, past)) (omega (arith, located.within)) back
            | inr late ↦ not_ended (subst (λ (z : Pos). Precedes z (Frac p q)) (sym won.end) late)
          ])
        ])

    -- and what is made of intervals among which it is has the point
    has_point : (run : IntervalRun) → run.from ≤ located.k → located.k < run.to → run.to ≤ count → (n : ℕ) → HasPosition (record { region = n; start = cut_at woven run.from; end = cut_at woven run.to }) (Frac p q)
    has_point run low high within n = record {
      begun = λ early. not_back run.from located.k low (omega (arith, located.within)) (transitive (cut_at woven located.k) (Frac p q) (cut_at woven run.from) on.positive (place run.from (omega (arith, low, located.within))) located.after early);
      not_ended = λ late. not_back (located.k + 1) run.to (omega (arith, high)) within (transitive (cut_at woven run.to) (Frac p q) (cut_at woven (located.k + 1)) on.positive end_placed late located.before);
    }

    number_there : (n : ℕ) → n < length claimed → slice_get regions n ≡ Some (get_or regions n no_region)
    number_there n lt = slice_at regions n no_region (omega (arith, lt, claims_length woven 0 regions))

    -- the region that wins the interval lies at the point
    pub winner_lies : (n : ℕ) → IsWinner claimed located.k n → (rising : (i j : ℕ) → i < j → j < length regions → (get_or regions i no_region).place < (get_or regions j no_region).place) → LiesAt regions ray p q n
    winner_lies n win rising =
        let there : slice_get regions n ≡ Some (get_or regions n no_region) = number_there n win.there in
        let mine = region_of n (get_or regions n no_region) there in
        record {
          region = get_or regions n no_region;
          there = there;
          holds = (mine.claims no_claims).0 (win.claims no_claims);
          wins = λ s among against holds.
              let m : ℕ = among.0 in
              let within : among.0 < length regions = among.1 in
              let is : slice_get regions among.0 ≡ Some s = slice_at regions among.0 s among.1 ∙ ap (λ (r : Region). Some r) among.2 in
              let other = region_of among.0 s is in
              let claims : claims_at (get_or claimed among.0 no_claims) located.k ≡ true = (other.claims no_claims).1 holds in
              let lt : among.0 < length claimed = omega (arith, among.1, claims_length woven 0 regions) in
              elim against [
                | inl kinds ↦
                    true≢false (sym kinds.1 ∙ sym (mine.air no_claims) ∙ win.no_air among.0 no_claims lt claims (other.air no_claims ∙ kinds.0))
                | inr places ↦
                    let first : n ≤ among.0 = win.first among.0 no_claims lt claims (other.air no_claims ∙ places.0 ∙ sym (mine.air no_claims)) in
                    let at_s : get_or regions among.0 no_region ≡ s = get_or_from_slice_get regions among.0 s no_region is in
                    elim (cases_lt n among.0) [
                      | inl lt' ↦
                          let up : (get_or regions n no_region).place < s.place = subst (λ (r : Region). (get_or regions n no_region).place < r.place) at_s (rising n among.0 lt' among.1) in
                          omega (arith, up, places.1)
                      | inr ge ↦
                          let e : n ≡ among.0 = omega (arith, first, ge) in
                          let same : get_or regions n no_region ≡ s = ap (λ i. get_or regions i no_region) e ∙ at_s in
                          let same_place : (get_or regions n no_region).place ≡ s.place = ap (λ (r : Region). r.place) same in
                          omega (arith, same_place, places.1)
                    ]
              ];
        }

    -- the region that lies at the point is the winner
    one_winner : (n w : ℕ) (mine other : Region) → slice_get regions n ≡ Some mine → slice_get regions w ≡ Some other → HoldsPoint mine.body ray p q
        → ((s : Region) → Contains regions s → WinsAgainst s mine → ¬ (HoldsPoint s.body ray p q)) → IsWinner claimed located.k w
        → (rising : (i j : ℕ) → i < j → j < length regions → (get_or regions i no_region).place < (get_or regions j no_region).place) → w ≡ n
    one_winner n w mine other there there' holds wins win rising =
        let a = region_of n mine there in
        let b = region_of w other there' in
        let lt : n < length regions = slice_get_within regions n mine there in
        let lt' : w < length regions = slice_get_within regions w other there' in
        let lt_claims : n < length claimed = omega (arith, lt, claims_length woven 0 regions) in
        let claims : claims_at (get_or claimed n no_claims) located.k ≡ true = (a.claims no_claims).1 holds in
        let other_holds : HoldsPoint other.body ray p q = (b.claims no_claims).0 (win.claims no_claims) in
        let other_in : Contains regions other = (w, lt', get_or_from_slice_get regions w other other there') in
        let mine_at : get_or regions n no_region ≡ mine = get_or_from_slice_get regions n mine no_region there in
        let other_at : get_or regions w no_region ≡ other = get_or_from_slice_get regions w other no_region there' in
        let same_kind : has_air other.body ≡ has_air mine.body → w ≡ n = λ kinds.
        let first : w ≤ n = win.first n no_claims lt_claims claims (a.air no_claims ∙ sym kinds ∙ sym (b.air no_claims)) in
        elim (cases_lt w n) [
          | inl before ↦
              let up : other.place < mine.place = subst (λ (r : Region). other.place < r.place) mine_at (subst (λ (r : Region). r.place < (get_or regions n no_region).place) other_at (rising w n before lt)) in
              absurd (wins other other_in (inr (kinds, up)) other_holds)
          | inr ge ↦ omega (arith, first, ge)
        ] in
        elim (cases_Bool (has_air mine.body)) [
          | inl airy ↦ elim (cases_Bool (has_air other.body)) [
            | inl airy' ↦ same_kind (airy' ∙ sym airy)
            | inr solid ↦ absurd (wins other other_in (inl (solid, airy)) other_holds)
          ]
          | inr solid ↦ same_kind (sym (b.air no_claims) ∙ win.no_air n no_claims lt_claims claims (a.air no_claims ∙ solid) ∙ sym solid)
        ]

    module _ (rising : (i j : ℕ) → i < j → j < length regions → (get_or regions i no_region).place < (get_or regions j no_region).place) where
      to_lies : (n : ℕ) → HasRegionAt (stretches_of (lit_of regions ray)) n (Frac p q) → LiesAt regions ray p q n
      to_lies n any =
          let s = any_to (λ (s : Stretch). (s.region ≡ n) × HasPosition s (Frac p q)) (stretches_of (lit_of regions ray)) any in
          let l = has_mapped stretch_of (lit_of regions ray) s.0 s.1 in
          let part = has_mapped (lit_by regions ray) parts l.0 l.1 in
          let is : stretch_of (lit_by regions ray part.0) ≡ s.0 = ap stretch_of part.2 ∙ l.2 in
          let won : IsWonPart woven claimed part.0 = all_to (IsWonPart woven claimed) parts part.0 (partitions_are_won woven claimed) part.1 in
          let region : part.0.region ≡ n = ap (λ (t : Stretch). t.region) is ∙ s.2.0 in
          let begun : ¬ (Precedes (Frac p q) part.0.start) = subst (λ (t : Stretch). ¬ (Precedes (Frac p q) t.start)) (sym is) s.2.1.begun in
          let not_ended : ¬ (Precedes part.0.end (Frac p q)) = subst (λ (t : Stretch). ¬ (Precedes t.end (Frac p q))) (sym is) s.2.1.not_ended in
          winner_lies n (subst (IsWinner claimed located.k) region (part_in part.0 won begun not_ended)) rising

      -- the region of the interval in which the point lies
      pub some_winner : (n : ℕ) (o : Option ℕ) → winner_of claimed located.k ≡ o → n < length claimed → claims_at (get_or claimed n no_claims) located.k ≡ true → (w : ℕ) × (winner_of claimed located.k ≡ Some w)
      some_winner n None is lt claims =
          let none : (s : ℕ) (d : RegionClaims) → s < length claimed → claims_at (get_or claimed s d) located.k ≡ false =
          subst (λ o. MatchOption o ((s : ℕ) (d : RegionClaims) → s < length claimed → claims_at (get_or claimed s d) located.k ≡ false) (IsWinner claimed located.k)) is (winners_are_right claimed located.k) in
          absurd (true≢false (sym claims ∙ none n no_claims lt))
      some_winner n (Some w) is lt claims = (w, is)

      from_lies : (n : ℕ) → LiesAt regions ray p q n → HasRegionAt (stretches_of (lit_of regions ray)) n (Frac p q)
      from_lies n lies =
          let mine = region_of n lies.region lies.there in
          let lt : n < length claimed = omega (arith, slice_get_within regions n lies.region lies.there, claims_length woven 0 regions) in
          let w = some_winner n (winner_of claimed located.k) refl lt ((mine.claims no_claims).1 lies.holds) in
          let win : IsWinner claimed located.k w.0 = winner_is claimed located.k w.0 w.1 in
          let same : w.0 ≡ n = one_winner n w.0 lies.region (get_or regions w.0 no_region) lies.there (number_there w.0 win.there) lies.holds lies.wins win rising in
          let run = run_about claimed w.0 count located.k located.within w.1 (nobody_past claimed count w.0 (rows_from woven 0 regions)) in
          let there : Has parts (partition_of woven claimed run.0) =
          mapped_has (partition_of woven claimed) (won_runs claimed count) run.0 (has_from_contains (won_runs claimed count) run.0 ((runs_are_maximal claimed count run.0).1 (run.1, run.2))) in
          let region : or_zero (winner_of claimed run.0.from) ≡ n = ap or_zero (sym (run.1.won located.k run.3 run.4) ∙ w.1) ∙ same in
          any_from (λ (s : Stretch). (s.region ≡ n) × HasPosition s (Frac p q)) (stretches_of (lit_of regions ray)) (stretch_of (lit_by regions ray (partition_of woven claimed run.0)))
          (mapped_has stretch_of (lit_of regions ray) (lit_by regions ray (partition_of woven claimed run.0)) (mapped_has (lit_by regions ray) parts (partition_of woven claimed run.0) there))
          (region, has_point run.0 run.3 run.4 run.2 (or_zero (winner_of claimed run.0.from)))

  pub tells_points : ((i j : ℕ) → i < j → j < length regions → (get_or regions i no_region).place < (get_or regions j no_region).place) → TellsPoints regions ray (stretches_of (lit_of regions ray))
  tells_points rising p q n on no_hit = (to_lies p q on no_hit rising n, from_lies p q on no_hit rising n)
