-- What a region claims lies in its box.
use Rattle.std.proofs.Common.{◌≡◌, ◌<◌, ◌+◌, ◌==◌, ℕ, zero, suc, ℤ, pos, ◌<ℤ◌, List, [], ◌∷◌, length, get_or, slice_get, Bool, true, false, ◌&&◌, not, Option, Some, None, IfSome, All, ap, sym, subst, ◌∙◌, refl, inl, inr, arith}
use Rattle.std.proofs.lemmas.Bool.{cases_lt, and_parts, or_cases, eqb-true, true≢false}
use Rattle.std.proofs.lemmas.List.{get_or-map, length-map}
use Rattle.std.proofs.lemmas.Option.{slice_get_within, get_or_from_slice_get}
use Rattle.std.proofs.Math.ListN.{get_or-eq_default}
use Rattle.lattice_core.specs.declared.vector.V3.{V3}
use Rattle.lattice_core.specs.declared.boxes.Box3.{Box3}
use Rattle.lattice_core.specs.declared.boxes.Box3.TheVariants.{Empty}
use Rattle.lattice_core.specs.declared.ray.Ray.{Ray}
use Rattle.lattice_core.specs.Boxes.{HasPoint}
use Rattle.lattice_core.specs.Rays.{scaled_point}
use Rattle.surd_order.specs.declared.position.Pos.{Pos}
use Rattle.surd_order.specs.declared.position.Pos.TheVariants.{Frac}
use Rattle.surd_order.specs.declared.position.Seg.{Seg}
use Rattle.surd_order.specs.Order.{Precedes, IsPlace}
use Rattle.surd_order.proofs.OrderLaws.{between}
use Rattle.solid_set.specs.Laws.{TellsInside}
use Rattle.solid_set.specs.Segments.{segment_of}
use Rattle.solid_set.proofs.Enclosed.{enclosed}
use Rattle.solid_set.proofs.SurfaceLaws.{segment_tells}
use Rattle.tree_forms.specs.declared.Op.TheVariants.{U, N, Minus, X}
use Rattle.tree_forms.specs.Trees.{Leaf, Join, leaves}
use Rattle.bool_weave.specs.declared.woven.Woven.{Woven}
use Rattle.bool_weave.specs.Cuts.{cuts_of}
use Rattle.bool_weave.specs.Masks.{Mask, mask_holds}
use Rattle.bool_weave.specs.Claims.{Interval, intervals_of, covers, spans, claims_interval, claims_of}
use Rattle.bool_weave.specs.Tables.{interval_at}
use Rattle.bool_weave.proofs.Claimed.{intervals_length, intervals_at}
use Rattle.bool_weave.proofs.LawProofs.{covers_by_places}
use Rattle.bool_weave.proofs.Sorted.{Has, has_append_left, has_append_right, contains_from_has}
use Rattle.overlap_list.specs.declared.region.RegionClaims.{RegionClaims}
use Rattle.shot_core.specs.Regions.{Instance, RegionBody, Region, HasLeavesBelow, IsPlacedSolid, instances_of}
use Rattle.shot_core.specs.Prepared.{boxes_of}
use Rattle.shot_core.specs.TreeBoxes.{tree_box}
use Rattle.shot_core.specs.RegionBoxes.{region_box, near_side, HoldsPart, BoxesHoldClaims}
use Rattle.shot_core.specs.Shots.{woven_of, body_claims, claims_from}
use Rattle.solid_set.proofs.Between.{between_places}
use Rattle.shot_core.proofs.Boxing.{are_hull_and_meet}
use Rattle.shot_core.proofs.NearSides.{near_from_point, begun_by, entered_by}
use Rattle.shot_core.proofs.Numbering.{get_left, get_right}
use Rattle.shot_core.proofs.OnRay.{IsRayPlace, AreSegmentsOf, place_is, between_on_ray, woven_on_ray, cut_on_ray, cuts_rise}
use Rattle.shot_core.proofs.Weaving.{has_woven}

-- where each leaf that is true has a point in its box, a tree that holds has it in the tree's box
module _ (boxes : List Box3) (values : ℕ → Bool) (v : V3) (w : ℤ) (some : pos 0 <ℤ w) where
  abbrev pub HaveAt : Mask → Type 0
  HaveAt t = (i : ℕ) → Has (leaves t) (Some i) → values i ≡ true → HasPoint (get_or boxes i Empty) v w

  pub tree_has : (t : Mask) → HaveAt t → mask_holds t values ≡ true → HasPoint (tree_box boxes t) v w
  tree_has (Leaf None) each holds = absurd (true≢false (sym holds))
  tree_has (Leaf (Some i)) each holds = each i (inl refl) holds
  tree_has (Join U l r) each holds =
      let hull = are_hull_and_meet.hull (tree_box boxes l) (tree_box boxes r) in
      elim (or_cases (mask_holds l values) (mask_holds r values) holds) [
        | inl left ↦ hull.first v w some (tree_has l (λ i there. each i (has_append_left (leaves l) (leaves r) (Some i) there)) left)
        | inr right ↦ hull.second v w some (tree_has r (λ i there. each i (has_append_right (leaves l) (leaves r) (Some i) there)) right)
      ]
  tree_has (Join N l r) each holds =
      let both = and_parts (mask_holds l values) (mask_holds r values) holds in
      (are_hull_and_meet.meet (tree_box boxes l) (tree_box boxes r) v w some).1 (
        tree_has l (λ i there. each i (has_append_left (leaves l) (leaves r) (Some i) there)) both.0,
        tree_has r (λ i there. each i (has_append_right (leaves l) (leaves r) (Some i) there)) both.1,
      )
  tree_has (Join Minus l r) each holds =
      tree_has l (λ i there. each i (has_append_left (leaves l) (leaves r) (Some i) there)) (and_parts (mask_holds l values) (not (mask_holds r values)) holds).0
  tree_has (Join X l r) each holds =
      let hull = are_hull_and_meet.hull (tree_box boxes l) (tree_box boxes r) in
      elim (or_cases (mask_holds l values && not (mask_holds r values)) (not (mask_holds l values) && mask_holds r values) holds) [
        | inl left ↦
            hull.first v w some (tree_has l (λ i there. each i (has_append_left (leaves l) (leaves r) (Some i) there)) (and_parts (mask_holds l values) (not (mask_holds r values)) left).0)
        | inr right ↦
            hull.second v w some (tree_has r (λ i there. each i (has_append_right (leaves l) (leaves r) (Some i) there)) (and_parts (not (mask_holds l values)) (mask_holds r values) right).1)
      ]

-- an instance has a segment that a fraction lies strictly inside
pub record IsAround (ray : Ray) (p q : ℤ) (one : Instance) : Type 0 where
  pub seg : Seg
  pub segment : segment_of one.surface ray ≡ Some seg
  pub after : Precedes seg.start (Frac p q)
  pub before : Precedes (Frac p q) seg.end

-- so its box has the point there
instance_has : (ray : Ray) (p q : ℤ) (one : Instance) → pos 0 <ℤ q → IsPlacedSolid one → IsAround ray p q one → HasPoint one.bounds (scaled_point ray p q) q
instance_has ray p q one some placed around =
    let tells : TellsInside one.surface ray (Some around.seg) = subst (TellsInside one.surface ray) around.segment (segment_tells one.surface ray) in
    enclosed one.surface one.bounds placed ray p q some (tells.between p q some around.after around.before)

record IsAt (xs : List Instance) (i : ℕ) : Type 0 where
  one : Instance
  there : slice_get xs i ≡ Some one
  box : get_or (boxes_of xs) i Empty ≡ one.bounds

at : (xs : List Instance) (i : ℕ) → i < length xs → IsAt xs i
at [] i lt = absurd (omega (arith, lt))
at (x ∷ xs) zero lt = record { one = x; there = refl; box = refl }
at (x ∷ xs) (suc i) lt = let a = at xs i (omega (arith, lt)) in record { one = a.one; there = a.there; box = a.box }

-- a region's box has each point at which its tree holds, a leaf being true only where its instance is around the point
pub region_has : (body : RegionBody) (ray : Ray) (p q : ℤ) (values : ℕ → Bool) → pos 0 <ℤ q → HasLeavesBelow (length body.instances) body.tree → All IsPlacedSolid body.instances
    → ((i : ℕ) (one : Instance) → slice_get body.instances i ≡ Some one → values i ≡ true → IsAround ray p q one)
    → mask_holds body.tree values ≡ true → HasPoint (region_box body) (scaled_point ray p q) q
region_has body ray p q values some below placed around holds =
    tree_has (boxes_of body.instances) values (scaled_point ray p q) q some body.tree
    (λ i there is.
    let c = contains_from_has (leaves body.tree) (Some i) there in
    let within : i < length body.instances = subst (λ (o : Option ℕ). IfSome o (λ i. i < length body.instances)) c.2 (below c.0 (Some i) c.1) in
    let a = at body.instances i within in
    let solid : IsPlacedSolid a.one = subst IsPlacedSolid (get_or_from_slice_get body.instances i a.one a.one a.there) (placed i a.one within) in
    subst (λ (b : Box3). HasPoint b (scaled_point ray p q) q) (sym a.box) (instance_has ray p q a.one some solid (around i a.one a.there is)))
    holds

-- where points of a box lie between two places, the box holds that part of the ray
pub part_held : (b : Box3) (ray : Ray) (x y : Pos) → IsRayPlace x → IsRayPlace y → Precedes x y
    → ((p q : ℤ) → pos 0 <ℤ q → Precedes x (Frac p q) → Precedes (Frac p q) y → HasPoint b (scaled_point ray p q) q) → HoldsPart b ray x y
part_held b ray x y from to order points =
    let f = between_places x y (place_is x from) order in record {
      between = record { p = f.p; q = f.q; positive = f.positive; after = f.after; before = f.before };
      points = points;
      meets = record { p = f.p; q = f.q; on_ray = between_on_ray x y from to f; inside = points f.p f.q f.positive f.after f.before };
      begun = begun_by (near_side b ray) x y (place_is x from) order (λ p q some after before. near_from_point b ray p q (points p q some after before));
      entered = entered_by (near_side b ray) x y (place_is x from) order (λ p q some after before. near_from_point b ray p q (points p q some after before));
    }

-- what is woven of an instance that spans an interval
pub record IsSpanning (woven : List Woven) (interval : Interval) (instance : ℕ) : Type 0 where
  pub one : Woven
  pub there : Has woven one
  pub number : one.instance ≡ instance
  pub covered : covers one.seg interval ≡ true

pub spanning : (woven : List Woven) (interval : Interval) (instance : ℕ) → spans woven interval instance ≡ true → IsSpanning woven interval instance
spanning [] interval instance h = absurd (true≢false (sym h))
spanning (w ∷ ws) interval instance h =
    elim (or_cases ((w.instance == instance) && covers w.seg interval) (spans ws interval instance) h) [
      | inl this ↦
          let parts = and_parts (w.instance == instance) (covers w.seg interval) this in
          record { one = w; there = inl refl; number = eqb-true w.instance instance parts.0; covered = parts.1 }
      | inr more ↦ let s = spanning ws interval instance more in record { one = s.one; there = inr s.there; number = s.number; covered = s.covered }
    ]

-- a fraction in an interval that a segment covers lies inside the segment
pub inside_covered : (seg : Seg) (interval : Interval) (p q : ℤ) → IsPlace seg.start → IsPlace seg.end → IsPlace interval.start → IsPlace interval.end → covers seg interval ≡ true
    → Precedes interval.start (Frac p q) → Precedes (Frac p q) interval.end → Precedes seg.start (Frac p q) × Precedes (Frac p q) seg.end
inside_covered seg interval p q a b c d covered after before =
    let not = (covers_by_places seg interval a b c d).0 covered in (
      elim (between interval.start seg.start (Frac p q) after) [ inl early ↦ absurd (not.0 early) | inr late ↦ late ],
      elim (between (Frac p q) seg.end interval.end before) [ inl early ↦ early | inr late ↦ absurd (not.1 late) ],
    )

pub same_some : {A : Type 0} (x y : A) → Some x ≡ Some y → x ≡ y
same_some x y e = cc

-- the instances of all regions, those of one region among them, and what is woven of them
module _ (ray : Ray) (xs : List Instance) (woven : List Woven) (of : AreSegmentsOf ray xs woven) (body : RegionBody) (first : ℕ)
    (among : (i : ℕ) → i < length body.instances → slice_get xs (first + i) ≡ slice_get body.instances i) (below : HasLeavesBelow (length body.instances) body.tree) (placed : All IsPlacedSolid body.instances) where
  spanned_around : (interval : Interval) (p q : ℤ) → IsPlace interval.start → IsPlace interval.end → Precedes interval.start (Frac p q) → Precedes (Frac p q) interval.end
      → (i : ℕ) (one : Instance) → slice_get body.instances i ≡ Some one → spans woven interval (first + i) ≡ true → IsAround ray p q one
  spanned_around interval p q start end after before i one there is =
      let s = spanning woven interval (first + i) is in
      let w = of s.one s.there in
      let seg = woven_on_ray ray xs woven of s.one s.there in
      let place : w.place ≡ first + i = omega (arith, w.number, s.number) in
      let same : w.one ≡ one = same_some w.one one (sym w.there ∙ ap (slice_get xs) place ∙ among i (slice_get_within body.instances i one there) ∙ there) in
      let inside = inside_covered s.one.seg interval p q (place_is s.one.seg.start seg.start) (place_is s.one.seg.end seg.end) start end s.covered after before in
      record { seg = s.one.seg; segment = ap (λ (x : Instance). segment_of x.surface ray) (sym same) ∙ w.segment; after = inside.0; before = inside.1 }

  -- an interval between two places of the ray that the region claims lies in its box
  pub claimed_held : (interval : Interval) → IsRayPlace interval.start → IsRayPlace interval.end → Precedes interval.start interval.end → claims_interval woven body.tree first interval ≡ true
      → HoldsPart (region_box body) ray interval.start interval.end
  claimed_held interval start end order claimed =
      part_held (region_box body) ray interval.start interval.end start end order
      (λ p q some after before. region_has body ray p q (λ i. spans woven interval (first + i)) some below placed
      (spanned_around interval p q (place_is interval.start start) (place_is interval.end end) after before) claimed)

-- the region of a number, its claims and its instances among all of them
pub record IsRegionAt (woven : List Woven) (first : ℕ) (rs : List Region) (n : ℕ) (claims : RegionClaims) (region : Region) : Type 0 where
  pub past : ℕ
  pub claims_are : get_or (claims_from woven first rs) n claims ≡ body_claims woven (first + past) (get_or rs n region).body
  pub among : (i : ℕ) → i < length (get_or rs n region).body.instances → slice_get (instances_of rs) (past + i) ≡ slice_get (get_or rs n region).body.instances i

pub region_at : (woven : List Woven) (first : ℕ) (rs : List Region) (n : ℕ) (claims : RegionClaims) (region : Region) → n < length rs → IsRegionAt woven first rs n claims region
region_at woven first [] n claims region lt = absurd (omega (arith, lt))
region_at woven first (r ∷ rs) zero claims region lt =
    let e : first ≡ first + 0 = omega arith in
    record { past = 0; claims_are = ap (λ m. body_claims woven m r.body) e; among = λ i within. let e : 0 + i ≡ i = omega arith in ap (slice_get (instances_of (r ∷ rs))) e ∙ get_left r.body.instances (instances_of rs) i within }
region_at woven first (r ∷ rs) (suc n) claims region lt =
    let a = region_at woven (first + length r.body.instances) rs n claims region (omega (arith, lt)) in
    let e : first + length r.body.instances + a.past ≡ first + (length r.body.instances + a.past) = omega arith in
    record {
      past = length r.body.instances + a.past;
      claims_are = a.claims_are ∙ ap (λ m. body_claims woven m (get_or rs n region).body) e;
      among = λ i within.
          let e : length r.body.instances + a.past + i ≡ length r.body.instances + (a.past + i) = omega arith in
          ap (slice_get (instances_of (r ∷ rs))) e ∙ get_right r.body.instances (instances_of rs) (a.past + i) ∙ a.among i within;
    }

-- a claimed interval is one of those between the cuts
pub claimed_interval : (woven : List Woven) (tree : Mask) (first k : ℕ) → get_or (claims_of woven tree first) k false ≡ true
    → (k + 1 < length (cuts_of woven)) × (claims_interval woven tree first (interval_at (cuts_of woven) k) ≡ true)
claimed_interval woven tree first k h =
    elim (cases_lt k (length (intervals_of woven))) [
      | inl lt ↦
          let within : k + 1 < length (cuts_of woven) = omega (arith, lt, intervals_length (cuts_of woven)) in
          let d = interval_at (cuts_of woven) k in
          (within, ap (claims_interval woven tree first) (sym (intervals_at (cuts_of woven) k d within)) ∙ sym (get_or-map (claims_interval woven tree first) (intervals_of woven) k d false lt) ∙ h)
      | inr past ↦
          let none : get_or (claims_of woven tree first) k false ≡ false = get_or-eq_default (claims_of woven tree first) false (omega (arith, past, length-map (intervals_of woven) (claims_interval woven tree first))) in
          absurd (true≢false (sym h ∙ none))
    ]

pub boxes_hold_claims : BoxesHoldClaims
boxes_hold_claims regions ray n k claims region below placed lt claimed =
    let woven : List Woven = woven_of regions ray in
    let of : AreSegmentsOf ray (instances_of regions) woven = λ w there. has_woven ray 0 (instances_of regions) w there in
    let r = region_at woven 0 regions n claims region lt in
    let start : 0 + r.past ≡ r.past = omega arith in
    let c = claimed_interval woven (get_or regions n region).body.tree r.past k (ap (λ (x : RegionClaims). get_or x.claims k false) (ap (λ m. body_claims woven m (get_or regions n region).body) (sym start) ∙ sym r.claims_are) ∙ claimed) in
    claimed_held ray (instances_of regions) woven of (get_or regions n region).body r.past r.among (below n region lt) (placed n region lt)
    (interval_at (cuts_of woven) k)
    (cut_on_ray ray (instances_of regions) woven of k (omega (arith, c.0)))
    (cut_on_ray ray (instances_of regions) woven of (k + 1) c.0)
    (cuts_rise ray (instances_of regions) woven of k (k + 1) (omega arith) c.0)
    c.1
