-- At each point that is no slant hit the partitions of a ray in a lattice direction have the region that lies there.
use Rattle.std.proofs.Common.{◌≡◌, ◌≢◌, ◌↔◌, ◌⊎◌, ◌<◌, ◌+◌, ◌==◌, ℕ, zero, suc, ℤ, pos, ◌<ℤ◌, List, [], ◌∷◌, ◌++◌, length, map, flat_map, get_or, slice_get, Bool, true, false, ◌&&◌, ◌||◌, not, Option, Some, None, IfSome, AllPairs, Any, Contains, refl, ap, sym, subst, ◌∙◌, inl, inr, arith}
use Rattle.std.proofs.lemmas.Bool.{and_parts, and_from, eq-eqb, ne_eqb, true≢false, cases_lt}
use Rattle.std.proofs.lemmas.List.Folds.{list_any-append}
use Rattle.std.proofs.lemmas.List.{get_or_default}
use Rattle.std.proofs.lemmas.Option.{slice_get_within, slice_get-get_or, get_or_from_slice_get}
use Rattle.std.specs.List.{list_any}
use Rattle.std.specs.Ordering.{is_lt, is_eq}
use Rattle.std.specs.declared.cmp.Ordering.{Ordering}
use Rattle.std.specs.declared.cmp.Ordering.TheVariants.{Less, Equal, Greater}
use Rattle.lattice_core.specs.declared.vector.V3.{V3}
use Rattle.plane_geom.specs.Chords.{length_squared}
use Rattle.tree_forms.specs.declared.Op.TheVariants.{U, N, Minus, X}
use Rattle.tree_forms.specs.Trees.{Leaf, Join, leaves}
use Rattle.bool_weave.specs.Lines.{Line, cut_along, intervals_along, comes_before}
use Rattle.bool_weave.specs.Masks.{Mask, mask_holds}
use Rattle.bool_weave.proofs.Sorted.{Has, contains_from_has, has_append_left, has_append_right}
use Rattle.overlap_list.specs.Firsts.{TreeRegion}
use Rattle.overlap_list.specs.Hits.{is_one_place}
use Rattle.overlap_list.specs.Partitions.{won_runs}
use Rattle.order_laws.specs.Parts.{Part, part_along}
use Rattle.order_laws.specs.Points.{row_along, goes_through, instance_at, holds_at, winner_there, IsClear, HasPlace}
use Rattle.shot_core.specs.FirstShots.{tree_region, trees_from, trees_of}
use Rattle.shot_core.specs.Points.{TreeHolds, WinsAgainst}
use Rattle.shot_core.specs.Regions.{Instance, RegionBody, Region, HasLeavesBelow, HaveInstances, has_air, instances_of}
use Rattle.shot_core.proofs.Numbering.{get_left, get_right}
use Rattle.shot_core.specs.Steps.{no_region}
use Rattle.shot_core.proofs.Pointing.{any_from, any_to, has_mapped}
use Rattle.slant_ranks.specs.Slants.{SlantSegment, slant_up_to, slant_parts}
use Rattle.slant_ranks.proofs.Ranked.{slants_tell_places}
use Rattle.surd_quot.specs.declared.position.QPos.{QPos}
use Rattle.surd_quot.specs.declared.position.QPos.TheVariants.{Frac}
use Rattle.surd_quot.specs.Positions.{quotient_of, IsQuotientPlace}
use Rattle.surd_quot.specs.PlaceOrder.{quotient_cmp}
use Rattle.surd_quot.proofs.Ordered.{never_itself, same_quotient_symm, same_quotient_trans}
use Rattle.surd_quot.proofs.PlaceOrderLaws.{quotient_places_are_compared}
use Rattle.oblique_ray.specs.declared.slab.Slab.{Slab}
use Rattle.oblique_ray.specs.Cuts.{surface_cut}
use Rattle.oblique_ray.specs.Laws.{segment_of_instance}
use Rattle.oblique_ray.specs.Places.{Before, AtOnePlace, IsAtOneOf, IsSlantHit, IsOnSlant, LiesBetween, EndsAreSlantHits}
use Rattle.oblique_ray.specs.Points.{ray_hits, IsRayHit, IsInSolid, TreeHoldsAt, IsThere, IsOnSlab, HasSlabAt, TellsSlantPoints}
use Rattle.oblique_ray.specs.Segments.{Stretch, slant_start, slant_end, slant_segment}
use Rattle.oblique_ray.specs.Shots.{segment_if, segments_from, segments_up_to, slab_of, slabs_up_to}
use Rattle.oblique_ray.proofs.Faces.{fraction_place}
use Rattle.oblique_ray.proofs.Foremost.{before_test, not_before}
use Rattle.oblique_ray.proofs.SegmentLaws.{behind, begun, not_ended, slant_segments_tell_points}
use Rattle.oblique_ray.proofs.Segmented.{all_by, cut_by, segment_of, segment_places, segments_along, cut_is_place}
use Rattle.oblique_ray.proofs.Winning.{IsFirstOf, winner_first}

comes_is : (x y : QPos) → IsQuotientPlace x → IsQuotientPlace y → (comes_before quotient_cmp x y ≡ true) ↔ Before x y
comes_is x y place place' = (before_test x y place place', λ h. ap is_lt ((quotient_places_are_compared x y place place').less.1 h))

pub at_left : (xs ys : List QPos) (x : QPos) → IsAtOneOf xs x → IsAtOneOf (xs ++ ys) x
at_left [] ys x at = absurd at
at_left (z ∷ zs) ys x at = elim at [ inl here ↦ inl here | inr more ↦ inr (at_left zs ys x more) ]

pub at_right : (xs ys : List QPos) (x : QPos) → IsAtOneOf ys x → IsAtOneOf (xs ++ ys) x
at_right [] ys x at = at
at_right (z ∷ zs) ys x at = inr (at_right zs ys x at)

at_same : (ys : List QPos) (x y : QPos) → AtOnePlace x y → IsAtOneOf ys y → IsAtOneOf ys x
at_same [] x y same at = absurd at
at_same (z ∷ zs) x y same at = elim at [ inl here ↦ inl (same_quotient_trans (quotient_of x) (quotient_of y) (quotient_of z) same here) | inr more ↦ inr (at_same zs x y same more) ]

-- a tree holds where what its leaves say does
not_iff : (b : Bool) (P : Type 0) → (b ≡ true) ↔ P → (not b ≡ true) ↔ ¬ P
not_iff true P h = (λ e. absurd (true≢false (sym e)), λ none. absurd (none (h.0 refl)))
not_iff false P h = (λ e p. true≢false (sym (h.1 p)), λ none. refl)

or_iff : (a b : Bool) (P Q : Type 0) → (a ≡ true) ↔ P → (b ≡ true) ↔ Q → ((a || b) ≡ true) ↔ (P ⊎ Q)
or_iff true b P Q h g = (λ e. inl (h.0 refl), λ some. refl)
or_iff false b P Q h g = (λ e. inr (g.0 e), λ some. elim some [ inl p ↦ absurd (true≢false (sym (h.1 p))) | inr q ↦ g.1 q ])

and_iff : (a b : Bool) (P Q : Type 0) → (a ≡ true) ↔ P → (b ≡ true) ↔ Q → ((a && b) ≡ true) ↔ (P × Q)
and_iff a b P Q h g = (λ e. let both = and_parts a b e in (h.0 both.0, g.0 both.1), λ both. and_from a b (h.1 both.0) (g.1 both.1))

tree_iff : (t : Mask) (values : ℕ → Bool) (says : ℕ → Type 0) → ((i : ℕ) → Has (leaves t) (Some i) → (values i ≡ true) ↔ says i) → (mask_holds t values ≡ true) ↔ TreeHolds t says
tree_iff (Leaf None) values says each = (λ e. true≢false (sym e), λ none. absurd none)
tree_iff (Leaf (Some i)) values says each = each i (inl refl)
tree_iff (Join U l r) values says each =
    or_iff (mask_holds l values) (mask_holds r values) (TreeHolds l says) (TreeHolds r says)
    (tree_iff l values says (λ i there. each i (has_append_left (leaves l) (leaves r) (Some i) there)))
    (tree_iff r values says (λ i there. each i (has_append_right (leaves l) (leaves r) (Some i) there)))
tree_iff (Join N l r) values says each =
    and_iff (mask_holds l values) (mask_holds r values) (TreeHolds l says) (TreeHolds r says)
    (tree_iff l values says (λ i there. each i (has_append_left (leaves l) (leaves r) (Some i) there)))
    (tree_iff r values says (λ i there. each i (has_append_right (leaves l) (leaves r) (Some i) there)))
tree_iff (Join Minus l r) values says each =
    and_iff (mask_holds l values) (not (mask_holds r values)) (TreeHolds l says) (¬ (TreeHolds r says))
    (tree_iff l values says (λ i there. each i (has_append_left (leaves l) (leaves r) (Some i) there)))
    (not_iff (mask_holds r values) (TreeHolds r says) (tree_iff r values says (λ i there. each i (has_append_right (leaves l) (leaves r) (Some i) there))))
tree_iff (Join X l r) values says each =
    let left = tree_iff l values says (λ i there. each i (has_append_left (leaves l) (leaves r) (Some i) there)) in
    let right = tree_iff r values says (λ i there. each i (has_append_right (leaves l) (leaves r) (Some i) there)) in
    or_iff (mask_holds l values && not (mask_holds r values)) (not (mask_holds l values) && mask_holds r values)
    (TreeHolds l says × ¬ (TreeHolds r says)) (¬ (TreeHolds l says) × TreeHolds r says)
    (and_iff (mask_holds l values) (not (mask_holds r values)) (TreeHolds l says) (¬ (TreeHolds r says)) left (not_iff (mask_holds r values) (TreeHolds r says) right))
    (and_iff (not (mask_holds l values)) (mask_holds r values) (¬ (TreeHolds l says)) (TreeHolds r says) (not_iff (mask_holds l values) (TreeHolds l says) left) right)

pub trees_length : (first : ℕ) (rs : List Region) → length (trees_from first rs) ≡ length rs
trees_length first [] = refl
trees_length first (r ∷ rs) = ap (λ (n : ℕ). suc n) (trees_length (first + length r.body.instances) rs)

mapped_has : {A Y : Type 0} (f : A → Y) (xs : List A) (x : A) → Has xs x → Has (map f xs) (f x)
mapped_has f [] x has = absurd has
mapped_has f (y ∷ ys) x has = elim has [ inl e ↦ inl (ap f e) | inr more ↦ inr (mapped_has f ys x more) ]

module _ (far : ℤ) (o e : V3) (far_some : pos 0 <ℤ far) (some : pos 0 <ℤ length_squared e) (p q : ℤ) (on : IsOnSlant far p q) where
  abbrev x : QPos
  x = Frac p q

  abbrev line : Line SlantSegment QPos
  line = slant_up_to far

  x_place : IsQuotientPlace x
  x_place = fraction_place p q on.positive

  -- the hits of an instance are hits of the ray
  at_instance : (xs : List Instance) (i : Instance) (z : QPos) → Has xs i → IsAtOneOf (surface_cut i.surface o e).met z → IsAtOneOf (flat_map (λ (i : Instance). (surface_cut i.surface o e).met) xs) z
  at_instance [] i z has at = absurd has
  at_instance (y ∷ ys) i z has at = elim has [
    | inl is ↦ at_left (surface_cut y.surface o e).met (flat_map (λ (i : Instance). (surface_cut i.surface o e).met) ys) z (subst (λ (j : Instance). IsAtOneOf (surface_cut j.surface o e).met z) (sym is) at)
    | inr more ↦ at_right (surface_cut y.surface o e).met (flat_map (λ (i : Instance). (surface_cut i.surface o e).met) ys) z (at_instance ys i z more at)
  ]

  hit_of_ray : (regions : List Region) (i : Instance) (z : QPos) → Has (instances_of regions) i → IsSlantHit far i.surface o e z → IsRayHit far regions o e z
  hit_of_ray regions i z has hit = elim hit [
    | inl start ↦ inl start
    | inr rest ↦ elim rest [ inl end ↦ inr (inl end) | inr more ↦ inr (inr (at_instance (instances_of regions) i z has more)) ]
  ]

  -- whether a segment of an instance goes through the point
  abbrev through : ℕ → SlantSegment → Bool
  through m w = (w.instance == m) && goes_through line x w

  through_iff : (n m : ℕ) (stretch : Stretch) → IsQuotientPlace stretch.start → IsQuotientPlace stretch.end → n ≡ m → (through m (segment_of_instance n stretch) ≡ true) ↔ LiesBetween (Some stretch) x
  through_iff n m stretch place place' same =
      let start = comes_is stretch.start x place x_place in
      let end = comes_is x stretch.end x_place place' in (
        λ is.
            let both = and_parts (n == m) (comes_before quotient_cmp stretch.start x && comes_before quotient_cmp x stretch.end) is in
            let ends = and_parts (comes_before quotient_cmp stretch.start x) (comes_before quotient_cmp x stretch.end) both.1 in
            (start.0 ends.0, end.0 ends.1),
        λ lies. and_from (n == m) (comes_before quotient_cmp stretch.start x && comes_before quotient_cmp x stretch.end) (eq-eqb n m same)
            (and_from (comes_before quotient_cmp stretch.start x) (comes_before quotient_cmp x stretch.end) (start.1 lies.0) (end.1 lies.1)),
      )

  or_none : (a : Bool) → (a || false) ≡ a
  or_none true = refl
  or_none false = refl

  if_iff : (n m : ℕ) (found : Option Stretch) → ((stretch : Stretch) → found ≡ Some stretch → IsQuotientPlace stretch.start × IsQuotientPlace stretch.end) → n ≡ m
      → (list_any (through m) (segment_if n found) ≡ true) ↔ LiesBetween found x
  if_iff n m None places same = (λ is. true≢false (sym is), λ lies. absurd lies)
  if_iff n m (Some stretch) places same =
      let place = places stretch refl in
      let it = through_iff n m stretch place.0 place.1 same in
      (λ is. it.0 (sym (or_none (through m (segment_of_instance n stretch))) ∙ is), λ lies. or_none (through m (segment_of_instance n stretch)) ∙ it.1 lies)

  if_other : (n m : ℕ) (found : Option Stretch) → n ≢ m → list_any (through m) (segment_if n found) ≡ false
  if_other n m None other = refl
  if_other n m (Some stretch) other = ap (λ (b : Bool). (b && goes_through line x (segment_of_instance n stretch)) || false) (ne_eqb n m other)

  none_lower : (m first : ℕ) (xs : List Instance) → m < first → list_any (through m) (segments_from far o e first xs) ≡ false
  none_lower m first [] lt = refl
  none_lower m first (i ∷ xs) lt =
      list_any-append (through m) (segment_if first (slant_segment far i.surface o e)) (segments_from far o e (first + 1) xs)
      ∙ ap (λ (b : Bool). b || list_any (through m) (segments_from far o e (first + 1) xs)) (if_other first m (slant_segment far i.surface o e) (λ is. absurd (omega (arith, is, lt))))
      ∙ none_lower m (first + 1) xs (omega (arith, lt))

  ends_of : (i : Instance) (stretch : Stretch) → slant_segment far i.surface o e ≡ Some stretch → IsQuotientPlace stretch.start × IsQuotientPlace stretch.end
  ends_of i stretch is =
      segment_places far o e some 0 (i ∷ []) (segment_of_instance 0 stretch)
      (subst (λ (found : Option Stretch). Has (segment_if 0 found ++ []) (segment_of_instance 0 stretch)) (sym is) (inl refl))

  -- some segment of an instance goes through the point just where it lies inside
  instance_tells : (first j m : ℕ) (xs : List Instance) → first + j ≡ m → ((i : Instance) → Has xs i → ¬ (IsSlantHit far i.surface o e x))
      → (list_any (through m) (segments_from far o e first xs) ≡ true) ↔ IsInSolid (slice_get xs j) o e p q
  instance_tells first j m [] number no_hit = (λ is. true≢false (sym is), λ inside. absurd inside)
  instance_tells first zero m (i ∷ xs) number no_hit =
      let found : Option Stretch = slant_segment far i.surface o e in
      let exact = (slant_segments_tell_points far i.surface o e some).exact p q on (no_hit i (inl refl)) in
      let it = if_iff first m (slant_segment far i.surface o e) (ends_of i) (omega (arith, number)) in
      let all : list_any (through m) (segments_from far o e first (i ∷ xs)) ≡ list_any (through m) (segment_if first (slant_segment far i.surface o e)) =
      list_any-append (through m) (segment_if first (slant_segment far i.surface o e)) (segments_from far o e (first + 1) xs)
      ∙ ap (λ (b : Bool). list_any (through m) (segment_if first (slant_segment far i.surface o e)) || b) (none_lower m (first + 1) xs (omega (arith, number)))
      ∙ or_none (list_any (through m) (segment_if first (slant_segment far i.surface o e))) in
      (λ is. exact.1 (it.0 (sym all ∙ is)), λ inside. all ∙ it.1 (exact.0 inside))
  instance_tells first (suc j) m (i ∷ xs) number no_hit =
      let it = instance_tells (first + 1) j m xs (omega (arith, number)) (λ k has. no_hit k (inr has)) in
      let all : list_any (through m) (segments_from far o e first (i ∷ xs)) ≡ list_any (through m) (segments_from far o e (first + 1) xs) =
      list_any-append (through m) (segment_if first (slant_segment far i.surface o e)) (segments_from far o e (first + 1) xs)
      ∙ ap (λ (b : Bool). b || list_any (through m) (segments_from far o e (first + 1) xs)) (if_other first m (slant_segment far i.surface o e) (λ is. absurd (omega (arith, is, number)))) in
      (λ is. it.0 (sym all ∙ is), λ inside. all ∙ it.1 inside)

  module _ (regions : List Region) (places : AllPairs (λ r s. r.place < s.place) regions) (below : HaveInstances regions) (no_hit : ¬ (IsRayHit far regions o e (Frac p q))) where
    abbrev segments : List SlantSegment
    segments = segments_up_to far regions o e

    abbrev holds : TreeRegion → Bool
    holds t = holds_at line segments x t

    inside_iff : (m : ℕ) → (instance_at line segments x m ≡ true) ↔ IsInSolid (slice_get (instances_of regions) m) o e p q
    inside_iff m = instance_tells 0 m m (instances_of regions) (omega arith) (λ i has hit. no_hit (hit_of_ray regions i x has hit))

    -- the tree of a region holds
    tree_tells : (first : ℕ) (body : RegionBody) → HasLeavesBelow (length body.instances) body.tree
        → ((i : ℕ) → i < length body.instances → slice_get (instances_of regions) (first + i) ≡ slice_get body.instances i) → (holds (tree_region first body) ≡ true) ↔ TreeHoldsAt body o e p q
    tree_tells first body leaves_below at =
        tree_iff body.tree (λ i. instance_at line segments x (first + i)) (λ i. IsInSolid (slice_get body.instances i) o e p q) leaf
      where
        leaf : (i : ℕ) → Has (leaves body.tree) (Some i) → (instance_at line segments x (first + i) ≡ true) ↔ IsInSolid (slice_get body.instances i) o e p q
        leaf i there =
            let c = contains_from_has (leaves body.tree) (Some i) there in
            let lt : i < length body.instances = subst (λ (leaf : Option ℕ). IfSome leaf (λ (n : ℕ). n < length body.instances)) c.2 (leaves_below c.0 (Some i) c.1) in
            let it = inside_iff (first + i) in
            (λ is. subst (λ (one : Option Instance). IsInSolid one o e p q) (at i lt) (it.0 is), λ inside. it.1 (subst (λ (one : Option Instance). IsInSolid one o e p q) (sym (at i lt)) inside))

    abbrev no_tree : TreeRegion
    no_tree = record { air = false; first = 0; count = 0; tree = Leaf None }

    -- of each number
    record IsToldBy (t : TreeRegion) (r : Region) : Type 0 where
      air : t.air ≡ has_air r.body
      holds_iff : (holds t ≡ true) ↔ TreeHoldsAt r.body o e p q

    told_from : (first : ℕ) (rs : List Region) → HaveInstances rs → ((j : ℕ) → slice_get (instances_of regions) (first + j) ≡ slice_get (instances_of rs) j) → (n : ℕ) → n < length rs
        → IsToldBy (get_or (trees_from first rs) n no_tree) (get_or rs n no_region)
    told_from first [] leaves_below at n lt = absurd (omega (arith, lt))
    told_from first (r ∷ rs) leaves_below at zero lt = record {
      air = refl;
      holds_iff = tree_tells first r.body (leaves_below 0 r (omega arith)) (λ i within. at i ∙ get_left r.body.instances (instances_of rs) i within);
    }
    told_from first (r ∷ rs) leaves_below at (suc n) lt =
        told_from (first + length r.body.instances) rs (λ k f within. leaves_below (suc k) f (omega (arith, within)))
        (λ j. ap (slice_get (instances_of regions)) (let f : first + length r.body.instances + j ≡ first + (length r.body.instances + j) = omega arith in f)
        ∙ at (length r.body.instances + j) ∙ get_right r.body.instances (instances_of rs) j) n (omega (arith, lt))

    told : (n : ℕ) → n < length regions → IsToldBy (get_or (trees_of regions) n no_tree) (get_or regions n no_region)
    told n lt = told_from 0 regions below (λ j. ap (slice_get (instances_of regions)) (let f : 0 + j ≡ j = omega arith in f)) n lt

    not_so : (b : Bool) (P : Type 0) → (b ≡ true) ↔ P → ¬ P → b ≡ false
    not_so true P h none = absurd (none (h.0 refl))
    not_so false P h none = refl

    abbrev IsFirst : ℕ → Type 0
    IsFirst n = IsFirstOf (λ (t : TreeRegion). t.air) holds (trees_of regions) no_tree n

    -- numbers rise with places
    lower : (k n : ℕ) → k < length regions → n < length regions → (get_or regions k no_region).place < (get_or regions n no_region).place → k < n
    lower k n k_lt n_lt up = elim (cases_lt k n) [
      | inl lt ↦ lt
      | inr ge ↦ elim (cases_lt n k) [
        | inl gt ↦ absurd (omega (arith, places n k no_region gt k_lt, up))
        | inr le ↦ absurd (omega (arith, ap (λ (i : ℕ). (get_or regions i no_region).place) (let f : k ≡ n = omega (arith, ge, le) in f), up))
      ]
    ]

    to_there : (n : ℕ) → IsFirst n → IsThere regions o e p q n
    to_there n h =
        let lt : n < length regions = omega (arith, h.within, trees_length 0 regions) in
        let it = told n lt in
        record {
          region = get_or regions n no_region;
          there = slice_get-get_or regions n no_region lt;
          holds = it.holds_iff.0 h.held;
          wins = λ s there beats held.
              let other = told there.0 there.1 in
              let is : get_or regions there.0 no_region ≡ s = get_or_default regions there.0 no_region s there.1 ∙ there.2 in
              let other_held : holds (get_or (trees_of regions) there.0 no_tree) ≡ true = other.holds_iff.1 (subst (λ (u : Region). TreeHoldsAt u.body o e p q) (sym is) held) in
              let air_is : (get_or (trees_of regions) there.0 no_tree).air ≡ has_air s.body = other.air ∙ ap (λ (u : Region). has_air u.body) is in
              let place_is : (get_or regions there.0 no_region).place ≡ s.place = ap (λ (u : Region). u.place) is in
              true≢false (sym other_held ∙ h.first there.0 (omega (arith, there.1, trees_length 0 regions)) (elim beats [
                | inl better ↦ inl (air_is ∙ better.0, it.air ∙ better.1)
                | inr alike ↦ inr (air_is ∙ alike.0 ∙ sym it.air, lower there.0 n there.1 lt (omega (arith, alike.1, place_is)))
              ]));
        }

    from_there : (n : ℕ) → IsThere regions o e p q n → IsFirst n
    from_there n h =
        let lt : n < length regions = slice_get_within regions n h.region h.there in
        let it = told n lt in
        let is : get_or regions n no_region ≡ h.region = get_or_from_slice_get regions n h.region no_region h.there in
        record {
          within = omega (arith, lt, trees_length 0 regions);
          held = it.holds_iff.1 (subst (λ (u : Region). TreeHoldsAt u.body o e p q) (sym is) h.holds);
          first = λ k k_within beats.
              let k_lt : k < length regions = omega (arith, k_within, trees_length 0 regions) in
              let other = told k k_lt in
              let s : Region = get_or regions k no_region in
              let there : Contains regions (get_or regions k no_region) = (k, k_lt, get_or_default regions k (get_or regions k no_region) no_region k_lt) in
              let against : WinsAgainst (get_or regions k no_region) (get_or regions n no_region) = elim beats [
                | inl better ↦ inl (sym other.air ∙ better.0, sym it.air ∙ better.1)
                | inr alike ↦ inr (sym other.air ∙ alike.0 ∙ it.air, places k n no_region alike.1 lt)
              ] in
              not_so (holds (get_or (trees_of regions) k no_tree)) (TreeHoldsAt (get_or regions k no_region).body o e p q) other.holds_iff
              (h.wins (get_or regions k no_region) there (subst (WinsAgainst (get_or regions k no_region)) is against));
        }

    winner_iff : (n : ℕ) → (winner_there line segments (trees_of regions) x ≡ Some n) ↔ IsThere regions o e p q n
    winner_iff n =
        let it = winner_first (λ (t : TreeRegion). t.air) holds (trees_of regions) no_tree n in
        (λ wins. to_there n (it.0 wins), λ there. it.1 (from_there n there))

    -- the point is clear of all ends
    hits_apart : (z : QPos) → IsQuotientPlace z → IsRayHit far regions o e z → is_one_place quotient_cmp z x ≡ false
    hits_apart z place hit = apart (quotient_cmp z x) refl
      where
        at_x : quotient_cmp z x ≡ Equal → IsRayHit far regions o e x
        at_x same = at_same (ray_hits far regions o e) x z (same_quotient_symm (quotient_of z) (quotient_of x) ((quotient_places_are_compared z x place x_place).same.0 same)) hit

        apart : (r : Ordering) → quotient_cmp z x ≡ r → is_eq r ≡ false
        apart Less e = refl
        apart Equal e = absurd (no_hit (at_x e))
        apart Greater e = refl

    segment_hits : (w : SlantSegment) → Has segments w → IsRayHit far regions o e w.start × IsRayHit far regions o e w.end
    segment_hits w has =
        let it = segment_of far o e 0 (instances_of regions) w has in
        let hits : EndsAreSlantHits far it.one.surface o e it.stretch = (slant_segments_tell_points far it.one.surface o e some).ends it.stretch it.is in
        subst (λ (v : SlantSegment). IsRayHit far regions o e v.start × IsRayHit far regions o e v.end) it.made
        (hit_of_ray regions it.one it.stretch.start it.there hits.start, hit_of_ray regions it.one it.stretch.end it.there hits.end)

    clear : IsClear line segments x
    clear = record {
      begun = (comes_is slant_start x (fraction_place (pos 0) (pos 1) (omega arith)) x_place).1
          (behind x slant_start x_place (fraction_place (pos 0) (pos 1) (omega arith)) (begun far p q on) (λ same. no_hit (inl same)));
      not_ended = (comes_is x (slant_end far) x_place (fraction_place far (pos 1) (omega arith))).1
          (behind (slant_end far) x (fraction_place far (pos 1) (omega arith)) x_place (not_ended far p q on)
          (λ same. no_hit (inr (inl (same_quotient_symm (quotient_of (slant_end far)) (quotient_of x) same)))));
      apart = all_by (λ (w : SlantSegment). (is_one_place quotient_cmp w.start x ≡ false) × (is_one_place quotient_cmp w.end x ≡ false)) segments (λ w has.
          let ends = segment_places far o e some 0 (instances_of regions) w has in
          let hits = segment_hits w has in
          (hits_apart w.start ends.0 hits.0, hits_apart w.end ends.1 hits.1));
    }

    cut_hit : (k : ℕ) → IsRayHit far regions o e (cut_along line segments k)
    cut_hit k =
        let itself : (z : QPos) → AtOnePlace z z = λ z. record { not_before = never_itself (quotient_of z); not_after = never_itself (quotient_of z) } in
        cut_by far (IsRayHit far regions o e) segments (inl (itself slant_start)) (inr (inl (itself (slant_end far)))) segment_hits k

    -- parts as slabs
    abbrev parts : List (Part QPos)
    parts = slant_parts far segments (trees_of regions)

    record IsPlacedPart (part : Part QPos) : Type 0 where
      start : IsQuotientPlace part.start
      end : IsQuotientPlace part.end
      not_start : ¬ (AtOnePlace x part.start)
      not_end : ¬ (AtOnePlace x part.end)

    not_cut : (k : ℕ) → ¬ (AtOnePlace x (cut_along line segments k))
    not_cut k = λ same. no_hit (at_same (ray_hits far regions o e) x (cut_along line segments k) same (cut_hit k))

    part_places : (part : Part QPos) → Has parts part → IsPlacedPart part
    part_places part has =
        let rows = map (row_along line segments) (trees_of regions) in
        let made = has_mapped (part_along line segments rows) (won_runs rows (length (intervals_along line segments))) part has in
        subst IsPlacedPart made.2 (record {
          start = cut_is_place far o e some 0 (instances_of regions) made.0.from;
          end = cut_is_place far o e some 0 (instances_of regions) made.0.to;
          not_start = not_cut made.0.from;
          not_end = not_cut made.0.to;
        })

    slab_iff : (n : ℕ) → HasSlabAt (map slab_of parts) n x ↔ Any (HasPlace line x n) parts
    slab_iff n = (
      λ any.
          let a = any_to (λ (s : Slab). (s.region ≡ n) × IsOnSlab s x) (map slab_of parts) any in
          let made = has_mapped slab_of parts a.0 a.1 in
          let placed = part_places made.0 made.1 in
          let it = subst (λ (s : Slab). (s.region ≡ n) × IsOnSlab s x) (sym made.2) a.2 in
          let after : Before made.0.start x = behind x made.0.start x_place placed.start it.1.begun placed.not_start in
          let before : Before x made.0.end = behind made.0.end x placed.end x_place it.1.not_ended (λ same. placed.not_end (same_quotient_symm (quotient_of made.0.end) (quotient_of x) same)) in
          any_from (HasPlace line x n) parts made.0 made.1 (record { of_region = it.0; begun = (comes_is made.0.start x placed.start x_place).1 after; not_ended = (comes_is x made.0.end x_place placed.end).1 before }),
      λ any.
          let a = any_to (HasPlace line x n) parts any in
          let placed = part_places a.0 a.1 in
          let it = a.2 in
          let after : Before a.0.start x = (comes_is a.0.start x placed.start x_place).0 it.begun in
          let before : Before x a.0.end = (comes_is x a.0.end x_place placed.end).0 it.not_ended in
          any_from (λ (s : Slab). (s.region ≡ n) × IsOnSlab s x) (map slab_of parts) (slab_of a.0) (mapped_has slab_of parts a.0 a.1)
          (it.of_region, record { begun = not_before a.0.start x placed.start x_place after; not_ended = not_before x a.0.end x_place placed.end before }),
    )

    slabs_iff : (n : ℕ) → HasSlabAt (slabs_up_to far regions o e) n x ↔ IsThere regions o e p q n
    slabs_iff n =
        let one = slab_iff n in
        let two = slants_tell_places far segments (trees_of regions) x n far_some (segments_along far o e some 0 (instances_of regions)) clear in
        let three = winner_iff n in
        (λ h. three.0 (two.0 (one.0 h)), λ h. one.1 (two.1 (three.1 h)))

pub slabs_tell_points : (far : ℤ) (regions : List Region) (o e : V3) → pos 0 <ℤ far → pos 0 <ℤ length_squared e → AllPairs (λ r s. r.place < s.place) regions → HaveInstances regions
    → TellsSlantPoints far regions o e (slabs_up_to far regions o e)
slabs_tell_points far regions o e far_some some places below p q n on no_hit = slabs_iff far o e far_some some p q on regions places below no_hit n
