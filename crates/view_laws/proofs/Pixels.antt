-- A pixel has the colour of the region that lies first on its ray, at the level of a face where it begins.
use Rattle.std.proofs.Common.{◌≡◌, ◌⊎◌, ◌<◌, ◌≤◌, ◌+◌, ◌||◌, ℕ, zero, suc, List, [], ◌∷◌, ◌++◌, get_or, slice_get, map, filter, flat_map, find, Bool, true, false, cond, Option, Some, None, ap, sym, ◌∙◌, subst, refl, inl, inr, arith}
use Rattle.std.specs.Ordering.{is_eq}
use Rattle.std.specs.declared.cmp.Ordering.{Ordering}
use Rattle.std.specs.declared.cmp.Ordering.TheVariants.{Less, Equal, Greater}
use Rattle.std.proofs.lemmas.Bool.{cases_lt, cond-true, cond-false, true≢false}
use Rattle.std.proofs.lemmas.Option.{slice_get_within, get_or_from_slice_get}
use Rattle.lattice_core.specs.declared.ray.Ray.{Ray}
use Rattle.surd_order.specs.declared.position.Pos.{Pos}
use Rattle.surd_order.specs.declared.position.Seg.{Seg}
use Rattle.surd_order.specs.PlaceOrder.{place_cmp}
use Rattle.surd_order.specs.Spelling.{IsSpelled}
use Rattle.solid_set.specs.Levels.{level_at}
use Rattle.solid_set.specs.Segments.{segment_of}
use Rattle.solid_set.proofs.SurfaceLaws.{segment_spelled}
use Rattle.bool_weave.specs.declared.woven.Woven.{Woven}
use Rattle.bool_weave.proofs.Behind.{never_itself}
use Rattle.bool_weave.proofs.Cutting.{tied_same}
use Rattle.bool_weave.proofs.Flanks.{in_filter, from_filter}
use Rattle.bool_weave.proofs.Middles.{has_filtered}
use Rattle.bool_weave.proofs.Sorted.{Has, has_append_right, contains_from_has}
use Rattle.overlap_list.specs.Hits.{is_at, has_end_at, changes_at}
use Rattle.overlap_list.proofs.Firsts.{tied_from}
use Rattle.overlap_list.proofs.Ordered.{Rises, rises_filter}
use Rattle.overlap_list.proofs.Overlapping.{first_of}
use Rattle.shot_core.specs.declared.shot.Lit.{Lit}
use Rattle.shot_core.specs.FirstShots.{is_solid, first_seen}
use Rattle.shot_core.specs.Laws.{HasEndWith}
use Rattle.shot_core.specs.Points.{stretch_of, stretches_of, IsStretch}
use Rattle.shot_core.specs.Regions.{Instance, Region, HaveInstances}
use Rattle.shot_core.specs.SeenPoints.{IsSeen, IsSeenFirst}
use Rattle.shot_core.specs.Shots.{woven_if, woven_from, claims_on, level_on, lit_of}
use Rattle.shot_core.specs.Steps.{no_region}
use Rattle.shot_core.proofs.Claiming.{no_claims}
use Rattle.shot_core.proofs.FirstHits.{IsBelow, Ending, ends_among, hits_of, face_of, ending_of, ends_are}
use Rattle.shot_core.proofs.OwnClaims.{changes_on}
use Rattle.shot_core.proofs.PointTruth.{ordered_lit}
use Rattle.shot_core.proofs.SeenTruth.{seen_tells_points}
use Rattle.shot_core.proofs.Weaving.{IsOfInstance, woven_rises, has_woven}
use Rattle.tile_shot.specs.Pixels.{colour_of, pixel_by, shaded}
use Rattle.tile_shot.specs.Reports.{HaveRisingPlaces}
use Rattle.view_laws.specs.PixelPoints.{TurnsAt, TurnsWith, HasLevel, PresentsFirst, IsTruePixel}
use Rattle.view_laws.proofs.Hits.{IsFirstHit, first_hit, change_no, start_cut}
use Rattle.view_laws.proofs.Turning.{turns_at, changes_from}
use Rattle.view_laws.proofs.LeftOut.{mapped_has}

-- members of lists
found_step : {X : Type 0} (b : Bool) (x y : X) (o : Option X) → cond b (Some x) o ≡ Some y → (x ≡ y) ⊎ (o ≡ Some y)
found_step true x y o e = inl (let same : x ≡ y = cc in same)
found_step false x y o e = inr e

pub found_has : {X : Type 0} (test : X → Bool) (xs : List X) (y : X) → find test xs ≡ Some y → Has xs y
found_has test [] y e = absurd (let wrong = e in cc)
found_has test (x ∷ xs) y e = elim (found_step (test x) x y (find test xs) e) [ inl is ↦ inl is | inr more ↦ inr (found_has test xs y more) ]

pub same_some : {X : Type 0} (x y : X) → ◌≡◌ {A = Option X} (Some x) (Some y) → x ≡ y
same_some x y e = cc

no_some : {X : Type 0} (x : X) → ◌≡◌ {A = Option X} None (Some x) → ⊥
no_some x e = cc

-- the first of lists put together is that of the first list that is not empty
record IsFirstOfAll {X Y : Type 0} (f : X → List Y) (xs : List X) (e : Y) : Type 0 where
  number : ℕ
  x : X
  there : slice_get xs number ≡ Some x
  own : first_of (f x) ≡ Some e
  none : (m : ℕ) (y : X) → m < number → slice_get xs m ≡ Some y → f y ≡ []

none_later : {X Y : Type 0} (f : X → List Y) (x : X) (xs : List X) (n : ℕ) → f x ≡ [] → ((m : ℕ) (y : X) → m < n → slice_get xs m ≡ Some y → f y ≡ []) → (m : ℕ) (y : X) → m < suc n → slice_get (x ∷ xs) m ≡ Some y → f y ≡ []
none_later f x xs n is none zero y lt at = ap f (sym (same_some x y at)) ∙ is
none_later f x xs n is none (suc m) y lt at = none m y (omega (arith, lt)) at

first_step : {X Y : Type 0} (f : X → List Y) (x : X) (xs : List X) (e : Y) (l : List Y) → f x ≡ l → (first_of (flat_map f xs) ≡ Some e → IsFirstOfAll f xs e) → first_of (f x ++ flat_map f xs) ≡ Some e → IsFirstOfAll f (x ∷ xs) e
first_step {Y = Y} f x xs e [] is rest h =
    let r = rest (sym (ap (λ (l : List Y). first_of (l ++ flat_map f xs)) is) ∙ h) in
    record { number = suc r.number; x = r.x; there = r.there; own = r.own; none = none_later f x xs r.number is r.none }
first_step {Y = Y} f x xs e (z ∷ zs) is rest h = record {
  number = 0;
  x = x;
  there = refl;
  own = ap first_of is ∙ sym (ap (λ (l : List Y). first_of (l ++ flat_map f xs)) is) ∙ h;
  none = λ m y lt at. absurd (omega (arith, lt));
}

first_of_all : {X Y : Type 0} (f : X → List Y) (xs : List X) (e : Y) → first_of (flat_map f xs) ≡ Some e → IsFirstOfAll f xs e
first_of_all f [] e h = absurd (no_some e h)
first_of_all f (x ∷ xs) e h = first_step f x xs e (f x) refl (λ more. first_of_all f xs e more) h

first_taken : {Y : Type 0} (b : Bool) (ys : List Y) (e : Y) → first_of (cond b ys []) ≡ Some e → (b ≡ true) × (first_of ys ≡ Some e)
first_taken true ys e h = (refl, h)
first_taken false ys e h = absurd (no_some e h)

first_mapped : {X Y : Type 0} (g : X → Y) (xs : List X) (e : Y) → first_of (map g xs) ≡ Some e → (x : X) × (first_of xs ≡ Some x) × (g x ≡ e)
first_mapped g [] e h = absurd (no_some e h)
first_mapped g (x ∷ xs) e h = (x, refl, same_some (g x) e h)

first_has : {X : Type 0} (xs : List X) (x : X) → first_of xs ≡ Some x → Has xs x
first_has [] x h = absurd (no_some x h)
first_has (y ∷ ys) x h = inl (same_some y x h)

none_in : {X : Type 0} (xs : List X) (x : X) → xs ≡ [] → Has xs x → ⊥
none_in [] x e h = absurd h
none_in (y ∷ ys) x e h = absurd (let wrong = e in cc)

-- what is woven has each instance that has a segment
abbrev one_woven : ℕ → Seg → Woven
one_woven n seg = record { instance = n; seg = seg }

woven_first : (n : ℕ) (o : Option Seg) (ws : List Woven) (seg : Seg) → o ≡ Some seg → Has (woven_if n o ++ ws) (one_woven n seg)
woven_first n None ws seg e = absurd (no_some seg e)
woven_first n (Some s) ws seg e = inl (ap (one_woven n) (same_some s seg e))

woven_there : (ray : Ray) (n : ℕ) (xs : List Instance) (i : ℕ) (one : Instance) (seg : Seg) → slice_get xs i ≡ Some one → segment_of one.surface ray ≡ Some seg → Has (woven_from ray n xs) (one_woven (n + i) seg)
woven_there ray n [] i one seg at is = absurd (no_some one at)
woven_there ray n (x ∷ xs) zero one seg at is =
    let e : n ≡ n + 0 = omega arith in
    subst (λ m. Has (woven_from ray n (x ∷ xs)) (one_woven m seg)) e
    (woven_first n (segment_of x.surface ray) (woven_from ray (n + 1) xs) seg (ap (λ (y : Instance). segment_of y.surface ray) (same_some x one at) ∙ is))
woven_there ray n (x ∷ xs) (suc i) one seg at is =
    let e : n + 1 + i ≡ n + suc i = omega arith in
    subst (λ m. Has (woven_from ray n (x ∷ xs)) (one_woven m seg)) e
    (has_append_right (woven_if n (segment_of x.surface ray)) (woven_from ray (n + 1) xs) (one_woven (n + 1 + i) seg) (woven_there ray (n + 1) xs i one seg at is))

first_least : (ws : List Woven) (w v : Woven) → Rises IsBelow ws → first_of ws ≡ Some w → Has ws v → w.instance ≤ v.instance
first_least [] w v r h there = absurd there
first_least (x ∷ xs) w v r h (inl e) = let same : x ≡ w = same_some x w h in let number : w.instance ≡ v.instance = ap (λ (u : Woven). u.instance) (sym same ∙ e) in omega (arith, number)
first_least (x ∷ xs) w v r h (inr there) =
    let below : x.instance < v.instance = r.0 v there in
    let number : x.instance ≡ w.instance = ap (λ (u : Woven). u.instance) (same_some x w h) in
    omega (arith, below, number)

-- ends at a place
at_itself : (x : Pos) → is_at x x ≡ true
at_itself x = ap is_eq (tied_from x x (never_itself x) (never_itself x))

or_true : (b : Bool) → b || true ≡ true
or_true true = refl
or_true false = refl

has_end : (x : Pos) (n : ℕ) (seg : Seg) → (x ≡ seg.start) ⊎ (x ≡ seg.end) → has_end_at x (one_woven n seg) ≡ true
has_end x n seg (inl e) = ap (λ y. is_at y x || is_at seg.end x) (sym e) ∙ ap (λ b. b || is_at seg.end x) (at_itself x)
has_end x n seg (inr e) = ap (λ y. is_at seg.start x || is_at y x) (sym e) ∙ ap (λ b. is_at seg.start x || b) (at_itself x) ∙ or_true (is_at seg.start x)

tied : (r : Ordering) → is_eq r ≡ true → r ≡ Equal
tied Less h = absurd (true≢false (sym h))
tied Equal h = refl
tied Greater h = absurd (true≢false (sym h))

end_there : (a b : Bool) (seg : Seg) (x : Pos) (face : ℕ) → IsSpelled x → IsSpelled seg.start → IsSpelled seg.end → is_at seg.start x ≡ a → is_at seg.end x ≡ b → a || b ≡ true
    → face ≡ cond (is_at seg.start x) seg.start_face seg.end_face → HasEndWith seg x face
end_there true b seg x face spelled start end is is' h same =
    inl (sym (tied_same seg.start x start spelled (tied (place_cmp seg.start x) is)), same ∙ cond-true (is_at seg.start x) seg.start_face seg.end_face is)
end_there false true seg x face spelled start end is is' h same =
    inr (sym (tied_same seg.end x end spelled (tied (place_cmp seg.end x) is')), same ∙ cond-false (is_at seg.start x) seg.start_face seg.end_face is)
end_there false false seg x face spelled start end is is' h same = absurd (true≢false (sym h))

level_of : (ray : Ray) (x : Pos) (e : Ending) (one : Instance) (face level : ℕ) → level ≡ level_on e.0 (face_of x e) ray → e.0 ≡ Some one → face ≡ face_of x e → level ≡ level_at one.surface face ray
level_of ray x e one face level h is same = h ∙ ap (λ o. level_on o (face_of x e) ray) is ∙ ap (λ g. level_on (Some one) g ray) (sym same)

only_end : (seg : Seg) (x : Pos) (face : ℕ) → HasEndWith seg x face → (x ≡ seg.start) ⊎ (x ≡ seg.end)
only_end seg x face (inl h) = inl h.0
only_end seg x face (inr h) = inr h.0

module _ (regions : List Region) (ray : Ray) (rising : HaveRisingPlaces regions) (below : HaveInstances regions) where
  pub stretch : (l : Lit) → Has (lit_of regions ray) l → IsStretch (stretch_of l)
  stretch l has =
      let c = contains_from_has (stretches_of (lit_of regions ray)) (stretch_of l) (mapped_has stretch_of (lit_of regions ray) l has) in
      subst IsStretch c.2 ((ordered_lit regions ray below).each c.0 (stretch_of l) c.1)

  -- where a partition starts
  module _ (l : Lit) (has : Has (lit_of regions ray) l) where
    abbrev x : Pos
    x = l.start

    number_at : (n : ℕ) (r : Region) → slice_get regions n ≡ Some r → get_or regions n no_region ≡ r
    number_at n r at = get_or_from_slice_get regions n r no_region at

    -- a region's claim changes there just where it begins or ceases to hold
    turning : (n : ℕ) (r : Region) → slice_get regions n ≡ Some r → changes_on ray l.start r ≡ true → TurnsAt regions ray r.body l.start
    turning n r at changes =
        let c = start_cut regions ray below l has in
        let change : changes_at c.0 (get_or (claims_on regions ray) n no_claims) ≡ true =
        change_no regions ray below n c.0 no_claims (slice_get_within regions n r at) c.1 ∙ ap (λ y. changes_on ray y (get_or regions n no_region)) c.2 ∙ ap (changes_on ray l.start) (number_at n r at) ∙ changes in
        subst (TurnsAt regions ray r.body) c.2 (turns_at regions ray below n r at c.0 c.1 change)

    changing : (n : ℕ) (r : Region) → slice_get regions n ≡ Some r → TurnsAt regions ray r.body l.start → changes_on ray l.start r ≡ true
    changing n r at t =
        let c = start_cut regions ray below l has in
        ap (changes_on ray l.start) (sym (number_at n r at)) ∙ ap (λ y. changes_on ray y (get_or regions n no_region)) (sym c.2)
        ∙ sym (change_no regions ray below n c.0 no_claims (slice_get_within regions n r at) c.1)
        ∙ changes_from regions ray below n r at c.0 c.1 (subst (TurnsAt regions ray r.body) (sym c.2) t)

    -- the ends of a region there
    abbrev ends_of : Region → List Woven
    ends_of r = filter (has_end_at l.start) (woven_from ray 0 r.body.instances)

    ends_are_of : (r : Region) → map (ending_of r.body.instances) (ends_of r) ≡ ends_among ray l.start r.body.instances
    ends_are_of r = ends_are r.body.instances l.start ray 0 r.body.instances (λ k lt. let same : 0 + k ≡ k = omega arith in ap (slice_get r.body.instances) same)

    one_end : (n i : ℕ) (t : TurnsWith regions ray l.start n i) → Has (ends_of t.region) (one_woven i t.seg)
    one_end n i t =
        let e : 0 + i ≡ i = omega arith in
        in_filter (has_end_at l.start) (woven_from ray 0 t.region.body.instances) (one_woven i t.seg)
        (subst (λ m. Has (woven_from ray 0 t.region.body.instances) (one_woven m t.seg)) e (woven_there ray 0 t.region.body.instances i t.one t.seg t.there t.segment)) (has_end l.start i t.seg t.end)

    -- a region with such an instance has hits there
    has_hits : (n i : ℕ) (t : TurnsWith regions ray l.start n i) → hits_of ray l.start t.region ≡ [] → ⊥
    has_hits n i t none =
        let changes = changing n t.region t.listed t.turns in
        let among = mapped_has (ending_of t.region.body.instances) (ends_of t.region) (one_woven i t.seg) (one_end n i t) in
        let there : Has (ends_among ray l.start t.region.body.instances) (ending_of t.region.body.instances (one_woven i t.seg)) =
        subst (λ (es : List Ending). Has es (ending_of t.region.body.instances (one_woven i t.seg))) (ends_are_of t.region) among in
        none_in (ends_among ray l.start t.region.body.instances) (ending_of t.region.body.instances (one_woven i t.seg))
        (sym (cond-true (changes_on ray l.start t.region) (ends_among ray l.start t.region.body.instances) [] changes) ∙ none) there

    -- the first of the ends of a region, and the instance that it is of
    record IsLeading (r : Region) (e : Ending) : Type 0 where
      end : Woven
      first : first_of (ends_of r) ≡ Some end
      place : ℕ
      number : end.instance ≡ place
      one : Instance
      there : slice_get r.body.instances place ≡ Some one
      instance : e.0 ≡ Some one
      segment : segment_of one.surface ray ≡ Some e.1
      at_end : has_end_at l.start (one_woven place e.1) ≡ true

    leading_of : (r : Region) (e : Ending) (w : Woven) → first_of (ends_of r) ≡ Some w → ending_of r.body.instances w ≡ e → IsOfInstance ray 0 r.body.instances w → IsLeading r e
    leading_of r e w first is own =
        let number : w.instance ≡ own.place = omega (arith, own.number) in
        record {
          end = w;
          first = first;
          place = own.place;
          number = number;
          one = own.one;
          there = own.there;
          instance = sym (ap (λ (d : Ending). d.0) is) ∙ ap (slice_get r.body.instances) number ∙ own.there;
          segment = own.segment ∙ ap (λ (d : Ending). Some d.1) is;
          at_end = ap (λ (d : Ending). is_at d.1.start l.start || is_at d.1.end l.start) (sym is) ∙ from_filter (has_end_at l.start) (woven_from ray 0 r.body.instances) w (first_has (ends_of r) w first);
        }

    leading : (r : Region) (e : Ending) → first_of (ends_among ray l.start r.body.instances) ≡ Some e → IsLeading r e
    leading r e h =
        let w = first_mapped (ending_of r.body.instances) (ends_of r) e (ap first_of (ends_are_of r) ∙ h) in
        leading_of r e w.0 w.1 w.2 (has_woven ray 0 r.body.instances w.0 (has_filtered (has_end_at l.start) (woven_from ray 0 r.body.instances) w.0 (first_has (ends_of r) w.0 w.1)))

    -- no such instance of its region has a lower number
    least : (r : Region) (e : Ending) (h : IsLeading r e) (i : ℕ) (seg : Seg) → Has (ends_of r) (one_woven i seg) → h.place ≤ i
    least r e h i seg there =
        let le = first_least (ends_of r) h.end (one_woven i seg) (rises_filter IsBelow (has_end_at l.start) (woven_from ray 0 r.body.instances) (woven_rises ray 0 r.body.instances)) h.first there in
        omega (arith, le, h.number)

    with_face : (r : Region) (e : Ending) (h : IsLeading r e) → l.hit.face ≡ face_of l.start e → HasEndWith e.1 l.start l.hit.face
    with_face r e h same =
        let ends = segment_spelled h.one.surface ray e.1 h.segment in
        end_there (is_at e.1.start l.start) (is_at e.1.end l.start) e.1 l.start l.hit.face (stretch l has).start_spelled ends.0 ends.1 refl refl h.at_end same

    level_by : (e : Ending) → l.hit.face ≡ face_of l.start e → l.level ≡ level_on e.0 (face_of l.start e) ray → (f : IsFirstOfAll (hits_of ray l.start) regions e) → changes_on ray l.start f.x ≡ true → IsLeading f.x e → HasLevel regions ray l
    level_by e face level f changes h =
        let with = with_face f.x e h face in
        record {
          number = f.number;
          instance = h.place;
          at = record {
            region = f.x;
            listed = f.there;
            turns = turning f.number f.x f.there changes;
            one = h.one;
            there = h.there;
            seg = e.1;
            segment = h.segment;
            end = only_end e.1 l.start l.hit.face with;
          };
          first = λ n i u. elim (cases_lt n f.number) [
            | inl early ↦ absurd (has_hits n i u (f.none n u.region early u.listed))
            | inr ge ↦ elim (cases_lt f.number n) [
              | inl late ↦ inl late
              | inr le ↦
                  let is : n ≡ f.number = omega (arith, ge, le) in
                  let same : u.region ≡ f.x = same_some u.region f.x (sym u.listed ∙ ap (slice_get regions) is ∙ f.there) in
                  inr (sym is, least f.x e h i u.seg (subst (λ (s : Region). Has (ends_of s) (one_woven i u.seg)) same (one_end n i u)))
            ]
          ];
          face = with;
          level = level_of ray l.start e h.one l.hit.face l.level level h.instance face;
        }

    has_level : IsFirstHit regions ray l → HasLevel regions ray l
    has_level h =
        let f = first_of_all (hits_of ray l.start) regions h.first h.there in
        let t = first_taken (changes_on ray l.start f.x) (ends_among ray l.start f.x.body.instances) h.first f.own in
        level_by h.first h.face h.level f t.0 (leading f.x h.first t.1)

  pub first_has_it : (l : Lit) → first_seen regions ray ≡ Some l → Has (lit_of regions ray) l
  first_has_it l e = found_has (λ (k : Lit). is_solid (slice_get regions k.region)) (lit_of regions ray) l e

  -- what is seen first is presented
  unfoldable pub presents : (l : Lit) → first_seen regions ray ≡ Some l → IsSeen regions ray l → PresentsFirst regions ray
  presents l e seen = let s = stretch l (first_has_it l e) in record { lit = l; start_spelled = s.start_spelled; end_spelled = s.end_spelled; seen = seen }

  shown : (o : Option Lit) → first_seen regions ray ≡ o → IsSeenFirst regions ray o → IsTruePixel regions ray (pixel_by regions o)
  unfolding presents
  shown None e seen = inr (refl, seen)
  shown (Some l) e seen =
      inl (record {
        first = presents l e seen;
        level = has_level l (first_has_it l e) (first_hit regions ray below l (first_has_it l e));
        is = ap (λ o. shaded l.level (colour_of o)) seen.there;
      })

  pub pixel_told : IsTruePixel regions ray (pixel_by regions (first_seen regions ray))
  pixel_told = shown (first_seen regions ray) refl (seen_tells_points regions ray rising below)
