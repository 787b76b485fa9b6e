-- The instances whose boxes a ray meets weave in what all instances do, and hit the same regions.
use Rattle.std.proofs.Common.{◌≡◌, ◌<◌, ◌≤◌, ◌+◌, ◌-◌, ◌==◌, ℕ, zero, suc, List, [], ◌∷◌, ◌++◌, length, get_or, map, slice_get, take, filter, nat_le, Bool, true, false, cond, ◌||◌, Option, Some, None, IfSome, All, ap, sym, subst, ◌∙◌, refl, inl, inr, arith}
use Rattle.std.specs.List.{list_any}
use Rattle.std.specs.Option.{option_map}
use Rattle.std.proofs.lemmas.Bool.{cases_Bool, cond-true, cond-false, true≢false, eq-eqb, ne_eqb, leb-true, leb-false}
use Rattle.std.proofs.lemmas.List.{length-append, append_assoc, append-nil, map-append, take_more}
use Rattle.std.proofs.lemmas.List.Concat.{flat_map-append}
use Rattle.std.proofs.lemmas.Simd.{map-map}
use Rattle.std.proofs.lemmas.List.Elements.{All-append, All-head, All-tail}
use Rattle.std.proofs.lemmas.Option.{slice_get-map}
use Rattle.lattice_core.specs.declared.boxes.Box3.{Box3}
use Rattle.lattice_core.specs.declared.ray.Ray.{Ray}
use Rattle.lattice_core.specs.Boxes.{MeetsRay}
use Rattle.box_index.specs.Places.{ArePlacesOf, places_from, places_where}
use Rattle.box_index.proofs.Placing.{places_are, places_count}
use Rattle.surd_order.specs.declared.position.Seg.{Seg}
use Rattle.solid_set.specs.Segments.{segment_of}
use Rattle.solid_set.proofs.Enclosed.{enclosed}
use Rattle.bool_weave.specs.declared.woven.Woven.{Woven}
use Rattle.overlap_list.proofs.Ordered.{all_from_has}
use Rattle.shot_core.specs.Regions.{Instance, Region, IsPlacedSolid, HavePlacedSolids, instances_of, firsts_from}
use Rattle.shot_core.specs.MetBoxes.{meets_ray, met_count}
use Rattle.shot_core.specs.Prepared.{boxes_of}
use Rattle.shot_core.specs.Shots.{woven_if, woven_from}
use Rattle.shot_core.specs.Steps.{is_some, has_segment, has_some, hit_from, marked_from, owned_from, is_last, noted, with_instance, with_instances, one_if}
use Rattle.shot_core.proofs.Boxing.{met_tells}
use Rattle.shot_core.proofs.Landing.{missed}
use Rattle.shot_core.proofs.Numbering.{get_right, firsts_least, firsts_length}
use Rattle.shot_core.proofs.Weaving.{has_if, short_if}

-- what is woven in, and the regions that are noted
abbrev pub State : Type 0
State = List Woven × List ℕ

abbrev pub Owned : Type 0
Owned = ℕ × Instance

-- ---- the last of some numbers
pub last_at : (ms : List ℕ) (n d : ℕ) → 0 < length ms → is_last n ms ≡ (get_or ms (length ms - 1) d == n)
last_at [] n d some = absurd (omega (arith, some))
last_at (m ∷ []) n d some = refl
last_at (m ∷ k ∷ ks) n d some =
    let e : length (m ∷ k ∷ ks) - 1 ≡ suc (length (k ∷ ks) - 1) = omega arith in
    last_at (k ∷ ks) n d (omega arith) ∙ ap (λ i. get_or (m ∷ k ∷ ks) i d == n) (sym e)

abbrev pub AreBelow : ℕ → List ℕ → Type 0
AreBelow n [] = Unit {0}
AreBelow n (m ∷ ms) = (m < n) × AreBelow n ms

not_last : (ms : List ℕ) (n : ℕ) → AreBelow n ms → is_last n ms ≡ false
not_last [] n below = refl
not_last (m ∷ []) n below = ne_eqb m n (λ e. omega (arith, e, below.0))
not_last (m ∷ k ∷ ks) n below = not_last (k ∷ ks) n below.1

same_number : (n : ℕ) → (n == n) ≡ true
same_number n = eq-eqb n n refl

last_now : (ms : List ℕ) (n : ℕ) → is_last n (ms ++ n ∷ []) ≡ true
last_now [] n = same_number n
last_now (m ∷ []) n = same_number n
last_now (m ∷ k ∷ ks) n = last_now (k ∷ ks) n

noted_new : (ms : List ℕ) (n : ℕ) → AreBelow n ms → noted ms n ≡ ms ++ n ∷ []
noted_new ms n below = cond-false (is_last n ms) ms (ms ++ n ∷ []) (not_last ms n below)

noted_again : (ms : List ℕ) (n : ℕ) → noted (ms ++ n ∷ []) n ≡ ms ++ n ∷ []
noted_again ms n = cond-true (is_last n (ms ++ n ∷ [])) (ms ++ n ∷ []) ((ms ++ n ∷ []) ++ n ∷ []) (last_now ms n)

below_more : (n : ℕ) (ms : List ℕ) (b : Bool) → AreBelow n ms → AreBelow (n + 1) (ms ++ cond b (n ∷ []) [])
below_more n [] true below = (omega arith, tt)
below_more n [] false below = tt
below_more n (m ∷ ms) b below = (omega (arith, below.0), below_more n ms b below.1)

-- ---- which regions have instances that pass a test
abbrev pub hits_of : (Instance → Bool) → List Owned → List ℕ → List ℕ
hits_of has [] hit = hit
hits_of has (z ∷ zs) hit = hits_of has zs (cond (has z.1) (noted hit z.0) hit)

either : (b : Bool) (x y : List ℕ) → x ≡ y → cond b x y ≡ y
either true x y e = e
either false x y e = refl

in_noted : (has : Instance → Bool) (n : ℕ) (is : List Instance) (zs : List Owned) (ms : List ℕ) → hits_of has (map (λ (i : Instance). (n, i)) is ++ zs) (ms ++ n ∷ []) ≡ hits_of has zs (ms ++ n ∷ [])
in_noted has n [] zs ms = refl
in_noted has n (i ∷ is) zs ms =
    ap (hits_of has (map (λ (i : Instance). (n, i)) is ++ zs)) (either (has i) (noted (ms ++ n ∷ []) n) (ms ++ n ∷ []) (noted_again ms n))
    ∙ in_noted has n is zs ms

in_region : (has : Instance → Bool) (n : ℕ) (is : List Instance) (zs : List Owned) (ms : List ℕ) → AreBelow n ms
    → hits_of has (map (λ (i : Instance). (n, i)) is ++ zs) ms ≡ hits_of has zs (ms ++ cond (list_any has is) (n ∷ []) [])
in_region has n [] zs ms below = ap (hits_of has zs) (sym (append-nil ms))
in_region has n (i ∷ is) zs ms below =
    let rest = map (λ (i : Instance). (n, i)) is ++ zs in
    elim (cases_Bool (has i)) [
      | inl passes ↦
          let any : list_any has (i ∷ is) ≡ true = ap (λ b. b || list_any has is) passes in
          ap (hits_of has rest) (cond-true (has i) (noted ms n) ms passes ∙ noted_new ms n below)
          ∙ in_noted has n is zs ms
          ∙ ap (λ b. hits_of has zs (ms ++ cond b (n ∷ []) [])) (sym any)
      | inr lacks ↦
          let any : list_any has (i ∷ is) ≡ list_any has is = ap (λ b. b || list_any has is) lacks in
          ap (hits_of has rest) (cond-false (has i) (noted ms n) ms lacks)
          ∙ in_region has n is zs ms below
          ∙ ap (λ b. hits_of has zs (ms ++ cond b (n ∷ []) [])) (sym any)
    ]

marked_one : (n : ℕ) (b : Bool) (bs : List Bool) (before : List ℕ) → (before ++ cond b (n ∷ []) []) ++ marked_from (n + 1) bs ≡ before ++ marked_from n (b ∷ bs)
marked_one n true bs before = append_assoc before (n ∷ []) (marked_from (n + 1) bs)
marked_one n false bs before = append_assoc before [] (marked_from (n + 1) bs)

-- they are the numbers of the regions that have such an instance
pub all_hits : (has : Instance → Bool) (n : ℕ) (rs : List Region) (ms : List ℕ) → AreBelow n ms → hits_of has (owned_from n rs) ms ≡ ms ++ marked_from n (map (has_some has) rs)
all_hits has n [] ms below = sym (append-nil ms)
all_hits has n (r ∷ rs) ms below =
    let b = list_any has r.body.instances in
    in_region has n r.body.instances (owned_from (n + 1) rs) ms below
    ∙ all_hits has (n + 1) rs (ms ++ cond b (n ∷ []) []) (below_more n ms b below)
    ∙ marked_one n b (map (has_some has) rs) ms

-- ---- what all instances weave in and hit, one after another
abbrev with_each : Ray → ℕ → List Owned → State → State
with_each ray n [] s = s
with_each ray n (z ∷ zs) s = with_each ray (n + 1) zs (with_instance ray n (Some z) s)

each_woven : (ray : Ray) (n : ℕ) (zs : List Owned) (s : State) → (with_each ray n zs s).0 ≡ s.0 ++ woven_from ray n (map (λ (z : Owned). z.1) zs)
each_woven ray n [] s = sym (append-nil s.0)
each_woven ray n (z ∷ zs) s =
    each_woven ray (n + 1) zs (with_instance ray n (Some z) s)
    ∙ append_assoc s.0 (woven_if n (segment_of z.1.surface ray)) (woven_from ray (n + 1) (map (λ (z : Owned). z.1) zs))

each_hit : (ray : Ray) (n : ℕ) (zs : List Owned) (s : State) → (with_each ray n zs s).1 ≡ hits_of (has_segment ray) zs s.1
each_hit ray n [] s = refl
each_hit ray n (z ∷ zs) s = each_hit ray (n + 1) zs (with_instance ray n (Some z) s)

seconds : (n : ℕ) (is : List Instance) (zs : List Owned) → map (λ (z : Owned). z.1) (map (λ (i : Instance). (n, i)) is ++ zs) ≡ is ++ map (λ (z : Owned). z.1) zs
seconds n [] zs = refl
seconds n (i ∷ is) zs = ap (λ (l : List Instance). i ∷ l) (seconds n is zs)

pub owned_are : (n : ℕ) (rs : List Region) → map (λ (z : Owned). z.1) (owned_from n rs) ≡ instances_of rs
owned_are n [] = refl
owned_are n (r ∷ rs) = seconds n r.body.instances (owned_from (n + 1) rs) ∙ ap (λ (l : List Instance). r.body.instances ++ l) (owned_are (n + 1) rs)

-- ---- the places of the boxes that are met
abbrev box_of : Owned → Box3
box_of z = z.1.bounds

abbrev AreTold : Ray → List Owned → Type 0
AreTold ray [] = Unit {0}
AreTold ray (z ∷ zs) = (meets_ray z.1.bounds ray ≡ false → segment_of z.1.surface ray ≡ None) × AreTold ray zs

told_one : (ray : Ray) (i : Instance) → IsPlacedSolid i → meets_ray i.bounds ray ≡ false → segment_of i.surface ray ≡ None
told_one ray i placed away = missed i.surface i.bounds ray (enclosed i.surface i.bounds placed) (λ m. true≢false (sym ((met_tells i.bounds ray).1 m) ∙ away))

told_region : (ray : Ray) (n : ℕ) (is : List Instance) (zs : List Owned) → All IsPlacedSolid is → AreTold ray zs → AreTold ray (map (λ (i : Instance). (n, i)) is ++ zs)
told_region ray n [] zs placed told = told
told_region ray n (i ∷ is) zs placed told = (told_one ray i (All-head IsPlacedSolid i is placed), told_region ray n is zs (All-tail IsPlacedSolid i is placed) told)

told_all : (ray : Ray) (n : ℕ) (rs : List Region) → HavePlacedSolids rs → AreTold ray (owned_from n rs)
told_all ray n [] placed = tt
told_all ray n (r ∷ rs) placed =
    told_region ray n r.body.instances (owned_from (n + 1) rs) (All-head (λ (r : Region). All IsPlacedSolid r.body.instances) r rs placed)
    (told_all ray (n + 1) rs (All-tail (λ (r : Region). All IsPlacedSolid r.body.instances) r rs placed))

passed_over : (ray : Ray) (n : ℕ) (z : Owned) (s : State) → segment_of z.1.surface ray ≡ None → with_instance ray n (Some z) s ≡ s
passed_over ray n z s none =
    ap (λ (o : Option Seg). (s.0 ++ woven_if n o, cond (is_some o) (noted s.1 z.0) s.1)) none
    ∙ ap (λ (l : List Woven). (l, s.1)) (append-nil s.0)

module _ (ray : Ray) where
  abbrev f : Box3 → Bool
  f b = meets_ray b ray

  reach_from : (pre rest : List Owned) (s : State) → AreTold ray rest → with_instances ray (pre ++ rest) s (places_from (length pre) f (map box_of rest)) ≡ with_each ray (length pre) rest s
  reach_from pre [] s told = refl
  reach_from pre (z ∷ rest) s told =
      let n = length pre in
      let all = pre ++ z ∷ rest in
      let more = places_from (n + 1) f (map box_of rest) in
      let whole : (pre ++ z ∷ []) ++ rest ≡ all = append_assoc pre (z ∷ []) rest in
      let long : length (pre ++ z ∷ []) ≡ n + 1 = length-append pre (z ∷ []) in
      let later : (t : State) → with_instances ray all t more ≡ with_each ray (n + 1) rest t =
      λ t. subst (λ (l : List Owned). with_instances ray l t more ≡ with_each ray (n + 1) rest t) whole
      (subst (λ (k : ℕ). with_instances ray ((pre ++ z ∷ []) ++ rest) t (places_from k f (map box_of rest)) ≡ with_each ray k rest t) long (reach_from (pre ++ z ∷ []) rest t told.1)) in
      let start : n ≡ n + 0 = omega arith in
      let here : slice_get all n ≡ Some z = ap (slice_get all) start ∙ get_right pre (z ∷ rest) 0 in
      elim (cases_Bool (f (box_of z))) [
        | inl met ↦
            ap (with_instances ray all s) (cond-true (f (box_of z)) (n ∷ more) more met)
            ∙ ap (λ (o : Option Owned). with_instances ray all (with_instance ray n o s) more) here
            ∙ later (with_instance ray n (Some z) s)
        | inr away ↦
            ap (with_instances ray all s) (cond-false (f (box_of z)) (n ∷ more) more away)
            ∙ later s
            ∙ ap (with_each ray (n + 1) rest) (sym (passed_over ray n z s (told.0 away)))
      ]

  module _ (rs : List Region) (boxes : List Box3) (places : List ℕ) (boxes_are : boxes ≡ boxes_of (instances_of rs)) (are : ArePlacesOf (λ b. MeetsRay b ray) boxes places) where
    told_places : places ≡ places_where f boxes
    told_places = places_are (λ b. MeetsRay b ray) f boxes places (λ b. met_tells b ray) are

    -- there are as many as instances are met
    pub as_many : length places ≡ met_count rs ray
    as_many = ap length (told_places ∙ ap (places_where f) boxes_are) ∙ places_count f (λ (i : Instance). i.bounds) (instances_of rs)

    -- and with them all is woven in that all instances weave in, and all regions are noted that are hit
    pub reached : HavePlacedSolids rs → with_instances ray (owned_from 0 rs) ([], []) places ≡ (woven_from ray 0 (instances_of rs), hit_from ray 0 rs)
    reached placed =
        let zs = owned_from 0 rs in
        let boxed : boxes ≡ map box_of zs = boxes_are ∙ ap boxes_of (sym (owned_are 0 rs)) ∙ map-map (λ (i : Instance). i.bounds) (λ (z : Owned). z.1) zs in
        let each = with_each ray 0 zs ([], []) in
        let woven : each.0 ≡ woven_from ray 0 (instances_of rs) = each_woven ray 0 zs ([], []) ∙ ap (woven_from ray 0) (owned_are 0 rs) in
        let hit : each.1 ≡ hit_from ray 0 rs = each_hit ray 0 zs ([], []) ∙ all_hits (has_segment ray) 0 rs [] tt in
        ap (with_instances ray zs ([], [])) (told_places ∙ ap (places_where f) boxed)
        ∙ reach_from [] zs ([], []) (told_all ray 0 rs placed)
        ∙ ap (λ (l : List Woven). (l, each.1)) woven
        ∙ ap (λ (h : List ℕ). (woven_from ray 0 (instances_of rs), h)) hit

-- ---- the instance of a number, and its region
pub record IsOwned (rs : List Region) (number : ℕ) (i : Instance) : Type 0 where
  pub region : ℕ
  pub there : slice_get (owned_from 0 rs) number ≡ Some (region, i)

pub owned_at : (rs : List Region) (number : ℕ) → slice_get (instances_of rs) number ≡ option_map (λ (z : Owned). z.1) (slice_get (owned_from 0 rs) number)
owned_at rs number = ap (λ (l : List Instance). slice_get l number) (sym (owned_are 0 rs)) ∙ slice_get-map (λ (z : Owned). z.1) (owned_from 0 rs) number

some_owned : (rs : List Region) (number : ℕ) (i : Instance) (o : Option Owned) → o ≡ slice_get (owned_from 0 rs) number → option_map (λ (z : Owned). z.1) o ≡ Some i → IsOwned rs number i
some_owned rs number i None is e = absurd (let wrong : ◌≡◌ {A = Option Instance} None (Some i) = e in cc)
some_owned rs number i (Some z) is e =
    let same : z.1 ≡ i = let f : ◌≡◌ {A = Option Instance} (Some z.1) (Some i) = e in cc in
    record { region = z.0; there = sym is ∙ ap (λ (j : Instance). Some (z.0, j)) same }

pub owned_there : (rs : List Region) (number : ℕ) (i : Instance) → slice_get (instances_of rs) number ≡ Some i → IsOwned rs number i
owned_there rs number i there = some_owned rs number i (slice_get (owned_from 0 rs) number) refl (sym (owned_at rs number) ∙ there)

none_owned : (o : Option Owned) → option_map (λ (z : Owned). z.1) o ≡ None → o ≡ None
none_owned None e = refl
none_owned (Some z) e = absurd (let wrong : ◌≡◌ {A = Option Instance} (Some z.1) None = e in cc)

pub nothing_owned : (rs : List Region) (number : ℕ) → slice_get (instances_of rs) number ≡ None → slice_get (owned_from 0 rs) number ≡ None
nothing_owned rs number none = none_owned (slice_get (owned_from 0 rs) number) (sym (owned_at rs number) ∙ none)

-- the state after one instance
pub state_is : (ray : Ray) (number : ℕ) (o : Option Owned) (region : ℕ) (i : Instance) (s : State) (woven : List Woven) (hit : List ℕ) → o ≡ Some (region, i)
    → woven ≡ s.0 ++ woven_if number (segment_of i.surface ray) → hit ≡ cond (has_segment ray i) (noted s.1 region) s.1 → (woven, hit) ≡ with_instance ray number o s
state_is ray number o region i s woven hit at woven_is hit_is =
    ap (λ (w : List Woven). (w, hit)) woven_is
    ∙ ap (λ (h : List ℕ). (s.0 ++ woven_if number (segment_of i.surface ray), h)) hit_is
    ∙ ap (λ (p : Option Owned). with_instance ray number p s) (sym at)

-- what is woven in stays below the numbers to come, and is one more at most
pub below_next : (ray : Ray) (number m : ℕ) (o : Option Owned) (s : State) → number < m → All (λ (w : Woven). w.instance < m) s.0 → All (λ (w : Woven). w.instance < m) (with_instance ray number o s).0
below_next ray number m None s lt all = all
below_next ray number m (Some z) s lt all =
    All-append (λ (w : Woven). w.instance < m) s.0 (woven_if number (segment_of z.1.surface ray)) all
    (all_from_has (λ (w : Woven). w.instance < m) (woven_if number (segment_of z.1.surface ray)) (λ w h. omega (arith, lt, (has_if number (segment_of z.1.surface ray) w h).0)))

pub one_more : (ray : Ray) (number : ℕ) (o : Option Owned) (s : State) → length (with_instance ray number o s).0 ≤ length s.0 + 1
one_more ray number None s = omega arith
one_more ray number (Some z) s = omega (arith, length-append s.0 (woven_if number (segment_of z.1.surface ray)), short_if number (segment_of z.1.surface ray))

-- ---- the region of an instance is the last one that begins with its number or before it
in_front : (j : ℕ) (is : List Instance) (zs : List Owned) (k : ℕ) → k < length is → IfSome (slice_get (map (λ (i : Instance). (j, i)) is ++ zs) k) (λ z. z.0 ≡ j)
in_front j [] zs k lt = absurd (omega (arith, lt))
in_front j (i ∷ is) zs zero lt = refl
in_front j (i ∷ is) zs (suc k) lt = in_front j is zs k (omega (arith, lt))

behind : (j : ℕ) (is : List Instance) (zs : List Owned) (k : ℕ) → slice_get (map (λ (i : Instance). (j, i)) is ++ zs) (length is + k) ≡ slice_get zs k
behind j [] zs k = let e : 0 + k ≡ k = omega arith in ap (slice_get zs) e
behind j (i ∷ is) zs k =
    let e : length (i ∷ is) + k ≡ suc (length is + k) = omega arith in
    ap (slice_get (map (λ (i : Instance). (j, i)) (i ∷ is) ++ zs)) e ∙ behind j is zs k

owner_at : (j n : ℕ) (rs : List Region) (c number : ℕ) → c < length rs → get_or (firsts_from n rs) c 0 ≤ number → number < n + length (instances_of rs)
    → (suc c < length rs → number < get_or (firsts_from n rs) (suc c) 0) → IfSome (slice_get (owned_from j rs) (number - n)) (λ z. z.0 ≡ j + c)
owner_at j n [] c number lt low within high = absurd (omega (arith, lt))
owner_at j n (r ∷ []) zero number lt low within high =
    let e : j ≡ j + zero = omega arith in
    subst (λ (k : ℕ). IfSome (slice_get (owned_from j (r ∷ [])) (number - n)) (λ z. z.0 ≡ k)) e
    (in_front j r.body.instances [] (number - n) (omega (arith, low, within, length-append r.body.instances [])))
owner_at j n (r ∷ s ∷ rs) zero number lt low within high =
    let e : j ≡ j + zero = omega arith in
    subst (λ (k : ℕ). IfSome (slice_get (owned_from j (r ∷ s ∷ rs)) (number - n)) (λ z. z.0 ≡ k)) e
    (in_front j r.body.instances (owned_from (j + 1) (s ∷ rs)) (number - n) (omega (arith, low, high (omega arith))))
owner_at j n (r ∷ rs) (suc c) number lt low within high =
    let past : n + length r.body.instances ≤ number = omega (arith, low, firsts_least (n + length r.body.instances) rs c 0 (omega (arith, lt))) in
    let e : number - n ≡ length r.body.instances + (number - (n + length r.body.instances)) = omega (arith, past) in
    let next : j + suc c ≡ j + 1 + c = omega arith in
    subst (λ (o : Option Owned). IfSome o (λ z. z.0 ≡ j + suc c)) (sym (ap (slice_get (owned_from j (r ∷ rs))) e ∙ behind j r.body.instances (owned_from (j + 1) rs) (number - (n + length r.body.instances))))
    (subst (λ (k : ℕ). IfSome (slice_get (owned_from (j + 1) rs) (number - (n + length r.body.instances))) (λ z. z.0 ≡ k)) (sym next)
    (owner_at (j + 1) (n + length r.body.instances) rs c number (omega (arith, lt)) low (omega (arith, within, length-append r.body.instances (instances_of rs))) (λ more. high (omega (arith, more)))))

pub owner_is : (rs : List Region) (c number : ℕ) → c < length rs → get_or (firsts_from 0 rs) c 0 ≤ number → number < length (instances_of rs)
    → (suc c < length rs → number < get_or (firsts_from 0 rs) (suc c) 0) → IfSome (slice_get (owned_from 0 rs) number) (λ z. z.0 ≡ c)
owner_is rs c number lt low within high =
    let e : number - 0 ≡ number = omega arith in
    let z : 0 + c ≡ c = omega arith in
    subst (λ (k : ℕ). IfSome (slice_get (owned_from 0 rs) k) (λ one. one.0 ≡ c)) e
    (subst (λ (k : ℕ). IfSome (slice_get (owned_from 0 rs) (number - 0)) (λ one. one.0 ≡ k)) z (owner_at 0 0 rs c number lt low (omega (arith, within)) high))

-- as a search over the numbers of the first instances finds it
pub found_owner : (rs : List Region) (firsts : List ℕ) (c point number : ℕ) → firsts ≡ firsts_from 0 rs → point ≡ suc c → point ≤ length firsts → number < length (instances_of rs)
    → ((k d : ℕ) → 0 ≤ k → k < point → nat_le (get_or firsts k d) number ≡ true) → ((k d : ℕ) → point ≤ k → k < length firsts → nat_le (get_or firsts k d) number ≡ false)
    → IfSome (slice_get (owned_from 0 rs) number) (λ z. z.0 ≡ c)
found_owner rs firsts c point number e next within there before past =
    let count : length firsts ≡ length rs = ap length e ∙ firsts_length 0 rs in
    let low : get_or (firsts_from 0 rs) c 0 ≤ number = leb-true (get_or (firsts_from 0 rs) c 0) number (ap (λ l. nat_le (get_or l c 0) number) (sym e) ∙ before c 0 (omega arith) (omega (arith, next))) in
    owner_is rs c number (omega (arith, within, next, count)) low there
    (λ more. leb-false (get_or (firsts_from 0 rs) (suc c) 0) number (ap (λ l. nat_le (get_or l (suc c) 0) number) (sym e) ∙ past (suc c) 0 (omega (arith, next)) (omega (arith, more, count))))

pub some_before : (rs : List Region) (firsts : List ℕ) (point number : ℕ) → firsts ≡ firsts_from 0 rs → number < length (instances_of rs)
    → ((k d : ℕ) → point ≤ k → k < length firsts → nat_le (get_or firsts k d) number ≡ false) → 1 ≤ point
some_before [] firsts point number e there past = absurd (omega (arith, there))
some_before (r ∷ rs) firsts zero number e there past =
    let some : 0 < length firsts = omega (arith, ap length e) in
    let first : get_or firsts 0 0 ≡ 0 = ap (λ l. get_or l 0 0) e in
    absurd (omega (arith, first, leb-false (get_or firsts 0 0) number (past 0 0 (omega arith) some)))
some_before (r ∷ rs) firsts (suc point) number e there past = omega arith

-- ---- counts
pub at_most_one : (b : Bool) → one_if b ≤ 1
at_most_one true = omega arith
at_most_one false = omega arith

filter_short : (ray : Ray) (xs : List Instance) → length (filter (λ (i : Instance). meets_ray i.bounds ray) xs) ≤ length xs
filter_short ray [] = omega arith
filter_short ray (x ∷ xs) =
    let rest = filter (λ (i : Instance). meets_ray i.bounds ray) xs in
    elim (cases_Bool (meets_ray x.bounds ray)) [
      | inl met ↦ omega (arith, ap length (cond-true (meets_ray x.bounds ray) (x ∷ rest) rest met), filter_short ray xs)
      | inr away ↦ omega (arith, ap length (cond-false (meets_ray x.bounds ray) (x ∷ rest) rest away), filter_short ray xs)
    ]

pub met_within : (rs : List Region) (ray : Ray) → met_count rs ray ≤ length (instances_of rs)
met_within rs ray = filter_short ray (instances_of rs)

-- ---- the boxes of the instances of one more region
pub boxes_more : (rs : List Region) (i : ℕ) (r : Region) → i < length rs → boxes_of (instances_of (take (i + 1) rs)) ≡ boxes_of (instances_of (take i rs)) ++ boxes_of (get_or rs i r).body.instances
boxes_more rs i r lt =
    let last = get_or rs i r in
    ap (λ (l : List Region). boxes_of (instances_of l)) (take_more rs i r lt)
    ∙ ap boxes_of (flat_map-append (λ (x : Region). x.body.instances) (take i rs) (last ∷ []))
    ∙ map-append (λ (x : Instance). x.bounds) (instances_of (take i rs)) (instances_of (last ∷ []))
    ∙ ap (λ (l : List Instance). boxes_of (instances_of (take i rs)) ++ boxes_of l) (append-nil last.body.instances)
