-- Weaving in the instances of regions, one after another.
use Rattle.std.proofs.Common.{◌≡◌, ◌<◌, ◌≤◌, ◌+◌, ℕ, zero, suc, List, [], ◌∷◌, ◌++◌, length, slice_get, Bool, true, false, cond, ◌||◌, Option, Some, None, All, filter, ap, sym, subst, ◌∙◌, refl, inl, inr, arith}
use Rattle.std.specs.List.{list_any}
use Rattle.std.proofs.lemmas.Bool.{cases_Bool, cond-true, cond-false}
use Rattle.std.proofs.lemmas.List.{length-append, append_assoc}
use Rattle.std.proofs.lemmas.List.Elements.{All-append, All-weaker}
use Rattle.std.proofs.lemmas.Option.{slice_get_within}
use Rattle.lattice_core.specs.declared.ray.Ray.{Ray}
use Rattle.surd_order.specs.declared.position.Seg.{Seg}
use Rattle.solid_set.specs.Segments.{segment_of}
use Rattle.bool_weave.specs.declared.woven.Woven.{Woven}
use Rattle.bool_weave.proofs.Sorted.{Has, has_append_cases}
use Rattle.overlap_list.proofs.Ordered.{Rises, all_from_has, rises_append}
use Rattle.shot_core.specs.Regions.{Instance, Region, instances_of}
use Rattle.shot_core.specs.MetBoxes.{meets_ray}
use Rattle.shot_core.specs.Shots.{woven_if, woven_from, woven_of}
use Rattle.shot_core.specs.Steps.{is_some, has_segment, is_hit, hit_from, one_if, met_among}

pub woven_append : (ray : Ray) (n : ℕ) (xs ys : List Instance) → woven_from ray n (xs ++ ys) ≡ woven_from ray n xs ++ woven_from ray (n + length xs) ys
woven_append ray n [] ys = let e : n ≡ n + 0 = omega arith in ap (λ m. woven_from ray m ys) e
woven_append ray n (x ∷ xs) ys =
    let e : n + 1 + length xs ≡ n + length (x ∷ xs) = omega arith in
    ap (λ l. woven_if n (segment_of x.surface ray) ++ l) (woven_append ray (n + 1) xs ys ∙ ap (λ m. woven_from ray (n + 1) xs ++ woven_from ray m ys) e)
    ∙ sym (append_assoc (woven_if n (segment_of x.surface ray)) (woven_from ray (n + 1) xs) (woven_from ray (n + length (x ∷ xs)) ys))

pub met_append : (ray : Ray) (xs ys : List Instance) → met_among ray (xs ++ ys) ≡ met_among ray xs + met_among ray ys
met_append ray [] ys = omega arith
met_append ray (x ∷ xs) ys = omega (arith, met_append ray xs ys)

pub short_if : (n : ℕ) (o : Option Seg) → length (woven_if n o) ≤ 1
short_if n None = omega arith
short_if n (Some seg) = omega arith

pub woven_short : (ray : Ray) (n : ℕ) (xs : List Instance) → length (woven_from ray n xs) ≤ length xs
woven_short ray n [] = omega arith
woven_short ray n (x ∷ xs) =
    omega (arith, woven_short ray (n + 1) xs, short_if n (segment_of x.surface ray), length-append (woven_if n (segment_of x.surface ray)) (woven_from ray (n + 1) xs))

pub has_if : (n : ℕ) (o : Option Seg) (w : Woven) → Has (woven_if n o) w → (w.instance ≡ n) × (o ≡ Some w.seg)
has_if n None w h = absurd h
has_if n (Some seg) w (inl e) = (ap (λ (v : Woven). v.instance) (sym e), ap (λ (v : Woven). Some v.seg) e)
has_if n (Some seg) w (inr h) = absurd h

-- what is woven is the segment of the instance of its number
pub record IsOfInstance (ray : Ray) (n : ℕ) (xs : List Instance) (w : Woven) : Type 0 where
  pub place : ℕ
  pub one : Instance
  pub number : w.instance ≡ n + place
  pub there : slice_get xs place ≡ Some one
  pub segment : segment_of one.surface ray ≡ Some w.seg

pub has_woven : (ray : Ray) (n : ℕ) (xs : List Instance) (w : Woven) → Has (woven_from ray n xs) w → IsOfInstance ray n xs w
has_woven ray n [] w h = absurd h
has_woven ray n (x ∷ xs) w h =
    elim (has_append_cases (woven_if n (segment_of x.surface ray)) (woven_from ray (n + 1) xs) w h) [
      | inl m ↦
          let a = has_if n (segment_of x.surface ray) w m in
          record { place = zero; one = x; number = omega (arith, a.0); there = refl; segment = a.1 }
      | inr m ↦
          let a = has_woven ray (n + 1) xs w m in
          record { place = suc a.place; one = a.one; number = omega (arith, a.number); there = a.there; segment = a.segment }
    ]

-- numbers rise with what is woven
pub below_if : (n : ℕ) (o : Option Seg) (ws : List Woven) → All (λ (w : Woven). w.instance < n) ws → All (λ (w : Woven). w.instance < n + 1) (ws ++ woven_if n o)
below_if n o ws all =
    All-append (λ (w : Woven). w.instance < n + 1) ws (woven_if n o) (All-weaker (λ (w : Woven). w.instance < n) (λ (w : Woven). w.instance < n + 1) (λ w h. omega (arith, h)) ws all)
    (all_from_has (λ (w : Woven). w.instance < n + 1) (woven_if n o) (λ w h. omega (arith, (has_if n o w h).0)))

pub below_all : (ray : Ray) (n : ℕ) (xs : List Instance) (ws : List Woven) → All (λ (w : Woven). w.instance < n) ws → All (λ (w : Woven). w.instance < n + length xs) (ws ++ woven_from ray n xs)
below_all ray n xs ws all =
    All-append (λ (w : Woven). w.instance < n + length xs) ws (woven_from ray n xs) (All-weaker (λ (w : Woven). w.instance < n) (λ (w : Woven). w.instance < n + length xs) (λ w h. omega (arith, h)) ws all)
    (all_from_has (λ (w : Woven). w.instance < n + length xs) (woven_from ray n xs) (λ w h. let a = has_woven ray n xs w h in omega (arith, a.number, slice_get_within xs a.place a.one a.there)))

-- how many boxes are met, counted one by one
pub met_counted : (ray : Ray) (xs : List Instance) → met_among ray xs ≡ length (filter (λ (i : Instance). meets_ray i.bounds ray) xs)
met_counted ray [] = refl
met_counted ray (x ∷ xs) =
    let rest = filter (λ (i : Instance). meets_ray i.bounds ray) xs in
    elim (cases_Bool (meets_ray x.bounds ray)) [
      | inl met ↦
          let head : one_if (meets_ray x.bounds ray) ≡ 1 = ap one_if met in
          let all : length (filter (λ (i : Instance). meets_ray i.bounds ray) (x ∷ xs)) ≡ length (x ∷ rest) = ap length (cond-true (meets_ray x.bounds ray) (x ∷ rest) rest met) in
          omega (arith, head, all, met_counted ray xs)
      | inr missed ↦
          let head : one_if (meets_ray x.bounds ray) ≡ 0 = ap one_if missed in
          let all : length (filter (λ (i : Instance). meets_ray i.bounds ray) (x ∷ xs)) ≡ length rest = ap length (cond-false (meets_ray x.bounds ray) (x ∷ rest) rest missed) in
          omega (arith, head, all, met_counted ray xs)
    ]

-- the numbers of the regions that are hit, with one more region
pub hit_more : (ray : Ray) (n : ℕ) (r : Region) (rs : List Region) (before : List ℕ) (b : Bool) → b ≡ is_hit ray r → before ++ hit_from ray n (r ∷ rs) ≡ (before ++ cond b (n ∷ []) []) ++ hit_from ray (n + 1) rs
hit_more ray n r rs before true e =
    ap (λ l. before ++ l) (cond-true (is_hit ray r) (n ∷ hit_from ray (n + 1) rs) (hit_from ray (n + 1) rs) (sym e)) ∙ sym (append_assoc before (n ∷ []) (hit_from ray (n + 1) rs))
hit_more ray n r rs before false e =
    ap (λ l. before ++ l) (cond-false (is_hit ray r) (n ∷ hit_from ray (n + 1) rs) (hit_from ray (n + 1) rs) (sym e)) ∙ sym (append_assoc before [] (hit_from ray (n + 1) rs))

-- where nothing is woven no region is hit
append_empty : {X : Type 0} (xs ys : List X) → xs ++ ys ≡ [] → (xs ≡ []) × (ys ≡ [])
append_empty [] ys e = (refl, e)
append_empty (x ∷ xs) ys e = absurd (let f : x ∷ (xs ++ ys) ≡ [] = e in cc)

not_woven : (n : ℕ) (o : Option Seg) → woven_if n o ≡ [] → is_some o ≡ false
not_woven n None e = refl
not_woven n (Some seg) e = absurd (let w : Woven = record { instance = n; seg = seg } in let f : w ∷ [] ≡ [] = e in cc)

pub or_false : (a b : Bool) → (a || b) ≡ false → (a ≡ false) × (b ≡ false)
or_false true b h = absurd (let e : true ≡ false = h in cc)
or_false false b h = (refl, h)

nothing_woven : (ray : Ray) (n : ℕ) (xs : List Instance) → woven_from ray n xs ≡ [] → list_any (has_segment ray) xs ≡ false
nothing_woven ray n [] e = refl
nothing_woven ray n (x ∷ xs) e =
    let h = append_empty (woven_if n (segment_of x.surface ray)) (woven_from ray (n + 1) xs) e in
    ap (λ b. b || list_any (has_segment ray) xs) (not_woven n (segment_of x.surface ray) h.0) ∙ nothing_woven ray (n + 1) xs h.1

any_parts : (p : Instance → Bool) (xs ys : List Instance) → list_any p (xs ++ ys) ≡ false → (list_any p xs ≡ false) × (list_any p ys ≡ false)
any_parts p [] ys e = (refl, e)
any_parts p (x ∷ xs) ys e =
    let h = or_false (p x) (list_any p (xs ++ ys)) e in
    let t = any_parts p xs ys h.1 in
    (ap (λ b. b || list_any p xs) h.0 ∙ t.0, t.1)

none_hit : (ray : Ray) (n : ℕ) (rs : List Region) → list_any (has_segment ray) (instances_of rs) ≡ false → hit_from ray n rs ≡ []
none_hit ray n [] e = refl
none_hit ray n (r ∷ rs) e =
    let h = any_parts (has_segment ray) r.body.instances (instances_of rs) e in
    cond-false (is_hit ray r) (n ∷ hit_from ray (n + 1) rs) (hit_from ray (n + 1) rs) h.0 ∙ none_hit ray (n + 1) rs h.1

pub nothing_hit : (ray : Ray) (rs : List Region) → woven_of rs ray ≡ [] → hit_from ray 0 rs ≡ []
nothing_hit ray rs e = none_hit ray 0 rs (nothing_woven ray 0 (instances_of rs) e)

-- one more region, whose instances are these
module _ (ray : Ray) (r : Region) (rest from : List Region) (xs : List Instance) (from_is : from ≡ r ∷ rest) (xs_are : xs ≡ r.body.instances) where
  instances_from : instances_of from ≡ xs ++ instances_of rest
  instances_from = ap instances_of from_is ∙ ap (λ ys. ys ++ instances_of rest) (sym xs_are)

  pub woven_next : (first n : ℕ) (before after all : List Woven) → length xs ≡ n → after ≡ before ++ woven_from ray first xs → before ++ woven_from ray first (instances_of from) ≡ all
      → after ++ woven_from ray (first + n) (instances_of rest) ≡ all
  woven_next first n before after all count step before_is =
      ap (λ w. w ++ woven_from ray (first + n) (instances_of rest)) step
      ∙ append_assoc before (woven_from ray first xs) (woven_from ray (first + n) (instances_of rest))
      ∙ ap (λ m. before ++ (woven_from ray first xs ++ woven_from ray (first + m) (instances_of rest))) (sym count)
      ∙ ap (λ l. before ++ l) (sym (woven_append ray first xs (instances_of rest)))
      ∙ ap (λ ys. before ++ woven_from ray first ys) (sym instances_from)
      ∙ before_is

  pub met_next : met_among ray (instances_of from) ≡ met_among ray xs + met_among ray (instances_of rest)
  met_next = ap (met_among ray) instances_from ∙ met_append ray xs (instances_of rest)

  pub count_next : length (instances_of from) ≡ length xs + length (instances_of rest)
  count_next = ap length instances_from ∙ length-append xs (instances_of rest)

  pub hit_next : (n : ℕ) (before after all : List ℕ) (b : Bool) → b ≡ list_any (has_segment ray) xs → after ≡ before ++ cond b (n ∷ []) [] → before ++ hit_from ray n from ≡ all → after ++ hit_from ray (n + 1) rest ≡ all
  hit_next n before after all b is step before_is =
      ap (λ l. l ++ hit_from ray (n + 1) rest) step
      ∙ sym (hit_more ray n r rest before b (is ∙ ap (list_any (has_segment ray)) xs_are))
      ∙ ap (λ l. before ++ hit_from ray n l) (sym from_is)
      ∙ before_is

  pub order_next : (first n : ℕ) (before after : List Woven) → length xs ≡ n → after ≡ before ++ woven_from ray first xs → All (λ (w : Woven). w.instance < first) before → All (λ (w : Woven). w.instance < first + n) after
  order_next first n before after count step all =
      subst (λ m. All (λ (w : Woven). w.instance < first + m) after) count
      (subst (All (λ (w : Woven). w.instance < first + length xs)) (sym step) (below_all ray first xs before all))

  pub few_next : (first n : ℕ) (before after : List Woven) → length xs ≡ n → after ≡ before ++ woven_from ray first xs → length before ≤ first → length after ≤ first + n
  few_next first n before after count step few =
      omega (arith, ap length step, length-append before (woven_from ray first xs), woven_short ray first xs, count, few)

-- the numbers of what is woven rise
one_rises : (n : ℕ) (o : _) → Rises (λ (v w : Woven). v.instance < w.instance) (woven_if n o)
one_rises n None = tt
one_rises n (Some seg) = (λ y h. absurd h, tt)

number_of_one : (n : ℕ) (o : _) (w : Woven) → Has (woven_if n o) w → w.instance ≡ n
number_of_one n None w h = absurd h
number_of_one n (Some seg) w (inl e) = ap (λ (v : Woven). v.instance) (sym e)
number_of_one n (Some seg) w (inr h) = absurd h

pub woven_rises : (ray : Ray) (n : ℕ) (xs : List Instance) → Rises (λ (v w : Woven). v.instance < w.instance) (woven_from ray n xs)
woven_rises ray n [] = tt
woven_rises ray n (x ∷ xs) =
    rises_append (λ (v w : Woven). v.instance < w.instance) (woven_if n (segment_of x.surface ray)) (woven_from ray (n + 1) xs) (one_rises n (segment_of x.surface ray)) (woven_rises ray (n + 1) xs)
    (λ v w h m. omega (arith, number_of_one n (segment_of x.surface ray) v h, (has_woven ray (n + 1) xs w m).number))
