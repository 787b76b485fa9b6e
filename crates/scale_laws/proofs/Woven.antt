-- What a larger ray has of larger instances.
use Rattle.std.proofs.Common.{◌≡◌, ◌<◌, ◌+◌, ℕ, suc, ℤ, pos, ◌*ℤ◌, List, [], ◌∷◌, ◌++◌, Bool, not, ◌==◌, length, map, Option, Some, None, ap, sym, ◌∙◌, subst, refl, inl, inr, ⊎_elim, arith}
use Rattle.std.proofs.lemmas.Int.{ints}
use Rattle.std.specs.Option.{option_map}
use Rattle.lattice_core.specs.declared.ray.Ray.{Ray}
use Rattle.surd_order.specs.declared.position.Pos.{Pos}
use Rattle.surd_order.specs.declared.position.Pos.TheVariants.{Frac}
use Rattle.surd_order.specs.declared.position.Seg.{Seg}
use Rattle.surd_order.specs.Order.{IsPlace}
use Rattle.surd_order.specs.Spelled.{spelled}
use Rattle.surd_order.proofs.SquareLaws.{gcd_one}
use Rattle.surd_order.proofs.SpelledPlaces.{is_one_spelling}
use Rattle.std.specs.Int.RustNames.{unsigned_abs}
use Rattle.solid_set.specs.Segments.{segment_up_to}
use Rattle.bool_weave.specs.declared.woven.Woven.{Woven}
use Rattle.bool_weave.specs.Lines.{places_along}
use Rattle.bool_weave.specs.Cuts.{ray_start, ray_up_to}
use Rattle.bool_weave.specs.Claims.{claims_up_to}
use Rattle.bool_weave.specs.Masks.{Mask}
use Rattle.bool_weave.proofs.Sorted.{Has, has_from_contains}
use Rattle.bool_weave.proofs.Cutting.{end_of_some}
use Rattle.overlap_list.specs.declared.region.RegionClaims.{RegionClaims}
use Rattle.shot_core.specs.Regions.{Instance, RegionBody, Region, instances_of}
use Rattle.shot_core.specs.Shots.{woven_if, woven_from_up_to, woven_up_to, body_claims_up_to, claims_from_up_to}
use Rattle.order_laws.specs.Moving.{IsMoved}
use Rattle.solid_set.specs.Times.{enlarged}
use Rattle.order_laws.specs.RaysMoved.{moved_segment, moved_woven}
use Rattle.order_laws.proofs.Moved.{claims_same}
use Rattle.solid_set.proofs.Times.{enlarged_cmp}
use Rattle.solid_set.specs.Larger.{larger_ray}
use Rattle.solid_set.proofs.ScaledSegments.{segments_scale, ends_are_places}
use Rattle.solid_set.proofs.ScaledSolids.{solids_scale}
use Rattle.scale_laws.specs.SceneLaws.{InstancesScale}
use Rattle.scale_laws.specs.Scenes.{AreLargerInstances, IsLargerBody, AreLargerRegions}

-- the instances of all regions, and how many there are
append_larger : (m : ℕ) (xs ys xs' ys' : List Instance) → AreLargerInstances m xs xs' → AreLargerInstances m ys ys' → AreLargerInstances m (xs ++ ys) (xs' ++ ys')
append_larger m [] ys [] ys' h k = k
append_larger m [] ys (x ∷ xs') ys' h k = absurd h
append_larger m (x ∷ xs) ys [] ys' h k = absurd h
append_larger m (x ∷ xs) ys (x' ∷ xs') ys' h k = (h.0, append_larger m xs ys xs' ys' h.1 k)

pub instances_larger : (m : ℕ) (rs ss : List Region) → AreLargerRegions m rs ss → AreLargerInstances m (instances_of rs) (instances_of ss)
instances_larger m [] [] h = tt
instances_larger m [] (s ∷ ss) h = absurd h
instances_larger m (r ∷ rs) [] h = absurd h
instances_larger m (r ∷ rs) (s ∷ ss) h = append_larger m r.body.instances (instances_of rs) s.body.instances (instances_of ss) h.0.instances (instances_larger m rs ss h.1)

count_same : (m : ℕ) (xs ys : List Instance) → AreLargerInstances m xs ys → length ys ≡ length xs
count_same m [] [] h = refl
count_same m [] (y ∷ ys) h = absurd h
count_same m (x ∷ xs) [] h = absurd h
count_same m (x ∷ xs) (y ∷ ys) h = ap (λ n. suc n) (count_same m xs ys h.1)

-- the segments that are woven
map_append : {X Y : Type 0} (f : X → Y) (xs ys : List X) → map f (xs ++ ys) ≡ map f xs ++ map f ys
map_append f [] ys = refl
map_append f (x ∷ xs) ys = ap (λ zs. f x ∷ zs) (map_append f xs ys)

if_moved : (move : Pos → Pos) (n : ℕ) (o : Option Seg) → woven_if n (option_map (moved_segment move) o) ≡ map (moved_woven move) (woven_if n o)
if_moved move n None = refl
if_moved move n (Some seg) = refl

pub woven_larger : (m : ℕ) (far : ℤ) (ray : Ray) (n : ℕ) (is js : List Instance) → 0 < m → AreLargerInstances m is js
    → woven_from_up_to (pos m *ℤ far) (larger_ray m ray) n js ≡ map (moved_woven (enlarged m)) (woven_from_up_to far ray n is)
woven_larger m far ray n [] [] some h = refl
woven_larger m far ray n [] (j ∷ js) some h = absurd h
woven_larger m far ray n (i ∷ is) [] some h = absurd h
woven_larger m far ray n (i ∷ is) (j ∷ js) some h =
    ap (λ o. woven_if n o ++ woven_from_up_to (pos m *ℤ far) (larger_ray m ray) (n + 1) js) (segments_scale m far i.surface j.surface ray some h.0)
    ∙ (ap (λ ws. ws ++ woven_from_up_to (pos m *ℤ far) (larger_ray m ray) (n + 1) js) (if_moved (enlarged m) n (segment_up_to far i.surface ray))
    ∙ (ap (λ ws. map (moved_woven (enlarged m)) (woven_if n (segment_up_to far i.surface ray)) ++ ws) (woven_larger m far ray (n + 1) is js some h.1)
    ∙ sym (map_append (moved_woven (enlarged m)) (woven_if n (segment_up_to far i.surface ray)) (woven_from_up_to far ray (n + 1) is))))

-- their ends are places
abbrev HasPlaces : Woven → Type 0
HasPlaces w = IsPlace w.seg.start × IsPlace w.seg.end

if_placed : (n : ℕ) (o : Option Seg) → ((seg : Seg) → o ≡ Some seg → IsPlace seg.start × IsPlace seg.end) → (rest : List Woven) → ((w : Woven) → Has rest w → HasPlaces w)
    → (w : Woven) → Has (woven_if n o ++ rest) w → HasPlaces w
if_placed n None places rest more w h = more w h
if_placed n (Some seg) places rest more w (inl e) = subst HasPlaces e (places seg refl)
if_placed n (Some seg) places rest more w (inr h) = more w h

woven_placed : (m : ℕ) (far : ℤ) (ray : Ray) (n : ℕ) (is js : List Instance) → 0 < m → AreLargerInstances m is js → (w : Woven) → Has (woven_from_up_to far ray n is) w → HasPlaces w
woven_placed m far ray n [] [] some h w there = absurd there
woven_placed m far ray n [] (j ∷ js) some h w there = absurd h
woven_placed m far ray n (i ∷ is) [] some h w there = absurd h
woven_placed m far ray n (i ∷ is) (j ∷ js) some h w there =
    if_placed n (segment_up_to far i.surface ray) (ends_are_places m far i.surface j.surface ray some h.0) (woven_from_up_to far ray (n + 1) is) (woven_placed m far ray (n + 1) is js some h.1) w there

kept_whole : (z : ℤ) → spelled (Frac z (pos 1)) ≡ Frac z (pos 1)
kept_whole z = is_one_spelling.kept (Frac z (pos 1)) (omega (arith, ints), gcd_one (unsigned_abs z))

module _ (m : ℕ) (far : ℤ) (ray : Ray) (regions larger : List Region) (some : 0 < m) (h : AreLargerRegions m regions larger) where
  abbrev old : List Woven
  old = woven_up_to far regions ray

  pub woven_same : woven_up_to (pos m *ℤ far) larger (larger_ray m ray) ≡ map (moved_woven (enlarged m)) old
  woven_same = woven_larger m far ray 0 (instances_of regions) (instances_of larger) some (instances_larger m regions larger h)

  placed : (x : Pos) → Has (places_along (ray_up_to far) old) x → IsPlace x
  placed x (inl e) = subst IsPlace e (omega (arith, ints))
  placed x (inr (inl e)) = subst IsPlace e (omega (arith, ints))
  placed x (inr (inr there)) =
      let w = end_of_some old x there in
      let places = woven_placed m far ray 0 (instances_of regions) (instances_of larger) some (instances_larger m regions larger h) w.0 w.1 in
      ⊎_elim (λ e. subst IsPlace e places.0) (λ e. subst IsPlace e places.1) w.2

  begin : ray_start ≡ enlarged m ray_start
  begin = let e : pos m *ℤ pos 0 ≡ pos 0 = omega (arith, ints) in sym (ap (λ z. spelled (Frac z (pos 1))) e ∙ kept_whole (pos 0))

  pub is_moved : IsMoved (ray_up_to far) (ray_up_to (pos m *ℤ far)) (enlarged m) (moved_woven (enlarged m)) old
  is_moved = record {
    from = begin;
    to = sym (kept_whole (pos m *ℤ far));
    carried = λ k d lt. record { instance = refl; start = refl; end = refl };
    order = λ x y p q. enlarged_cmp m x y some (placed x (has_from_contains (places_along (ray_up_to far) old) x p)) (placed y (has_from_contains (places_along (ray_up_to far) old) y q));
  }

abbrev claimed : ℕ → ℕ → ℕ → List Bool → RegionClaims
claimed air first count row = record { air = not (air == 0); first = first; count = count; claims = row }

body_same : (m : ℕ) (far : ℤ) (ws : List Woven) (first : ℕ) (body larger : RegionBody) → IsLargerBody m body larger
    → IsMoved (ray_up_to far) (ray_up_to (pos m *ℤ far)) (enlarged m) (moved_woven (enlarged m)) ws
    → body_claims_up_to (pos m *ℤ far) (map (moved_woven (enlarged m)) ws) first larger ≡ body_claims_up_to far ws first body
body_same m far ws first body larger h moved =
    let row = claims_up_to (pos m *ℤ far) (map (moved_woven (enlarged m)) ws) larger.tree first in
    ap (λ a. claimed a first (length larger.instances) row) h.air
    ∙ (ap (λ n. claimed body.air first n row) (count_same m body.instances larger.instances h.instances)
    ∙ (ap (λ (t : Mask). claimed body.air first (length body.instances) (claims_up_to (pos m *ℤ far) (map (moved_woven (enlarged m)) ws) t first)) h.tree
    ∙ ap (claimed body.air first (length body.instances)) (claims_same (ray_up_to far) (ray_up_to (pos m *ℤ far)) (enlarged m) (moved_woven (enlarged m)) ws moved body.tree first)))

pub claims_larger : (m : ℕ) (far : ℤ) (ws : List Woven) (first : ℕ) (rs ss : List Region) → AreLargerRegions m rs ss
    → IsMoved (ray_up_to far) (ray_up_to (pos m *ℤ far)) (enlarged m) (moved_woven (enlarged m)) ws
    → claims_from_up_to (pos m *ℤ far) (map (moved_woven (enlarged m)) ws) first ss ≡ claims_from_up_to far ws first rs
claims_larger m far ws first [] [] h moved = refl
claims_larger m far ws first [] (s ∷ ss) h moved = absurd h
claims_larger m far ws first (r ∷ rs) [] h moved = absurd h
claims_larger m far ws first (r ∷ rs) (s ∷ ss) h moved =
    let ws' = map (moved_woven (enlarged m)) ws in
    ap (λ c. c ∷ claims_from_up_to (pos m *ℤ far) ws' (first + length s.body.instances) ss) (body_same m far ws first r.body s.body h.0 moved)
    ∙ (ap (λ n. body_claims_up_to far ws first r.body ∷ claims_from_up_to (pos m *ℤ far) ws' (first + n) ss) (count_same m r.body.instances s.body.instances h.0.instances)
    ∙ ap (λ cs. body_claims_up_to far ws first r.body ∷ cs) (claims_larger m far ws (first + length r.body.instances) rs ss h.1 moved))

pub instances_scale : InstancesScale
instances_scale m [] some = tt
instances_scale m (p ∷ ps) some = (solids_scale m p.solid p.by some, instances_scale m ps some)
