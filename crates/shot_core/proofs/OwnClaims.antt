-- What a region claims beside a place by its own instances, without their numbers.
use Rattle.std.proofs.Common.{◌≡◌, ◌<◌, ◌+◌, ℕ, zero, suc, List, [], ◌∷◌, ◌++◌, length, get_or, slice_get, Bool, true, false, cond, not, ◌&&◌, ◌||◌, Option, Some, None, ap, sym, ◌∙◌, refl, arith}
use Rattle.std.specs.List.{list_any, position_from}
use Rattle.std.proofs.lemmas.Bool.{eq-eqb}
use Rattle.lattice_core.specs.declared.ray.Ray.{Ray}
use Rattle.surd_order.specs.declared.position.Pos.{Pos}
use Rattle.surd_order.specs.declared.position.Seg.{Seg}
use Rattle.solid_set.specs.Segments.{segment_of}
use Rattle.bool_weave.specs.declared.woven.Woven.{Woven}
use Rattle.bool_weave.specs.Claims.{is_before}
use Rattle.bool_weave.specs.Masks.{mask_holds}
use Rattle.bool_weave.specs.Behind.{covers_behind, covers_before, claims_behind, claims_before}
use Rattle.bool_weave.proofs.Behind.{mask_alike}
use Rattle.bool_weave.proofs.Flanks.{nothing_before}
use Rattle.overlap_list.specs.Hits.{differ}
use Rattle.overlap_list.specs.Firsts.{TreeRegion, is_solid_behind, changes_over}
use Rattle.shot_core.specs.Regions.{Instance, RegionBody, Region, HaveInstances, has_air, firsts_from}
use Rattle.shot_core.specs.Shots.{woven_if, woven_from, woven_of}
use Rattle.shot_core.specs.Steps.{no_region}
use Rattle.shot_core.specs.FirstShots.{tree_region, trees_from}
use Rattle.shot_core.proofs.FirstShots.{some_passes, other, under, none_right, own_segments_tell}

abbrev pub passes_if : (Seg → Bool) → Option Seg → Bool
passes_if f None = false
passes_if f (Some seg) = f seg

abbrev pub leaf_on : (Seg → Bool) → Ray → Option Instance → Bool
leaf_on f ray None = false
leaf_on f ray (Some i) = passes_if f (segment_of i.surface ray)

abbrev pub body_on : (Seg → Bool) → Ray → RegionBody → Bool
body_on f ray body = mask_holds body.tree (λ i. leaf_on f ray (slice_get body.instances i))

abbrev pub behind_on : Ray → Pos → RegionBody → Bool
behind_on ray x body = body_on (covers_behind x) ray body

abbrev pub before_on : Ray → Pos → RegionBody → Bool
before_on ray x body = body_on (covers_before x) ray body

-- whether a region has no air and claims what lies just behind a place, and whether its claim changes there
abbrev pub solid_on : Ray → Pos → Region → Bool
solid_on ray x r = not (has_air r.body) && behind_on ray x r.body

abbrev pub changes_on : Ray → Pos → Region → Bool
changes_on ray x r = differ (before_on ray x r.body) (behind_on ray x r.body)

-- a region claims nothing on a ray
abbrev pub IsSilent : Ray → Region → Type 0
IsSilent ray r = (x : Pos) → behind_on ray x r.body ≡ false

module _ (f : Seg → Bool) where
  first_passes : (n : ℕ) (o : Option Seg) (ws : List Woven) → some_passes f ws (n + zero) ≡ false → some_passes f (woven_if n o ++ ws) (n + zero) ≡ passes_if f o
  first_passes n None ws h = h
  first_passes n (Some seg) ws h =
      let e : n ≡ n + zero = omega arith in
      ap (λ b. (b && f seg) || some_passes f ws (n + zero)) (eq-eqb n (n + zero) e) ∙ ap (λ b. f seg || b) h ∙ none_right (f seg)

  at_number : (ray : Ray) (n i : ℕ) (xs : List Instance) → some_passes f (woven_from ray n xs) (n + i) ≡ leaf_on f ray (slice_get xs i)
  at_number ray n i [] = refl
  at_number ray n zero (x ∷ xs) = first_passes n (segment_of x.surface ray) (woven_from ray (n + 1) xs) (under f ray (n + 1) (n + zero) xs (omega arith))
  at_number ray n (suc i) (x ∷ xs) =
      let e : n + suc i ≡ n + 1 + i = omega arith in
      other f n (n + suc i) (segment_of x.surface ray) (woven_from ray (n + 1) xs) (λ e. omega (arith, e)) ∙ ap (some_passes f (woven_from ray (n + 1) xs)) e ∙ at_number ray (n + 1) i xs

  pub own_on : (ray : Ray) (n : ℕ) (body : RegionBody) → mask_holds body.tree (λ i. some_passes f (woven_from ray n body.instances) (n + i)) ≡ body_on f ray body
  own_on ray n body =
      mask_alike body.tree (λ i. some_passes f (woven_from ray n body.instances) (n + i)) (λ i. leaf_on f ray (slice_get body.instances i)) (λ i. at_number ray n i body.instances)

pub own_behind : (ray : Ray) (n : ℕ) (x : Pos) (body : RegionBody) → claims_behind (woven_from ray n body.instances) body.tree n x ≡ behind_on ray x body
own_behind ray n x body = own_on (covers_behind x) ray n body

pub own_before : (ray : Ray) (n : ℕ) (x : Pos) (body : RegionBody) → claims_before (woven_from ray n body.instances) body.tree n x ≡ before_on ray x body
own_before ray n x body = own_on (covers_before x) ray n body

-- what claims nothing behind the places before one claims nothing before that one
pub quiet_before : (ray : Ray) (x : Pos) (body : RegionBody) → ((y : Pos) → is_before y x ≡ true → behind_on ray y body ≡ false) → before_on ray x body ≡ false
quiet_before ray x body quiet =
    sym (own_before ray 0 x body) ∙ nothing_before (woven_from ray 0 body.instances) body.tree 0 x (λ y lt. own_behind ray 0 y body ∙ quiet y lt)

pub silent_changes : (ray : Ray) (x : Pos) (r : Region) → IsSilent ray r → changes_on ray x r ≡ false
silent_changes ray x r silent = ap (λ b. differ b (behind_on ray x r.body)) (quiet_before ray x r.body (λ y lt. silent y)) ∙ silent x

-- the same of the regions of a scene
module _ (regions : List Region) (ray : Ray) (leaves : HaveInstances regions) where
  abbrev tree_no : ℕ → TreeRegion
  tree_no k = tree_region (get_or (firsts_from 0 regions) k 0) (get_or regions k no_region).body

  pub scene_behind : (x : Pos) (k : ℕ) → k < length regions → claims_behind (woven_of regions ray) (tree_no k).tree (tree_no k).first x ≡ behind_on ray x (get_or regions k no_region).body
  scene_behind x k lt = sym (own_segments_tell regions ray k no_region x leaves lt).behind ∙ own_behind ray (get_or (firsts_from 0 regions) k 0) x (get_or regions k no_region).body

  scene_before : (x : Pos) (k : ℕ) → k < length regions → claims_before (woven_of regions ray) (tree_no k).tree (tree_no k).first x ≡ before_on ray x (get_or regions k no_region).body
  scene_before x k lt = sym (own_segments_tell regions ray k no_region x leaves lt).before ∙ own_before ray (get_or (firsts_from 0 regions) k 0) x (get_or regions k no_region).body

  pub solid_is : (x : Pos) (k : ℕ) → k < length regions → is_solid_behind (woven_of regions ray) x (tree_no k) ≡ solid_on ray x (get_or regions k no_region)
  solid_is x k lt = ap (λ b. not (has_air (get_or regions k no_region).body) && b) (scene_behind x k lt)

  pub change_is : (x : Pos) (k : ℕ) → k < length regions → changes_over (woven_of regions ray) x (tree_no k) ≡ changes_on ray x (get_or regions k no_region)
  change_is x k lt =
      ap (λ b. differ b (claims_behind (woven_of regions ray) (tree_no k).tree (tree_no k).first x)) (scene_before x k lt)
      ∙ ap (differ (before_on ray x (get_or regions k no_region).body)) (scene_behind x k lt)

-- tests of trees and of regions that agree find the same
module _ (f : TreeRegion → Bool) (g : Region → Bool) where
  abbrev pub Agree : ℕ → List Region → Type 0
  Agree first rs = (k : ℕ) → k < length rs → f (tree_region (get_or (firsts_from first rs) k 0) (get_or rs k no_region).body) ≡ g (get_or rs k no_region)

  pub next_agree : (first : ℕ) (r : Region) (rs : List Region) → Agree first (r ∷ rs) → Agree (first + length r.body.instances) rs
  next_agree first r rs h = λ k lt. h (suc k) (omega (arith, lt))

  pub position_agrees : (first n : ℕ) (rs : List Region) → Agree first rs → position_from f n (trees_from first rs) ≡ position_from g n rs
  position_agrees first n [] h = refl
  position_agrees first n (r ∷ rs) h =
      ap (λ b. cond b (Some n) (position_from f (n + 1) (trees_from (first + length r.body.instances) rs))) (h zero (omega arith))
      ∙ ap (cond (g r) (Some n)) (position_agrees (first + length r.body.instances) (n + 1) rs (next_agree first r rs h))

  pub any_agrees : (first : ℕ) (rs : List Region) → Agree first rs → list_any f (trees_from first rs) ≡ list_any g rs
  any_agrees first [] h = refl
  any_agrees first (r ∷ rs) h =
      ap (λ b. b || list_any f (trees_from (first + length r.body.instances) rs)) (h zero (omega arith))
      ∙ ap (λ b. g r || b) (any_agrees (first + length r.body.instances) rs (next_agree first r rs h))
