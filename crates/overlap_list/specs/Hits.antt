-- What is hit where a run of intervals starts.
use Rattle.std.specs.Prelude.{ℕ, ◌+◌, ℤ, List, [], ◌∷◌, Option, Some, None, Bool, true, false, cond, ◌&&◌, ◌||◌, not, nat_le, nat_lt, filter}
use Rattle.std.specs.List.{list_any}
use Rattle.std.specs.Ordering.{is_eq}
use Rattle.std.specs.declared.cmp.Ordering.{Ordering}
use Rattle.surd_order.specs.declared.position.Pos.{Pos}
use Rattle.surd_order.specs.PlaceOrder.{place_cmp}
use Rattle.bool_weave.specs.declared.woven.Woven.{Woven}
use Rattle.bool_weave.specs.Lines.{Line, cut_along}
use Rattle.bool_weave.specs.Cuts.{ray_length, ray_up_to}
use Rattle.overlap_list.specs.declared.region.RegionClaims.{RegionClaims}
use Rattle.overlap_list.specs.declared.hit.Hit.{Hit}
use Rattle.overlap_list.specs.Winners.{claims_at}
use Rattle.overlap_list.specs.Runs.{has_before}

-- the faces at the ends of segments
pub record Faces (W : Type 0) : Type 0 where
  pub at_start : W → ℕ
  pub at_end : W → ℕ

abbrev pub is_one_place : {P : Type 0} → (P → P → Ordering) → P → P → Bool
is_one_place order x y = is_eq (order x y)

abbrev pub is_at : Pos → Pos → Bool
is_at x y = is_one_place place_cmp x y

-- an instance has an end at a place where its segment starts or ends there
abbrev pub ends_along : {W P : Type 0} → Line W P → P → W → Bool
ends_along line place w = is_one_place line.order (line.start w) place || is_one_place line.order (line.end w) place

abbrev pub has_end_at : Pos → Woven → Bool
has_end_at place w = ends_along (ray_up_to ray_length) place w

abbrev pub differ : Bool → Bool → Bool
differ true b = not b
differ false b = b

-- a region's claim changes at the cut before interval k; before the first interval no region claims
abbrev pub changes_at : ℕ → RegionClaims → Bool
changes_at k r = differ (has_before (claims_at r) k) (claims_at r k)

-- the instance of a number is one of the region's
abbrev pub has_instance : RegionClaims → ℕ → Bool
has_instance r instance = nat_le r.first instance && nat_lt instance (r.first + r.count)

abbrev pub is_of : RegionClaims → Woven → Bool
is_of r w = has_instance r w.instance

-- an instance of a region whose claim changes there, with an end there
abbrev pub is_candidate_along : {W P : Type 0} → Line W P → List RegionClaims → ℕ → P → W → Bool
is_candidate_along line regions k place w = ends_along line place w && list_any (λ r. has_instance r (line.instance w) && changes_at k r) regions

abbrev pub is_candidate : List RegionClaims → ℕ → Pos → Woven → Bool
is_candidate regions k place w = is_candidate_along (ray_up_to ray_length) regions k place w

abbrev pub lower_by : {W : Type 0} → (W → ℕ) → W → Option W → Option W
lower_by number w None = Some w
lower_by number w (Some v) = cond (nat_le (number w) (number v)) (Some w) (Some v)

-- the one of the lowest number
abbrev pub lowest_by : {W : Type 0} → (W → ℕ) → List W → Option W
lowest_by number [] = None
lowest_by number (w ∷ ws) = lower_by number w (lowest_by number ws)

abbrev pub lower : Woven → Option Woven → Option Woven
lower w other = lower_by (λ v. v.instance) w other

abbrev pub lowest : List Woven → Option Woven
lowest ws = lowest_by (λ v. v.instance) ws

abbrev pub hit_among : {W P : Type 0} → Line W P → Faces W → P → Option W → Option Hit
hit_among line faces place None = None
hit_among line faces place (Some w) = Some (record { instance = line.instance w; face = cond (is_one_place line.order (line.start w) place) (faces.at_start w) (faces.at_end w) })

-- the hit where interval k starts: of all candidates the lowest-numbered one, with the face of that end
abbrev pub hit_along : {W P : Type 0} → Line W P → Faces W → List W → List RegionClaims → ℕ → Option Hit
hit_along line faces segments regions k =
    hit_among line faces (cut_along line segments k) (lowest_by line.instance (filter (is_candidate_along line regions k (cut_along line segments k)) segments))

abbrev pub woven_faces : Faces Woven
woven_faces = record { at_start = λ w. w.seg.start_face; at_end = λ w. w.seg.end_face }

abbrev pub hit_on : Pos → Option Woven → Option Hit
hit_on place found = hit_among (ray_up_to ray_length) woven_faces place found

abbrev pub cut_up_to : ℤ → List Woven → ℕ → Pos
cut_up_to far woven k = cut_along (ray_up_to far) woven k

abbrev pub cut_at : List Woven → ℕ → Pos
cut_at woven k = cut_up_to ray_length woven k

-- the hit on a ray that ends so far
abbrev pub hit_up_to : ℤ → List Woven → List RegionClaims → ℕ → Option Hit
hit_up_to far woven regions k = hit_along (ray_up_to far) woven_faces woven regions k

abbrev pub hit_of : List Woven → List RegionClaims → ℕ → Option Hit
hit_of woven regions k = hit_up_to ray_length woven regions k
