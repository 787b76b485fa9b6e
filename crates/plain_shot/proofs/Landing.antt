-- What is hit is an end of the segment of the instance that is hit, or nothing.
use Rattle.std.proofs.Common.{◌≡◌, ◌⊎◌, ℕ, List, Bool, true, false, cond, Option, Some, None, slice_get, filter, ap, sym, ◌∙◌, subst, refl, inl, inr, arith}
use Rattle.lattice_core.specs.declared.ray.Ray.{Ray}
use Rattle.surd_order.specs.declared.position.Pos.{Pos}
use Rattle.surd_order.specs.declared.position.Seg.{Seg}
use Rattle.solid_set.specs.Levels.{IsEndFace}
use Rattle.solid_set.specs.Segments.{segment_of}
use Rattle.bool_weave.specs.declared.woven.Woven.{Woven}
use Rattle.bool_weave.proofs.Middles.{has_filtered}
use Rattle.bool_weave.proofs.Sorted.{Has}
use Rattle.overlap_list.specs.declared.region.RegionClaims.{RegionClaims}
use Rattle.overlap_list.specs.Hits.{is_at, is_candidate, lowest, hit_on, cut_at, hit_of}
use Rattle.overlap_list.specs.Partitions.{or_no_hit}
use Rattle.overlap_list.proofs.Winning.{lowest_from}
use Rattle.shot_core.specs.Regions.{Instance, Region, instances_of}
use Rattle.shot_core.specs.Shots.{woven_of}
use Rattle.shot_core.specs.Steps.{IsHitOn}
use Rattle.shot_core.proofs.Weaving.{has_woven}

one_of : (b : Bool) (m n : ℕ) → (cond b m n ≡ m) ⊎ (cond b m n ≡ n)
one_of true m n = inl refl
one_of false m n = inr refl

same_some : (x y : Instance) → ◌≡◌ {A = Option Instance} (Some x) (Some y) → x ≡ y
same_some x y e = cc

lands_by : (rs : List Region) (ray : Ray) (place : Pos) (o : Option Woven) → ((w : Woven) → o ≡ Some w → Has (woven_of rs ray) w) → IsHitOn rs ray (or_no_hit (hit_on place o))
lands_by rs ray place None h = λ i e. inl refl
lands_by rs ray place (Some w) h = λ i e.
    let a = has_woven ray 0 (instances_of rs) w (h w refl) in
    let number : w.instance ≡ a.place = omega (arith, a.number) in
    let same : i ≡ a.one = same_some i a.one (sym e ∙ ap (slice_get (instances_of rs)) number ∙ a.there) in
    let face = cond (is_at w.seg.start place) w.seg.start_face w.seg.end_face in
    inr (subst (λ (s : Option Seg). IsEndFace face s) (sym (ap (λ (j : Instance). segment_of j.surface ray) same ∙ a.segment)) (one_of (is_at w.seg.start place) w.seg.start_face w.seg.end_face))

pub hit_lands : (rs : List Region) (ray : Ray) (regions : List RegionClaims) (k : ℕ) → IsHitOn rs ray (or_no_hit (hit_of (woven_of rs ray) regions k))
hit_lands rs ray regions k =
    let woven = woven_of rs ray in
    let passes = is_candidate regions k (cut_at woven k) in
    lands_by rs ray (cut_at woven k) (lowest (filter passes woven)) (λ w e. has_filtered passes woven w (lowest_from (filter passes woven) w e))
