-- Fractions of a ray between places of it, at no hit place.
use Rattle.std.proofs.Common.{◌<ℤ◌, ℤ, pos, List, [], ◌∷◌, ◌++◌, flat_map, subst, inl, inr, arith}
use Rattle.std.proofs.lemmas.Int.{ints}
use Rattle.lattice_core.specs.declared.ray.Ray.{Ray}
use Rattle.lattice_core.specs.Rays.{IsOnRay}
use Rattle.surd_order.specs.declared.position.Pos.{Pos}
use Rattle.surd_order.specs.declared.position.Pos.TheVariants.{Frac}
use Rattle.surd_order.specs.Order.{IsPlace, Precedes}
use Rattle.surd_order.proofs.LawProofs.{outcome, is_kept_by_same_place}
use Rattle.surd_order.proofs.OrderLaws.{transitive, same_symm}
use Rattle.solid_set.specs.declared.surface.Surface.{Surface}
use Rattle.solid_set.specs.HitPlaces.{surface_places}
use Rattle.solid_set.specs.Segments.{ray_start, ray_end}
use Rattle.solid_set.proofs.InsideLaws.{on_ray_within}
use Rattle.solid_set.proofs.Places.{ArePlaces as AllPlaces, surface_is_placed}
use Rattle.solid_set.proofs.Separated.{between_but}
use Rattle.bool_weave.proofs.Sorted.{Has, has_append_cases}
use Rattle.shot_core.specs.Points.{ray_places, IsRayHitPlace}
use Rattle.shot_core.specs.Regions.{Instance, Region, instances_of}

-- hit places are places
abbrev ArePlaces : List Pos → Type 0
ArePlaces xs = (x : Pos) → Has xs x → IsPlace x

both_places : (xs ys : List Pos) → ArePlaces xs → ArePlaces ys → ArePlaces (xs ++ ys)
both_places xs ys h g x has = elim (has_append_cases xs ys x has) [ inl a ↦ h x a | inr b ↦ g x b ]

each_place : (xs : List Pos) → AllPlaces xs → ArePlaces xs
each_place [] all x none = absurd none
each_place (y ∷ ys) all x (inl e) = subst IsPlace e all.0
each_place (y ∷ ys) all x (inr has) = each_place ys all.1 x has

surface_placed : (surface : Surface) (ray : Ray) → ArePlaces (surface_places surface ray)
surface_placed surface ray = each_place (surface_places surface ray) (surface_is_placed surface ray)

instances_placed : (ray : Ray) (is : List Instance) → ArePlaces (flat_map (λ (i : Instance). surface_places i.surface ray) is)
instances_placed ray [] x none = absurd none
instances_placed ray (i ∷ is) x has =
    both_places (surface_places i.surface ray) (flat_map (λ (i : Instance). surface_places i.surface ray) is) (surface_placed i.surface ray) (instances_placed ray is) x has

pub zero_place : IsPlace ray_start
zero_place = omega (arith, ints)

pub far_place : IsPlace ray_end
far_place = omega (arith, ints)

ray_placed : (regions : List Region) (ray : Ray) → ArePlaces (ray_places regions ray)
ray_placed regions ray x (inl e) = subst IsPlace e zero_place
ray_placed regions ray x (inr (inl e)) = subst IsPlace e far_place
ray_placed regions ray x (inr (inr has)) = instances_placed ray (instances_of regions) x has

-- a fraction of the ray between two places of it that is at no hit place
pub record IsFreeBetween (regions : List Region) (ray : Ray) (x y : Pos) : Type 0 where
  pub p : ℤ
  pub q : ℤ
  pub on : IsOnRay p q
  pub free : ¬ (IsRayHitPlace regions ray (Frac p q))
  pub after : Precedes x (Frac p q)
  pub before : Precedes (Frac p q) y

on_ray : (x y : Pos) (p q : ℤ) → pos 0 <ℤ q → IsPlace y → ¬ (Precedes x ray_start) → ¬ (Precedes ray_end y) → Precedes x (Frac p q) → Precedes (Frac p q) y → IsOnRay p q
on_ray x y p q some place begun not_ended after before = (on_ray_within p q some).1 (
  λ early. begun (transitive x (Frac p q) ray_start some zero_place after early),
  λ late. not_ended (transitive ray_end (Frac p q) y some place late before),
)

pub free_between : (regions : List Region) (ray : Ray) (x y : Pos) → IsPlace x → IsPlace y → ¬ (Precedes x ray_start) → ¬ (Precedes ray_end y) → Precedes x y → IsFreeBetween regions ray x y
free_between regions ray x y place place' begun not_ended order =
    let f = between_but (ray_places regions ray) x y (ray_placed regions ray) place place' order in
    record { p = f.p; q = f.q; on = on_ray x y f.p f.q f.positive place' begun not_ended f.after f.before; free = f.apart; after = f.after; before = f.before }

-- and one that is also before another place
pub record IsFreeBeforeBoth (regions : List Region) (ray : Ray) (x y z : Pos) : Type 0 where
  pub point : IsFreeBetween regions ray x y
  pub before_other : Precedes (Frac point.p point.q) z

pub free_before_both : (regions : List Region) (ray : Ray) (x y z : Pos) → IsPlace x → IsPlace y → IsPlace z → ¬ (Precedes x ray_start) → ¬ (Precedes ray_end y) → Precedes x y → Precedes x z → IsFreeBeforeBoth regions ray x y z
free_before_both regions ray x y z place_x place_y place_z begun not_ended to_y to_z = elim (outcome y z place_y place_z) [
  | inl first ↦
      let f = free_between regions ray x y place_x place_y begun not_ended to_y in
      record { point = f; before_other = transitive (Frac f.p f.q) y z place_y place_z f.before first }
  | inr last ↦
      let f = between_but (ray_places regions ray) x z (ray_placed regions ray) place_x place_z to_z in
      let before : Precedes (Frac f.p f.q) y = elim last [
        | inl same ↦ is_kept_by_same_place.after (Frac f.p f.q) z y f.before (same_symm y z same)
        | inr back ↦ transitive (Frac f.p f.q) z y place_z place_y f.before back
      ] in
      record {
        point = record { p = f.p; q = f.q; on = on_ray x y f.p f.q f.positive place_y begun not_ended f.after before; free = f.apart; after = f.after; before = before };
        before_other = f.before;
      }
]

-- and one that is also behind another place
pub record IsFreeBehindBoth (regions : List Region) (ray : Ray) (x y z : Pos) : Type 0 where
  pub point : IsFreeBetween regions ray y z
  pub after_other : Precedes x (Frac point.p point.q)

pub free_behind_both : (regions : List Region) (ray : Ray) (x y z : Pos) → IsPlace x → IsPlace y → IsPlace z → ¬ (Precedes y ray_start) → ¬ (Precedes ray_end z) → Precedes x z → Precedes y z → IsFreeBehindBoth regions ray x y z
free_behind_both regions ray x y z place_x place_y place_z begun not_ended from_x from_y = elim (outcome x y place_x place_y) [
  | inl first ↦
      let f = free_between regions ray y z place_y place_z begun not_ended from_y in
      record { point = f; after_other = transitive x y (Frac f.p f.q) place_y f.on.positive first f.after }
  | inr last ↦
      let f = between_but (ray_places regions ray) x z (ray_placed regions ray) place_x place_z from_x in
      let after : Precedes y (Frac f.p f.q) = elim last [
        | inl same ↦ is_kept_by_same_place.before y x (Frac f.p f.q) (same_symm x y same) f.after
        | inr back ↦ transitive y x (Frac f.p f.q) place_x f.positive back f.after
      ] in
      record {
        point = record { p = f.p; q = f.q; on = on_ray y z f.p f.q f.positive place_z begun not_ended after f.before; free = f.apart; after = after; before = f.before };
        after_other = f.after;
      }
]
