-- The computed hull, meet and test are what they say.
use Rattle.std.proofs.Common.{◌≡◌, ◌↔◌, ℤ, ◌<ℤ◌, ◌≤ℤ◌, Bool, true, false, ◌&&◌, not, IsTrue, refl, subst, sym, ◌∙◌, inl, inr, arith}
use Rattle.std.proofs.lemmas.Bool.{cases_Bool, and_parts, and_from, cond-true, cond-false, true≢false}
use Rattle.std.proofs.lemmas.Int.{ints}
use Rattle.std.proofs.lemmas.Cmp.{int_ranked}
use Rattle.std.specs.Ordering.{int_cmp, is_gt}
use Rattle.std.specs.declared.cmp.Ordering.{Ordering}
use Rattle.std.specs.declared.cmp.Ordering.TheVariants.{Less, Equal, Greater}
use Rattle.lattice_core.specs.declared.boxes.Side.{Side}
use Rattle.lattice_core.specs.declared.boxes.Side.TheVariants.{Open, At}
use Rattle.lattice_core.specs.declared.extent.Extent.{Extent}
use Rattle.lattice_core.specs.declared.boxes.Box3.{Box3}
use Rattle.lattice_core.specs.declared.boxes.Box3.TheVariants.{Empty, Span}
use Rattle.lattice_core.specs.declared.ray.Ray.{Ray}
use Rattle.lattice_core.specs.Boxes.{IsHull, IsTidy, MeetsRay}
use Rattle.lattice_core.specs.Extents.{AreOrdered, IsOrdered}
use Rattle.lattice_core.specs.Spans.{IsNonEmpty, IsTidyOf, hull_span, meet_span, reach_span}
use Rattle.lattice_core.specs.Units.{unit_of}
use Rattle.lattice_core.proofs.Boxing.{nonempty_some, hull_is, hull_tidy, hull_none_with, hull_first_none, tidy_is, meet_tidy}
use Rattle.lattice_core.proofs.Meeting.{meets_is}
use Rattle.shot_core.specs.TreeBoxes.{are_ordered, is_ordered, has_points, tidy, hull_of, meet_of, AreHullAndMeet}
use Rattle.shot_core.specs.MetBoxes.{meets_ray, TellsWhetherMet}

not_over : (x y : ℤ) (r : Ordering) → r ≡ int_cmp x y → IsTrue (not (is_gt r)) ↔ (x ≤ℤ y)
not_over x y Less is = let lt : x <ℤ y = int_ranked x y Less is in (λ h. omega (arith, ints), λ h. refl)
not_over x y Equal is = let e : x ≡ y = int_ranked x y Equal is in (λ h. omega (arith, ints), λ h. refl)
not_over x y Greater is = let lt : y <ℤ x = int_ranked x y Greater is in (λ h. absurd (true≢false (sym h)), λ h. absurd (omega (arith, ints)))

sides_tell : (low high : Side) → IsTrue (are_ordered low high) ↔ AreOrdered low high
sides_tell Open high = (λ h. tt, λ h. refl)
sides_tell (At a) Open = (λ h. tt, λ h. refl)
sides_tell (At a) (At b) = not_over a b (int_cmp a b) refl

ordered_tells : (e : Extent) → IsTrue (is_ordered e) ↔ IsOrdered e
ordered_tells e = sides_tell e.low e.high

pub has_points_tells : (b : Box3) → IsTrue (has_points b) ↔ IsNonEmpty b
has_points_tells Empty = (λ h. true≢false (sym h), λ h. absurd h)
has_points_tells (Span x y z) = (
  λ h.
      let a = and_parts (is_ordered x) (is_ordered y && is_ordered z) h in
      let b = and_parts (is_ordered y) (is_ordered z) a.1 in
      ((ordered_tells x).0 a.0, (ordered_tells y).0 b.0, (ordered_tells z).0 b.1),
  λ h. and_from _ _ ((ordered_tells x).1 h.0) (and_from _ _ ((ordered_tells y).1 h.1) ((ordered_tells z).1 h.2)),
)

no_points : (b : Box3) → has_points b ≡ false → ¬ IsNonEmpty b
no_points b is h = true≢false (sym ((has_points_tells b).1 h) ∙ is)

tidy_of : (b : Box3) → IsTidyOf b (tidy b)
tidy_of b =
    elim (cases_Bool (has_points b)) [
      | inl some ↦ inl ((has_points_tells b).0 some, cond-true (has_points b) b Empty some)
      | inr none ↦ inr (no_points b none, cond-false (has_points b) b Empty none)
    ]

hull_by : (a b : Box3) (P : Box3 → Type 0) → (has_points a ≡ false → P (tidy b)) → (IsNonEmpty a → has_points b ≡ false → P a) → (IsNonEmpty a → IsNonEmpty b → P (hull_span a b)) → P (hull_of a b)
hull_by a b P none one both =
    elim (cases_Bool (has_points a)) [
      | inl some ↦ elim (cases_Bool (has_points b)) [
        | inl more ↦ subst P (sym (cond-true (has_points a) _ (tidy b) some ∙ cond-true (has_points b) (hull_span a b) a more)) (both ((has_points_tells a).0 some) ((has_points_tells b).0 more))
        | inr bare ↦ subst P (sym (cond-true (has_points a) _ (tidy b) some ∙ cond-false (has_points b) (hull_span a b) a bare)) (one ((has_points_tells a).0 some) bare)
      ]
      | inr bare ↦ subst P (sym (cond-false (has_points a) _ (tidy b) bare)) (none bare)
    ]

pub are_hull_and_meet : AreHullAndMeet
are_hull_and_meet = record {
  hull = λ a b. hull_by a b (λ (h : Box3). IsHull h a b) (λ bare. hull_first_none a b (tidy b) (no_points a bare) (tidy_of b)) (λ some bare. hull_none_with a b (no_points b bare)) (λ p q. hull_is a b p q);
  hull_tidy = λ a b. hull_by a b IsTidy (λ bare. tidy_is b (tidy b) (tidy_of b)) (λ some bare. inl (nonempty_some a some)) (λ p q. hull_tidy a b p q);
  meet = λ a b. meet_tidy a b (meet_of a b) (tidy_of (meet_span a b));
  meet_tidy = λ a b. tidy_is (meet_span a b) (meet_of a b) (tidy_of (meet_span a b));
}

pub met_tells : TellsWhetherMet
met_tells b ray =
    let some = has_points_tells (meet_span b (reach_span ray.origin (unit_of ray.dir))) in
    let meet = meets_is b ray in
    (λ h. meet.0 (some.0 h), λ m. some.1 (meet.1 m))

pub same_bool : (a b : Bool) → (a ≡ true → b ≡ true) → (b ≡ true → a ≡ true) → a ≡ b
same_bool true true f g = refl
same_bool true false f g = sym (f refl)
same_bool false true f g = g refl
same_bool false false f g = refl

-- what tells whether a ray meets a box is the test
pub met_is : (b : Box3) (ray : Ray) (r : Bool) → (IsTrue r ↔ MeetsRay b ray) → r ≡ meets_ray b ray
met_is b ray r is = same_bool r (meets_ray b ray) (λ h. (met_tells b ray).1 (is.0 h)) (λ h. is.1 ((met_tells b ray).0 h))
