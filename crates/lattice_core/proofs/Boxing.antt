-- Boxes with points, their hull and their meet.
use Rattle.std.proofs.Common.{◌↔◌, ℤ, pos, ◌*ℤ◌, ◌<ℤ◌, arith, inl, inr, subst, sym}
use Rattle.std.proofs.lemmas.Int.{ints}
use Rattle.lattice_core.specs.declared.vector.V3.{V3}
use Rattle.lattice_core.specs.declared.extent.Extent.{Extent}
use Rattle.lattice_core.specs.declared.boxes.Box3.{Box3}
use Rattle.lattice_core.specs.declared.boxes.Box3.TheVariants.{Empty, Span}
use Rattle.lattice_core.specs.Boxes.{HasPoint, HasSome, IsTidy, IsInside, IsHull, IsMeet, Meets}
use Rattle.lattice_core.specs.Spans.{IsNonEmpty, IsTidyOf, hull_span, meet_span}
use Rattle.lattice_core.proofs.Extending.{ordered, seen, seen_between, ExtentInside, hull_holds_first, hull_holds_second, hull_is_least, meet_shares}

pub point_ordered : (b : Box3) (v : V3) (w : ℤ) → pos 0 <ℤ w → HasPoint b v w → IsNonEmpty b
point_ordered Empty v w some h = h
point_ordered (Span x y z) v w some h = (ordered x v.x w some h.0, ordered y v.y w some h.1, ordered z v.z w some h.2)

pub nonempty_some : (b : Box3) → IsNonEmpty b → HasSome b
nonempty_some Empty h = absurd h
nonempty_some (Span x y z) h =
    let one : pos 0 <ℤ pos 1 = omega (arith, ints) in
    record {
      v = record { x = seen x *ℤ pos 1; y = seen y *ℤ pos 1; z = seen z *ℤ pos 1 };
      w = pos 1;
      positive = one;
      inside = (seen_between x (pos 1) one h.0, seen_between y (pos 1) one h.1, seen_between z (pos 1) one h.2);
    }

pub hull_first : (a b : Box3) → IsNonEmpty b → IsInside a (hull_span a b)
hull_first Empty b q = λ v w some h. absurd h
hull_first (Span x y z) Empty q = λ v w some h. absurd q
hull_first (Span x y z) (Span x' y' z') q = λ v w some h. (
  hull_holds_first x x' v.x w some h.0,
  hull_holds_first y y' v.y w some h.1,
  hull_holds_first z z' v.z w some h.2,
)

pub hull_second : (a b : Box3) → IsNonEmpty a → IsInside b (hull_span a b)
hull_second Empty b p = λ v w some h. absurd p
hull_second (Span x y z) Empty p = λ v w some h. absurd h
hull_second (Span x y z) (Span x' y' z') p = λ v w some h. (
  hull_holds_second x x' v.x w some h.0,
  hull_holds_second y y' v.y w some h.1,
  hull_holds_second z z' v.z w some h.2,
)

-- where a box with points lies inside another, so do its extents
pub extents_inside : (x y z x' y' z' : Extent) → IsNonEmpty (Span x y z) → IsInside (Span x y z) (Span x' y' z') → ExtentInside x x' × ExtentInside y y' × ExtentInside z z'
extents_inside x y z x' y' z' p f = (
  λ k w some h. (f (record { x = k; y = seen y *ℤ w; z = seen z *ℤ w }) w some (h, seen_between y w some p.1, seen_between z w some p.2)).0,
  λ k w some h. (f (record { x = seen x *ℤ w; y = k; z = seen z *ℤ w }) w some (seen_between x w some p.0, h, seen_between z w some p.2)).1,
  λ k w some h. (f (record { x = seen x *ℤ w; y = seen y *ℤ w; z = k }) w some (seen_between x w some p.0, seen_between y w some p.1, h)).2,
)

pub hull_least : (a b : Box3) → IsNonEmpty a → IsNonEmpty b → (other : Box3) → IsInside a other → IsInside b other → IsInside (hull_span a b) other
hull_least Empty b p q other f g = absurd p
hull_least (Span x y z) Empty p q other f g = absurd q
hull_least (Span x y z) (Span x' y' z') p q Empty f g =
    let some = nonempty_some (Span x y z) p in
    absurd (f some.v some.w some.positive some.inside)
hull_least (Span x y z) (Span x' y' z') p q (Span u v w) f g =
    let first = extents_inside x y z u v w p f in
    let second = extents_inside x' y' z' u v w q g in
    λ t n some h. (
      hull_is_least x x' u p.0 q.0 first.0 second.0 t.x n some h.0,
      hull_is_least y y' v p.1 q.1 first.1 second.1 t.y n some h.1,
      hull_is_least z z' w p.2 q.2 first.2 second.2 t.z n some h.2,
    )

pub hull_is : (a b : Box3) → IsNonEmpty a → IsNonEmpty b → IsHull (hull_span a b) a b
hull_is a b p q = record { first = hull_first a b q; second = hull_second a b p; least = hull_least a b p q }

pub hull_tidy : (a b : Box3) → IsNonEmpty a → IsNonEmpty b → IsTidy (hull_span a b)
hull_tidy a b p q =
    let some = nonempty_some a p in
    inl (record { v = some.v; w = some.w; positive = some.positive; inside = hull_first a b q some.v some.w some.positive some.inside })

-- a box without points beside another
pub hull_with_none : (a b : Box3) → ¬ IsNonEmpty a → IsHull b a b
hull_with_none a b none = record {
  first = λ v w some h. absurd (none (point_ordered a v w some h));
  second = λ v w some h. h;
  least = λ other f g. g;
}

pub hull_none_with : (a b : Box3) → ¬ IsNonEmpty b → IsHull a a b
hull_none_with a b none = record {
  first = λ v w some h. h;
  second = λ v w some h. absurd (none (point_ordered b v w some h));
  least = λ other f g. f;
}

pub hull_none : (a b : Box3) → ¬ IsNonEmpty a → ¬ IsNonEmpty b → IsHull Empty a b
hull_none a b p q = record {
  first = λ v w some h. absurd (p (point_ordered a v w some h));
  second = λ v w some h. absurd (q (point_ordered b v w some h));
  least = λ other f g. λ v w some h. absurd h;
}

pub meet_is : (a b : Box3) → IsMeet (meet_span a b) a b
meet_is Empty b = λ v w some. (λ h. absurd h, λ h. h.0)
meet_is (Span x y z) Empty = λ v w some. (λ h. absurd h, λ h. h.1)
meet_is (Span x y z) (Span x' y' z') = λ v w some.
    let in_x = meet_shares x x' v.x w some in
    let in_y = meet_shares y y' v.y w some in
    let in_z = meet_shares z z' v.z w some in (
      λ h. (((in_x.0 h.0).0, (in_y.0 h.1).0, (in_z.0 h.2).0), ((in_x.0 h.0).1, (in_y.0 h.1).1, (in_z.0 h.2).1)),
      λ h. (in_x.1 (h.0.0, h.1.0), in_y.1 (h.0.1, h.1.1), in_z.1 (h.0.2, h.1.2)),
    )

pub meet_none : (a b : Box3) → ¬ IsNonEmpty (meet_span a b) → IsMeet Empty a b
meet_none a b none = λ v w some. (λ h. absurd h, λ h. none (point_ordered (meet_span a b) v w some ((meet_is a b v w some).1 h)))

-- what is owed of a box that is tidied
pub hull_first_none : (a b result : Box3) → ¬ IsNonEmpty a → IsTidyOf b result → IsHull result a b
hull_first_none a b result none tidy =
    elim tidy [
      | inl t ↦ subst (λ (r : Box3). IsHull r a b) (sym t.1) (hull_with_none a b none)
      | inr t ↦ subst (λ (r : Box3). IsHull r a b) (sym t.1) (hull_none a b none t.0)
    ]

pub tidy_is : (b result : Box3) → IsTidyOf b result → IsTidy result
tidy_is b result tidy =
    elim tidy [
      | inl t ↦ subst IsTidy (sym t.1) (inl (nonempty_some b t.0))
      | inr t ↦ inr t.1
    ]

pub meet_tidy : (a b result : Box3) → IsTidyOf (meet_span a b) result → IsMeet result a b
meet_tidy a b result tidy =
    elim tidy [
      | inl t ↦ subst (λ (r : Box3). IsMeet r a b) (sym t.1) (meet_is a b)
      | inr t ↦ subst (λ (r : Box3). IsMeet r a b) (sym t.1) (meet_none a b t.0)
    ]

-- boxes meet where what they share has points
pub meets_is : (a b : Box3) → IsNonEmpty (meet_span a b) ↔ Meets a b
meets_is a b = (
  λ h.
      let some = nonempty_some (meet_span a b) h in
      let both = (meet_is a b some.v some.w some.positive).0 some.inside in
      record { v = some.v; w = some.w; positive = some.positive; in_first = both.0; in_second = both.1 },
  λ m. point_ordered (meet_span a b) m.v m.w m.positive ((meet_is a b m.v m.w m.positive).1 (m.in_first, m.in_second)),
)
