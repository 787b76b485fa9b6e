-- What faces do to a line tells which of its points they hold.
use Rattle.std.proofs.Common.{◌≡◌, ◌↔◌, ◌∙◌, ◌<◌, ℕ, zero, suc, ℤ, pos, negsuc, ◌-ℤ◌, ◌*ℤ◌, ◌<ℤ◌, ◌≤ℤ◌, Bool, true, false, cond, List, [], ◌∷◌, ◌++◌, Option, Some, None, refl, ap, sym, subst, inl, inr, arith}
use Rattle.std.proofs.lemmas.Int.{ints}
use Rattle.std.proofs.lemmas.Bool.Decides.{Decides-int_eq}
use Rattle.std.proofs.Math.IntN.{neg_ℤ, *ℤ_comm}
use Rattle.std.specs.Cmp.{int_ranks}
use Rattle.std.specs.Ordering.{int_cmp, MatchOrdering}
use Rattle.std.specs.declared.cmp.Ordering.{Ordering}
use Rattle.std.specs.declared.cmp.Ordering.TheVariants.{Less, Equal, Greater}
use Rattle.lattice_core.specs.declared.vector.V3.{V3}
use Rattle.lattice_core.specs.Vectors.{vector_difference}
use Rattle.lattice_core.proofs.Products.{mul_neg, square_at_least}
use Rattle.plane_geom.specs.declared.plane.Plane.{Plane}
use Rattle.plane_geom.specs.Edges.{HoldsAlong}
use Rattle.plane_geom.specs.Crossings.{holds_along}
use Rattle.plane_geom.specs.Planes.{slope_along, start_at, PlaneHoldsAlong}
use Rattle.plane_geom.specs.Chords.{squared, length_squared, nearest_along, half_chord_along, IsNear, IsNearAlong}
use Rattle.plane_geom.proofs.Cross.{sub_mul}
use Rattle.plane_geom.proofs.Lines.{near_none}
use Rattle.prim_sphere.specs.Spheres.{SphereHoldsAlong}
use Rattle.prim_sphere.proofs.Chords.{line_near}
use Rattle.prim_rcc.specs.declared.axis.Axis.{Axis}
use Rattle.prim_rcc.specs.declared.side.RoundSide.{RoundSide}
use Rattle.prim_rcc.specs.Axes.{across, across_squared, IsAlong, is_along}
use Rattle.prim_rcc.specs.Sides.{RoundHolds, apart_on, nearest_on, half_chord_on}
use Rattle.prim_rcc.proofs.Rounds.{round_near, round_along}
use Rattle.surd_order.specs.declared.position.Pos.{Pos}
use Rattle.surd_order.specs.declared.position.Pos.TheVariants as position
use Rattle.surd_order.specs.Order.{Precedes}
use Rattle.surd_order.proofs.OrderLaws.{not_before_fraction}
use Rattle.surd_quot.specs.declared.position.QPos.{QPos}
use Rattle.surd_quot.specs.declared.position.QPos.TheVariants.{Frac, Quot}
use Rattle.surd_quot.specs.Positions.{IsQuotientPlace}
use Rattle.surd_quot.proofs.Compared.{times_once, to_positions, to_quotients}
use Rattle.surd_quot.proofs.Quotients.{plain_order, quotient_order}
use Rattle.solid_set.specs.declared.surface.Round.{Round}
use Rattle.solid_set.specs.declared.surface.Surface.{Surface}
use Rattle.solid_set.specs.PlacedFaces.{planes_of_faces, round_of, side_around, AllHoldAlong, HoldsAround, RoundHoldsAlong, IsInsideAlong}
use Rattle.solid_set.proofs.InsideLaws.{none_of_or, missed_or, not_preceding, preceding}
use Rattle.solid_set.proofs.BallLaws.{near_not_before, near_not_after, near_from}
use Rattle.solid_set.proofs.HitPlaceLaws.{not_near}
use Rattle.oblique_ray.specs.Cuts.{LineCut, both_cut, held_or_missed, entered_at, left_at, plane_cut, plane_cut_by, root_places, chord_cut, ball_cut, is_over, side_cut, cut_around, round_cut, planes_cut, surface_cut}
use Rattle.oblique_ray.specs.Places.{Before, AtOnePlace, IsAtOneOf}
use Rattle.oblique_ray.proofs.Foremost.{Has, has_before, has_after, has_parts, ArePlaces, places_both}
use Rattle.oblique_ray.proofs.Sizes.{some_across}
use Rattle.oblique_ray.proofs.Deciding.{Says, says_along}

-- where no face misses, a fraction is held exactly where it is before no entering place and behind no leaving one; where one
-- does, what is held is at a place where it is touched
pub record Tells (cut : LineCut) (P : Type 0) (f : QPos) : Type 0 where
  pub after : cut.missed ≡ false → P → (x : QPos) → Has cut.entered x → ¬ (Before f x)
  pub before : cut.missed ≡ false → P → (x : QPos) → Has cut.left x → ¬ (Before x f)
  pub inside : cut.missed ≡ false → ((x : QPos) → Has cut.entered x → ¬ (Before f x)) → ((x : QPos) → Has cut.left x → ¬ (Before x f)) → P
  pub touched : cut.missed ≡ true → P → IsAtOneOf cut.met f
  pub entered_met : (x : QPos) → Has cut.entered x → Has cut.met x
  pub left_met : (x : QPos) → Has cut.left x → Has cut.met x
  pub entered_places : ArePlaces cut.entered
  pub left_places : ArePlaces cut.left
  pub met_places : ArePlaces cut.met

at_before : (xs ys : List QPos) (f : QPos) → IsAtOneOf xs f → IsAtOneOf (xs ++ ys) f
at_before [] ys f h = absurd h
at_before (x ∷ xs) ys f h = elim h [ inl same ↦ inl same | inr more ↦ inr (at_before xs ys f more) ]

at_after : (xs ys : List QPos) (f : QPos) → IsAtOneOf ys f → IsAtOneOf (xs ++ ys) f
at_after [] ys f h = h
at_after (x ∷ xs) ys f h = inr (at_after xs ys f h)

-- two faces
both_tells : (c d : LineCut) (P Q : Type 0) (f : QPos) → Tells c P f → Tells d Q f → Tells (both_cut c d) (P × Q) f
both_tells c d P Q f h g = record {
  after = λ e both x has. let parts = none_of_or c.missed d.missed e in
      elim (has_parts c.entered d.entered x has) [ inl a ↦ h.after parts.0 both.0 x a | inr b ↦ g.after parts.1 both.1 x b ];
  before = λ e both x has. let parts = none_of_or c.missed d.missed e in
      elim (has_parts c.left d.left x has) [ inl a ↦ h.before parts.0 both.0 x a | inr b ↦ g.before parts.1 both.1 x b ];
  inside = λ e after before. let parts = none_of_or c.missed d.missed e in (
    h.inside parts.0 (λ x has. after x (has_before c.entered d.entered x has)) (λ x has. before x (has_before c.left d.left x has)),
    g.inside parts.1 (λ x has. after x (has_after c.entered d.entered x has)) (λ x has. before x (has_after c.left d.left x has)),
  );
  touched = λ e both. missed_or c.missed d.missed (IsAtOneOf (c.met ++ d.met) f) e
      (λ here. at_before c.met d.met f (h.touched here both.0))
      (λ there. at_after c.met d.met f (g.touched there both.1));
  entered_met = λ x has. elim (has_parts c.entered d.entered x has) [ inl a ↦ has_before c.met d.met x (h.entered_met x a) | inr b ↦ has_after c.met d.met x (g.entered_met x b) ];
  left_met = λ x has. elim (has_parts c.left d.left x has) [ inl a ↦ has_before c.met d.met x (h.left_met x a) | inr b ↦ has_after c.met d.met x (g.left_met x b) ];
  entered_places = places_both c.entered d.entered h.entered_places g.entered_places;
  left_places = places_both c.left d.left h.left_places g.left_places;
  met_places = places_both c.met d.met h.met_places g.met_places;
}

not_true : (b : Bool) (P : Type 0) → b ≡ false → b ≡ true → P
not_true b P e f = absurd (let g : false ≡ true = sym e ∙ f in cc)

-- a face that holds all or nothing
held_tells : (b : Bool) (P : Type 0) (f : QPos) → Says b P → Tells (held_or_missed b) P f
held_tells true P f h = record {
  after = λ e held x has. absurd has;
  before = λ e held x has. absurd has;
  inside = λ e after before. h;
  touched = λ e held. not_true false (IsAtOneOf [] f) refl e;
  entered_met = λ x has. absurd has;
  left_met = λ x has. absurd has;
  entered_places = tt;
  left_places = tt;
  met_places = tt;
}
held_tells false P f h = record {
  after = λ e held x has. absurd has;
  before = λ e held x has. absurd has;
  inside = λ e after before. not_true true P (let g : true ≡ false = e in g) refl;
  touched = λ e held. absurd (h held);
  entered_met = λ x has. absurd has;
  left_met = λ x has. absurd has;
  entered_places = tt;
  left_places = tt;
  met_places = tt;
}

-- fractions
pub fraction_place : (p q : ℤ) → pos 0 <ℤ q → IsQuotientPlace (Frac p q)
fraction_place p q some = record { place = some; positive = omega (arith, ints) }

pub not_before_by : (p q r s : ℤ) → pos 0 <ℤ q → pos 0 <ℤ s → (r *ℤ q) ≤ℤ (p *ℤ s) → ¬ (Before (Frac p q) (Frac r s))
not_before_by p q r s some some' le = λ h. not_preceding p q r s some some' le (plain_order (position.Frac p q) (position.Frac r s) h)

pub by_not_before : (p q r s : ℤ) → pos 0 <ℤ s → ¬ (Before (Frac p q) (Frac r s)) → (r *ℤ q) ≤ℤ (p *ℤ s)
by_not_before p q r s some h = preceding p q r s some (λ before. h (quotient_order (position.Frac p q) (position.Frac r s) before))

-- a face that is entered at a fraction
entered_tells : (r s p q : ℤ) (P : Type 0) → pos 0 <ℤ s → pos 0 <ℤ q → P ↔ ((r *ℤ q) ≤ℤ (p *ℤ s)) → Tells (entered_at (Frac r s)) P (Frac p q)
entered_tells r s p q P some some' h = record {
  after = λ e held x has. elim has [
    | inl is ↦ subst (λ (z : QPos). ¬ (Before (Frac p q) z)) is (not_before_by p q r s some' some (h.0 held))
    | inr none ↦ absurd none
  ];
  before = λ e held x has. absurd has;
  inside = λ e after before. h.1 (by_not_before p q r s some (after (Frac r s) (inl refl)));
  touched = λ e held. not_true false (IsAtOneOf (Frac r s ∷ []) (Frac p q)) refl e;
  entered_met = λ x has. has;
  left_met = λ x has. absurd has;
  entered_places = (fraction_place r s some, tt);
  left_places = tt;
  met_places = (fraction_place r s some, tt);
}

left_tells : (r s p q : ℤ) (P : Type 0) → pos 0 <ℤ s → pos 0 <ℤ q → P ↔ ((p *ℤ s) ≤ℤ (r *ℤ q)) → Tells (left_at (Frac r s)) P (Frac p q)
left_tells r s p q P some some' h = record {
  after = λ e held x has. absurd has;
  before = λ e held x has. elim has [
    | inl is ↦ subst (λ (z : QPos). ¬ (Before z (Frac p q))) is (not_before_by r s p q some some' (h.0 held))
    | inr none ↦ absurd none
  ];
  inside = λ e after before. h.1 (by_not_before r s p q some' (before (Frac r s) (inl refl)));
  touched = λ e held. not_true false (IsAtOneOf (Frac r s ∷ []) (Frac p q)) refl e;
  entered_met = λ x has. absurd has;
  left_met = λ x has. has;
  entered_places = tt;
  left_places = (fraction_place r s some, tt);
  met_places = (fraction_place r s some, tt);
}

-- planes
plane_leaves : (plane : Plane) (o e : V3) (r s p q : ℤ) → r ≡ plane.d -ℤ start_at plane o → s ≡ slope_along plane e → pos 0 <ℤ s → PlaneHoldsAlong plane o e p q ↔ ((p *ℤ s) ≤ℤ (r *ℤ q))
plane_leaves plane o e r s p q re se some =
    let gap : r *ℤ q ≡ (plane.d *ℤ q) -ℤ (start_at plane o *ℤ q) = ap (λ (z : ℤ). z *ℤ q) re ∙ sub_mul plane.d (start_at plane o) q in
    let turn : slope_along plane e *ℤ p ≡ p *ℤ s = *ℤ_comm (slope_along plane e) p ∙ ap (λ (z : ℤ). p *ℤ z) (sym se) in (
      λ holds. elim holds [
        | inl l ↦ omega (arith, ints, l.1, gap, turn)
        | inr flat ↦ absurd (omega (arith, ints, flat.0, se, some))
      ],
      λ le. inl ((λ flat. absurd (omega (arith, ints, flat, se, some))), omega (arith, ints, le, gap, turn)),
    )

plane_enters : (plane : Plane) (o e : V3) (r s p q : ℤ) → r ≡ start_at plane o -ℤ plane.d → s ≡ pos 0 -ℤ slope_along plane e → pos 0 <ℤ s → PlaneHoldsAlong plane o e p q ↔ ((r *ℤ q) ≤ℤ (p *ℤ s))
plane_enters plane o e r s p q re se some =
    let gap : r *ℤ q ≡ (start_at plane o *ℤ q) -ℤ (plane.d *ℤ q) = ap (λ (z : ℤ). z *ℤ q) re ∙ sub_mul (start_at plane o) plane.d q in
    let minus : s ≡ neg_ℤ (slope_along plane e) = omega (arith, ints, se) in
    let turn : p *ℤ s ≡ neg_ℤ (slope_along plane e *ℤ p) = ap (λ (z : ℤ). p *ℤ z) minus ∙ mul_neg p (slope_along plane e) ∙ ap neg_ℤ (*ℤ_comm p (slope_along plane e)) in (
      λ holds. elim holds [
        | inl l ↦ omega (arith, ints, l.1, gap, turn)
        | inr flat ↦ absurd (omega (arith, ints, flat.0, se, some))
      ],
      λ le. inl ((λ flat. absurd (omega (arith, ints, flat, se, some))), omega (arith, ints, le, gap, turn)),
    )

flat_held : (plane : Plane) (o e : V3) (p q : ℤ) → slope_along plane e ≡ pos 0 → PlaneHoldsAlong plane o e p q ↔ HoldsAlong plane.n (plane.d -ℤ start_at plane o)
flat_held plane o e p q flat = (
  λ held. elim held [
    | inl steep ↦ absurd (steep.0 flat)
    | inr along ↦ elim along.1 [
      | inl below ↦ inl (omega (arith, ints, below))
      | inr edge ↦ inr (omega (arith, ints, edge.0), edge.1)
    ]
  ],
  λ along. inr (
    flat,
    elim along [
      | inl over ↦ inl (omega (arith, ints, over))
      | inr edge ↦ inr (omega (arith, ints, edge.0), edge.1)
    ],
  ),
)

says_same : (b : Bool) (P Q : Type 0) → P ↔ Q → Says b Q → Says b P
says_same true P Q h says = h.1 says
says_same false P Q h says = λ p. says (h.0 p)

plane_by : (plane : Plane) (o e : V3) (p q : ℤ) → pos 0 <ℤ q → (r : Ordering) → MatchOrdering r (slope_along plane e <ℤ pos 0) (slope_along plane e ≡ pos 0) (pos 0 <ℤ slope_along plane e)
    → Tells (plane_cut_by r plane o e) (PlaneHoldsAlong plane o e p q) (Frac p q)
plane_by plane o e p q some Less h =
    let s_some : pos 0 <ℤ (pos 0 -ℤ slope_along plane e) = omega (arith, ints, h) in
    entered_tells (start_at plane o -ℤ plane.d) (pos 0 -ℤ slope_along plane e) p q (PlaneHoldsAlong plane o e p q) s_some some (plane_enters plane o e _ _ p q refl refl s_some)
plane_by plane o e p q some Equal h =
    held_tells (holds_along plane.n (plane.d -ℤ start_at plane o)) (PlaneHoldsAlong plane o e p q) (Frac p q)
    (says_same _ (PlaneHoldsAlong plane o e p q) (HoldsAlong plane.n (plane.d -ℤ start_at plane o)) (flat_held plane o e p q h) (says_along plane.n (plane.d -ℤ start_at plane o)).is)
plane_by plane o e p q some Greater h =
    left_tells (plane.d -ℤ start_at plane o) (slope_along plane e) p q (PlaneHoldsAlong plane o e p q) h some (plane_leaves plane o e _ _ p q refl refl h)

pub plane_tells : (plane : Plane) (o e : V3) (p q : ℤ) → pos 0 <ℤ q → Tells (plane_cut plane o e) (PlaneHoldsAlong plane o e p q) (Frac p q)
plane_tells plane o e p q some = plane_by plane o e p q some (int_cmp (slope_along plane e) (pos 0)) (int_ranks (slope_along plane e) (pos 0))

-- a fraction beside (b ± √k) / n is n times it beside b ± √k
root_place : (b : ℤ) (plus : Bool) (k n : ℕ) → 0 < n → IsQuotientPlace (Quot b plus k n)
root_place b plus k n some = record { place = tt; positive = omega (arith, ints, some) }

down_to : (b : ℤ) (plus : Bool) (k n : ℕ) (p q : ℤ) → 0 < n → Before (Frac p q) (Quot b plus k n) → Precedes (position.Frac (pos n *ℤ p) q) (position.Surd b plus k)
down_to b plus k n p q some h =
    subst (λ (z : Pos). Precedes (position.Frac (pos n *ℤ p) q) z) (times_once (position.Surd b plus k))
    (to_positions (position.Frac p q) (position.Surd b plus k) 1 n (omega arith) some h)

up_from : (b : ℤ) (plus : Bool) (k n : ℕ) (p q : ℤ) → 0 < n → pos 0 <ℤ q → Precedes (position.Frac (pos n *ℤ p) q) (position.Surd b plus k) → Before (Frac p q) (Quot b plus k n)
up_from b plus k n p q some some' h =
    to_quotients (position.Frac p q) (position.Surd b plus k) 1 n (omega arith) some some' tt
    (subst (λ (z : Pos). Precedes (position.Frac (pos n *ℤ p) q) z) (sym (times_once (position.Surd b plus k))) h)

root_down_to : (b : ℤ) (plus : Bool) (k n : ℕ) (p q : ℤ) → 0 < n → Before (Quot b plus k n) (Frac p q) → Precedes (position.Surd b plus k) (position.Frac (pos n *ℤ p) q)
root_down_to b plus k n p q some h =
    subst (λ (z : Pos). Precedes z (position.Frac (pos n *ℤ p) q)) (times_once (position.Surd b plus k))
    (to_positions (position.Surd b plus k) (position.Frac p q) n 1 some (omega arith) h)

root_up_from : (b : ℤ) (plus : Bool) (k n : ℕ) (p q : ℤ) → 0 < n → pos 0 <ℤ q → Precedes (position.Surd b plus k) (position.Frac (pos n *ℤ p) q) → Before (Quot b plus k n) (Frac p q)
root_up_from b plus k n p q some some' h =
    to_quotients (position.Surd b plus k) (position.Frac p q) n 1 some (omega arith) tt some'
    (subst (λ (z : Pos). Precedes z (position.Frac (pos n *ℤ p) q)) (sym (times_once (position.Surd b plus k))) h)

-- what is round and only touched holds the place where it is
at_touch : (b : ℤ) (n : ℕ) (p q : ℤ) → 0 < n → pos 0 <ℤ q → IsNear b (pos 0) (pos n *ℤ p) q → AtOnePlace (Frac p q) (Quot b false 0 n)
at_touch b n p q some some' near =
    let whole : pos n *ℤ p ≡ b *ℤ q = near_none b (pos 0) (pos n *ℤ p) q (omega (arith, ints)) near in
    record {
      not_before = λ h. near_not_before b (pos n *ℤ p) q 0 some' near (down_to b false 0 n p q some h);
      not_after = λ h. not_before_fraction (position.Surd b false 0) (pos n *ℤ p) q tt some' (at_least whole) (root_down_to b false 0 n p q some h);
    }
  where
    none : (s m : ℤ) → m ≡ pos 0 → (pos 0 *ℤ s) ≤ℤ (m *ℤ m)
    none s m e = omega (arith, ints, square_at_least m)

    at_least : pos n *ℤ p ≡ b *ℤ q → (pos 0 ≤ℤ ((b *ℤ q) -ℤ (pos n *ℤ p))) × ((pos 0 *ℤ (q *ℤ q)) ≤ℤ (((b *ℤ q) -ℤ (pos n *ℤ p)) *ℤ ((b *ℤ q) -ℤ (pos n *ℤ p))))
    at_least whole = (omega (arith, ints, whole), none (q *ℤ q) ((b *ℤ q) -ℤ (pos n *ℤ p)) (omega (arith, ints, whole)))

round_by : (n : ℕ) (b k p q : ℤ) (P : Type 0) → 0 < n → pos 0 <ℤ q → P ↔ IsNear b k (pos n *ℤ p) q → Tells (chord_cut (pos n) b k) P (Frac p q)
round_by n b (pos zero) p q P some some' h = record {
  after = λ e held x has. absurd has;
  before = λ e held x has. absurd has;
  inside = λ e after before. not_true true P (let g : true ≡ false = e in g) refl;
  touched = λ e held. inl (at_touch b n p q some some' (h.0 held));
  entered_met = λ x has. absurd has;
  left_met = λ x has. absurd has;
  entered_places = tt;
  left_places = tt;
  met_places = (root_place b false zero n some, (root_place b true zero n some, tt));
}
round_by n b (pos (suc k)) p q P some some' h = record {
  after = λ e held x has. elim has [
    | inl is ↦ subst (λ (z : QPos). ¬ (Before (Frac p q) z)) is (λ before. near_not_before b (pos n *ℤ p) q (suc k) some' (h.0 held) (down_to b false (suc k) n p q some before))
    | inr none ↦ absurd none
  ];
  before = λ e held x has. elim has [
    | inl is ↦ subst (λ (z : QPos). ¬ (Before z (Frac p q))) is (λ before. near_not_after b (pos n *ℤ p) q (suc k) some' (h.0 held) (root_down_to b true (suc k) n p q some before))
    | inr none ↦ absurd none
  ];
  inside = λ e after before. h.1
      (near_from b (pos n *ℤ p) q (suc k) some'
      (λ early. after (Quot b false (suc k) n) (inl refl) (up_from b false (suc k) n p q some some' early))
      (λ late. before (Quot b true (suc k) n) (inl refl) (root_up_from b true (suc k) n p q some some' late)));
  touched = λ e held. not_true false (IsAtOneOf (root_places (pos n) b (suc k)) (Frac p q)) refl e;
  entered_met = λ x has. elim has [ inl is ↦ inl is | inr none ↦ absurd none ];
  left_met = λ x has. elim has [ inl is ↦ inr (inl is) | inr none ↦ absurd none ];
  entered_places = (root_place b false (suc k) n some, tt);
  left_places = (root_place b true (suc k) n some, tt);
  met_places = (root_place b false (suc k) n some, (root_place b true (suc k) n some, tt));
}
round_by n b (negsuc k) p q P some some' h = held_tells false P (Frac p q) (λ held. not_near b k (pos n *ℤ p) q some' (h.0 held))

pub round_tells : (pace b k p q : ℤ) (P : Type 0) → pos 0 <ℤ pace → pos 0 <ℤ q → P ↔ IsNearAlong pace b k p q → Tells (chord_cut pace b k) P (Frac p q)
round_tells (pos n) b k p q P some some' h = round_by n b k p q P (omega (arith, ints, some)) some' h
round_tells (negsuc n) b k p q P some some' h = absurd (omega (arith, ints, some))

-- a ball
pub ball_tells : (c : V3) (r : ℤ) (o e : V3) (p q : ℤ) → pos 0 <ℤ length_squared e → pos 0 <ℤ q → Tells (ball_cut c r o e) (SphereHoldsAlong c r o e p q) (Frac p q)
ball_tells c r o e p q some some' =
    round_tells (length_squared e) (nearest_along (vector_difference c o) e) (half_chord_along (vector_difference c o) r e) p q (SphereHoldsAlong c r o e p q) some some' (line_near c r o e p q some)

-- a round side
over_says : (z : ℤ) (l r : ℤ) → r -ℤ l ≡ z → Says (is_over z) (l <ℤ r)
over_says (pos zero) l r e = λ lt. omega (arith, ints, e, lt)
over_says (pos (suc n)) l r e = omega (arith, ints, e)
over_says (negsuc n) l r e = λ lt. omega (arith, ints, e, lt)

side_by : (side : RoundSide) (o e : V3) (p q : ℤ) → pos 0 <ℤ q → (b : Bool) → is_along side.axis e ≡ b
    → Tells (cond b (held_or_missed (is_over (squared side.radius -ℤ length_squared (apart_on side o)))) (chord_cut (across_squared side.axis e) (nearest_on side o e) (half_chord_on side o e)))
    (RoundHolds side o e p q) (Frac p q)
side_by side o e p q some true is =
    let along : IsAlong side.axis e = (Decides-int_eq (across_squared side.axis e) (pos 0)).0 is in
    held_tells (is_over (squared side.radius -ℤ length_squared (apart_on side o))) (RoundHolds side o e p q) (Frac p q)
    (says_same _ (RoundHolds side o e p q) (length_squared (apart_on side o) <ℤ squared side.radius) (round_along side o e p q along)
    (over_says (squared side.radius -ℤ length_squared (apart_on side o)) (length_squared (apart_on side o)) (squared side.radius) refl))
side_by side o e p q some false is =
    let steep : ¬ (IsAlong side.axis e) = λ along. not_true (is_along side.axis e) ⊥ is ((Decides-int_eq (across_squared side.axis e) (pos 0)).1 along) in
    round_tells (across_squared side.axis e) (nearest_on side o e) (half_chord_on side o e) p q (RoundHolds side o e p q) (some_across (across side.axis e) steep) some (round_near side o e p q steep)

pub side_tells : (side : RoundSide) (o e : V3) (p q : ℤ) → pos 0 <ℤ q → Tells (side_cut side o e) (RoundHolds side o e p q) (Frac p q)
side_tells side o e p q some = side_by side o e p q some (is_along side.axis e) refl

-- what is round
around_tells : (axis : Option Axis) (c : V3) (r : ℤ) (o e : V3) (p q : ℤ) → pos 0 <ℤ length_squared e → pos 0 <ℤ q → Tells (cut_around axis c r o e) (HoldsAround axis c r o e p q) (Frac p q)
around_tells None c r o e p q some some' = ball_tells c r o e p q some some'
around_tells (Some axis) c r o e p q some some' = side_tells (side_around c r axis) o e p q some'

round_face_tells : (round : Option Round) (o e : V3) (p q : ℤ) → pos 0 <ℤ length_squared e → pos 0 <ℤ q → Tells (round_cut round o e) (RoundHoldsAlong round o e p q) (Frac p q)
round_face_tells None o e p q some some' = held_tells true (RoundHoldsAlong None o e p q) (Frac p q) tt
round_face_tells (Some round) o e p q some some' = around_tells round.axis round.centre round.radius o e p q some some'

-- planes
planes_tell : (planes : List (Option Plane)) (o e : V3) (p q : ℤ) → pos 0 <ℤ q → Tells (planes_cut planes o e) (AllHoldAlong planes o e p q) (Frac p q)
planes_tell [] o e p q some = held_tells true (AllHoldAlong [] o e p q) (Frac p q) tt
planes_tell (None ∷ planes) o e p q some = planes_tell planes o e p q some
planes_tell (Some plane ∷ planes) o e p q some =
    both_tells (plane_cut plane o e) (planes_cut planes o e) (PlaneHoldsAlong plane o e p q) (AllHoldAlong planes o e p q) (Frac p q) (plane_tells plane o e p q some) (planes_tell planes o e p q some)

pub surface_tells : (surface : Surface) (o e : V3) (p q : ℤ) → pos 0 <ℤ length_squared e → pos 0 <ℤ q → Tells (surface_cut surface o e) (IsInsideAlong surface o e p q) (Frac p q)
surface_tells surface o e p q some some' =
    both_tells (planes_cut (planes_of_faces surface) o e) (round_cut (round_of surface) o e) (AllHoldAlong (planes_of_faces surface) o e p q) (RoundHoldsAlong (round_of surface) o e p q) (Frac p q)
    (planes_tell (planes_of_faces surface) o e p q some') (round_face_tells (round_of surface) o e p q some some')
