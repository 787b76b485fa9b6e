-- Boxes that are tidy and have the same points are equal.
use Rattle.std.proofs.Common.{◌≡◌, subst, ℤ, pos, ◌+ℤ◌, ◌-ℤ◌, ◌*ℤ◌, ◌<ℤ◌, ◌≤ℤ◌, refl, ap, sym, ◌∙◌, inl, inr, arith}
use Rattle.std.proofs.lemmas.Int.{ints, clamps}
use Rattle.std.specs.Int.{int_min, int_max}
use Rattle.lattice_core.specs.declared.boxes.Side.{Side}
use Rattle.lattice_core.specs.declared.boxes.Side.TheVariants.{Open, At}
use Rattle.lattice_core.specs.declared.extent.Extent.{Extent}
use Rattle.lattice_core.specs.declared.boxes.Box3.{Box3}
use Rattle.lattice_core.specs.declared.boxes.Box3.TheVariants.{Empty, Span}
use Rattle.lattice_core.specs.Boxes.{IsFrom, IsUpTo, IsBetween, HasSome, IsTidy, IsInside, IsHull, IsMeet}
use Rattle.lattice_core.specs.Extents.{AreOrdered, IsOrdered}
use Rattle.lattice_core.specs.Spans.{IsNonEmpty}
use Rattle.lattice_core.proofs.Extending.{extent, extents_same, low_in, high_in, ExtentInside}
use Rattle.lattice_core.proofs.Boxing.{point_ordered, extents_inside}
use Rattle.lattice_core.proofs.Reaching.{spans_same}

one : pos 0 <ℤ pos 1
one = omega (arith, ints)

-- no whole number is the least where the low side is open
open_low : (a : ℤ) (high : Side) → ((x w : ℤ) → pos 0 <ℤ w → IsBetween (extent Open high) x w → IsFrom (At a) x w) → ⊥
open_low a Open f =
    let no : (a *ℤ pos 1) ≤ℤ (a -ℤ pos 1) = f (a -ℤ pos 1) (pos 1) one (tt, tt) in
    omega (arith, ints)
open_low a (At b) f =
    let no : (a *ℤ pos 1) ≤ℤ int_min (a -ℤ pos 1) b = f (int_min (a -ℤ pos 1) b) (pos 1) one (tt, omega (arith, ints, clamps)) in
    omega (arith, ints, clamps)

open_high : (b : ℤ) (low : Side) → ((x w : ℤ) → pos 0 <ℤ w → IsBetween (extent low Open) x w → IsUpTo (At b) x w) → ⊥
open_high b Open f =
    let no : (b +ℤ pos 1) ≤ℤ (b *ℤ pos 1) = f (b +ℤ pos 1) (pos 1) one (tt, tt) in
    omega (arith, ints)
open_high b (At a) f =
    let no : int_max (b +ℤ pos 1) a ≤ℤ (b *ℤ pos 1) = f (int_max (b +ℤ pos 1) a) (pos 1) one (omega (arith, ints, clamps), tt) in
    omega (arith, ints, clamps)

low_same : (low high low' high' : Side) → AreOrdered low high → AreOrdered low' high' → ExtentInside (extent low high) (extent low' high') → ExtentInside (extent low' high') (extent low high) → low ≡ low'
low_same Open high Open high' p q f g = refl
low_same Open high (At b) high' p q f g = absurd (open_low b high (λ x w some h. (f x w some h).0))
low_same (At a) high Open high' p q f g = absurd (open_low a high' (λ x w some h. (g x w some h).0))
low_same (At a) high (At b) high' p q f g =
    let x : (b *ℤ pos 1) ≤ℤ a = (f a (pos 1) one (low_in a high p)).0 in
    let y : (a *ℤ pos 1) ≤ℤ b = (g b (pos 1) one (low_in b high' q)).0 in
    let e : a ≡ b = omega (arith, ints) in
    ap (λ z. At z) e

high_same : (low high low' high' : Side) → AreOrdered low high → AreOrdered low' high' → ExtentInside (extent low high) (extent low' high') → ExtentInside (extent low' high') (extent low high) → high ≡ high'
high_same low Open low' Open p q f g = refl
high_same low Open low' (At b) p q f g = absurd (open_high b low (λ x w some h. (f x w some h).1))
high_same low (At a) low' Open p q f g = absurd (open_high a low' (λ x w some h. (g x w some h).1))
high_same low (At a) low' (At b) p q f g =
    let x : a ≤ℤ (b *ℤ pos 1) = (f a (pos 1) one (high_in low a p)).1 in
    let y : b ≤ℤ (a *ℤ pos 1) = (g b (pos 1) one (high_in low' b q)).1 in
    let e : a ≡ b = omega (arith, ints) in
    ap (λ z. At z) e

extent_same : (a b : Extent) → IsOrdered a → IsOrdered b → ExtentInside a b → ExtentInside b a → a ≡ b
extent_same a b p q f g = extents_same (low_same a.low a.high b.low b.high p q f g) (high_same a.low a.high b.low b.high p q f g)

nonempty_same : (a b : Box3) → IsNonEmpty a → IsNonEmpty b → IsInside a b → IsInside b a → a ≡ b
nonempty_same Empty b p q f g = absurd p
nonempty_same (Span x y z) Empty p q f g = absurd q
nonempty_same (Span x y z) (Span x' y' z') p q f g =
    let there = extents_inside x y z x' y' z' p f in
    let back = extents_inside x' y' z' x y z q g in
    spans_same (extent_same x x' p.0 q.0 there.0 back.0) (extent_same y y' p.1 q.1 there.1 back.1) (extent_same z z' p.2 q.2 there.2 back.2)

some_nonempty : (b : Box3) → HasSome b → IsNonEmpty b
some_nonempty b h = point_ordered b h.v h.w h.positive h.inside

empty_none : (b : Box3) → b ≡ Empty → HasSome b → ⊥
empty_none b e h = some_nonempty Empty (subst HasSome e h)

pub tidy_same : (a b : Box3) → IsTidy a → IsTidy b → IsInside a b → IsInside b a → a ≡ b
tidy_same a b (inl p) (inl q) f g = nonempty_same a b (some_nonempty a p) (some_nonempty b q) f g
tidy_same a b (inl p) (inr e) f g =
    absurd (empty_none b e (record { v = p.v; w = p.w; positive = p.positive; inside = f p.v p.w p.positive p.inside }))
tidy_same a b (inr e) (inl q) f g =
    absurd (empty_none a e (record { v = q.v; w = q.w; positive = q.positive; inside = g q.v q.w q.positive q.inside }))
tidy_same a b (inr d) (inr e) f g = d ∙ sym e

-- so a hull that is tidy is the one, and so is a meet
pub hull_alike : (h k a b : Box3) → IsHull h a b → IsTidy h → IsHull k a b → IsTidy k → h ≡ k
hull_alike h k a b is tidy is' tidy' = tidy_same h k tidy tidy' (is.least k is'.first is'.second) (is'.least h is.first is.second)

pub meet_alike : (h k a b : Box3) → IsMeet h a b → IsTidy h → IsMeet k a b → IsTidy k → h ≡ k
meet_alike h k a b is tidy is' tidy' =
    tidy_same h k tidy tidy' (λ v w some there. (is' v w some).1 ((is v w some).0 there)) (λ v w some there. (is v w some).1 ((is' v w some).0 there))
