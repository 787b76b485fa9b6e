-- Bounding boxes: what lies in one is missed by what misses it.
use Rattle.std.proofs.Common.{◌≡◌, ℤ, pos, ◌<ℤ◌, ◌≤ℤ◌, ℕ, List, [], ◌∷◌, filter, Bool, true, false, ◌&&◌, IsTrue, refl, sym, ◌∙◌, arith}
use Rattle.std.proofs.lemmas.Bool.{and_parts, and_from, true≢false}
use Rattle.std.proofs.lemmas.Int.{ints, clamps}
use Rattle.std.proofs.lemmas.List.Elements.{All-nil, All-cons, All-weaker}
use Rattle.lattice_core.specs.declared.vector.V3.{V3}
use Rattle.lattice_core.specs.declared.boxes.Side.{Side}
use Rattle.lattice_core.specs.declared.boxes.Side.TheVariants.{Open, At}
use Rattle.lattice_core.specs.declared.extent.Extent.{Extent}
use Rattle.lattice_core.specs.declared.boxes.Box3.{Box3}
use Rattle.lattice_core.specs.declared.boxes.Box3.TheVariants.{Empty, Span}
use Rattle.lattice_core.specs.Extents.{hull_low, hull_high, hull_extent}
use Rattle.lattice_core.specs.Boxes.{IsFrom, IsUpTo, IsBetween, HasPoint}
use Rattle.lattice_core.proofs.Products.{mul_at_most}
use Rattle.box_index.specs.Bounds.{IsLower, IsHigher, HoldsExtent, Holds, around, all_points}
use Rattle.box_index.specs.Reaches.{are_ordered, do_overlap, do_touch}
use Rattle.box_index.specs.Nodes.{box_at, is_touched, AreHeld}
use Rattle.box_index.proofs.Members.{none_pass}
use Rattle.box_index.proofs.Touching.{sides_tell}

pub fails_too : (a b : Bool) → (IsTrue b → IsTrue a) → a ≡ false → b ≡ false
fails_too a true f h = absurd (true≢false (sym (f refl) ∙ h))
fails_too a false f h = refl

-- ---- sides
lower_itself : (a : Side) → IsLower a a
lower_itself Open = tt
lower_itself (At a) = omega (arith, ints)

higher_itself : (a : Side) → IsHigher a a
higher_itself Open = tt
higher_itself (At a) = omega (arith, ints)

lower_left : (a b : Side) → IsLower (hull_low a b) a
lower_left Open b = tt
lower_left (At a) Open = tt
lower_left (At a) (At b) = omega (arith, ints, clamps)

lower_right : (a b : Side) → IsLower (hull_low a b) b
lower_right Open b = tt
lower_right (At a) Open = tt
lower_right (At a) (At b) = omega (arith, ints, clamps)

higher_left : (a b : Side) → IsHigher (hull_high a b) a
higher_left Open b = tt
higher_left (At a) Open = tt
higher_left (At a) (At b) = omega (arith, ints, clamps)

higher_right : (a b : Side) → IsHigher (hull_high a b) b
higher_right Open b = tt
higher_right (At a) Open = tt
higher_right (At a) (At b) = omega (arith, ints, clamps)

lower_trans : (a b c : Side) → IsLower a b → IsLower b c → IsLower a c
lower_trans Open b c h k = tt
lower_trans (At a) Open c h k = absurd h
lower_trans (At a) (At b) Open h k = absurd k
lower_trans (At a) (At b) (At c) h k = omega (arith, ints, h, k)

higher_trans : (a b c : Side) → IsHigher a b → IsHigher b c → IsHigher a c
higher_trans Open b c h k = tt
higher_trans (At a) Open c h k = absurd h
higher_trans (At a) (At b) Open h k = absurd k
higher_trans (At a) (At b) (At c) h k = omega (arith, ints, h, k)

-- ---- bounds
extent_itself : (a : Extent) → HoldsExtent a a
extent_itself a = (lower_itself a.low, higher_itself a.high)

hull_left : (a b : Extent) → HoldsExtent (hull_extent a b) a
hull_left a b = (lower_left a.low b.low, higher_left a.high b.high)

hull_right : (a b : Extent) → HoldsExtent (hull_extent a b) b
hull_right a b = (lower_right a.low b.low, higher_right a.high b.high)

extent_trans : (a b c : Extent) → HoldsExtent a b → HoldsExtent b c → HoldsExtent a c
extent_trans a b c h k = (lower_trans a.low b.low c.low h.0 k.0, higher_trans a.high b.high c.high h.1 k.1)

holds_itself : (b : Box3) → Holds b b
holds_itself Empty = tt
holds_itself (Span x y z) = (extent_itself x, extent_itself y, extent_itself z)

pub around_left : (a b : Box3) → Holds (around a b) a
around_left Empty b = tt
around_left (Span x y z) Empty = holds_itself (Span x y z)
around_left (Span x y z) (Span u v w) = (hull_left x u, hull_left y v, hull_left z w)

pub around_right : (a b : Box3) → Holds (around a b) b
around_right Empty b = holds_itself b
around_right (Span x y z) Empty = tt
around_right (Span x y z) (Span u v w) = (hull_right x u, hull_right y v, hull_right z w)

holds_trans : (a b c : Box3) → Holds a b → Holds b c → Holds a c
holds_trans a b Empty h k = tt
holds_trans a Empty (Span x y z) h k = absurd k
holds_trans Empty (Span u v w) (Span x y z) h k = absurd h
holds_trans (Span r s t) (Span u v w) (Span x y z) h k = (extent_trans r u x h.0 k.0, extent_trans s v y h.1 k.1, extent_trans t w z h.2 k.2)

all_points_hold : (b : Box3) → Holds all_points b
all_points_hold Empty = tt
all_points_hold (Span x y z) = ((tt, tt), (tt, tt), (tt, tt))

-- ---- the boxes at places
pub held_in : (boxes : List Box3) (bounds part : Box3) (places : List ℕ) → Holds bounds part → AreHeld boxes part places → AreHeld boxes bounds places
held_in boxes bounds part places within held = All-weaker (λ i. Holds part (box_at boxes i)) (λ i. Holds bounds (box_at boxes i)) (λ i h. holds_trans bounds part (box_at boxes i) within h) places held

pub all_held : (boxes : List Box3) (places : List ℕ) → AreHeld boxes all_points places
all_held boxes [] = All-nil (λ i. Holds all_points (box_at boxes i))
all_held boxes (x ∷ xs) = All-cons (λ i. Holds all_points (box_at boxes i)) x xs (all_points_hold (box_at boxes x)) (all_held boxes xs)

-- ---- points
from_held : (a b : Side) (c q : ℤ) → pos 0 <ℤ q → IsLower a b → IsFrom b c q → IsFrom a c q
from_held Open b c q some h k = tt
from_held (At a) Open c q some h k = absurd h
from_held (At a) (At b) c q some h k = let m = mul_at_most a b q (omega (arith, ints, some)) h in omega (arith, ints, m, k)

up_to_held : (a b : Side) (c q : ℤ) → pos 0 <ℤ q → IsHigher a b → IsUpTo b c q → IsUpTo a c q
up_to_held Open b c q some h k = tt
up_to_held (At a) Open c q some h k = absurd h
up_to_held (At a) (At b) c q some h k = let m = mul_at_most b a q (omega (arith, ints, some)) h in omega (arith, ints, m, k)

between_held : (a b : Extent) (c q : ℤ) → pos 0 <ℤ q → HoldsExtent a b → IsBetween b c q → IsBetween a c q
between_held a b c q some h k = (from_held a.low b.low c q some h.0 k.0, up_to_held a.high b.high c q some h.1 k.1)

pub point_held : (bounds b : Box3) → Holds bounds b → (v : V3) (q : ℤ) → pos 0 <ℤ q → HasPoint b v q → HasPoint bounds v q
point_held bounds Empty h v q some k = absurd k
point_held Empty (Span x y z) h v q some k = absurd h
point_held (Span r s t) (Span x y z) h v q some k = (between_held r x v.x q some h.0 k.0, between_held s y v.y q some h.1 k.1, between_held t z v.z q some h.2 k.2)

-- ---- windows
begins_before : (a b high : Side) → IsLower a b → IsTrue (are_ordered b high) → IsTrue (are_ordered a high)
begins_before Open b high h k = refl
begins_before (At a) Open high h k = absurd h
begins_before (At a) (At b) Open h k = refl
begins_before (At a) (At b) (At c) h k = let le : b ≤ℤ c = (sides_tell (At b) (At c)).0 k in (sides_tell (At a) (At c)).1 (omega (arith, ints, h, le))

ends_after : (low a b : Side) → IsHigher a b → IsTrue (are_ordered low b) → IsTrue (are_ordered low a)
ends_after Open a b h k = refl
ends_after (At l) Open b h k = refl
ends_after (At l) (At a) Open h k = absurd h
ends_after (At l) (At a) (At b) h k = let le : l ≤ℤ b = (sides_tell (At l) (At b)).0 k in (sides_tell (At l) (At a)).1 (omega (arith, ints, h, le))

overlap_held : (a b w : Extent) → HoldsExtent a b → IsTrue (do_overlap b w) → IsTrue (do_overlap a w)
overlap_held a b w h k =
    let both = and_parts (are_ordered b.low w.high) (are_ordered w.low b.high) k in
    and_from _ _ (begins_before a.low b.low w.high h.0 both.0) (ends_after w.low a.high b.high h.1 both.1)

touch_held : (bounds b window : Box3) → Holds bounds b → IsTrue (do_touch b window) → IsTrue (do_touch bounds window)
touch_held bounds Empty window h k = absurd (true≢false (sym k))
touch_held Empty (Span x y z) window h k = absurd h
touch_held (Span r s t) (Span x y z) Empty h k = absurd (true≢false (sym k))
touch_held (Span r s t) (Span x y z) (Span u v w) h k =
    let a = and_parts (do_overlap x u) (do_overlap y v && do_overlap z w) k in
    let b = and_parts (do_overlap y v) (do_overlap z w) a.1 in
    and_from _ _ (overlap_held r x u h.0 a.0) (and_from _ _ (overlap_held s y v h.1 b.0) (overlap_held t z w h.2 b.1))

-- a window that doesn't touch bounds touches none of the boxes that they hold
pub none_touched : (boxes : List Box3) (bounds window : Box3) (places : List ℕ) → AreHeld boxes bounds places → do_touch bounds window ≡ false → filter (is_touched boxes window) places ≡ []
none_touched boxes bounds window places held none =
    none_pass (is_touched boxes window) places
    (All-weaker (λ i. Holds bounds (box_at boxes i)) (λ i. is_touched boxes window i ≡ false) (λ i h. fails_too (do_touch bounds window) (do_touch (box_at boxes i) window) (touch_held bounds (box_at boxes i) window h) none) places held)
