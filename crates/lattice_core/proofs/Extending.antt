-- Which coordinates lie in the hull of two extents and in what they share.
use Rattle.std.proofs.Common.{◌≡◌, ◌↔◌, ℤ, pos, ◌+ℤ◌, ◌-ℤ◌, ◌*ℤ◌, ◌<ℤ◌, ◌≤ℤ◌, subst, sym, arith}
use Rattle.std.proofs.lemmas.Int.{ints, clamps, by_lt_z}
use Rattle.std.specs.Int.{int_min, int_max}
use Rattle.lattice_core.specs.declared.boxes.Side.{Side}
use Rattle.lattice_core.specs.declared.boxes.Side.TheVariants.{Open, At}
use Rattle.lattice_core.specs.declared.extent.Extent.{Extent}
use Rattle.lattice_core.specs.Boxes.{IsFrom, IsUpTo, IsBetween}
use Rattle.lattice_core.specs.Extents.{AreOrdered, IsOrdered, hull_low, hull_high, hull_extent, meet_low, meet_high, meet_extent}
use Rattle.lattice_core.proofs.Products.{mul_at_most, at_most_from_mul}

abbrev pub extent : Side → Side → Extent
extent low high = record { low = low; high = high }

pub extents_same : {low high low' high' : Side} → low ≡ low' → high ≡ high' → extent low high ≡ extent low' high'
extents_same p q = λ i. record { low = p i; high = q i }

sides_ordered : (low high : Side) (x w : ℤ) → pos 0 <ℤ w → IsBetween (extent low high) x w → AreOrdered low high
sides_ordered Open high x w some h = tt
sides_ordered (At a) Open x w some h = tt
sides_ordered (At a) (At b) x w some h = at_most_from_mul a b w some (omega (arith, ints, h.0, h.1))

pub ordered : (e : Extent) (x w : ℤ) → pos 0 <ℤ w → IsBetween e x w → IsOrdered e
ordered e x w some h = sides_ordered e.low e.high x w some h

-- a coordinate between the sides
abbrev between : Side → Side → ℤ
between (At a) high = a
between Open (At b) = b
between Open Open = pos 0

is_between : (low high : Side) (w : ℤ) → pos 0 <ℤ w → AreOrdered low high → IsBetween (extent low high) (between low high *ℤ w) w
is_between Open Open w some h = (tt, tt)
is_between Open (At b) w some h = (tt, omega (arith, ints))
is_between (At a) Open w some h = (omega (arith, ints), tt)
is_between (At a) (At b) w some h = (omega (arith, ints), mul_at_most a b w (omega (arith, ints)) h)

abbrev pub seen : Extent → ℤ
seen e = between e.low e.high

pub seen_between : (e : Extent) (w : ℤ) → pos 0 <ℤ w → IsOrdered e → IsBetween e (seen e *ℤ w) w
seen_between e w some h = is_between e.low e.high w some h

from_hull_first : (a b : Side) (x w : ℤ) → pos 0 <ℤ w → IsFrom a x w → IsFrom (hull_low a b) x w
from_hull_first Open b x w some h = tt
from_hull_first (At a) Open x w some h = tt
from_hull_first (At a) (At b) x w some h =
    let le : int_min a b ≤ℤ a = omega (arith, ints, clamps) in
    let step : (int_min a b *ℤ w) ≤ℤ (a *ℤ w) = mul_at_most (int_min a b) a w (omega (arith, ints)) le in
    omega (arith, ints)

from_hull_second : (a b : Side) (x w : ℤ) → pos 0 <ℤ w → IsFrom b x w → IsFrom (hull_low a b) x w
from_hull_second Open b x w some h = tt
from_hull_second (At a) Open x w some h = tt
from_hull_second (At a) (At b) x w some h =
    let le : int_min a b ≤ℤ b = omega (arith, ints, clamps) in
    let step : (int_min a b *ℤ w) ≤ℤ (b *ℤ w) = mul_at_most (int_min a b) b w (omega (arith, ints)) le in
    omega (arith, ints)

up_to_hull_first : (a b : Side) (x w : ℤ) → pos 0 <ℤ w → IsUpTo a x w → IsUpTo (hull_high a b) x w
up_to_hull_first Open b x w some h = tt
up_to_hull_first (At a) Open x w some h = tt
up_to_hull_first (At a) (At b) x w some h =
    let le : a ≤ℤ int_max a b = omega (arith, ints, clamps) in
    let step : (a *ℤ w) ≤ℤ (int_max a b *ℤ w) = mul_at_most a (int_max a b) w (omega (arith, ints)) le in
    omega (arith, ints)

up_to_hull_second : (a b : Side) (x w : ℤ) → pos 0 <ℤ w → IsUpTo b x w → IsUpTo (hull_high a b) x w
up_to_hull_second Open b x w some h = tt
up_to_hull_second (At a) Open x w some h = tt
up_to_hull_second (At a) (At b) x w some h =
    let le : b ≤ℤ int_max a b = omega (arith, ints, clamps) in
    let step : (b *ℤ w) ≤ℤ (int_max a b *ℤ w) = mul_at_most b (int_max a b) w (omega (arith, ints)) le in
    omega (arith, ints)

from_meet : (a b : Side) (x w : ℤ) → pos 0 <ℤ w → IsFrom (meet_low a b) x w ↔ (IsFrom a x w × IsFrom b x w)
from_meet Open b x w some = (λ h. (tt, h), λ h. h.1)
from_meet (At a) Open x w some = (λ h. (h, tt), λ h. h.0)
from_meet (At a) (At b) x w some = (
  λ h.
      let one : (a *ℤ w) ≤ℤ (int_max a b *ℤ w) = mul_at_most a (int_max a b) w (omega (arith, ints)) (omega (arith, ints, clamps)) in
      let two : (b *ℤ w) ≤ℤ (int_max a b *ℤ w) = mul_at_most b (int_max a b) w (omega (arith, ints)) (omega (arith, ints, clamps)) in
      (omega (arith, ints), omega (arith, ints)),
  λ h. by_lt_z a b
      (λ lt. let e : int_max a b ≡ b = omega (arith, ints, clamps) in subst (λ (z : ℤ). (z *ℤ w) ≤ℤ x) (sym e) h.1)
      (λ le. let e : int_max a b ≡ a = omega (arith, ints, clamps) in subst (λ (z : ℤ). (z *ℤ w) ≤ℤ x) (sym e) h.0),
)

up_to_meet : (a b : Side) (x w : ℤ) → pos 0 <ℤ w → IsUpTo (meet_high a b) x w ↔ (IsUpTo a x w × IsUpTo b x w)
up_to_meet Open b x w some = (λ h. (tt, h), λ h. h.1)
up_to_meet (At a) Open x w some = (λ h. (h, tt), λ h. h.0)
up_to_meet (At a) (At b) x w some = (
  λ h.
      let one : (int_min a b *ℤ w) ≤ℤ (a *ℤ w) = mul_at_most (int_min a b) a w (omega (arith, ints)) (omega (arith, ints, clamps)) in
      let two : (int_min a b *ℤ w) ≤ℤ (b *ℤ w) = mul_at_most (int_min a b) b w (omega (arith, ints)) (omega (arith, ints, clamps)) in
      (omega (arith, ints), omega (arith, ints)),
  λ h. by_lt_z a b
      (λ lt. let e : int_min a b ≡ a = omega (arith, ints, clamps) in subst (λ (z : ℤ). x ≤ℤ (z *ℤ w)) (sym e) h.0)
      (λ le. let e : int_min a b ≡ b = omega (arith, ints, clamps) in subst (λ (z : ℤ). x ≤ℤ (z *ℤ w)) (sym e) h.1),
)

-- every coordinate of an extent is one from a side on
abbrev AllFrom : Side → Side → Side → Type 0
AllFrom low high side = (x w : ℤ) → pos 0 <ℤ w → IsBetween (extent low high) x w → IsFrom side x w

abbrev AllUpTo : Side → Side → Side → Type 0
AllUpTo low high side = (x w : ℤ) → pos 0 <ℤ w → IsBetween (extent low high) x w → IsUpTo side x w

-- a coordinate below a whole number and up to a side
abbrev under : ℤ → Side → ℤ
under l Open = l -ℤ pos 1
under l (At b) = int_min (l -ℤ pos 1) b

under_up_to : (l : ℤ) (high : Side) → IsUpTo high (under l high) (pos 1)
under_up_to l Open = tt
under_up_to l (At b) = omega (arith, ints, clamps)

under_is : (l : ℤ) (high : Side) → under l high <ℤ l
under_is l Open = omega (arith, ints)
under_is l (At b) = omega (arith, ints, clamps)

abbrev over : ℤ → Side → ℤ
over l Open = l +ℤ pos 1
over l (At b) = int_max (l +ℤ pos 1) b

over_from : (l : ℤ) (low : Side) → IsFrom low (over l low) (pos 1)
over_from l Open = tt
over_from l (At b) = omega (arith, ints, clamps)

over_is : (l : ℤ) (low : Side) → l <ℤ over l low
over_is l Open = omega (arith, ints)
over_is l (At b) = omega (arith, ints, clamps)

some_one : pos 0 <ℤ pos 1
some_one = omega (arith, ints)

pub low_in : (a : ℤ) (high : Side) → AreOrdered (At a) high → IsBetween (extent (At a) high) a (pos 1)
low_in a Open h = (omega (arith, ints), tt)
low_in a (At b) h = (omega (arith, ints), omega (arith, ints))

pub high_in : (low : Side) (b : ℤ) → AreOrdered low (At b) → IsBetween (extent low (At b)) b (pos 1)
high_in Open b h = (tt, omega (arith, ints))
high_in (At a) b h = (omega (arith, ints), omega (arith, ints))

-- a side that two extents begin from is one that their hull begins from
least_from : (la ha lb hb side : Side) → AreOrdered la ha → AreOrdered lb hb → AllFrom la ha side → AllFrom lb hb side → (x w : ℤ) → pos 0 <ℤ w → IsFrom (hull_low la lb) x w → IsFrom side x w
least_from la ha lb hb Open p q f g x w some h = tt
least_from Open ha lb hb (At l) p q f g x w some h =
    let no : (l *ℤ pos 1) ≤ℤ under l ha = f (under l ha) (pos 1) some_one (tt, under_up_to l ha) in
    let below : under l ha <ℤ l = under_is l ha in
    absurd (omega (arith, ints))
least_from (At a) ha Open hb (At l) p q f g x w some h =
    let no : (l *ℤ pos 1) ≤ℤ under l hb = g (under l hb) (pos 1) some_one (tt, under_up_to l hb) in
    let below : under l hb <ℤ l = under_is l hb in
    absurd (omega (arith, ints))
least_from (At a) ha (At b) hb (At l) p q f g x w some h =
    let one : (l *ℤ pos 1) ≤ℤ a = f a (pos 1) some_one (low_in a ha p) in
    let two : (l *ℤ pos 1) ≤ℤ b = g b (pos 1) some_one (low_in b hb q) in
    let le : l ≤ℤ int_min a b = omega (arith, ints, clamps) in
    let step : (l *ℤ w) ≤ℤ (int_min a b *ℤ w) = mul_at_most l (int_min a b) w (omega (arith, ints)) le in
    omega (arith, ints)

least_up_to : (la ha lb hb side : Side) → AreOrdered la ha → AreOrdered lb hb → AllUpTo la ha side → AllUpTo lb hb side → (x w : ℤ) → pos 0 <ℤ w → IsUpTo (hull_high ha hb) x w → IsUpTo side x w
least_up_to la ha lb hb Open p q f g x w some h = tt
least_up_to la Open lb hb (At l) p q f g x w some h =
    let no : over l la ≤ℤ (l *ℤ pos 1) = f (over l la) (pos 1) some_one (over_from l la, tt) in
    let above : l <ℤ over l la = over_is l la in
    absurd (omega (arith, ints))
least_up_to la (At a) lb Open (At l) p q f g x w some h =
    let no : over l lb ≤ℤ (l *ℤ pos 1) = g (over l lb) (pos 1) some_one (over_from l lb, tt) in
    let above : l <ℤ over l lb = over_is l lb in
    absurd (omega (arith, ints))
least_up_to la (At a) lb (At b) (At l) p q f g x w some h =
    let one : a ≤ℤ (l *ℤ pos 1) = f a (pos 1) some_one (high_in la a p) in
    let two : b ≤ℤ (l *ℤ pos 1) = g b (pos 1) some_one (high_in lb b q) in
    let le : int_max a b ≤ℤ l = omega (arith, ints, clamps) in
    let step : (int_max a b *ℤ w) ≤ℤ (l *ℤ w) = mul_at_most (int_max a b) l w (omega (arith, ints)) le in
    omega (arith, ints)

-- every coordinate of the inner extent is one of the outer extent
abbrev pub ExtentInside : Extent → Extent → Type 0
ExtentInside inner outer = (x w : ℤ) → pos 0 <ℤ w → IsBetween inner x w → IsBetween outer x w

pub hull_holds_first : (a b : Extent) → ExtentInside a (hull_extent a b)
hull_holds_first a b = λ x w some h. (from_hull_first a.low b.low x w some h.0, up_to_hull_first a.high b.high x w some h.1)

pub hull_holds_second : (a b : Extent) → ExtentInside b (hull_extent a b)
hull_holds_second a b = λ x w some h. (from_hull_second a.low b.low x w some h.0, up_to_hull_second a.high b.high x w some h.1)

pub hull_is_least : (a b other : Extent) → IsOrdered a → IsOrdered b → ExtentInside a other → ExtentInside b other → ExtentInside (hull_extent a b) other
hull_is_least a b other p q f g = λ x w some h. (
  least_from a.low a.high b.low b.high other.low p q (λ y u s k. (f y u s k).0) (λ y u s k. (g y u s k).0) x w some h.0,
  least_up_to a.low a.high b.low b.high other.high p q (λ y u s k. (f y u s k).1) (λ y u s k. (g y u s k).1) x w some h.1,
)

pub meet_shares : (a b : Extent) (x w : ℤ) → pos 0 <ℤ w → IsBetween (meet_extent a b) x w ↔ (IsBetween a x w × IsBetween b x w)
meet_shares a b x w some =
    let low = from_meet a.low b.low x w some in
    let high = up_to_meet a.high b.high x w some in (
      λ h. (((low.0 h.0).0, (high.0 h.1).0), ((low.0 h.0).1, (high.0 h.1).1)),
      λ h. (low.1 (h.0.0, h.1.0), high.1 (h.0.1, h.1.1)),
    )

-- two extents, of which the second holds some coordinate, share some exactly where each begins by the other's end and the first holds some
lower : (c : Side) → AreOrdered c Open
lower Open = tt
lower (At c) = tt

sides_share : (a b c d : Side) → AreOrdered c d → (AreOrdered a d × AreOrdered c b × AreOrdered a b) ↔ AreOrdered (meet_low a c) (meet_high b d)
sides_share Open Open c d le = (λ h. le, λ m. (tt, lower c, tt))
sides_share Open (At b) Open Open le = (λ h. tt, λ m. (tt, tt, tt))
sides_share Open (At b) Open (At d) le = (λ h. tt, λ m. (tt, tt, tt))
sides_share Open (At b) (At c) Open le = (λ h. h.1, λ m. (tt, m, tt))
sides_share Open (At b) (At c) (At d) le = (λ h. let from = h.1 in omega (arith, ints, clamps, from, le), λ m. (tt, omega (arith, ints, clamps, m), tt))
sides_share (At a) Open Open Open le = (λ h. tt, λ m. (tt, tt, tt))
sides_share (At a) Open Open (At d) le = (λ h. h.0, λ m. (m, tt, tt))
sides_share (At a) Open (At c) Open le = (λ h. tt, λ m. (tt, tt, tt))
sides_share (At a) Open (At c) (At d) le = (λ h. let to = h.0 in omega (arith, ints, clamps, to, le), λ m. (omega (arith, ints, clamps, m), tt, tt))
sides_share (At a) (At b) Open Open le = (λ h. h.2, λ m. (tt, tt, m))
sides_share (At a) (At b) Open (At d) le = (λ h. let to = h.0 in let own = h.2 in omega (arith, ints, clamps, to, own), λ m. (omega (arith, ints, clamps, m), tt, omega (arith, ints, clamps, m)))
sides_share (At a) (At b) (At c) Open le = (λ h. let from = h.1 in let own = h.2 in omega (arith, ints, clamps, from, own), λ m. (tt, omega (arith, ints, clamps, m), omega (arith, ints, clamps, m)))
sides_share (At a) (At b) (At c) (At d) le = (
  λ h. let to = h.0 in let from = h.1 in let own = h.2 in omega (arith, ints, clamps, to, from, own, le),
  λ m. (omega (arith, ints, clamps, m), omega (arith, ints, clamps, m), omega (arith, ints, clamps, m)),
)

pub share : (e other : Extent) → IsOrdered other → (AreOrdered e.low other.high × AreOrdered other.low e.high × IsOrdered e) ↔ IsOrdered (meet_extent e other)
share e other le = sides_share e.low e.high other.low other.high le
