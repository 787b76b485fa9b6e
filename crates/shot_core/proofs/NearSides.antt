-- Where points of a box lie between two places of a ray, the box begins not behind the first and before the second.
use Rattle.std.proofs.Common.{◌≡◌, ℤ, pos, negsuc, ◌+ℤ◌, ◌-ℤ◌, ◌*ℤ◌, ◌<ℤ◌, ◌≤ℤ◌, ap, inl, inr, arith}
use Rattle.std.proofs.lemmas.Int.{ints, by_lt_z}
use Rattle.lattice_core.specs.declared.vector.V3.{V3}
use Rattle.lattice_core.specs.declared.boxes.Side.{Side}
use Rattle.lattice_core.specs.declared.boxes.Side.TheVariants.{Open, At}
use Rattle.lattice_core.specs.declared.boxes.Box3.{Box3}
use Rattle.lattice_core.specs.declared.boxes.Box3.TheVariants.{Empty, Span}
use Rattle.lattice_core.specs.declared.ray.Ray.{Ray}
use Rattle.lattice_core.specs.declared.ray.Dir.{Dir}
use Rattle.lattice_core.specs.declared.ray.Dir.TheVariants.{PlusX, MinusX, PlusY, MinusY, PlusZ, MinusZ}
use Rattle.lattice_core.specs.Boxes.{IsFrom, IsUpTo, HasPoint}
use Rattle.lattice_core.specs.Rays.{scaled_point}
use Rattle.lattice_core.proofs.Products.{mul_swap, add_mul, mul_at_most, below_from_mul}
use Rattle.surd_order.specs.declared.position.Pos.{Pos}
use Rattle.surd_order.specs.declared.position.Pos.TheVariants.{Frac}
use Rattle.surd_order.specs.Order.{Precedes, IsPlace}
use Rattle.surd_order.proofs.OrderLaws.{between}
use Rattle.solid_set.proofs.InsideLaws.{not_preceding}
use Rattle.shot_core.specs.RegionBoxes.{ahead_rising, ahead_falling, near_by, IsNotBefore, IsBehind}
use Rattle.solid_set.proofs.Between.{between_places}

taken_back : (a o : ℤ) → (a -ℤ o) +ℤ o ≡ a
taken_back a o = omega (arith, ints)

sub_by : (a o q : ℤ) → (a -ℤ o) *ℤ q ≡ (a *ℤ q) -ℤ (o *ℤ q)
sub_by a o q = omega (arith, ints, add_mul (a -ℤ o) o q, ap (λ x. x *ℤ q) (taken_back a o))

rising : (side : Side) (o p q : ℤ) → IsFrom side ((o *ℤ q) +ℤ (pos 1 *ℤ p)) q → IsFrom (ahead_rising side o) p q
rising Open o p q h = tt
rising (At side) o p q h = omega (arith, ints, h, sub_by side o q)

falling : (side : Side) (o p q : ℤ) → IsUpTo side ((o *ℤ q) +ℤ (negsuc 0 *ℤ p)) q → IsFrom (ahead_falling side o) p q
falling Open o p q h = tt
falling (At side) o p q h = omega (arith, ints, h, sub_by o side q)

-- a point of the box is not before its near side
near_in : (dir : Dir) (o : V3) (b : Box3) (p q : ℤ) → HasPoint b (scaled_point (record { origin = o; dir = dir }) p q) q → IsFrom (near_by dir o b) p q
near_in dir o Empty p q h = absurd h
near_in PlusX o (Span x y z) p q h = rising x.low o.x p q h.0.0
near_in MinusX o (Span x y z) p q h = falling x.high o.x p q h.0.1
near_in PlusY o (Span x y z) p q h = rising y.low o.y p q h.1.0
near_in MinusY o (Span x y z) p q h = falling y.high o.y p q h.1.1
near_in PlusZ o (Span x y z) p q h = rising z.low o.z p q h.2.0
near_in MinusZ o (Span x y z) p q h = falling z.high o.z p q h.2.1

pub near_from_point : (b : Box3) (ray : Ray) (p q : ℤ) → HasPoint b (scaled_point ray p q) q → IsFrom (near_by ray.dir ray.origin b) p q
near_from_point b ray p q h = near_in ray.dir ray.origin b p q h

-- what lies strictly between two places is not before a side
abbrev pub AreFrom : Side → Pos → Pos → Type 0
AreFrom near x y = (p q : ℤ) → pos 0 <ℤ q → Precedes x (Frac p q) → Precedes (Frac p q) y → IsFrom near p q

one : pos 0 <ℤ pos 1
one = omega (arith, ints)

-- so neither is the first of the two: there would be a fraction between it and the side, and one that the second place is behind
pub begun_by : (near : Side) (x y : Pos) → IsPlace x → Precedes x y → AreFrom near x y → IsNotBefore near x
begun_by Open x y place order from = tt
begun_by (At near) x y place order from = λ early.
    let a = between_places x y place order in
    let b = between_places x (Frac near (pos 1)) place early in
    by_lt_z (a.p *ℤ b.q) (b.p *ℤ a.q)
    (λ lt.
    let low : (near *ℤ a.q) ≤ℤ a.p = from a.p a.q a.positive a.after a.before in
    let wide : ((near *ℤ a.q) *ℤ b.q) ≤ℤ (a.p *ℤ b.q) = mul_at_most (near *ℤ a.q) a.p b.q (omega (arith, ints, b.positive)) low in
    let all : ((near *ℤ b.q) *ℤ a.q) <ℤ (b.p *ℤ a.q) = omega (arith, ints, wide, lt, mul_swap near a.q b.q) in
    let past : (near *ℤ b.q) <ℤ b.p = below_from_mul (near *ℤ b.q) b.p a.q a.positive all in
    not_preceding b.p b.q near (pos 1) b.positive one (omega (arith, ints, past)) b.before)
    (λ le.
    let before : Precedes (Frac b.p b.q) y = elim (between (Frac a.p a.q) (Frac b.p b.q) y a.before) [
      | inl wrong ↦ absurd (not_preceding a.p a.q b.p b.q a.positive b.positive le wrong)
      | inr right ↦ right
    ] in
    let low : (near *ℤ b.q) ≤ℤ b.p = from b.p b.q b.positive b.after before in
    not_preceding b.p b.q near (pos 1) b.positive one (omega (arith, ints, low)) b.before)

-- and the second is behind it
pub entered_by : (near : Side) (x y : Pos) → IsPlace x → Precedes x y → AreFrom near x y → IsBehind near y
entered_by Open x y place order from = tt
entered_by (At near) x y place order from =
    let a = between_places x y place order in
    let low : (near *ℤ a.q) ≤ℤ a.p = from a.p a.q a.positive a.after a.before in
    elim (between (Frac a.p a.q) (Frac near (pos 1)) y a.before) [
      | inl wrong ↦ absurd (not_preceding a.p a.q near (pos 1) a.positive one (omega (arith, ints, low)) wrong)
      | inr right ↦ right
    ]
