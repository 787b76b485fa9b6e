-- How large the numbers of crossings are.
use Rattle.std.proofs.Common.{◌≡◌, ◌∙◌, ℤ, pos, negsuc, zero, suc, ◌+ℤ◌, ◌-ℤ◌, ◌*ℤ◌, ◌<ℤ◌, ◌≤ℤ◌, refl, ap, sym, subst, arith, lit<, FitsSigned, w64}
use Rattle.std.proofs.lemmas.Int.{ints}
use Rattle.lattice_core.specs.declared.limit.TheConstants.{COORD, PLACED, WORLD}
use Rattle.lattice_core.specs.declared.vector.V3.{V3}
use Rattle.lattice_core.specs.Limits.{IsAtMost, IsWithin}
use Rattle.lattice_core.specs.Vectors.{vector_difference}
use Rattle.std.proofs.Math.IntN.{*ℤ_comm}
use Rattle.lattice_core.proofs.Products.{mul_sub, square_at_least}
use Rattle.plane_geom.specs.declared.limit.TheConstants.{NORMAL, GAP, REMOTE}
use Rattle.plane_geom.specs.declared.plane.Plane.{Plane}
use Rattle.plane_geom.specs.Planes.{IsWorldPlane, slope_along, start_at}
use Rattle.plane_geom.specs.Chords.{IsRadius, squared, length_squared, nearest_along, half_chord_along}
use Rattle.plane_geom.specs.Vectors.{cross_product}
use Rattle.plane_geom.proofs.Lines.{square_of_cross}
use Rattle.plane_geom.proofs.Sizes.{product_size, sum_size, dot_size, difference_size, fits64}
use Rattle.prim_rcc.specs.declared.axis.Axis.{Axis}
use Rattle.prim_rcc.specs.declared.axis.Axis.TheVariants.{X, Y, Z}
use Rattle.prim_rcc.specs.Axes.{across}
use Rattle.slant_ray.specs.declared.ray.TheConstants.{STEP}
use Rattle.oblique_ray.specs.declared.limit.TheConstants.{SLOPE, PACE, NEAREST, CHORD, OVER}

pub slope_size : (plane : Plane) (e : V3) → IsWorldPlane plane → IsWithin STEP e → IsAtMost SLOPE (slope_along plane e)
slope_size plane e size direction =
    let h = dot_size NORMAL STEP plane.n e size.normal direction in (omega (arith, ints, h.0), omega (arith, ints, h.1))

pub gap_size : (plane : Plane) (o : V3) → IsWorldPlane plane → IsWithin WORLD o → IsAtMost GAP (plane.d -ℤ start_at plane o)
gap_size plane o size origin =
    let start = dot_size NORMAL WORLD plane.n o size.normal origin in
    (omega (arith, ints, start.1, size.offset.0), omega (arith, ints, start.0, size.offset.1))

pub pace_size : (e : V3) → IsWithin STEP e → IsAtMost PACE (length_squared e)
pace_size e direction = let h = dot_size STEP STEP e e direction direction in (omega (arith, ints, h.0), omega (arith, ints, h.1))

pub nearest_size : (apart e : V3) → IsWithin REMOTE apart → IsWithin STEP e → IsAtMost NEAREST (nearest_along apart e)
nearest_size apart e apart_size direction = let h = dot_size REMOTE STEP apart e apart_size direction in (omega (arith, ints, h.0), omega (arith, ints, h.1))

-- a chord is no longer than a diameter
pub half_small : (apart e : V3) (r : ℤ) → IsWithin STEP e → IsAtMost COORD r → half_chord_along apart r e ≤ℤ CHORD
half_small apart e r direction r_size =
    let c : V3 = cross_product apart e in
    let square : IsAtMost (COORD *ℤ COORD) (squared r) = product_size COORD COORD r r r_size r_size in
    let whole : IsAtMost (PACE *ℤ (COORD *ℤ COORD)) (length_squared e *ℤ squared r) = product_size PACE (COORD *ℤ COORD) (length_squared e) (squared r) (pace_size e direction) square in
    below (length_squared e *ℤ squared r) (squared c.x) (squared c.y) (squared c.z) (omega (arith, ints, whole.1)) (square_at_least c.x) (square_at_least c.y) (square_at_least c.z)
  where
    below : (w x y z : ℤ) → w ≤ℤ CHORD → pos 0 ≤ℤ x → pos 0 ≤ℤ y → pos 0 ≤ℤ z → (w -ℤ ((x +ℤ y) +ℤ z)) ≤ℤ CHORD
    below w x y z le one two three = omega (arith, ints, le, one, two, three)

pub apart_within : (c o : V3) → IsWithin PLACED c → IsWithin WORLD o → IsWithin REMOTE (vector_difference c o)
apart_within c o c_size origin = record {
  x = difference_size PLACED WORLD c.x o.x c_size.x origin.x;
  y = difference_size PLACED WORLD c.y o.y c_size.y origin.y;
  z = difference_size PLACED WORLD c.z o.z c_size.z origin.z;
}

pub across_within : (axis : Axis) (m : ℤ) (v : V3) → IsAtMost m (pos 0) → IsWithin m v → IsWithin m (across axis v)
across_within X m v none h = record { x = none; y = h.y; z = h.z }
across_within Y m v none h = record { x = h.x; y = none; z = h.z }
across_within Z m v none h = record { x = h.x; y = h.y; z = none }

pub none_remote : IsAtMost REMOTE (pos 0)
none_remote = (omega (arith, ints), omega (arith, ints))

pub none_step : IsAtMost STEP (pos 0)
none_step = (omega (arith, ints), omega (arith, ints))

pub radius_size : (r : ℤ) → IsRadius r → IsAtMost COORD r
radius_size r h = (omega (arith, ints, h.some), h.size)

pub some_across : (v : V3) → ¬ (length_squared v ≡ pos 0) → pos 0 <ℤ length_squared v
some_across v some = above (length_squared v) (omega (arith, ints, square_at_least v.x, square_at_least v.y, square_at_least v.z)) some
  where
    above : (z : ℤ) → pos 0 ≤ℤ z → ¬ (z ≡ pos 0) → pos 0 <ℤ z
    above (pos zero) low some = absurd (some refl)
    above (pos (suc n)) low some = omega (arith, ints)
    above (negsuc n) low some = absurd (omega (arith, ints, low))

pub less_nothing : (r l : ℤ) → (r -ℤ (l -ℤ squared (pos 0))) ≡ (r -ℤ l)
less_nothing r l = omega (arith, ints)

pub over_size : (apart : V3) (r : ℤ) → IsWithin REMOTE apart → IsAtMost COORD r → IsAtMost OVER (squared r -ℤ length_squared apart)
over_size apart r apart_size r_size =
    let square : IsAtMost (COORD *ℤ COORD) (squared r) = product_size COORD COORD r r r_size r_size in
    let length : IsAtMost (pos 3 *ℤ (REMOTE *ℤ REMOTE)) (length_squared apart) = dot_size REMOTE REMOTE apart apart apart_size apart_size in
    (omega (arith, ints, square.0, length.1), omega (arith, ints, square.1, length.0))

-- E r² - |v × e|² is E (r² - |v|²) + (v · e)²
half_chord_by : (pace square length near cross : ℤ) → cross ≡ (length *ℤ pace) -ℤ near → (pace *ℤ (square -ℤ length)) +ℤ near ≡ (pace *ℤ square) -ℤ cross
half_chord_by pace square length near cross e =
    let one : pace *ℤ (square -ℤ length) ≡ (pace *ℤ square) -ℤ (pace *ℤ length) = mul_sub pace square length in
    let two : pace *ℤ length ≡ length *ℤ pace = *ℤ_comm pace length in
    omega (arith, ints, e, one, two)

pub half_chord_is : (apart : V3) (r : ℤ) (e : V3) (k pace over near : ℤ) → k ≡ (pace *ℤ over) +ℤ (near *ℤ near) → pace ≡ length_squared e → over ≡ squared r -ℤ length_squared apart
    → near ≡ nearest_along apart e → k ≡ half_chord_along apart r e
half_chord_is apart r e k pace over near is pace_is over_is near_is =
    is
    ∙ ap (λ (z : ℤ). (z *ℤ over) +ℤ (near *ℤ near)) pace_is
    ∙ ap (λ (z : ℤ). (length_squared e *ℤ z) +ℤ (near *ℤ near)) over_is
    ∙ ap (λ (z : ℤ). (length_squared e *ℤ (squared r -ℤ length_squared apart)) +ℤ squared z) near_is
    ∙ half_chord_by (length_squared e) (squared r) (length_squared apart) (squared (nearest_along apart e)) (length_squared (cross_product apart e)) (square_of_cross apart e)

pub fits_raised : (k pace over near : ℤ) → k ≡ (pace *ℤ over) +ℤ (near *ℤ near) → IsAtMost PACE pace → IsAtMost OVER over → IsAtMost NEAREST near → FitsSigned w64 k
fits_raised k pace over near is pace_size over_size near_size =
    let p = product_size PACE OVER pace over pace_size over_size in
    let n = product_size NEAREST NEAREST near near near_size near_size in
    let s = sum_size (PACE *ℤ OVER) (NEAREST *ℤ NEAREST) (pace *ℤ over) (near *ℤ near) p n in
    subst (FitsSigned w64) (sym is) (fits64 ((PACE *ℤ OVER) +ℤ (NEAREST *ℤ NEAREST)) ((pace *ℤ over) +ℤ (near *ℤ near)) (lit< tt) s)
