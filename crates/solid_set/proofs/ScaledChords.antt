-- Chords of larger spheres and of larger round sides on a larger ray.
use Rattle.std.proofs.Common.{◌≡◌, ◌<◌, ◌≤◌, ◌*◌, ℕ, zero, suc, ℤ, pos, negsuc, ◌*ℤ◌, ◌-ℤ◌, ◌<ℤ◌, Bool, true, false, cond, Option, Some, None, ap, sym, ◌∙◌, subst, arith}
use Rattle.std.proofs.lemmas.Int.{ints}
use Rattle.std.proofs.lemmas.Nat.{mul-le}
use Rattle.lattice_core.specs.declared.vector.V3.{V3}
use Rattle.lattice_core.specs.declared.ray.Ray.{Ray}
use Rattle.lattice_core.specs.Units.{unit_of}
use Rattle.lattice_core.specs.Vectors.{dot_product, vector_difference, scaled}
use Rattle.lattice_core.proofs.Products.{mul_sub, mul_below}
use Rattle.plane_geom.specs.declared.chord.Chord.{Chord}
use Rattle.plane_geom.specs.Chords.{squared, length_squared, nearest_along, half_chord_along, chord_of}
use Rattle.plane_geom.specs.Vectors.{cross_product}
use Rattle.prim_sphere.specs.Spheres.{nearest_on, half_chord_squared, chord_at}
use Rattle.prim_rcc.specs.declared.axis.Axis.{Axis}
use Rattle.prim_rcc.specs.declared.side.RoundSide.{RoundSide}
use Rattle.prim_rcc.specs.declared.side.RoundCrossing.{RoundCrossing}
use Rattle.prim_rcc.specs.declared.side.RoundCrossing.TheVariants.{Through, Holds, Misses}
use Rattle.prim_rcc.specs.Axes.{across, is_along}
use Rattle.prim_rcc.specs.Sides.{apart_on, half_chord_on, through_or_missed, held_or_missed, round_crossing}
use Rattle.prim_rcc.specs.Sides.{nearest_on as nearest_on_side}
use Rattle.solid_set.specs.Larger.{larger_ray, IsLargerRound}
use Rattle.solid_set.proofs.ScaledVectors.{dot_left, difference_scaled, past, turn_over, squared_times, length_scaled, cross_left, across_scaled}

-- chords m times as far, of m times the length
abbrev pub IsLargerChord : ℕ → Option Chord → Option Chord → Type 0
IsLargerChord m None None = Unit {0}
IsLargerChord m None (Some larger) = ⊥
IsLargerChord m (Some chord) None = ⊥
IsLargerChord m (Some chord) (Some larger) = (larger.a ≡ pos m *ℤ chord.a) × (larger.k ≡ m * m * chord.k)

-- numbers of which the one is m² times the other have one sign
square_some : (m k : ℕ) → 0 < m → 0 < k → 1 ≤ m * m * k
square_some m k some some' = mul-le 1 1 (m * m) k (mul-le 1 1 m m some some) some'

none_below : (m k j : ℕ) → 0 < m → pos j ≡ pos (m * m) *ℤ negsuc k → ⊥
none_below m k j some e =
    let wide : pos 0 <ℤ pos (m * m) = let it = mul-le 1 1 m m some some in omega (arith, ints, it) in
    let low : (negsuc k *ℤ pos (m * m)) <ℤ (pos 0 *ℤ pos (m * m)) = mul_below (negsuc k) (pos 0) (pos (m * m)) wide (omega (arith, ints)) in
    omega (arith, ints, low, turn_over (negsuc k) (pos (m * m)), e)

by_sign : (P : ℤ → ℤ → Type 0) (m : ℕ) (z z' : ℤ) → 0 < m → z' ≡ pos (m * m) *ℤ z
    → P (pos zero) (pos zero) → ((k j : ℕ) → suc j ≡ m * m * suc k → P (pos (suc k)) (pos (suc j))) → ((k j : ℕ) → P (negsuc k) (negsuc j)) → P z z'
by_sign P m (pos zero) (pos zero) some f none over under = none
by_sign P m (pos zero) (pos (suc j)) some f none over under = absurd (omega (arith, ints, f))
by_sign P m (pos zero) (negsuc j) some f none over under = absurd (omega (arith, ints, f))
by_sign P m (pos (suc k)) (pos zero) some f none over under = let it = square_some m (suc k) some (omega arith) in absurd (omega (arith, ints, f, it))
by_sign P m (pos (suc k)) (pos (suc j)) some f none over under = over k j (omega (arith, ints, f))
by_sign P m (pos (suc k)) (negsuc j) some f none over under = let it = square_some m (suc k) some (omega arith) in absurd (omega (arith, ints, f, it))
by_sign P m (negsuc k) (pos zero) some f none over under = absurd (none_below m k zero some f)
by_sign P m (negsuc k) (pos (suc j)) some f none over under = absurd (none_below m k (suc j) some f)
by_sign P m (negsuc k) (negsuc j) some f none over under = under k j

chord_times : (m : ℕ) (a a' z z' : ℤ) → 0 < m → a' ≡ pos m *ℤ a → z' ≡ pos (m * m) *ℤ z → IsLargerChord m (chord_of a z) (chord_of a' z')
chord_times m a a' z z' some e f = by_sign (λ x y. IsLargerChord m (chord_of a x) (chord_of a' y)) m z z' some f tt (λ k j g. (e, g)) (λ k j. tt)

-- ---- spheres
module _ (m : ℕ) (c c' : V3) (r r' : ℤ) (ray : Ray) (some : 0 < m) (centre : c' ≡ scaled (pos m) c) (radius : r' ≡ pos m *ℤ r) where
  away : vector_difference c' (scaled (pos m) ray.origin) ≡ scaled (pos m) (vector_difference c ray.origin)
  away = ap (λ (v : V3). vector_difference v (scaled (pos m) ray.origin)) centre ∙ difference_scaled (pos m) c ray.origin

  nearest : nearest_on c' (larger_ray m ray) ≡ pos m *ℤ nearest_on c ray
  nearest = ap (λ (v : V3). dot_product v (unit_of ray.dir)) away ∙ dot_left (pos m) (vector_difference c ray.origin) (unit_of ray.dir)

  half_chord : half_chord_squared c' r' (larger_ray m ray) ≡ pos (m * m) *ℤ half_chord_squared c r ray
  half_chord =
      let near : squared (nearest_on c' (larger_ray m ray)) ≡ (pos m *ℤ pos m) *ℤ squared (nearest_on c ray) = ap squared nearest ∙ squared_times (pos m) (nearest_on c ray) in
      let round : squared r' ≡ (pos m *ℤ pos m) *ℤ squared r = ap squared radius ∙ squared_times (pos m) r in
      let long : length_squared (vector_difference c' (scaled (pos m) ray.origin)) ≡ (pos m *ℤ pos m) *ℤ length_squared (vector_difference c ray.origin) =
      ap length_squared away ∙ length_scaled (pos m) (vector_difference c ray.origin) in
      let l = length_squared (vector_difference c ray.origin) in
      let n = squared (nearest_on c ray) in
      omega (arith, ints, near, round, long, mul_sub (pos m *ℤ pos m) (squared r) (l -ℤ n), mul_sub (pos m *ℤ pos m) l n)

  pub chord_larger : IsLargerChord m (chord_at c r ray) (chord_at c' r' (larger_ray m ray))
  chord_larger = chord_times m (nearest_on c ray) (nearest_on c' (larger_ray m ray)) (half_chord_squared c r ray) (half_chord_squared c' r' (larger_ray m ray)) some nearest half_chord

-- ---- round sides
abbrev pub IsLargerRoundCrossing : ℕ → RoundCrossing → RoundCrossing → Type 0
IsLargerRoundCrossing m (Through chord) (Through larger) = IsLargerChord m (Some chord) (Some larger)
IsLargerRoundCrossing m Holds Holds = Unit {0}
IsLargerRoundCrossing m Misses Misses = Unit {0}
IsLargerRoundCrossing m x y = ⊥

through_times : (m : ℕ) (x y : Option Chord) → IsLargerChord m x y → IsLargerRoundCrossing m (through_or_missed x) (through_or_missed y)
through_times m None None h = tt
through_times m None (Some y) h = absurd h
through_times m (Some x) None h = absurd h
through_times m (Some x) (Some y) h = h

held_times : (m : ℕ) (z z' : ℤ) → 0 < m → z' ≡ pos (m * m) *ℤ z → IsLargerRoundCrossing m (held_or_missed z) (held_or_missed z')
held_times m z z' some f = by_sign (λ x y. IsLargerRoundCrossing m (held_or_missed x) (held_or_missed y)) m z z' some f tt (λ k j g. tt) (λ k j. tt)

along_or_across : (m : ℕ) (b : Bool) (x x' y y' : RoundCrossing) → IsLargerRoundCrossing m x x' → IsLargerRoundCrossing m y y' → IsLargerRoundCrossing m (cond b x y) (cond b x' y')
along_or_across m true x x' y y' h g = h
along_or_across m false x x' y y' h g = g

half_times : (c : ℤ) (v e : V3) (r r' : ℤ) → r' ≡ c *ℤ r → half_chord_along (scaled c v) r' e ≡ (c *ℤ c) *ℤ half_chord_along v r e
half_times c v e r r' radius =
    let wide : length_squared e *ℤ squared r' ≡ (c *ℤ c) *ℤ (length_squared e *ℤ squared r) =
    ap (λ z. length_squared e *ℤ squared z) radius ∙ (ap (λ z. length_squared e *ℤ z) (squared_times c r) ∙ past (length_squared e) (c *ℤ c) (squared r)) in
    let apart : length_squared (cross_product (scaled c v) e) ≡ (c *ℤ c) *ℤ length_squared (cross_product v e) = ap length_squared (cross_left c v e) ∙ length_scaled c (cross_product v e) in
    ap (λ z. z -ℤ length_squared (cross_product (scaled c v) e)) wide
    ∙ (ap (λ z. ((c *ℤ c) *ℤ (length_squared e *ℤ squared r)) -ℤ z) apart ∙ sym (mul_sub (c *ℤ c) (length_squared e *ℤ squared r) (length_squared (cross_product v e))))

module _ (m : ℕ) (side larger : RoundSide) (ray : Ray) (some : 0 < m) (h : IsLargerRound m side larger) where
  abbrev e : V3
  e = unit_of ray.dir

  abbrev o : V3
  o = ray.origin

  abbrev far : V3
  far = scaled (pos m) ray.origin

  apart : apart_on larger far ≡ scaled (pos m) (apart_on side o)
  apart =
      ap (λ (a : Axis). across a (vector_difference larger.centre far)) h.axis
      ∙ ap (λ (v : V3). across side.axis (vector_difference v far)) h.centre
      ∙ ap (across side.axis) (difference_scaled (pos m) side.centre o) ∙ across_scaled side.axis (pos m) (vector_difference side.centre o)

  nearest_side : nearest_on_side larger far e ≡ pos m *ℤ nearest_on_side side o e
  nearest_side =
      ap (λ (v : V3). nearest_along v (across larger.axis e)) apart
      ∙ ap (λ (a : Axis). nearest_along (scaled (pos m) (apart_on side o)) (across a e)) h.axis ∙ dot_left (pos m) (apart_on side o) (across side.axis e)

  half_side : half_chord_on larger far e ≡ pos (m * m) *ℤ half_chord_on side o e
  half_side =
      ap (λ (v : V3). half_chord_along v larger.radius (across larger.axis e)) apart
      ∙ ap (λ (a : Axis). half_chord_along (scaled (pos m) (apart_on side o)) larger.radius (across a e)) h.axis
      ∙ half_times (pos m) (apart_on side o) (across side.axis e) side.radius larger.radius h.radius

  inside : squared larger.radius -ℤ length_squared (apart_on larger far) ≡ pos (m * m) *ℤ (squared side.radius -ℤ length_squared (apart_on side o))
  inside =
      ap (λ z. squared z -ℤ length_squared (apart_on larger far)) h.radius
      ∙ ap (λ z. z -ℤ length_squared (apart_on larger far)) (squared_times (pos m) side.radius)
      ∙ ap (λ z. ((pos m *ℤ pos m) *ℤ squared side.radius) -ℤ z) (ap length_squared apart ∙ length_scaled (pos m) (apart_on side o))
      ∙ sym (mul_sub (pos m *ℤ pos m) (squared side.radius) (length_squared (apart_on side o)))

  pub round_larger : IsLargerRoundCrossing m (round_crossing side ray) (round_crossing larger (larger_ray m ray))
  round_larger =
      let held = held_or_missed (squared side.radius -ℤ length_squared (apart_on side o)) in
      let held' = held_or_missed (squared larger.radius -ℤ length_squared (apart_on larger far)) in
      let chord = chord_of (nearest_on_side side o e) (half_chord_on side o e) in
      let chord' = chord_of (nearest_on_side larger far e) (half_chord_on larger far e) in
      subst (λ (a : Axis). IsLargerRoundCrossing m (round_crossing side ray) (cond (is_along a e) held' (through_or_missed chord'))) (sym h.axis)
      (along_or_across m (is_along side.axis e) held held' (through_or_missed chord) (through_or_missed chord')
      (held_times m (squared side.radius -ℤ length_squared (apart_on side o)) (squared larger.radius -ℤ length_squared (apart_on larger far)) some inside)
      (through_times m chord chord' (chord_times m (nearest_on_side side o e) (nearest_on_side larger far e) (half_chord_on side o e) (half_chord_on larger far e) some nearest_side half_side)))
