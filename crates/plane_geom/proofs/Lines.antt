-- Where a ball holds a line: squares of distances from it, by the part along the line and the part across.
use Rattle.std.proofs.Common.{◌≡◌, ◌↔◌, ◌∙◌, ℤ, pos, ◌+ℤ◌, ◌-ℤ◌, ◌*ℤ◌, ◌<ℤ◌, ◌≤ℤ◌, ap, sym, subst, arith}
use Rattle.std.proofs.Math.IntN.{neg_ℤ, *ℤ_comm}
use Rattle.std.proofs.lemmas.Int.{ints}
use Rattle.lattice_core.specs.declared.vector.V3.{V3}
use Rattle.lattice_core.specs.Vectors.{dot_product}
use Rattle.lattice_core.proofs.Products.{mul_assoc, mul_swap, mul_add, add_mul, mul_sub, mul_at_most, at_most_from_mul, square_at_least}
use Rattle.plane_geom.specs.Chords.{squared, length_squared, nearest_along, half_chord_along, IsNear, IsNearAlong}
use Rattle.plane_geom.specs.Vectors.{cross_product}
use Rattle.plane_geom.proofs.Cross.{sub_mul, turn_round}
use Rattle.plane_geom.proofs.Squares.{square_of_product, square_of_opposite, square_none, square_between}

pub square_of_sum : (x y : ℤ) → squared (x +ℤ y) ≡ (squared x +ℤ (pos 2 *ℤ (x *ℤ y))) +ℤ squared y
square_of_sum x y = omega (arith, ints, add_mul x y (x +ℤ y), mul_add x x y, mul_add y x y, *ℤ_comm y x)

pub square_of_difference : (x y : ℤ) → squared (x -ℤ y) ≡ (squared x -ℤ (pos 2 *ℤ (x *ℤ y))) +ℤ squared y
square_of_difference x y = omega (arith, ints, sub_mul x y (x -ℤ y), mul_sub x x y, mul_sub y x y, *ℤ_comm y x)

square_of_three : (x y z : ℤ) → squared ((x +ℤ y) +ℤ z) ≡ ((squared x +ℤ squared y) +ℤ squared z) +ℤ (pos 2 *ℤ (((x *ℤ y) +ℤ (x *ℤ z)) +ℤ (y *ℤ z)))
square_of_three x y z = omega (arith, ints, square_of_sum (x +ℤ y) z, square_of_sum x y, add_mul x y z)

-- the second factors change places
pub partners : (a b c d : ℤ) → (a *ℤ b) *ℤ (c *ℤ d) ≡ (a *ℤ d) *ℤ (c *ℤ b)
partners a b c d =
    sym (mul_assoc (a *ℤ b) c d) ∙ ap (λ (z : ℤ). z *ℤ d) (mul_swap a b c) ∙ mul_swap (a *ℤ c) b d
    ∙ ap (λ (z : ℤ). z *ℤ b) (mul_swap a c d) ∙ mul_assoc (a *ℤ d) c b

three_by_three : (a b c d e f : ℤ) → ((a +ℤ b) +ℤ c) *ℤ ((d +ℤ e) +ℤ f)
    ≡ ((((a *ℤ d) +ℤ (a *ℤ e)) +ℤ (a *ℤ f)) +ℤ (((b *ℤ d) +ℤ (b *ℤ e)) +ℤ (b *ℤ f))) +ℤ (((c *ℤ d) +ℤ (c *ℤ e)) +ℤ (c *ℤ f))
three_by_three a b c d e f =
    omega (
      arith,
      ints,
      add_mul (a +ℤ b) c ((d +ℤ e) +ℤ f),
      add_mul a b ((d +ℤ e) +ℤ f),
      mul_add a (d +ℤ e) f,
      mul_add a d e,
      mul_add b (d +ℤ e) f,
      mul_add b d e,
      mul_add c (d +ℤ e) f,
      mul_add c d e,
    )

-- the squares of the cross and of the dot product are together the product of the squares of the lengths
pub square_of_cross : (v e : V3) → length_squared (cross_product v e) ≡ (length_squared v *ℤ length_squared e) -ℤ squared (dot_product v e)
square_of_cross v e =
    gathered
    _ _ _ _ _ _ _ _ _ _ _ _ _ _ _ _ _ _ _ _
    (square_of_difference (v.y *ℤ e.z) (v.z *ℤ e.y))
    (square_of_difference (v.z *ℤ e.x) (v.x *ℤ e.z))
    (square_of_difference (v.x *ℤ e.y) (v.y *ℤ e.x))
    (square_of_three (v.x *ℤ e.x) (v.y *ℤ e.y) (v.z *ℤ e.z))
    (partners v.y e.z v.z e.y)
    (partners v.z e.x v.x e.z ∙ *ℤ_comm (v.z *ℤ e.z) (v.x *ℤ e.x))
    (partners v.x e.y v.y e.x)
    (nine v e)
  where
    all_nine : {a b c d e f g h i a' b' c' d' e' f' g' h' i' : ℤ} → a ≡ a' → b ≡ b' → c ≡ c' → d ≡ d' → e ≡ e' → f ≡ f' → g ≡ g' → h ≡ h' → i ≡ i'
        → (((a +ℤ b) +ℤ c) +ℤ ((d +ℤ e) +ℤ f)) +ℤ ((g +ℤ h) +ℤ i) ≡ (((a' +ℤ b') +ℤ c') +ℤ ((d' +ℤ e') +ℤ f')) +ℤ ((g' +ℤ h') +ℤ i')
    all_nine p1 p2 p3 p4 p5 p6 p7 p8 p9 = cc

    nine : (v e : V3) → length_squared v *ℤ length_squared e
        ≡ ((((squared (v.x *ℤ e.x) +ℤ squared (v.x *ℤ e.y)) +ℤ squared (v.x *ℤ e.z)) +ℤ ((squared (v.y *ℤ e.x) +ℤ squared (v.y *ℤ e.y)) +ℤ squared (v.y *ℤ e.z))) +ℤ ((squared (v.z *ℤ e.x) +ℤ squared (v.z *ℤ e.y)) +ℤ squared (v.z *ℤ e.z)))
    nine v e =
        three_by_three (squared v.x) (squared v.y) (squared v.z) (squared e.x) (squared e.y) (squared e.z)
        ∙ all_nine (sym (square_of_product v.x e.x)) (sym (square_of_product v.x e.y)) (sym (square_of_product v.x e.z))
        (sym (square_of_product v.y e.x)) (sym (square_of_product v.y e.y)) (sym (square_of_product v.y e.z))
        (sym (square_of_product v.z e.x)) (sym (square_of_product v.z e.y)) (sym (square_of_product v.z e.z))

    gathered : (x y z s l xx xy xz yx yy yz zx zy zz p q r pq pr qr : ℤ)
        → x ≡ (yz -ℤ (pos 2 *ℤ p)) +ℤ zy → y ≡ (zx -ℤ (pos 2 *ℤ q)) +ℤ xz → z ≡ (xy -ℤ (pos 2 *ℤ r)) +ℤ yx
        → s ≡ ((xx +ℤ yy) +ℤ zz) +ℤ (pos 2 *ℤ ((pq +ℤ pr) +ℤ qr)) → p ≡ qr → q ≡ pr → r ≡ pq
        → l ≡ (((xx +ℤ xy) +ℤ xz) +ℤ ((yx +ℤ yy) +ℤ yz)) +ℤ ((zx +ℤ zy) +ℤ zz) → (x +ℤ y) +ℤ z ≡ l -ℤ s
    gathered x y z s l xx xy xz yx yy yz zx zy zz p q r pq pr qr one two three four five six seven eight =
        omega (arith, ints, one, two, three, four, five, six, seven, eight)

-- a vector whose components are p times those of e less q times those of w
pub record IsReached (v w e : V3) (p q : ℤ) : Type 0 where
  pub x : v.x ≡ (e.x *ℤ p) -ℤ (w.x *ℤ q)
  pub y : v.y ≡ (e.y *ℤ p) -ℤ (w.y *ℤ q)
  pub z : v.z ≡ (e.z *ℤ p) -ℤ (w.z *ℤ q)

part_along : (v w e p q : ℤ) → v ≡ (e *ℤ p) -ℤ (w *ℤ q) → v *ℤ e ≡ ((e *ℤ e) *ℤ p) -ℤ ((w *ℤ e) *ℤ q)
part_along v w e p q is = ap (λ (z : ℤ). z *ℤ e) is ∙ sub_mul (e *ℤ p) (w *ℤ q) e ∙ ap (λ (z : ℤ). z -ℤ ((w *ℤ q) *ℤ e)) (mul_swap e p e) ∙ ap (λ (z : ℤ). ((e *ℤ e) *ℤ p) -ℤ z) (mul_swap w q e)

reached_along : (v w e : V3) (p q : ℤ) → IsReached v w e p q → dot_product v e ≡ (length_squared e *ℤ p) -ℤ (nearest_along w e *ℤ q)
reached_along v w e p q h =
    omega (
      arith,
      ints,
      part_along v.x w.x e.x p q h.x,
      part_along v.y w.y e.y p q h.y,
      part_along v.z w.z e.z p q h.z,
      add_mul ((e.x *ℤ e.x) +ℤ (e.y *ℤ e.y)) (e.z *ℤ e.z) p,
      add_mul (e.x *ℤ e.x) (e.y *ℤ e.y) p,
      add_mul ((w.x *ℤ e.x) +ℤ (w.y *ℤ e.y)) (w.z *ℤ e.z) q,
      add_mul (w.x *ℤ e.x) (w.y *ℤ e.y) q,
    )

part_across : (a b c d e f p q : ℤ) → a ≡ (b *ℤ p) -ℤ (c *ℤ q) → d ≡ (e *ℤ p) -ℤ (f *ℤ q) → squared ((a *ℤ e) -ℤ (d *ℤ b)) ≡ squared ((c *ℤ e) -ℤ (f *ℤ b)) *ℤ squared q
part_across a b c d e f p q one two =
    let first : a *ℤ e ≡ ((b *ℤ p) *ℤ e) -ℤ ((c *ℤ q) *ℤ e) = ap (λ (z : ℤ). z *ℤ e) one ∙ sub_mul (b *ℤ p) (c *ℤ q) e in
    let second : d *ℤ b ≡ ((e *ℤ p) *ℤ b) -ℤ ((f *ℤ q) *ℤ b) = ap (λ (z : ℤ). z *ℤ b) two ∙ sub_mul (e *ℤ p) (f *ℤ q) b in
    let opposite : (a *ℤ e) -ℤ (d *ℤ b) ≡ neg_ℤ (((c *ℤ e) -ℤ (f *ℤ b)) *ℤ q) =
    omega (arith, ints, first, second, turn_round b p e, mul_swap c q e, mul_swap f q b, sub_mul (c *ℤ e) (f *ℤ b) q) in
    square_of_opposite ((a *ℤ e) -ℤ (d *ℤ b)) (((c *ℤ e) -ℤ (f *ℤ b)) *ℤ q) opposite ∙ square_of_product ((c *ℤ e) -ℤ (f *ℤ b)) q

reached_across : (v w e : V3) (p q : ℤ) → IsReached v w e p q → length_squared (cross_product v e) ≡ length_squared (cross_product w e) *ℤ squared q
reached_across v w e p q h =
    omega (
      arith,
      ints,
      part_across v.y e.y w.y v.z e.z w.z p q h.y h.z,
      part_across v.z e.z w.z v.x e.x w.x p q h.z h.x,
      part_across v.x e.x w.x v.y e.y w.y p q h.x h.y,
      add_mul (squared (cross_product w e).x +ℤ squared (cross_product w e).y) (squared (cross_product w e).z) (squared q),
      add_mul (squared (cross_product w e).x) (squared (cross_product w e).y) (squared q),
    )

-- within a radius is near the middle of the chord
pub near_along : (v w e : V3) (r p q : ℤ) → IsReached v w e p q → pos 0 <ℤ length_squared e
    → (length_squared v ≤ℤ squared (r *ℤ q)) ↔ IsNearAlong (length_squared e) (nearest_along w e) (half_chord_along w r e) p q
near_along v w e r p q h some =
    let parts : length_squared v *ℤ length_squared e ≡ squared ((length_squared e *ℤ p) -ℤ (nearest_along w e *ℤ q)) +ℤ (length_squared (cross_product w e) *ℤ squared q) =
    split (length_squared v *ℤ length_squared e) _ _ _ _ (square_of_cross v e) (reached_across v w e p q h) (ap squared (reached_along v w e p q h)) in
    let whole : squared (r *ℤ q) *ℤ length_squared e ≡ (length_squared e *ℤ squared r) *ℤ squared q =
    ap (λ (z : ℤ). z *ℤ length_squared e) (square_of_product r q) ∙ turn_all (squared r) (squared q) (length_squared e) in
    let rest = sub_mul (length_squared e *ℤ squared r) (length_squared (cross_product w e)) (squared q) in (
      λ le. small _ _ _ _ _ _ (mul_at_most (length_squared v) (squared (r *ℤ q)) (length_squared e) (omega (arith, ints, some)) le) parts whole rest,
      λ near. at_most_from_mul (length_squared v) (squared (r *ℤ q)) (length_squared e) some (large _ _ _ _ _ _ near parts whole rest),
    )
  where
    split : (l c d cq n : ℤ) → c ≡ l -ℤ d → c ≡ cq → d ≡ n → l ≡ n +ℤ cq
    split l c d cq n one two three = omega (arith, ints, one, two, three)

    turn_all : (a b c : ℤ) → (a *ℤ b) *ℤ c ≡ (c *ℤ a) *ℤ b
    turn_all a b c = mul_swap a b c ∙ ap (λ (z : ℤ). z *ℤ b) (*ℤ_comm a c)

    small : (vl rl n cq erq kq : ℤ) → vl ≤ℤ rl → vl ≡ n +ℤ cq → rl ≡ erq → kq ≡ erq -ℤ cq → n ≤ℤ kq
    small vl rl n cq erq kq le one two three = omega (arith, ints, le, one, two, three)

    large : (vl rl n cq erq kq : ℤ) → n ≤ℤ kq → vl ≡ n +ℤ cq → rl ≡ erq → kq ≡ erq -ℤ cq → vl ≤ℤ rl
    large vl rl n cq erq kq le one two three = omega (arith, ints, le, one, two, three)

-- where e · e is 1
pub near_at_pace_one : (pace b k p q : ℤ) → pace ≡ pos 1 → IsNearAlong pace b k p q ↔ IsNear b k p q
near_at_pace_one pace b k p q one =
    let same : (pace *ℤ p) -ℤ (b *ℤ q) ≡ p -ℤ (b *ℤ q) = let e : pace *ℤ p ≡ pos 1 *ℤ p = ap (λ (z : ℤ). z *ℤ p) one in omega (arith, ints, e) in
    (λ h. subst (λ (z : ℤ). squared z ≤ℤ (k *ℤ squared q)) same h, λ h. subst (λ (z : ℤ). squared z ≤ℤ (k *ℤ squared q)) (sym same) h)

-- what is near a place by no chord is at that place
pub near_none : (a k p q : ℤ) → k ≤ℤ pos 0 → IsNear a k p q → p ≡ a *ℤ q
near_none a k p q low h =
    let above : (k *ℤ squared q) ≤ℤ (pos 0 *ℤ squared q) = mul_at_most k (pos 0) (squared q) (square_at_least q) low in
    let gone : p -ℤ (a *ℤ q) ≡ pos 0 = square_none (p -ℤ (a *ℤ q)) (between (squared (p -ℤ (a *ℤ q))) (k *ℤ squared q) (squared q) h above) in
    omega (arith, ints)
  where
    between : (x y z : ℤ) → x ≤ℤ y → y ≤ℤ (pos 0 *ℤ z) → x ≤ℤ pos 0
    between x y z one two = omega (arith, ints)

-- a coordinate v / w that is at most r away from c
pub within_radius : (v c r w : ℤ) → pos 0 ≤ℤ r → pos 0 <ℤ w → squared (v -ℤ (c *ℤ w)) ≤ℤ squared (r *ℤ w) → (((c -ℤ r) *ℤ w) ≤ℤ v) × (v ≤ℤ ((c +ℤ r) *ℤ w))
within_radius v c r w high some le =
    let more : (pos 0 *ℤ w) ≤ℤ (r *ℤ w) = mul_at_most (pos 0) r w (omega (arith, ints)) high in
    let found = square_between (v -ℤ (c *ℤ w)) (r *ℤ w) (omega (arith, ints, more)) le in
    let down = sub_mul c r w in
    let up = add_mul c r w in
    (omega (arith, ints, found.0, down), omega (arith, ints, found.1, up))
