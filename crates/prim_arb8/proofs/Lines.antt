-- Four points are on one line where every three of them are.
use Rattle.std.proofs.Common.{zero, suc, ◌≡◌, [], ◌∷◌, All, ℤ, pos, ◌-ℤ◌, ◌*ℤ◌, ap, arith}
use Rattle.std.proofs.lemmas.Int.{ints}
use Rattle.std.proofs.Math.IntN.{*ℤ_comm}
use Rattle.lattice_core.specs.declared.vector.V3.{V3}
use Rattle.lattice_core.proofs.Products.{mul_sub}
use Rattle.lattice_core.proofs.Turning.{vector_same}
use Rattle.plane_geom.specs.Planes.{AreOnOneLine}
use Rattle.plane_geom.proofs.Cross.{sub_mul}
use Rattle.prim_arb8.specs.Laws.{AreCollinear}

pub record Line (a b c : V3) : Type 0 where
  pub is : AreOnOneLine a b c

product_of_differences : (p q r s : ℤ) → (p -ℤ q) *ℤ (r -ℤ s) ≡ ((p *ℤ r) -ℤ (p *ℤ s)) -ℤ ((q *ℤ r) -ℤ (q *ℤ s))
product_of_differences p q r s = omega (arith, ints, sub_mul p q (r -ℤ s), mul_sub p r s, mul_sub q r s)

-- a component of the normal changes its sign where the first two points change places
swapped : (ay az by bz cy cz : ℤ) → ((by -ℤ ay) *ℤ (cz -ℤ az)) -ℤ ((bz -ℤ az) *ℤ (cy -ℤ ay)) ≡ pos 0 → ((ay -ℤ by) *ℤ (cz -ℤ bz)) -ℤ ((az -ℤ bz) *ℤ (cy -ℤ by)) ≡ pos 0
swapped ay az by bz cy cz h =
    omega (
      arith,
      ints,
      h,
      product_of_differences by ay cz az,
      product_of_differences bz az cy ay,
      product_of_differences ay by cz bz,
      product_of_differences az bz cy by,
      *ℤ_comm ay az,
      *ℤ_comm ay bz,
      *ℤ_comm by az,
      *ℤ_comm by bz,
    )

swap : {a b c : V3} → Line a b c → Line b a c
swap {a} {b} {c} h = record {
  is = vector_same
      (swapped a.y a.z b.y b.z c.y c.z (ap (λ (v : V3). v.x) h.is))
      (swapped a.z a.x b.z b.x c.z c.x (ap (λ (v : V3). v.y) h.is))
      (swapped a.x a.y b.x b.y c.x c.y (ap (λ (v : V3). v.z) h.is));
}

-- and where the last two do
turned_over : (p q r s : ℤ) → (p *ℤ s) -ℤ (q *ℤ r) ≡ pos 0 → (r *ℤ q) -ℤ (s *ℤ p) ≡ pos 0
turned_over p q r s h = omega (arith, ints, h, *ℤ_comm p s, *ℤ_comm q r)

turn : {a b c : V3} → Line a b c → Line a c b
turn {a} {b} {c} h = record {
  is = vector_same
      (turned_over (b.y -ℤ a.y) (b.z -ℤ a.z) (c.y -ℤ a.y) (c.z -ℤ a.z) (ap (λ (v : V3). v.x) h.is))
      (turned_over (b.z -ℤ a.z) (b.x -ℤ a.x) (c.z -ℤ a.z) (c.x -ℤ a.x) (ap (λ (v : V3). v.y) h.is))
      (turned_over (b.x -ℤ a.x) (b.y -ℤ a.y) (c.x -ℤ a.x) (c.y -ℤ a.y) (ap (λ (v : V3). v.z) h.is));
}

no_way : (p q r s : ℤ) → ((p -ℤ p) *ℤ r) -ℤ ((q -ℤ q) *ℤ s) ≡ pos 0
no_way p q r s = omega (arith, ints, sub_mul p p r, sub_mul q q s)

twice : {a c : V3} → Line a a c
twice {a} {c} = record { is = vector_same (no_way a.y a.z (c.z -ℤ a.z) (c.y -ℤ a.y)) (no_way a.z a.x (c.x -ℤ a.x) (c.z -ℤ a.z)) (no_way a.x a.y (c.y -ℤ a.y) (c.x -ℤ a.x)) }

pub all_four : (P : V3 → Type 0) (a b c d : V3) → P a → P b → P c → P d → All P (a ∷ b ∷ c ∷ d ∷ [])
all_four P a b c d h i j k zero x lt = h
all_four P a b c d h i j k (suc zero) x lt = i
all_four P a b c d h i j k (suc (suc zero)) x lt = j
all_four P a b c d h i j k (suc (suc (suc zero))) x lt = k
all_four P a b c d h i j k (suc (suc (suc (suc n)))) x lt = absurd (omega arith)

row : (a b c d x y : V3) → Line x y a → Line x y b → Line x y c → Line x y d → All (λ z. AreOnOneLine x y z) (a ∷ b ∷ c ∷ d ∷ [])
row a b c d x y h i j k = all_four (AreOnOneLine x y) a b c d h.is i.is j.is k.is

-- the lines from one of the points
lines_a : (a b c d : V3) → Line a b c → Line a b d → Line a c d → Line b c d → All (λ y. All (λ z. AreOnOneLine a y z) (a ∷ b ∷ c ∷ d ∷ [])) (a ∷ b ∷ c ∷ d ∷ [])
lines_a a b c d one two three four =
    all_four (λ y. All (λ z. AreOnOneLine a y z) (a ∷ b ∷ c ∷ d ∷ [])) a b c d
    (row a b c d a a twice twice twice twice)
    (row a b c d a b (turn twice) (swap (turn twice)) one two)
    (row a b c d a c (turn twice) (turn one) (swap (turn twice)) three)
    (row a b c d a d (turn twice) (turn two) (turn three) (swap (turn twice)))

-- the lines from one of the points
lines_b : (a b c d : V3) → Line a b c → Line a b d → Line a c d → Line b c d → All (λ y. All (λ z. AreOnOneLine b y z) (a ∷ b ∷ c ∷ d ∷ [])) (a ∷ b ∷ c ∷ d ∷ [])
lines_b a b c d one two three four =
    all_four (λ y. All (λ z. AreOnOneLine b y z) (a ∷ b ∷ c ∷ d ∷ [])) a b c d
    (row a b c d b a (swap (turn twice)) (turn twice) (swap one) (swap two))
    (row a b c d b b twice twice twice twice)
    (row a b c d b c (turn (swap one)) (turn twice) (swap (turn twice)) four)
    (row a b c d b d (turn (swap two)) (turn twice) (turn four) (swap (turn twice)))

-- the lines from one of the points
lines_c : (a b c d : V3) → Line a b c → Line a b d → Line a c d → Line b c d → All (λ y. All (λ z. AreOnOneLine c y z) (a ∷ b ∷ c ∷ d ∷ [])) (a ∷ b ∷ c ∷ d ∷ [])
lines_c a b c d one two three four =
    all_four (λ y. All (λ z. AreOnOneLine c y z) (a ∷ b ∷ c ∷ d ∷ [])) a b c d
    (row a b c d c a (swap (turn twice)) (swap (turn one)) (turn twice) (swap three))
    (row a b c d c b (turn (swap (turn one))) (swap (turn twice)) (turn twice) (swap four))
    (row a b c d c c twice twice twice twice)
    (row a b c d c d (turn (swap three)) (turn (swap four)) (turn twice) (swap (turn twice)))

-- the lines from one of the points
lines_d : (a b c d : V3) → Line a b c → Line a b d → Line a c d → Line b c d → All (λ y. All (λ z. AreOnOneLine d y z) (a ∷ b ∷ c ∷ d ∷ [])) (a ∷ b ∷ c ∷ d ∷ [])
lines_d a b c d one two three four =
    all_four (λ y. All (λ z. AreOnOneLine d y z) (a ∷ b ∷ c ∷ d ∷ [])) a b c d
    (row a b c d d a (swap (turn twice)) (swap (turn two)) (swap (turn three)) (turn twice))
    (row a b c d d b (turn (swap (turn two))) (swap (turn twice)) (swap (turn four)) (turn twice))
    (row a b c d d c (turn (swap (turn three))) (turn (swap (turn four))) (swap (turn twice)) (turn twice))
    (row a b c d d d twice twice twice twice)

pub collinear_four : (a b c d : V3) → Line a b c → Line a b d → Line a c d → Line b c d → AreCollinear (a ∷ b ∷ c ∷ d ∷ [])
collinear_four a b c d one two three four =
    all_four (λ x. All (λ y. All (λ z. AreOnOneLine x y z) (a ∷ b ∷ c ∷ d ∷ [])) (a ∷ b ∷ c ∷ d ∷ [])) a b c d
    (lines_a a b c d one two three four)
    (lines_b a b c d one two three four)
    (lines_c a b c d one two three four)
    (lines_d a b c d one two three four)
