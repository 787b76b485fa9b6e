-- The plane with its other side out, and how far vertices reach.
use Rattle.std.proofs.Common.{◌≡◌, ◌∙◌, ℤ, ap, arith}
use Rattle.std.specs.Int.{int_max}
use Rattle.std.proofs.lemmas.Int.{ints, clamps}
use Rattle.lattice_core.specs.Limits.{IsAtMost}
use Rattle.lattice_core.specs.declared.vector.V3.{V3}
use Rattle.plane_geom.specs.declared.plane.Plane.{Plane}

pub plane_same : (n m : V3) (d e : ℤ) → n ≡ m → d ≡ e → (let p : Plane = record { n = n; d = d } in p) ≡ (let p : Plane = record { n = m; d = e } in p)
plane_same n m d e p q = ap (λ (v : V3). let p : Plane = record { n = v; d = d } in p) p ∙ ap (λ (z : ℤ). let p : Plane = record { n = m; d = z } in p) q

pub max_size : (limit a b : ℤ) → IsAtMost limit a → IsAtMost limit b → IsAtMost limit (int_max a b)
max_size limit a b p q = (omega (arith, ints, clamps, p.0, q.0), omega (arith, ints, clamps, p.1, q.1))
