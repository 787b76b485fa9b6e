-- The box of vertices holds them.
use Rattle.std.proofs.Common.{◌<◌, ℕ, zero, suc, ℤ, ◌≤ℤ◌, List, [], ◌∷◌, fold, length, arith}
use Rattle.std.specs.Prelude.{slice_index_or}
use Rattle.std.specs.Int.{int_max}
use Rattle.std.proofs.lemmas.Int.{ints, clamps}
use Rattle.lattice_core.specs.declared.vector.V3.{V3}
use Rattle.lattice_core.specs.declared.placement.Placement.{Placement}
use Rattle.lattice_core.specs.declared.ray.Dir.{Dir}
use Rattle.lattice_core.specs.declared.ray.Dir.TheVariants.{PlusX, MinusX, PlusY, MinusY, PlusZ, MinusZ}
use Rattle.lattice_core.specs.Placements.{placed}
use Rattle.prim_arb8.specs.Faces.{vertex_at}
use Rattle.prim_arb8.specs.Bounds.{reach_of, farthest, box_of, HoldsVertices}

most : (V3 → ℤ) → ℤ → List V3 → ℤ
most g start points = fold (λ m p. int_max m (g p)) start points

grows : (g : V3 → ℤ) (points : List V3) (start : ℤ) → start ≤ℤ most g start points
unfolding most
grows g [] start = omega (arith, ints)
grows g (p ∷ points) start = let next = grows g points (int_max start (g p)) in omega (arith, ints, clamps, next)

each_below : (g : V3 → ℤ) (points : List V3) (start : ℤ) (k : ℕ) (d : V3) → k < length points → g (slice_index_or points k d) ≤ℤ most g start points
unfolding most
each_below g [] start k d lt = absurd (omega arith)
each_below g (p ∷ points) start zero d lt = let next = grows g points (int_max start (g p)) in omega (arith, ints, clamps, next)
each_below g (p ∷ points) start (suc k) d lt = each_below g points (int_max start (g p)) k d (omega arith)

reached : (by : Placement) (vertices : List V3) (dir : Dir) (k : ℕ) (d : V3) → k < length vertices → reach_of by dir (slice_index_or vertices k d) ≤ℤ farthest by vertices dir
unfolding most
reached by vertices dir k d lt = each_below (reach_of by dir) vertices (reach_of by dir (vertex_at vertices 1)) k d lt

pub vertices_held : (by : Placement) (vertices : List V3) → HoldsVertices (box_of by vertices) by vertices
vertices_held by vertices k d lt =
    let p : V3 = placed by (slice_index_or vertices k d) in
    let a = reached by vertices MinusX k d lt in
    let b = reached by vertices PlusX k d lt in
    let c = reached by vertices MinusY k d lt in
    let e = reached by vertices PlusY k d lt in
    let f = reached by vertices MinusZ k d lt in
    let g = reached by vertices PlusZ k d lt in (
      (omega (arith, ints, a), omega (arith, ints, b)),
      (omega (arith, ints, c), omega (arith, ints, e)),
      (omega (arith, ints, f), omega (arith, ints, g)),
    )
