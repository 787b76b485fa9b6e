use Rattle.std.proofs.Common.{◌≡◌, take, fold, ℤ}
use Rattle.std.specs.Int.{int_max}
use Rattle.lattice_core.specs.declared.vector.V3.{V3}
use Rattle.lattice_core.specs.declared.limit.TheConstants.{COORD}
use Rattle.lattice_core.specs.Limits.{IsAtMost}
use Rattle.lattice_core.specs.Units.{unit_of}
use Rattle.lattice_core.specs.Vectors.{dot_product}
use Rattle.prim_arb8.specs.Faces.{vertex_at}
use Rattle.prim_arb8.proofs.face.greatest.Given as goal

abbrev pub invariant-loop-p : goal.invariant-loop-p
invariant-loop-p l = record {
  value : l.most ≡ fold (λ (m : ℤ) (p : V3). int_max m (dot_product (unit_of l.dir) p)) (dot_product (unit_of l.dir) (vertex_at l.v 1)) (take l.p-index l.v);
  size : IsAtMost COORD l.most;
}
