use Rattle.std.proofs.Common.{◌≡◌, take, fold, ℤ}
use Rattle.std.specs.Int.{int_max}
use Rattle.lattice_core.specs.declared.vector.V3.{V3}
use Rattle.lattice_core.specs.declared.limit.TheConstants.{PLACED}
use Rattle.lattice_core.specs.Limits.{IsAtMost}
use Rattle.prim_arb8.specs.Faces.{vertex_at}
use Rattle.prim_arb8.specs.Bounds.{reach_of}
use Rattle.prim_arb8.proofs.bounds.farthest.Given as goal

abbrev pub invariant-loop-p : goal.invariant-loop-p
invariant-loop-p l = record {
  value : l.most ≡ fold (λ (m : ℤ) (p : V3). int_max m (reach_of l.by l.dir p)) (reach_of l.by l.dir (vertex_at l.v 1)) (take l.p-index l.v);
  size : IsAtMost PLACED l.most;
}
