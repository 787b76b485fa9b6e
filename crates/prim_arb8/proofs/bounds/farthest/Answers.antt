use Rattle.std.proofs.Common.{◌≡◌, ◌∙◌, sym, ap, subst, ◌+◌, ◌<◌, length, ℤ, FitsSigned, w64, rules, arith, lit<, take, fold}
use Rattle.std.specs.Int.{int_max}
use Rattle.std.proofs.lemmas.Int.{to_z-of_z}
use Rattle.std.proofs.lemmas.List.Sums.{fold_more}
use Rattle.lattice_core.specs.declared.vector.V3.{V3}
use Rattle.lattice_core.specs.declared.placement.Placement.{Placement}
use Rattle.lattice_core.specs.Limits.{IsAtMost}
use Rattle.lattice_core.specs.Vectors.{zero_vector}
use Rattle.prim_arb8.specs.Faces.{vertex_at}
use Rattle.prim_arb8.proofs.Reach.{max_size}
use Rattle.plane_geom.proofs.Sizes.{fits64}
use Rattle.prim_arb8.specs.Bounds.{reach_of}
use Rattle.lattice_core.specs.declared.limit.TheConstants.{PLACED}
use Rattle.prim_arb8.proofs.bounds.farthest.Goals as goal

pub loop-p-preserved : goal.loop-p-preserved
loop-p-preserved c =
    let v = c.args.v.now in
    let by : Placement = c.args.by.now in
    let i = c.loop-p.p-index in
    let r = c.placed_reach.result in
    let start : ℤ = reach_of c.args.by.now c.args.dir (vertex_at v 1) in
    let f : ℤ → V3 → ℤ = λ m p. int_max m (reach_of c.args.by.now c.args.dir p) in
    let fr : FitsSigned w64 c.placed_reach.result = fits64 PLACED r (lit< tt) c.placed_reach.ensures.size in
    let fx : FitsSigned w64 c.max-most.result = search rules in
    let e = simp to_z-of_z at c.max-most.ensures.value in
    let within : c.loop-p.p-index < length c.args.v.now = omega arith in
    let chain : c.max-most.result ≡ fold f start (take (i + 1) v) =
    e
    ∙ ap (λ (m : ℤ). int_max m r) c.loop-p.invariant.value
    ∙ ap (int_max (fold f start (take i v))) c.placed_reach.ensures.value
    ∙ sym (fold_more f start v i zero_vector within) in
    record {
      value = simp to_z-of_z chain;
      size = simp to_z-of_z (subst (IsAtMost PLACED) (sym e) (max_size PLACED _ r c.loop-p.invariant.size c.placed_reach.ensures.size));
    }

pub placed_reach-requires-clause-point : goal.placed_reach-requires-clause-point
placed_reach-requires-clause-point c = c.requires.points c.loop-p.p-index _ (omega arith)
