use Rattle.std.proofs.Common.{◌≡◌, ◌∙◌, sym, ap, subst, ◌+◌, ◌<◌, length, ℤ, FitsSigned, w64, rules, arith, lit<, take, fold}
use Rattle.std.specs.Int.{int_max}
use Rattle.std.proofs.lemmas.Int.{to_z-of_z}
use Rattle.std.proofs.lemmas.List.Sums.{fold_more}
use Rattle.lattice_core.specs.declared.vector.V3.{V3}
use Rattle.lattice_core.specs.Limits.{IsAtMost}
use Rattle.lattice_core.specs.declared.limit.TheConstants.{COORD}
use Rattle.prim_arb8.proofs.Reach.{max_size}
use Rattle.lattice_core.specs.Units.{unit_of}
use Rattle.lattice_core.specs.Vectors.{dot_product, zero_vector}
use Rattle.plane_geom.proofs.Sizes.{fits64}
use Rattle.prim_arb8.specs.Faces.{vertex_at}
use Rattle.prim_arb8.proofs.face.greatest.Goals as goal

pub loop-p-preserved : goal.loop-p-preserved
loop-p-preserved c =
    let v = c.args.v.now in
    let u : V3 = unit_of c.args.dir in
    let i = c.loop-p.p-index in
    let r = c.along.result in
    let start : ℤ = dot_product u (vertex_at v 1) in
    let f : ℤ → V3 → ℤ = λ m p. int_max m (dot_product u p) in
    let within : c.loop-p.p-index < length c.args.v.now = omega arith in
    let fr : FitsSigned w64 c.along.result = fits64 COORD r (lit< tt) (c.along.ensures.size COORD (c.requires c.loop-p.p-index zero_vector within)) in
    let fx : FitsSigned w64 c.max-most.result = search rules in
    let e = simp to_z-of_z at c.max-most.ensures.value in
    let chain : c.max-most.result ≡ fold f start (take (i + 1) v) =
    e
    ∙ ap (λ (m : ℤ). int_max m r) c.loop-p.invariant.value
    ∙ ap (int_max (fold f start (take i v))) c.along.ensures.turned
    ∙ sym (fold_more f start v i zero_vector within) in
    record {
      value = simp to_z-of_z chain;
      size = simp to_z-of_z (subst (IsAtMost COORD) (sym e) (max_size COORD _ r c.loop-p.invariant.size (c.along.ensures.size COORD (c.requires c.loop-p.p-index zero_vector within))));
    }
