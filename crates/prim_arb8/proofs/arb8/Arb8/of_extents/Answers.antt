use Rattle.std.proofs.Common.{subst, List, FitsSigned, w64}
use Rattle.std.proofs.lemmas.Int.{to_z-of_z}
use Rattle.lattice_core.specs.declared.vector.V3.{V3}
use Rattle.prim_arb8.specs.Rpps.{IsMadeOf}
use Rattle.prim_arb8.proofs.Eight.{made_of}
use Rattle.prim_arb8.proofs.arb8.Arb8.of_extents.Goals as goal

pub returns : goal.returns
returns c =
    let f1 : FitsSigned w64 c.args.xmin = c.ranges.xmin in
    let f2 : FitsSigned w64 c.args.xmax = c.ranges.xmax in
    let f3 : FitsSigned w64 c.args.ymin = c.ranges.ymin in
    let f4 : FitsSigned w64 c.args.ymax = c.ranges.ymax in
    let f5 : FitsSigned w64 c.args.zmin = c.ranges.zmin in
    let f6 : FitsSigned w64 c.args.zmax = c.ranges.zmax in
    let value = simp to_z-of_z at c.rpp_vertices.ensures.value in
    subst (λ (v : List V3). IsMadeOf c.new.result v) value (made_of c.new.result _ c.new.ensures.fault c.new.ensures.vertices)
