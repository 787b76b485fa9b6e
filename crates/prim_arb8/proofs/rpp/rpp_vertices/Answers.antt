use Rattle.std.proofs.Common.{FitsSigned, w64}
use Rattle.std.proofs.lemmas.Int.{to_z-of_z}
use Rattle.prim_arb8.proofs.Eight.{all_eight}
use Rattle.prim_arb8.proofs.rpp.rpp_vertices.Goals as goal

pub returns-clause-value : goal.returns-clause-value
returns-clause-value c =
    let f1 : FitsSigned w64 c.args.xmin = c.ranges.xmin in
    let f2 : FitsSigned w64 c.args.xmax = c.ranges.xmax in
    let f3 : FitsSigned w64 c.args.ymin = c.ranges.ymin in
    let f4 : FitsSigned w64 c.args.ymax = c.ranges.ymax in
    let f5 : FitsSigned w64 c.args.zmin = c.ranges.zmin in
    let f6 : FitsSigned w64 c.args.zmax = c.ranges.zmax in
    let e1 = simp to_z-of_z at c.vector.ensures.value in
    let e2 = simp to_z-of_z at c.vector-2.ensures.value in
    let e3 = simp to_z-of_z at c.vector-3.ensures.value in
    let e4 = simp to_z-of_z at c.vector-4.ensures.value in
    let e5 = simp to_z-of_z at c.vector-5.ensures.value in
    let e6 = simp to_z-of_z at c.vector-6.ensures.value in
    let e7 = simp to_z-of_z at c.vector-7.ensures.value in
    let e8 = simp to_z-of_z at c.vector-8.ensures.value in
    cc

pub returns-clause-size : goal.returns-clause-size
returns-clause-size c =
    all_eight c.vector.result c.vector-2.result c.vector-3.result c.vector-4.result c.vector-5.result c.vector-6.result c.vector-7.result c.vector-8.result
    c.vector.ensures.size c.vector-2.ensures.size c.vector-3.ensures.size c.vector-4.ensures.size
    c.vector-5.ensures.size c.vector-6.ensures.size c.vector-7.ensures.size c.vector-8.ensures.size
