use Rattle.std.proofs.Common.{FitsSigned, ◌-ℤ◌, ◌*ℤ◌, w64}
use Rattle.std.proofs.lemmas.Int.{to_z-of_z}
use mir.Syntax.{w128}
use Rattle.box_index.proofs.Widths.{wider, gap_fits, product_fits}
use Rattle.box_index.proofs.line.crossing.Goals as goal

pub overflow_mul-result : goal.overflow_mul-result
overflow_mul-result c =
    let a : FitsSigned w128 c.args.at = wider c.args.at c.ranges.at in
    let o : FitsSigned w128 c.args.origin = wider c.args.origin c.ranges.origin in
    let k : FitsSigned w128 c.args.pace = wider c.args.pace c.ranges.pace in
    let ra : FitsSigned w64 c.args.at = c.ranges.at in
    let ro : FitsSigned w64 c.args.origin = c.ranges.origin in
    let rk : FitsSigned w64 c.args.pace = c.ranges.pace in
    let d : FitsSigned w128 (c.args.at -ℤ c.args.origin) = gap_fits c.args.at c.args.origin c.ranges.at c.ranges.origin in
    let p : FitsSigned w128 ((c.args.at -ℤ c.args.origin) *ℤ c.args.pace) = product_fits c.args.at c.args.origin c.args.pace c.ranges.at c.ranges.origin c.ranges.pace in
    simp to_z-of_z p

pub returns : goal.returns
returns c =
    let a : FitsSigned w128 c.args.at = wider c.args.at c.ranges.at in
    let o : FitsSigned w128 c.args.origin = wider c.args.origin c.ranges.origin in
    let k : FitsSigned w128 c.args.pace = wider c.args.pace c.ranges.pace in
    let ra : FitsSigned w64 c.args.at = c.ranges.at in
    let ro : FitsSigned w64 c.args.origin = c.ranges.origin in
    let rk : FitsSigned w64 c.args.pace = c.ranges.pace in
    let d : FitsSigned w128 (c.args.at -ℤ c.args.origin) = gap_fits c.args.at c.args.origin c.ranges.at c.ranges.origin in
    let p : FitsSigned w128 ((c.args.at -ℤ c.args.origin) *ℤ c.args.pace) = product_fits c.args.at c.args.origin c.args.pace c.ranges.at c.ranges.origin c.ranges.pace in
    simp to_z-of_z
