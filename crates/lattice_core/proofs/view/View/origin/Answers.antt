use Rattle.std.proofs.Common.{◌*ℤ◌, pos, FitsSigned, w64, arith, rules}
use Rattle.std.proofs.lemmas.Int.{ints, to_z-of_z}
use Rattle.lattice_core.proofs.view.View.origin.Goals as goal

pub returns : goal.returns
returns c =
    let fc : FitsSigned w64 c.args.self.now.cell = search rules in
    let fcolumn : FitsSigned w64 (pos c.args.column) = omega (arith, ints, c.ranges.column.fits) in
    let frow : FitsSigned w64 (pos c.args.row) = omega (arith, ints, c.ranges.row.fits) in
    let fa : FitsSigned w64 (pos c.args.column *ℤ c.args.self.now.cell) = omega (arith, ints, c.requires.across.0, c.requires.across.1) in
    let fb : FitsSigned w64 (pos c.args.row *ℤ c.args.self.now.cell) = omega (arith, ints, c.requires.down.0, c.requires.down.1) in
    simp (c.from.ensures, c.from-2.ensures, to_z-of_z) at c.point_from.ensures
