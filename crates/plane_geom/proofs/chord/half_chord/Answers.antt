use Rattle.std.proofs.Common.{FitsSigned, w64, arith, ℤ, pos, ◌+ℤ◌, ◌-ℤ◌, ◌*ℤ◌, ap, ◌∙◌, lit<}
use Rattle.std.proofs.lemmas.Int.{ints, to_z-of_z}
use Rattle.lattice_core.specs.Limits.{IsAtMost}
use Rattle.plane_geom.proofs.Sizes.{difference_size, fits64}
use Rattle.plane_geom.specs.declared.limit.TheConstants.{REMOTE}
use Rattle.plane_geom.proofs.chord.half_chord.Goals as goal

-- the greatest square
abbrev square : ℤ
square = REMOTE *ℤ REMOTE

pub squared-requires : goal.squared-requires
squared-requires c =
    let fr : FitsSigned w64 c.args.radius = c.ranges.radius in
    let size : IsAtMost REMOTE c.args.radius = (omega (arith, ints, c.requires.radius.0), omega (arith, ints, c.requires.radius.1)) in
    simp to_z-of_z size

pub overflow_sub-result : goal.overflow_sub-result
overflow_sub-result c =
    let l = c.length_squared.result in
    let s = c.squared-2.result in
    let fl : FitsSigned w64 c.length_squared.result = fits64 (pos 3 *ℤ square) l (lit< tt) c.length_squared.ensures.size in
    let fs : FitsSigned w64 c.squared-2.result = fits64 square s (lit< tt) c.squared-2.ensures.size in
    let one = difference_size (pos 3 *ℤ square) square l s c.length_squared.ensures.size c.squared-2.ensures.size in
    let f1 : FitsSigned w64 (c.length_squared.result -ℤ c.squared-2.result) = fits64 (pos 4 *ℤ square) (l -ℤ s) (lit< tt) one in
    simp to_z-of_z f1

pub overflow_sub-result-2 : goal.overflow_sub-result-2
overflow_sub-result-2 c =
    let r = c.squared.result in
    let l = c.length_squared.result in
    let s = c.squared-2.result in
    let fr : FitsSigned w64 c.squared.result = fits64 square r (lit< tt) c.squared.ensures.size in
    let fl : FitsSigned w64 c.length_squared.result = fits64 (pos 3 *ℤ square) l (lit< tt) c.length_squared.ensures.size in
    let fs : FitsSigned w64 c.squared-2.result = fits64 square s (lit< tt) c.squared-2.ensures.size in
    let one = difference_size (pos 3 *ℤ square) square l s c.length_squared.ensures.size c.squared-2.ensures.size in
    let f1 : FitsSigned w64 (c.length_squared.result -ℤ c.squared-2.result) = fits64 (pos 4 *ℤ square) (l -ℤ s) (lit< tt) one in
    let two = difference_size square (pos 4 *ℤ square) r (l -ℤ s) c.squared.ensures.size one in
    let f2 : FitsSigned w64 (c.squared.result -ℤ (c.length_squared.result -ℤ c.squared-2.result)) = fits64 (pos 5 *ℤ square) (r -ℤ (l -ℤ s)) (lit< tt) two in
    simp to_z-of_z f2

pub returns : goal.returns
returns c =
    let r = c.squared.result in
    let l = c.length_squared.result in
    let s = c.squared-2.result in
    let fr : FitsSigned w64 c.squared.result = fits64 square r (lit< tt) c.squared.ensures.size in
    let fl : FitsSigned w64 c.length_squared.result = fits64 (pos 3 *ℤ square) l (lit< tt) c.length_squared.ensures.size in
    let fs : FitsSigned w64 c.squared-2.result = fits64 square s (lit< tt) c.squared-2.ensures.size in
    let one = difference_size (pos 3 *ℤ square) square l s c.length_squared.ensures.size c.squared-2.ensures.size in
    let f1 : FitsSigned w64 (c.length_squared.result -ℤ c.squared-2.result) = fits64 (pos 4 *ℤ square) (l -ℤ s) (lit< tt) one in
    let two = difference_size square (pos 4 *ℤ square) r (l -ℤ s) c.squared.ensures.size one in
    let f2 : FitsSigned w64 (c.squared.result -ℤ (c.length_squared.result -ℤ c.squared-2.result)) = fits64 (pos 5 *ℤ square) (r -ℤ (l -ℤ s)) (lit< tt) two in
    let radius : FitsSigned w64 c.args.radius = c.ranges.radius in
    let along : FitsSigned w64 c.args.a = c.ranges.a in
    let er = simp to_z-of_z at c.squared.ensures.value in
    let es = simp to_z-of_z at c.squared-2.ensures.value in
    let el = c.length_squared.ensures.value in
    simp to_z-of_z (
    ap (λ (u : ℤ). u -ℤ (l -ℤ s)) er
    ∙ ap (λ (u : ℤ). (c.args.radius *ℤ c.args.radius) -ℤ (u -ℤ s)) el
    ∙ ap (λ (u : ℤ). (c.args.radius *ℤ c.args.radius) -ℤ (((c.args.apart.x *ℤ c.args.apart.x) +ℤ (c.args.apart.y *ℤ c.args.apart.y) +ℤ (c.args.apart.z *ℤ c.args.apart.z)) -ℤ u)) es)
