use Rattle.std.proofs.Common.{◌≡◌, ◌∙◌, ◌-ℤ◌, ◌<ℤ◌, ℤ, pos, ap, sym, arith, lit<, FitsSigned}
use Rattle.std.proofs.lemmas.Int.{ints, to_z-of_z}
use Rattle.std.proofs.lemmas.Cmp.{int_ranked}
use mir.Syntax.{w128}
use Rattle.std.specs.Ordering.{int_cmp}
use Rattle.std.specs.declared.cmp.Ordering.TheVariants.{Less, Equal, Greater}
use Rattle.plane_geom.specs.declared.limit.TheConstants.{GAP}
use Rattle.plane_geom.proofs.Sizes.{fits128}
use Rattle.surd_quot.specs.declared.position.QPos.TheVariants.{Frac}
use Rattle.surd_quot.specs.Spelled.{spelled_quotient}
use Rattle.oblique_ray.specs.declared.limit.TheConstants.{SLOPE}
use Rattle.oblique_ray.proofs.Runs.{plane_entered, plane_left, plane_held, small_fraction, opposite_size}
use Rattle.oblique_ray.proofs.run.Run.past_plane.Goals as goal

pub fraction_at-requires : goal.fraction_at-requires
fraction_at-requires c =
    let fg : FitsSigned w128 c.gap_at-gap.result = fits128 GAP c.gap_at-gap.result (lit< tt) c.gap_at-gap.ensures.size in
    let fs : FitsSigned w128 c.slope_along-slope.result = fits128 SLOPE c.slope_along-slope.result (lit< tt) c.slope_along-slope.ensures.size in
    let order : Less ≡ int_cmp c.slope_along-slope.result (pos 0) = simp to_z-of_z at c.in-Less.ensures in
    let below : c.slope_along-slope.result <ℤ pos 0 = int_ranked c.slope_along-slope.result (pos 0) Less order in
    small_fraction _ _ (omega (arith, ints, c.gap_at-gap.ensures.size.1), omega (arith, ints, c.gap_at-gap.ensures.size.0))
    (omega (arith, ints, c.slope_along-slope.ensures.size.1), omega (arith, ints, c.slope_along-slope.ensures.size.0)) (omega (arith, ints, below))

pub fraction_at-requires-in-Greater : goal.fraction_at-requires-in-Greater
fraction_at-requires-in-Greater c =
    let fg : FitsSigned w128 c.gap_at-gap.result = fits128 GAP c.gap_at-gap.result (lit< tt) c.gap_at-gap.ensures.size in
    let fs : FitsSigned w128 c.slope_along-slope.result = fits128 SLOPE c.slope_along-slope.result (lit< tt) c.slope_along-slope.ensures.size in
    let order : Greater ≡ int_cmp c.slope_along-slope.result (pos 0) = simp to_z-of_z at c.in-Greater.ensures in
    let above : pos 0 <ℤ c.slope_along-slope.result = int_ranked c.slope_along-slope.result (pos 0) Greater order in
    simp to_z-of_z (small_fraction c.gap_at-gap.result c.slope_along-slope.result c.gap_at-gap.ensures.size c.slope_along-slope.ensures.size above)

pub overflow_sub-gap : goal.overflow_sub-gap
overflow_sub-gap c =
    let fg : FitsSigned w128 c.gap_at-gap.result = fits128 GAP c.gap_at-gap.result (lit< tt) c.gap_at-gap.ensures.size in
    let f : FitsSigned w128 (pos 0 -ℤ c.gap_at-gap.result) = fits128 GAP (pos 0 -ℤ c.gap_at-gap.result) (lit< tt) (opposite_size GAP c.gap_at-gap.result c.gap_at-gap.ensures.size) in
    simp to_z-of_z f

pub overflow_sub-slope : goal.overflow_sub-slope
overflow_sub-slope c =
    let fs : FitsSigned w128 c.slope_along-slope.result = fits128 SLOPE c.slope_along-slope.result (lit< tt) c.slope_along-slope.ensures.size in
    let f : FitsSigned w128 (pos 0 -ℤ c.slope_along-slope.result) = fits128 SLOPE (pos 0 -ℤ c.slope_along-slope.result) (lit< tt) (opposite_size SLOPE c.slope_along-slope.result c.slope_along-slope.ensures.size) in
    simp to_z-of_z f

pub returns-in-Less-clause-value : goal.returns-in-Less-clause-value
returns-in-Less-clause-value c =
    let fg : FitsSigned w128 c.gap_at-gap.result = fits128 GAP c.gap_at-gap.result (lit< tt) c.gap_at-gap.ensures.size in
    let fs : FitsSigned w128 c.slope_along-slope.result = fits128 SLOPE c.slope_along-slope.result (lit< tt) c.slope_along-slope.ensures.size in
    let fng : FitsSigned w128 (pos 0 -ℤ c.gap_at-gap.result) = fits128 GAP (pos 0 -ℤ c.gap_at-gap.result) (lit< tt) (opposite_size GAP c.gap_at-gap.result c.gap_at-gap.ensures.size) in
    let fns : FitsSigned w128 (pos 0 -ℤ c.slope_along-slope.result) = fits128 SLOPE (pos 0 -ℤ c.slope_along-slope.result) (lit< tt) (opposite_size SLOPE c.slope_along-slope.result c.slope_along-slope.ensures.size) in
    let order : Less ≡ int_cmp c.slope_along-slope.result (pos 0) = sym c.in-Less.is ∙ (simp to_z-of_z at c.cmp.ensures) in
    let value : c.fraction_at.result ≡ spelled_quotient (Frac (pos 0 -ℤ c.gap_at-gap.result) (pos 0 -ℤ c.slope_along-slope.result)) = simp to_z-of_z at c.fraction_at.ensures.value in
    plane_entered c.args.self c.entered.result c.fraction_at.result c.args.plane.now c.args.o c.args.e (pos 0 -ℤ c.gap_at-gap.result) (pos 0 -ℤ c.slope_along-slope.result) c.entered.ensures.value value
    (omega (arith, ints, c.gap_at-gap.ensures.value)) (omega (arith, ints, c.slope_along-slope.ensures.value)) (order ∙ ap (λ (z : ℤ). int_cmp z (pos 0)) c.slope_along-slope.ensures.value)

pub returns-in-Equal-clause-value : goal.returns-in-Equal-clause-value
returns-in-Equal-clause-value c =
    let fg : FitsSigned w128 c.gap_at-gap.result = fits128 GAP c.gap_at-gap.result (lit< tt) c.gap_at-gap.ensures.size in
    let fs : FitsSigned w128 c.slope_along-slope.result = fits128 SLOPE c.slope_along-slope.result (lit< tt) c.slope_along-slope.ensures.size in
    let order : Equal ≡ int_cmp c.slope_along-slope.result (pos 0) = simp to_z-of_z at c.in-Equal.ensures in
    let holds = simp to_z-of_z at c.holds_along.ensures in
    plane_held c.args.self c.held.result c.holds_along.result c.args.plane.now c.args.o c.args.e c.gap_at-gap.result c.held.ensures.value holds c.gap_at-gap.ensures.value
    (order ∙ ap (λ (z : ℤ). int_cmp z (pos 0)) c.slope_along-slope.ensures.value)

pub returns-in-Greater-clause-value : goal.returns-in-Greater-clause-value
returns-in-Greater-clause-value c =
    let fg : FitsSigned w128 c.gap_at-gap.result = fits128 GAP c.gap_at-gap.result (lit< tt) c.gap_at-gap.ensures.size in
    let fs : FitsSigned w128 c.slope_along-slope.result = fits128 SLOPE c.slope_along-slope.result (lit< tt) c.slope_along-slope.ensures.size in
    let order : Greater ≡ int_cmp c.slope_along-slope.result (pos 0) = sym c.in-Greater.is ∙ (simp to_z-of_z at c.cmp.ensures) in
    let value : c.fraction_at-in-Greater.result ≡ spelled_quotient (Frac c.gap_at-gap.result c.slope_along-slope.result) = simp to_z-of_z at c.fraction_at-in-Greater.ensures.value in
    plane_left c.args.self c.left.result c.fraction_at-in-Greater.result c.args.plane.now c.args.o c.args.e c.gap_at-gap.result c.slope_along-slope.result c.left.ensures.value value
    c.gap_at-gap.ensures.value c.slope_along-slope.ensures.value (order ∙ ap (λ (z : ℤ). int_cmp z (pos 0)) c.slope_along-slope.ensures.value)
