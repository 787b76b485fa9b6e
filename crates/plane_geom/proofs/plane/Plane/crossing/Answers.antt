use Rattle.std.proofs.Common.{FitsSigned, arith, refl, lit<}
use Rattle.std.proofs.lemmas.Int.{ints, to_z-of_z}
use Rattle.std.proofs.lemmas.Bool.{false≢true}
use mir.Syntax.{w128}
use Rattle.plane_geom.proofs.Sizes.{fits128}
use Rattle.plane_geom.proofs.Crossings.{leaves, enters, holds, misses}
use Rattle.plane_geom.proofs.Unique.{one_crossing, crossing_is}
use Rattle.plane_geom.specs.declared.limit.TheConstants.{NORMAL, GAP}
use Rattle.plane_geom.proofs.plane.Plane.crossing.Goals as goal

pub returns-then-slope-gt0-clause-crossing : goal.returns-then-slope-gt0-clause-crossing
returns-then-slope-gt0-clause-crossing c =
    let fg : FitsSigned w128 c.gap-gap.result = fits128 GAP c.gap-gap.result (lit< tt) c.gap-gap.ensures.size in
    let fs : FitsSigned w128 c.slope-slope.result = fits128 NORMAL c.slope-slope.result (lit< tt) c.slope-slope.ensures.size in
    leaves c.args.self.now c.args.ray.now _ _ (omega (arith, ints, c.gap-gap.ensures.value)) (omega (arith, ints, c.slope-slope.ensures.value)) (omega (arith, ints))

pub returns-then-slope-lt0-clause-crossing : goal.returns-then-slope-lt0-clause-crossing
returns-then-slope-lt0-clause-crossing c =
    let fg : FitsSigned w128 c.gap-gap.result = fits128 GAP c.gap-gap.result (lit< tt) c.gap-gap.ensures.size in
    let fs : FitsSigned w128 c.slope-slope.result = fits128 NORMAL c.slope-slope.result (lit< tt) c.slope-slope.ensures.size in
    enters c.args.self.now c.args.ray.now _ _ (omega (arith, ints, c.gap-gap.ensures.value)) (omega (arith, ints, c.slope-slope.ensures.value)) (omega (arith, ints))

pub returns-then-holds_along-clause-crossing : goal.returns-then-holds_along-clause-crossing
returns-then-holds_along-clause-crossing c =
    let fg : FitsSigned w128 c.gap-gap.result = fits128 GAP c.gap-gap.result (lit< tt) c.gap-gap.ensures.size in
    let fs : FitsSigned w128 c.slope-slope.result = fits128 NORMAL c.slope-slope.result (lit< tt) c.slope-slope.ensures.size in
    let along = simp to_z-of_z at c.if-holds_along.ensures in
    holds c.args.self.now c.args.ray.now c.gap-gap.result c.gap-gap.ensures.value (omega (arith, ints, c.slope-slope.ensures.value)) (along.0 refl)

pub returns-else-holds_along-clause-crossing : goal.returns-else-holds_along-clause-crossing
returns-else-holds_along-clause-crossing c =
    let fg : FitsSigned w128 c.gap-gap.result = fits128 GAP c.gap-gap.result (lit< tt) c.gap-gap.ensures.size in
    let fs : FitsSigned w128 c.slope-slope.result = fits128 NORMAL c.slope-slope.result (lit< tt) c.slope-slope.ensures.size in
    let along = simp to_z-of_z at c.if-holds_along.ensures in
    misses c.args.self.now c.args.ray.now c.gap-gap.result c.gap-gap.ensures.value (omega (arith, ints, c.slope-slope.ensures.value)) (λ h. false≢true (along.1 h))

pub returns-then-slope-gt0-clause-value : goal.returns-then-slope-gt0-clause-value
returns-then-slope-gt0-clause-value c = one_crossing c.args.self.now c.args.ray.now _ _ (returns-then-slope-gt0-clause-crossing c) (crossing_is c.args.self.now c.args.ray.now)

pub returns-then-slope-lt0-clause-value : goal.returns-then-slope-lt0-clause-value
returns-then-slope-lt0-clause-value c = one_crossing c.args.self.now c.args.ray.now _ _ (returns-then-slope-lt0-clause-crossing c) (crossing_is c.args.self.now c.args.ray.now)

pub returns-then-holds_along-clause-value : goal.returns-then-holds_along-clause-value
returns-then-holds_along-clause-value c = one_crossing c.args.self.now c.args.ray.now _ _ (returns-then-holds_along-clause-crossing c) (crossing_is c.args.self.now c.args.ray.now)

pub returns-else-holds_along-clause-value : goal.returns-else-holds_along-clause-value
returns-else-holds_along-clause-value c = one_crossing c.args.self.now c.args.ray.now _ _ (returns-else-holds_along-clause-crossing c) (crossing_is c.args.self.now c.args.ray.now)
