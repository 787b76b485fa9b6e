use Rattle.std.proofs.Common.{◌≡◌, ◌∙◌, ap, subst, sym, FitsSigned, w64}
use Rattle.std.proofs.lemmas.Int.{to_z-of_z}
use Rattle.lattice_core.specs.declared.vector.V3.{V3}
use Rattle.lattice_core.specs.declared.ray.Dir.{Dir}
use Rattle.lattice_core.specs.declared.limit.TheConstants.{VIEW_REACH, WIDE}
use Rattle.lattice_core.specs.Limits.{IsBelow}
use Rattle.lattice_core.specs.Units.{unit_of}
use Rattle.lattice_core.specs.Vectors.{scaled, vector_sum}
use Rattle.lattice_core.specs.Views.{across_of, down_of}
use Rattle.lattice_core.proofs.Viewing.{scaled_below, below_wide, sum_below}
use Rattle.lattice_core.proofs.view.point_from.Goals as goal

pub plus-requires-clause-first : goal.plus-requires-clause-first
plus-requires-clause-first c =
    let fa : FitsSigned w64 c.args.across = c.ranges.across in
    let e = simp to_z-of_z at c.times-right.ensures in
    subst (IsBelow WIDE) (sym e) (below_wide _ (scaled_below VIEW_REACH c.args.across c.across.result c.requires.across))

pub plus-requires-clause-second : goal.plus-requires-clause-second
plus-requires-clause-second c =
    let fd : FitsSigned w64 c.args.down = c.ranges.down in
    let e = simp to_z-of_z at c.times-below.ensures in
    subst (IsBelow WIDE) (sym e) (below_wide _ (scaled_below VIEW_REACH c.args.down c.down.result c.requires.down))

pub plus-requires-2-clause-second : goal.plus-requires-2-clause-second
plus-requires-2-clause-second c =
    let fa : FitsSigned w64 c.args.across = c.ranges.across in
    let fd : FitsSigned w64 c.args.down = c.ranges.down in
    let e = simp to_z-of_z at c.times-right.ensures in
    let f = simp to_z-of_z at c.times-below.ensures in
    subst (IsBelow WIDE) (sym c.plus.ensures)
    (sum_below _ _ (subst (IsBelow VIEW_REACH) (sym e) (scaled_below VIEW_REACH c.args.across c.across.result c.requires.across))
    (subst (IsBelow VIEW_REACH) (sym f) (scaled_below VIEW_REACH c.args.down c.down.result c.requires.down)))

pub returns : goal.returns
returns c =
    let fa : FitsSigned w64 c.args.across = c.ranges.across in
    let fd : FitsSigned w64 c.args.down = c.ranges.down in
    let e = simp to_z-of_z at c.times-right.ensures in
    let f = simp to_z-of_z at c.times-below.ensures in
    let right : c.times-right.result ≡ scaled c.args.across (unit_of (across_of c.args.dir)) = e ∙ ap (λ (d : Dir). scaled c.args.across (unit_of d)) c.across.ensures in
    let below : c.times-below.result ≡ scaled c.args.down (unit_of (down_of c.args.dir)) = f ∙ ap (λ (d : Dir). scaled c.args.down (unit_of d)) c.down.ensures in
    c.plus-2.ensures
    ∙ ap (λ (v : V3). vector_sum c.args.corner v) c.plus.ensures
    ∙ ap (λ (v : V3). vector_sum c.args.corner (vector_sum v c.times-below.result)) right
    ∙ ap (λ (v : V3). vector_sum c.args.corner (vector_sum (scaled c.args.across (unit_of (across_of c.args.dir))) v)) below
