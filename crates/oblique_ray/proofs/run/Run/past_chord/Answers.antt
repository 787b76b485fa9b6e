use Rattle.std.proofs.Common.{arith, FitsSigned, w64}
use Rattle.std.proofs.lemmas.Int.{ints, to_z-of_z}
use Rattle.std.specs.Int.RustNames.{unsigned_abs}
use Rattle.oblique_ray.proofs.Runs.{chord_by, chord_missed, small_root}
use Rattle.oblique_ray.proofs.run.Run.past_chord.Goals as goal

pub root_at-start-requires : goal.root_at-start-requires
root_at-start-requires c =
    let fn : FitsSigned w64 c.args.nearest = c.ranges.nearest in
    let fp : FitsSigned w64 c.args.pace = c.ranges.pace in
    let fk : FitsSigned w64 c.args.k = c.ranges.k in
    simp to_z-of_z (small_root c.args.nearest _ _ c.requires.nearest (omega (arith, ints, c.requires.chord, c.if-k-gt0.true)) (omega (arith, ints, c.requires.some)) (omega (arith, ints, c.requires.pace, c.requires.some)))

pub root_at-end-requires : goal.root_at-end-requires
root_at-end-requires c =
    let fn : FitsSigned w64 c.args.nearest = c.ranges.nearest in
    let fp : FitsSigned w64 c.args.pace = c.ranges.pace in
    let fk : FitsSigned w64 c.args.k = c.ranges.k in
    simp to_z-of_z (small_root c.args.nearest _ _ c.requires.nearest (omega (arith, ints, c.requires.chord, c.if-k-gt0.true)) (omega (arith, ints, c.requires.some)) (omega (arith, ints, c.requires.pace, c.requires.some)))

pub returns-then-k-gt0-clause-value : goal.returns-then-k-gt0-clause-value
returns-then-k-gt0-clause-value c =
    let fn : FitsSigned w64 c.args.nearest = c.ranges.nearest in
    let fp : FitsSigned w64 c.args.pace = c.ranges.pace in
    let fk : FitsSigned w64 c.args.k = c.ranges.k in
    let start = simp to_z-of_z at c.root_at-start.ensures.value in
    let end = simp to_z-of_z at c.root_at-end.ensures.value in
    chord_by c.args.self c.entered.result c.left.result c.root_at-start.result c.root_at-end.result c.args.pace c.args.nearest c.args.k (unsigned_abs c.args.k) (unsigned_abs c.args.pace) (omega (arith, ints, c.if-k-gt0.true))
    c.entered.ensures.value c.left.ensures.value start end (omega (arith, ints, c.if-k-gt0.true)) (omega (arith, ints, c.requires.some))

pub returns-else-k-gt0-clause-value : goal.returns-else-k-gt0-clause-value
returns-else-k-gt0-clause-value c =
    let fk : FitsSigned w64 c.args.k = c.ranges.k in
    chord_missed c.args.self c.held.result c.args.pace c.args.nearest c.args.k c.held.ensures.value (omega (arith, ints, c.if-k-gt0.false))
