use Rattle.std.proofs.Common.{◌≡◌, ◌≤◌, ◌+◌, ◌∙◌, ◌∷◌, [], sym, ap, subst, length, arith}
use Rattle.overlap_list.proofs.Overlapping.{more_too_many}
use Rattle.tile_shot.specs.Reports.{report_of, spots_of}
use Rattle.tile_shot.specs.Merges.{ArePairs, merged}
use Rattle.tile_shot.specs.RaySteps.{spots_before}
use Rattle.tile_shot.proofs.RaysDone.{spot_at, all_before, fewer_done, next_done, done_are_pairs}
use Rattle.tile_shot.proofs.check.add_row.Goals as goal

pub add_ray-requires-clause-pairs : goal.add_ray-requires-clause-pairs
add_ray-requires-clause-pairs c =
    subst ArePairs (sym c.loop-column.invariant.report)
    (done_are_pairs c.args.span.now c.args.scene.now c.args.view.now c.loop-column.column c.args.row c.requires.places c.requires.span.columns.1 c.requires.span.rows.1 (omega (arith, c.loop-column-test.true)) c.requires.to_row)

pub returns-in-Err-clause-fault : goal.returns-in-Err-clause-fault
returns-in-Err-clause-fault c =
    let ray = report_of c.args.scene.now c.args.view.now (spot_at c.loop-column.column c.args.row ∷ []) in
    let left : c.args.span.now.column ≤ c.loop-column.column = omega (arith, c.loop-column.auto.column) in
    let more : merged c.loop-column.pairs.items ray ≡ report_of c.args.scene.now c.args.view.now (spots_before c.args.span.now (c.loop-column.column + 1) c.args.row) =
    ap (λ l. merged l ray) c.loop-column.invariant.report ∙ next_done c.args.span.now c.args.scene.now c.args.view.now c.loop-column.column c.args.row c.requires.places left c.requires.from_row in
    more_too_many (length (merged c.loop-column.pairs.items ray)) (length (report_of c.args.scene.now c.args.view.now (spots_of c.args.span.now))) c.in-Err.fault
    (omega (arith, ap length more, fewer_done c.args.span.now c.args.scene.now c.args.view.now (c.loop-column.column + 1) c.args.row (omega (arith, left)) (omega (arith, c.loop-column-test.true)) c.requires.from_row c.requires.to_row)) c.in-Err.ensures.fault

pub loop-column-preserved : goal.loop-column-preserved
loop-column-preserved c =
    let ray = report_of c.args.scene.now c.args.view.now (spot_at c.loop-column.column c.args.row ∷ []) in
    record {
      report = c.in_default.ensures.added ∙ ap (λ l. merged l ray) c.loop-column.invariant.report
          ∙ next_done c.args.span.now c.args.scene.now c.args.view.now c.loop-column.column c.args.row c.requires.places (omega (arith, c.loop-column.auto.column)) c.requires.from_row;
      most = λ h. c.in_default.ensures.most (c.loop-column.invariant.most h);
    }

pub returns-clause-added : goal.returns-clause-added
returns-clause-added c =
    let end : c.loop-column.column ≡ c.args.span.now.column + c.args.span.now.w = omega (arith, c.loop-column.auto.column, c.loop-column-test.false) in
    c.loop-column.invariant.report ∙ ap (λ n. report_of c.args.scene.now c.args.view.now (spots_before c.args.span.now n c.args.row)) end
    ∙ ap (report_of c.args.scene.now c.args.view.now) (all_before c.args.span.now c.args.row c.requires.from_row)
