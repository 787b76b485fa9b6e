use Rattle.std.proofs.Common.{rules, ◌≡◌, ◌∙◌, List, sym, ap, subst, length}
use Rattle.std.proofs.lemmas.Result.{IfOk-weaker, IfErr-weaker}
use Rattle.lattice_core.specs.Tiles.{span_of}
use Rattle.overlap_list.specs.Overlaps.{IsTooMany}
use Rattle.shot_core.specs.Regions.{Region}
use Rattle.tile_shot.specs.Reports.{tile_report, spots_of}
use Rattle.tile_shot.proofs.Listing.{no_regions}
use Rattle.tile_shot.proofs.check.check_tile.Goals as goal

pub returns-then-is_empty-clause-report : goal.returns-then-is_empty-clause-report
returns-then-is_empty-clause-report c = c.new.ensures.items ∙ sym (no_regions c.args.scene.now c.args.view.now (spots_of (span_of c.args.view.now c.args.tile)) (search rules))

pub returns-then-is_empty-2-clause-report : goal.returns-then-is_empty-2-clause-report
returns-then-is_empty-2-clause-report c =
    let same : tile_report c.in-Ok.candidates c.args.view.now c.args.tile ≡ tile_report c.args.scene.now c.args.view.now c.args.tile = ap (λ (rs : List Region). tile_report rs c.args.view.now c.args.tile) c.in-Ok.ensures
    ∙ c.report_laws.ensures.candidates c.args.scene.now c.args.view.now (spots_of (span_of c.args.view.now c.args.tile)) c.regions.ensures.sound c.regions.ensures.leaves c.regions.ensures.placed in
    let none : length c.in-Ok.candidates ≡ 0 = search rules in
    c.new-then-is_empty-2.ensures.items ∙ sym (no_regions c.in-Ok.candidates c.args.view.now (spots_of (span_of c.args.view.now c.args.tile)) none) ∙ same

pub returns-clause-report : goal.returns-clause-report
returns-clause-report c =
    let same : tile_report c.in-Ok.candidates c.args.view.now c.args.tile ≡ tile_report c.args.scene.now c.args.view.now c.args.tile = ap (λ (rs : List Region). tile_report rs c.args.view.now c.args.tile) c.in-Ok.ensures
    ∙ c.report_laws.ensures.candidates c.args.scene.now c.args.view.now (spots_of (span_of c.args.view.now c.args.tile)) c.regions.ensures.sound c.regions.ensures.leaves c.regions.ensures.placed in
    IfOk-weaker c.check_rays.result (λ v. v.items ≡ tile_report c.in-Ok.candidates c.args.view.now c.args.tile) (λ v. v.items ≡ tile_report c.args.scene.now c.args.view.now c.args.tile) (λ v h. h ∙ same) c.check_rays.ensures.report

pub returns-clause-fault : goal.returns-clause-fault
returns-clause-fault c =
    let same : tile_report c.in-Ok.candidates c.args.view.now c.args.tile ≡ tile_report c.args.scene.now c.args.view.now c.args.tile = ap (λ (rs : List Region). tile_report rs c.args.view.now c.args.tile) c.in-Ok.ensures
    ∙ c.report_laws.ensures.candidates c.args.scene.now c.args.view.now (spots_of (span_of c.args.view.now c.args.tile)) c.regions.ensures.sound c.regions.ensures.leaves c.regions.ensures.placed in
    IfErr-weaker c.check_rays.result (IsTooMany (length (tile_report c.in-Ok.candidates c.args.view.now c.args.tile))) (IsTooMany (length (tile_report c.args.scene.now c.args.view.now c.args.tile)))
    (λ fault h. subst (λ l. IsTooMany (length l) fault) same h) c.check_rays.ensures.fault
