use Rattle.std.proofs.Common.{◌≡◌, ◌≤◌, ◌∙◌, List, Option, length, refl, subst, arith}
use Rattle.std.proofs.lemmas.Result.{IfOk-weaker, IfErr-weaker}
use Rattle.overlap_list.specs.declared.overlap.TheConstants.{MOST_PAIRS}
use Rattle.shot_core.specs.declared.pair.Pair.{Pair}
use Rattle.tile_shot.specs.Reports.{tile_report, view_report, AddUp}
use Rattle.view_shot.specs.Steps.{IsTileReport}
use Rattle.view_shot.proofs.CheckLaws.{tile_pairs, tile_fewer, first_pairs, first_fewer, more_than}
use Rattle.view_shot.proofs.check.add_tile.Goals as goal

pub merge_pairs-requires-clause-into : goal.merge_pairs-requires-clause-into
merge_pairs-requires-clause-into c =
    first_pairs c.args.scene.now c.args.view.now c.args.tile c.regions-regions.ensures.sound.rising c.requires.tile c.args.report.now.items c.report_laws.ensures.pairs c.requires.view c.requires.before

pub merge_pairs-requires-clause-more : goal.merge_pairs-requires-clause-more
merge_pairs-requires-clause-more c =
    tile_pairs c.args.scene.now c.args.view.now c.args.tile c.regions-regions.ensures.sound.rising c.requires.tile c.items.result.now c.report_laws.ensures.pairs c.report_laws.ensures.tiles c.requires.view
    (c.items.ensures ∙ subst {A = Option (List Pair)} (IsTileReport c.args.scene.now c.args.view.now c.args.tile) c.in-Some.is c.requires.shot)

pub returns-in-Some-clause-added : goal.returns-in-Some-clause-added
returns-in-Some-clause-added c =
    let here : c.items.result.now ≡ tile_report c.args.scene.now c.args.view.now c.args.tile =
    c.items.ensures ∙ subst {A = Option (List Pair)} (IsTileReport c.args.scene.now c.args.view.now c.args.tile) c.in-Some.is c.requires.shot in
    IfOk-weaker c.merge_pairs.result _ _ (λ v h. subst (λ (m : List Pair). AddUp c.args.report.now.items m c.merge_pairs.new.into.items) here h) c.merge_pairs.ensures.adds

pub returns-in-Some-clause-fault : goal.returns-in-Some-clause-fault
returns-in-Some-clause-fault c =
    let here : c.items.result.now ≡ tile_report c.args.scene.now c.args.view.now c.args.tile =
    c.items.ensures ∙ subst {A = Option (List Pair)} (IsTileReport c.args.scene.now c.args.view.now c.args.tile) c.in-Some.is c.requires.shot in
    IfErr-weaker c.merge_pairs.result _ _
    (λ e h. more_than e _ _
    (first_fewer c.args.scene.now c.args.view.now c.args.tile c.regions-regions.ensures.sound.rising c.requires.tile c.args.report.now.items c.items.result.now c.report_laws.ensures.fewer
    c.report_laws.ensures.follow c.report_laws.ensures.tiles c.requires.before here) h) c.merge_pairs.ensures.fault

pub returns-in-None-clause-fault : goal.returns-in-None-clause-fault
returns-in-None-clause-fault c =
    let many = subst {A = Option (List Pair)} (IsTileReport c.args.scene.now c.args.view.now c.args.tile) c.in-None.is c.requires.shot in
    let fewer : length (tile_report c.args.scene.now c.args.view.now c.args.tile) ≤ length (view_report c.args.scene.now c.args.view.now) =
    tile_fewer c.args.scene.now c.args.view.now c.args.tile c.regions-regions.ensures.sound.rising c.requires.tile (tile_report c.args.scene.now c.args.view.now c.args.tile) c.report_laws.ensures.fewer c.report_laws.ensures.tiles refl in
    omega (arith, many, fewer)

pub returns-in-Some-clause-most : goal.returns-in-Some-clause-most
returns-in-Some-clause-most c = IfOk-weaker c.merge_pairs.result (λ _. length c.merge_pairs.new.into.items ≤ MOST_PAIRS) _ (λ v h already. h) c.merge_pairs.ensures.most
