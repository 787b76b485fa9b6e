use Rattle.std.proofs.Common.{◌≡◌, ◌<◌, ◌+◌, ◌∙◌, length, ap, sym, subst, arith}
use Rattle.std.specs.Arc.{arc_value}
use Rattle.lattice_core.specs.Tiles.{tiles_of}
use Rattle.view_shot.specs.Steps.{IsTileReport}
use Rattle.view_shot.specs.declared.named.SharedPairs.{SharedPairs}
use Rattle.view_shot.specs.declared.named.TilePairs.{TilePairs}
use Rattle.view_shot.proofs.CheckLaws.{first_report, report_more}
use Rattle.view_shot.proofs.check.add_tiles.Goals as goal

pub add_tile-requires-clause-shot : goal.add_tile-requires-clause-shot
add_tile-requires-clause-shot c =
    subst (λ (t : TilePairs). IsTileReport c.args.scene.now c.args.view.now (c.args.first + c.loop-i.i) t.pairs) (sym c.pairs.ensures.value)
    (subst (λ (s : SharedPairs). IsTileReport c.args.scene.now c.args.view.now (c.args.first + c.loop-i.i) (arc_value s.named).pairs.pairs) (sym c.index-shots-i.is)
    (c.requires.shots c.loop-i.i c.index-shots-i.result c.loop-i-test.true))

pub loop-i-preserved : goal.loop-i-preserved
loop-i-preserved c =
    let lt : c.args.first + c.loop-i.i < tiles_of c.args.view.now = omega (arith, c.requires.within, c.loop-i-test.true) in
    let next : (c.args.first + c.loop-i.i) + 1 ≡ c.args.first + (c.loop-i.i + 1) = omega arith in
    record {
      within = omega (arith, c.loop-i-test.true);
      report = report_more c.args.scene.now c.args.view.now (c.args.first + c.loop-i.i) c.regions-regions.ensures.sound.rising lt c.loop-i.report.items c.add_tile.new.report.items c.report_laws.ensures.follow c.report_laws.ensures.tiles c.loop-i.invariant.report
          c.in_ok-add_tile.ensures.added
          ∙ ap (first_report c.args.scene.now c.args.view.now) next;
      most = λ h. c.in_ok-add_tile.ensures.most (c.loop-i.invariant.most h);
    }

pub returns-clause-added : goal.returns-clause-added
returns-clause-added c =
    let end : c.args.first + c.loop-i.i ≡ c.args.first + length c.args.shots.now = omega (arith, c.loop-i-test.false, c.loop-i.invariant.within) in
    c.loop-i.invariant.report ∙ ap (first_report c.args.scene.now c.args.view.now) end
