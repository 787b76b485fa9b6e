use Rattle.std.proofs.Common.{◌≡◌, ◌∙◌, ap, arith}
use Rattle.std.specs.Arc.{arc_value}
use Rattle.lattice_core.specs.Tiles.{tiles_of}
use Rattle.view_shot.proofs.CheckLaws.{first_report}
use Rattle.view_shot.proofs.check.check_rest.Goals as goal

pub loop-first-init : goal.loop-first-init
loop-first-init g c = record { within = omega (arith, c.requires.within, c.tiles-tiles.ensures.count); report = c.requires.before; most = c.requires.most }

pub returns-clause-pairs : goal.returns-clause-pairs
returns-clause-pairs g c =
    let end : c.loop-first.first ≡ tiles_of c.args.view.now = omega (arith, c.loop-first-test.false, c.loop-first.invariant.within, c.tiles-tiles.ensures.count) in
    c.loop-first.invariant.report ∙ ap (first_report (arc_value c.args.scene.now) c.args.view.now) end ∙ c.report_laws.ensures.all (arc_value c.args.scene.now) c.args.view.now
