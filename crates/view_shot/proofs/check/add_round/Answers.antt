use Rattle.std.proofs.Common.{◌≡◌, ◌+◌, ℕ, List, length, ap, subst, arith}
use Rattle.std.proofs.lemmas.Result.{IfErr-weaker}
use Rattle.overlap_list.specs.Overlaps.{IsTooMany}
use Rattle.shot_core.specs.Regions.{Region}
use Rattle.tile_shot.specs.Reports.{view_report}
use Rattle.view_shot.specs.declared.named.SharedPairs.{SharedPairs}
use Rattle.view_shot.proofs.CheckLaws.{report_moved}
use Rattle.view_shot.proofs.check.add_round.Goals as goal

pub returns-clause-added : goal.returns-clause-added
returns-clause-added g c =
    let long : length c.deref-2.result.now ≡ c.args.count = omega (arith, ap (length {A = SharedPairs}) c.deref-2.ensures.value, c.in-Ok-check_tiles.ensures.len, c.in-Ok-check_tiles.shots.ok.0) in
    let next : c.args.first + length c.deref-2.result.now ≡ c.args.first + c.args.count = ap (λ (n : ℕ). c.args.first + n) long in
    report_moved c.add_tiles.result c.add_tiles.new.report.items c.deref.result.now _ c.args.view.now (c.args.first + length c.deref-2.result.now) _ c.deref.ensures next c.add_tiles.ensures.added

pub returns-clause-fault : goal.returns-clause-fault
returns-clause-fault g c =
    IfErr-weaker c.add_tiles.result _ _ (λ e h. subst (λ (s : List Region). IsTooMany (length (view_report s c.args.view.now)) e) c.deref.ensures h) c.add_tiles.ensures.fault
