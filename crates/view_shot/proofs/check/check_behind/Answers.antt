use Rattle.std.proofs.Common.{◌≡◌, ◌+◌, ◌∙◌, ℕ, List, length, ap₂, subst, arith}
use Rattle.overlap_list.specs.Overlaps.{IsTooMany}
use Rattle.shot_core.specs.Regions.{Region}
use Rattle.tile_shot.specs.Reports.{view_report}
use Rattle.view_shot.proofs.CheckLaws.{first_report, no_report}
use Rattle.view_shot.proofs.check.check_behind.Goals as goal

pub add_tiles-requires-clause-before : goal.add_tiles-requires-clause-before
add_tiles-requires-clause-before g c = c.new-report.ensures.items ∙ no_report c.deref.result.now c.args.view.now

pub check_rest-requires-clause-before : goal.check_rest-requires-clause-before
check_rest-requires-clause-before g c = λ κs h.
    let long : 0 + length c.args.shots.now ≡ c.args.count = omega (arith, c.requires.count) in
    c.in-Ok.ensures.added ∙ ap₂ (λ (s : List Region) (n : ℕ). first_report s c.args.view.now n) c.deref.ensures long

pub returns-in-Err-clause-fault : goal.returns-in-Err-clause-fault
returns-in-Err-clause-fault g c = subst (λ (s : List Region). IsTooMany (length (view_report s c.args.view.now)) c.in-Err.fault) c.deref.ensures c.in-Err.ensures.fault
