use Rattle.std.proofs.Common.{◌≡◌, List, IfErr, IfOk, length, ap, subst}
use Rattle.std.specs.Arc.{arc_value}
use Rattle.std.proofs.lemmas.Result.{IfOk-weaker}
use Rattle.lattice_core.specs.declared.view.View.{View}
use Rattle.overlap_list.specs.Overlaps.{IsTooMany}
use Rattle.shot_core.specs.Regions.{Region}
use Rattle.tile_shot.specs.Reports.{view_report}
use Rattle.session_run.specs.Flights.{Flies, IsCheckFor}
use Rattle.session_run.specs.Own.{OwnState}
use Rattle.session_run.specs.Replies.{Outcome, outcome_of}
use Rattle.session_run.proofs.FlyLaws.{check_told}
use Rattle.session_run.proofs.flight.gather.Goals as goal

pub returns-in-Check-clause-outcome : goal.returns-in-Check-clause-outcome
returns-in-Check-clause-outcome g c =
    let scene : List Region = arc_value c.in-Check.flying.scene in
    let shot : List Region = arc_value c.in-Check.flying.flight.scene in
    let view : View = c.in-Check.flying.flight.view in
    let flies : IsCheckFor c.args._directory.now c.args.own.now c.args._command.now scene shot view = subst (Flies c.args._directory.now c.args.own.now c.args._command.now) c.in-Check.is c.requires.flies in
    let pairs = subst (λ (s : List Region). IfOk c.gather_check-pairs.result (λ v. v.items ≡ view_report s view)) flies.scene_is c.gather_check-pairs.ensures.pairs in
    let fault = subst (λ (s : List Region). IfErr c.gather_check-pairs.result (IsTooMany (length (view_report s view)))) flies.scene_is c.gather_check-pairs.ensures.fault in
    let used : c.own.inside.used ≡ c.args.own.now.used = ap (λ (o : OwnState). o.used) c.own.view_is in
    IfOk-weaker c.told_pairs.result _ (λ (o : Outcome). o ≡ outcome_of c.args._directory.now c.args.own.now c.args._command.now)
    (λ o h. check_told c.args._directory.now c.args.own.now c.args._command.now scene shot view flies c.own.inside.used used o (h view pairs fault)) c.told_pairs.ensures
