use Rattle.std.proofs.Common.{◌≡◌, ◌∙◌, List, length, ap, sym, subst, arith}
use Rattle.std.specs.Arc.{arc_value}
use Rattle.view_shot.specs.Flights.{pieces_of}
use Rattle.view_shot.specs.Jobs.{AreReports}
use Rattle.view_shot.specs.declared.named.SharedPairs.{SharedPairs}
use Rattle.view_shot.proofs.FlightLaws.{all_within, are_reports, as_many, have_pairs}
use Rattle.view_shot.proofs.flight.gather_check.Goals as goal

pub into_pairs-requires : goal.into_pairs-requires
into_pairs-requires g c =
    let long : length c.in-Ok.shots.items ≡ pieces_of c.args.flight.ticket.work = omega (arith, c.in-Ok.ensures.len, c.in-Ok.shots.ok.0) in
    have_pairs (arc_value c.args.flight.scene) c.args.flight.view c.args.flight.count c.args.flight.ticket.work c.in-Ok.shots.items c.args.flight.posted long c.in-Ok.ensures.each

pub check_behind-requires-clause-within : goal.check_behind-requires-clause-within
check_behind-requires-clause-within g c = λ κs h. all_within (arc_value c.args.flight.scene) c.args.flight.view c.args.flight.count c.args.flight.ticket.work c.args.flight.posted

pub check_behind-requires-clause-count : goal.check_behind-requires-clause-count
check_behind-requires-clause-count g c = λ κs h.
    let long : length c.in-Ok.shots.items ≡ pieces_of c.args.flight.ticket.work = omega (arith, c.in-Ok.ensures.len, c.in-Ok.shots.ok.0) in
    ap (length {A = SharedPairs}) c.deref.ensures.value ∙ as_many (arc_value c.args.flight.scene) c.args.flight.view c.args.flight.count c.args.flight.ticket.work c.in-Ok.shots.items c.in-Ok-into_pairs.pairs.items c.args.flight.posted long c.in-Ok-into_pairs.ensures

pub check_behind-requires-clause-shots : goal.check_behind-requires-clause-shots
check_behind-requires-clause-shots g c = λ κs h.
    let long : length c.in-Ok.shots.items ≡ pieces_of c.args.flight.ticket.work = omega (arith, c.in-Ok.ensures.len, c.in-Ok.shots.ok.0) in
    subst (λ (l : List SharedPairs). AreReports (arc_value c.args.flight.scene) c.args.flight.view 0 c.args.flight.count l) (sym c.deref.ensures.value)
    (are_reports (arc_value c.args.flight.scene) c.args.flight.view c.args.flight.count c.args.flight.ticket.work c.in-Ok.shots.items c.in-Ok-into_pairs.pairs.items c.args.flight.posted long c.in-Ok.ensures.each c.in-Ok-into_pairs.ensures)
