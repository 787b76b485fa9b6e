use Rattle.std.proofs.Common.{◌≡◌, ◌∙◌, ℕ, List, length, ap, sym, subst, arith}
use Rattle.std.proofs.lemmas.Bool.{eqb-false}
use Rattle.mged_top.specs.Statuses.{status_line}
use Rattle.mgedrt.specs.Program.{IsSaid, ended_line}
use Rattle.mgedrt.proofs.SayLaws.{said_by}
use Rattle.mgedrt.proofs.program.say.Goals as goal

pub returns : goal.returns
returns g c =
    let held = g.E.Sink.held c.args.error.now in
    let held' = g.E.Sink.held c.write_ended.new.error in
    let faults = g.E.Sink.faults c.args.error.now in
    let faults' = g.E.Sink.faults c.write_ended.new.error in
    let line : c.bytes-2.result.now ≡ status_line c.args.status.now = c.bytes-2.ensures ∙ c.write_line.ensures in
    let some = eqb-false (length c.bytes.result.now) 0 (sym c.if-is_empty.ensures) in
    let same = ap length (c.bytes-2.ensures ∙ sym c.bytes.ensures) in
    subst (λ (text : List ℕ). IsSaid (ended_line text) held held' faults faults') line
    (said_by c.write_ended.result c.bytes-2.result.now held held' faults faults' (omega (arith, some, same)) c.write_ended.ensures.written c.write_ended.ensures.cut_short c.write_ended.ensures.steady c.write_ended.ensures.rose)
