use Rattle.std.proofs.Common.{arith, false, drop, length, length-drop, ◌-◌, sym}
use Rattle.std.proofs.lemmas.List.{take_all}
use Rattle.script_run.proofs.OrderLaws.{next_read, end_read}
use Rattle.script_run.proofs.order.read_digits.Goals as goal

pub loop-session-preserved : goal.loop-session-preserved
loop-session-preserved c =
    let rest = c.loop-session.rest.now in
    next_read c.args.text.now rest c.loop-session.order.items c.push.new.self.items _ c.in-Some.session c.in-Some.ensures.next c.in_ok-push.ensures.items
    (take_all (length rest - 2) (drop 2 rest) (omega (arith, length-drop 2 rest))) c.loop-session.invariant

pub returns-else-is_line_end : goal.returns-else-is_line_end
returns-else-is_line_end c =
    end_read c.args.text.now c.loop-session.rest.now c.loop-session.order.items false (sym c.in_default.ensures.next) c.if-is_line_end.ensures c.loop-session.invariant
