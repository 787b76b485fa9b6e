use Rattle.std.proofs.Common.{◌<◌, length, arith}
use Rattle.std.proofs.lemmas.List.Elements.{All-set, All-weaker}
use Rattle.script_run.specs.Steps.{IsReady}
use Rattle.script_run.proofs.LaneLaws.{next_answered, on_ok}
use Rattle.script_run.proofs.run.answer_next.Goals as goal

pub returns-clause-ready : goal.returns-clause-ready
returns-clause-ready g c =
    All-set (IsReady c.next.new.book) c.args.lanes.now.items c.from.result c.next.new.self c.next.ensures.ready
    (All-weaker (IsReady c.args.book.now) (IsReady c.next.new.book) (λ other is. c.next.ensures.others other is) c.args.lanes.now.items c.requires.ready)

pub returns-clause-answered : goal.returns-clause-answered
returns-clause-answered g c =
    let within : c.from.result < length c.args.lanes.now.items = omega (arith, c.args.lanes.now.ok.0, c.from.ensures, c.requires.eight, c.requires.session.0, c.requires.session.1) in
    on_ok c.next.result
    (λ has start script order so.
    next_answered c.args.session c.from.result c.args.lanes.now.items c.index_mut.result.now c.requires.session.0 c.from.ensures within c.index_mut.ensures.value
    c.args.book.now c.next.new.book c.next.new.self has start script order so)
    c.next.ensures.answered
