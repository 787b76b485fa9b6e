use Rattle.std.proofs.Common.{◌∷◌, []}
use Rattle.mgedrt.proofs.SayLaws.{cut_by}
use Rattle.mgedrt.proofs.program.write_ended.Goals as goal

pub returns-clause-cut_short : goal.returns-clause-cut_short
returns-clause-cut_short g c =
    cut_by c.write_all-2.result (g.E.Sink.held c.args.error.now) (g.E.Sink.held c.write_all.new.sink) (g.E.Sink.held c.write_all-2.new.sink) c.args.line.now (10 ∷ []) c.in_ok-write_all.ensures.written c.write_all-2.ensures.cut_short
