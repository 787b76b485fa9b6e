use Rattle.std.proofs.Common.{rules}
use Rattle.std.proofs.lemmas.List.{take_rest}
use Rattle.outside_core.proofs.Pieces.{appends_next}
use Rattle.outside_core.proofs.transfer.write_all.Goals as goal

pub loop-at-preserved : goal.loop-at-preserved
loop-at-preserved g c = record {
  within = search rules;
  front = appends_next _ (g.K.Sink.held c.loop-at.sink) _ c.args.text.now c.loop-at.at c.in_ok-at.field-0 c.loop-at.invariant.front (rw take_rest at c.in_ok-at.ensures.front);
  steady = search rules;
}
