use Rattle.std.proofs.Common.{◌≡◌}
use Rattle.std.specs.Io.KnownBytes.{Keeps}
use Rattle.outside_core.proofs.adapters.OutSinkSink.write.Given as goal

abbrev pub invariant-loop : goal.invariant-loop
invariant-loop g l = record {
  kept : Keeps (g.W.Write.contents l.initial.self-inside.inner) (g.W.Write.contents l.self-inside.inner);
  steady : l.self-inside.faults ≡ l.initial.self-inside.faults;
}
