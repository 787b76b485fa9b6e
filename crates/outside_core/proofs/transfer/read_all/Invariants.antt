use Rattle.std.proofs.Common.{◌≡◌, ◌≤◌, vec_len}
use Rattle.std.specs.Io.KnownBytes.{Consumes}
use Rattle.outside_core.proofs.transfer.read_all.Given as goal

abbrev pub invariant-loop-turn : goal.invariant-loop-turn
invariant-loop-turn g l = record {
  taken : Consumes (g.S.Source.left l.initial.source) (g.S.Source.left l.source) l.bytes.items;
  grown : l.turn ≤ vec_len l.bytes;
  within : vec_len l.bytes ≤ l.most;
  steady : g.S.Source.faults l.source ≡ g.S.Source.faults l.initial.source;
}
