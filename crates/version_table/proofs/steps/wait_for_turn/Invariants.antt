use Rattle.std.proofs.Common.{◌≡◌}
use Rattle.version_table.specs.Steps.{IsTokenOf}
use Rattle.version_table.proofs.steps.wait_for_turn.Given as goal

abbrev pub invariant-loop : goal.invariant-loop
invariant-loop g l = record {
  can : (goal.iterator-loop g).can_next l.iterator';
  finite : (goal.iterator-loop g).is_finite l.iterator';
  own : IsTokenOf l.table.table_id l.token;
  id : l.token.id ≡ l.initial.token.id;
  same : l.token.me ≡ l.initial.token.me;
}
