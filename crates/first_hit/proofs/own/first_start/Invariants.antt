use Rattle.std.proofs.Common.{◌≡◌, None, drop}
use Rattle.std.specs.Option.{ForSome}
use Rattle.surd_order.specs.Range.{IsInRange}
use Rattle.bool_weave.specs.Behind.{claims_behind}
use Rattle.first_hit.specs.FirstSteps.{earliest_of}
use Rattle.first_hit.proofs.own.first_start.Given as goal

abbrev pub invariant-loop-one : goal.invariant-loop-one
invariant-loop-one l = record {
  value : earliest_of (claims_behind l.own l.body.tree l.first) l.best (drop l.one-index l.own) ≡ earliest_of (claims_behind l.own l.body.tree l.first) None l.own;
  range : ForSome l.best IsInRange;
}
