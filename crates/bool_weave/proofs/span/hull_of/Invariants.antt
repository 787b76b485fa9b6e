use Rattle.std.proofs.Common.{◌≤◌, ℕ, All, take}
use Rattle.bool_weave.proofs.span.hull_of.Given as goal

abbrev pub invariant-loop-span : goal.invariant-loop-span
invariant-loop-span l = record {
  hull : All (λ s. (l.hull.from ≤ s.from) × (s.to ≤ l.hull.to)) (take l.span-index l.table);
  bound : (bound : ℕ) → All (λ s. s.to ≤ bound) (take l.span-index l.table) → l.hull.to ≤ bound;
}
