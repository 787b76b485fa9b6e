use Rattle.std.proofs.Common.{◌≡◌, ◌<◌, ◌≤◌, ◌+◌, ℕ, [], All, length, get_or, drop}
use Rattle.shot_core.specs.Steps.{owned_from, with_instances}
use Rattle.shot_core.proofs.meet.weave_instances.Given as goal

abbrev pub invariant-loop-number : goal.invariant-loop-number
invariant-loop-number g l = record {
  state : with_instances l.ray (owned_from 0 l.scene) (l.weave, l.hit.items) (drop l.number-index l.numbers) ≡ with_instances l.ray (owned_from 0 l.scene) ([], []) l.numbers;
  low : l.initial.steps ≤ l.steps;
  high : l.steps ≤ l.initial.steps + l.number-index;
  order : (k : ℕ) → l.number-index ≤ k → k < length l.numbers → All (λ w. w.instance < get_or l.numbers k 0) l.weave;
  few : length l.weave ≤ l.number-index;
}
