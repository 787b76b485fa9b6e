use Rattle.std.proofs.Common.{◌≡◌, ◌++◌, ◌*◌}
use Rattle.scene_make.specs.Demo as demo
use Rattle.scene_make.specs.Draws.{after}
use Rattle.scene_make.specs.Steps.{entries_text}
use Rattle.scene_make.proofs.demo.push_pairs.Given as goal

abbrev pub invariant-loop-i : goal.invariant-loop-i
invariant-loop-i l = record {
  text : l.text.items ≡ l.initial.text.items ++ entries_text (demo.pairs l.n l.i);
  draws : l.draws.last ≡ after l.n (5 * l.i);
}
