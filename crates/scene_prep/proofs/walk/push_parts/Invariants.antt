use Rattle.std.proofs.Common.{take}
use Rattle.scene_prep.proofs.Tasks.{Pushed}
use Rattle.scene_prep.proofs.walk.push_parts.Given as goal

abbrev pub invariant-loop-part : goal.invariant-loop-part
invariant-loop-part l = Pushed l.comb l.context (take l.part-index l.part-items) l.initial.tasks.items l.tasks.items
