use Rattle.std.proofs.Common.{take, drop}
use Rattle.scene_prep.proofs.Parts.{AreNumbered}
use Rattle.scene_prep.proofs.part.parts_of.Given as goal

abbrev pub invariant-loop-tree : goal.invariant-loop-tree
invariant-loop-tree l = AreNumbered l.parts.items l.left (take l.tree-index l.tree-items) (drop l.tree-index l.tree-items)
